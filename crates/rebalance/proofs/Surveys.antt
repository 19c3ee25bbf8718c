-- The pass that weighs a flow: what the records so far and those that are left say together.
use Prim.Native.Nat.{ℕ, ◌+◌, ◌*◌, ◌/◌, ◌<◌, ◌≤◌}
use mathlib.Core.Path.{◌≡◌, refl, sym, ap, ◌∙◌}
use mathlib.Core.Bool.{Bool, true, false, cond, ◌||◌, ◌&&◌}
use mathlib.Core.List.{List, ◌∷◌}
use lib.ListN.{length, take, drop}
use Rattle.layout.specs.declared.Kind.{Kind}
use Rattle.layout.specs.Kinds.{kind_in}
use Rattle.rules.specs.declared.State.{State}
use Rattle.rules.specs.State.{start_state}
use Rattle.rules.specs.Bounds.{StateBelow}
use Rattle.rules.specs.Stored.{stored_of}
use Rattle.rules.specs.Step.{next}
use Rattle.rules.proofs.Growth.{start-below}
use Rattle.judge.specs.Flow.{records_of, rest_of}
use Rattle.rebalance.specs.Rebalance.{fits_all, all_fit}
use Rattle.rebalance.specs.Weigh.{negative_at, any_negative, Turn}
use Rattle.rebalance.proofs.Fitting.{alone}
use Rattle.rebalance.proofs.Turns.{next-below, rest-on, rest_end, rest-start}

-- A delega of the flow is negative where one was so far or one of those left is, and all fits where all did so far and all that is left does.
pub record Surveying (flow : List ℕ) (st : State) (negative fits : Bool) : Type 0 where
  pub below : StateBelow st
  pub debts : any_negative start_state (records_of flow) ≡ cond negative true (any_negative st (rest_of flow st.seen))
  pub widths : all_fit start_state (records_of flow) ≡ cond fits (all_fit st (rest_of flow st.seen)) false

-- Before the first record nothing has been found.
pub surveying-start : (flow : List ℕ) → Surveying flow start_state false true
unfolding start_state
surveying-start flow = record { below = start-below; debts = ap (any_negative start_state) (sym (rest-start flow)); widths = ap (all_fit start_state) (sym (rest-start flow)) }

-- Two tests of a record and of those behind it, after what was found before.
either : (a b c : Bool) → cond a true (cond b true c) ≡ cond (a || b) true c
either true b c = refl
either false true c = refl
either false false c = refl

both : (a b c : Bool) → cond a (cond b c false) false ≡ cond (a && b) c false
both true true c = refl
both true false c = refl
both false b c = refl

module _ (flow : List ℕ) (st : State) (negative fits : Bool) (w : Surveying flow st negative fits) where
  -- A record adds what is found in it.
  pub surveying-on : st.seen < length flow / 120 → (r : List ℕ) (k : Kind) → r ≡ take 120 (drop (st.seen * 120) flow) → k ≡ kind_in r → Turn r st → Surveying flow (next st r) (negative || negative_at st k) (fits && fits_all (stored_of st k))
  unfolding any_negative all_fit next
  surveying-on more r k er ek t =
      let o : rest_of flow st.seen ≡ r ∷ rest_of flow (st.seen + 1) = rest-on flow st.seen more ∙ ap (λ (x : List ℕ). x ∷ rest_of flow (st.seen + 1)) (sym er) in
      record {
        below = next-below st r t;
        debts = w.debts ∙ rw (o, ek) (either negative (negative_at st (kind_in r)) (any_negative (next st r) (rest_of flow (st.seen + 1))));
        widths = w.widths ∙ rw (o, ek) (both fits (fits_all (stored_of st (kind_in r))) (all_fit (next st r) (rest_of flow (st.seen + 1))));
      }

  -- After the last record all has been found.
  pub surveying-end : length flow / 120 ≤ st.seen → (negative ≡ any_negative start_state (records_of flow)) × (fits ≡ all_fit start_state (records_of flow))
  unfolding any_negative all_fit
  surveying-end h = let o = rest_end flow st.seen h in (sym (w.debts ∙ rw o (alone negative)), sym (w.widths ∙ rw o (alone fits)))
