-- What a run keeps within the bounds, and which numbers its fault may have.
use Rattle.std.specs.Prelude.{Err}
use Prim.Native.Nat.{ℕ, zero, suc, ◌-◌, ◌*◌, ◌/◌, ◌<◌, ◌≤◌}
use mathlib.Core.Path.{◌≡◌, refl, ◌∙◌}
use mathlib.Core.List.{List, [], ◌∷◌}
use native.Mathlib.Omega.{arith}
use lib.ListN.{length, take, drop, length-drop}
use lib.Seq.{length-take-le}
use Rattle.layout.specs.declared.Kind.{Kind}
use Rattle.layout.specs.declared.Kind.TheVariants.{Head, Taxpayer, Domicile, Line, Balance, Payment, Receipt, Addressee, Tail, Unknown}
use Rattle.layout.specs.Kinds.{kind_in}
use Rattle.layout.proofs.InTable.{section_of, section-within}
use Rattle.refusal.specs.Outcomes.{Outcome, Pass, Fails}
use Rattle.order.specs.declared.Stage.{Stage}
use Rattle.order.specs.Order.{next_stage}
use Rattle.rules.specs.declared.State.{State}
use Rattle.rules.specs.Bounds.{StateBelow}
use Rattle.rules.specs.Checks.{fault}
use Rattle.rules.specs.Step.{next}
use Rattle.rules.proofs.Growth.{state-on}
use Rattle.records.proofs.Sizes.{sums-small}
use Rattle.judge.specs.Flow.{chunks, rest_of}
use Rattle.judge.specs.Run.{stopped, ran}
use Rattle.judge.proofs.ChecksInOrder.{Numbered, fault-number}
use Rattle.portion.specs.Inner.{last_of}
use Rattle.portion.proofs.Reach.{last_within, part-sized}

-- the bounds on a state, all but that on the records seen
pub record Stays (st : State) : Type 0 where
  pub below : StateBelow st
  pub phase : st.stage.phase ≤ 9
  pub section : st.stage.section ≤ 4

stage-on : (p : Stage) (k : Kind) → p.phase ≤ 9 → p.section ≤ 4 → section_of k < 5 → ((next_stage p k).phase ≤ 9) × ((next_stage p k).section ≤ 4)
stage-on p Head h g s = (omega arith, omega arith)
stage-on p Taxpayer h g s = (omega arith, omega arith)
stage-on p Domicile h g s = (omega arith, omega arith)
stage-on p (Line j) h g s = (omega arith, omega arith)
stage-on p (Balance j) h g s = (omega arith, omega arith)
stage-on p Payment h g s = (omega arith, omega arith)
stage-on p Receipt h g s = (omega arith, omega arith)
stage-on p Addressee h g s = (omega arith, omega arith)
stage-on p Tail h g s = (omega arith, omega arith)
stage-on p Unknown h g s = (h, g)

stays_on : (st : State) (r : List ℕ) → length r ≡ 120 → Stays st → Stays (next st r)
unfolding next
stays_on st r l g =
    let s = stage-on st.stage (kind_in r) g.phase g.section (section-within r) in
    record { below = state-on st (kind_in r) _ g.below (sums-small (kind_in r) r l); phase = s.0; section = s.1 }

-- records of 120 bytes
pub data Wholes : List (List ℕ) → Type 0 where
  none : Wholes []
  also : {r : List ℕ} {rs : List (List ℕ)} → length r ≡ 120 → Wholes rs → Wholes (r ∷ rs)

chunks-whole : (n : ℕ) (l : List ℕ) → n * 120 ≤ length l → Wholes (chunks n l)
unfolding chunks
chunks-whole zero l h = none
chunks-whole (suc n) l h = also (length-take-le 120 l (omega arith)) (chunks-whole n (drop 120 l) (omega (arith, length-drop 120 l)))

pub part-whole : (s : List ℕ) (k p : ℕ) → k ≤ length s / 120 → Wholes (rest_of (take (last_of k p (length s / 120) * 120) s) k)
part-whole s k p h =
    let m = last_of k p (length s / 120) * 120 in
    let l = part-sized s k p h in
    chunks-whole (length (take m s) / 120 - k) (drop (k * 120) (take m s)) (omega (arith, length-drop (k * 120) (take m s), (last_within k p (length s / 120) h).0))

pub ran-stays : (name : List ℕ) (st : State) (rs : List (List ℕ)) → Wholes rs → Stays st → Stays (ran name st rs).state
unfolding ran
ran-stays name st [] w g = g
ran-stays name st (r ∷ rs) (also l w) g = go (fault name st r) (ran-stays name (next st r) rs w (stays_on st r l g))
  where
    go : (o : Outcome) → Stays (ran name (next st r) rs).state → Stays (stopped o st (ran name (next st r) rs)).state
    go Pass h = h
    go (Err why) h = g

pub ran-numbered : (name : List ℕ) (st : State) (rs : List (List ℕ)) {e p : ℕ} → (ran name st rs).fault ≡ Fails e p → Numbered 3 e
unfolding ran
ran-numbered name st [] f = let z : ◌≡◌ {A = ℕ} 0 1 = cc in absurd (omega arith)
ran-numbered name st (r ∷ rs) {e} {p} f = go (fault name st r) refl (λ h. ran-numbered name (next st r) rs h) f
  where
    go : (o : Outcome) → fault name st r ≡ o → ((ran name (next st r) rs).fault ≡ Fails e p → Numbered 3 e) → (stopped o st (ran name (next st r) rs)).fault ≡ Fails e p → Numbered 3 e
    go Pass h on f = on f
    go (Err why) h on f = fault-number name st r (h ∙ f)
