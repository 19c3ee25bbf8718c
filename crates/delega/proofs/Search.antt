-- The search for one delega: the state that it has come to, and what each of its ways out says of the whole flow.
use Prim.Native.Nat.{ℕ, ◌+◌, ◌-◌, ◌*◌, ◌/◌, ◌<◌, ◌≤◌}
use mathlib.Core.Path.{◌≡◌, sym, ap, ◌∙◌}
use mathlib.Core.Bool.{true, false, cond}
use mathlib.Core.List.{List}
use native.Mathlib.Omega.{arith}
use native.Mathlib.Nat.{sub-zero}
use lib.ListN.{length, take, drop}
use Rattle.layout.specs.declared.Kind.{Kind}
use Rattle.layout.specs.declared.Kind.TheVariants.{Head, Taxpayer, Domicile, Line, Balance, Payment, Receipt, Addressee, Tail, Unknown}
use Rattle.layout.specs.Kinds.{kind_in}
use Rattle.rules.specs.declared.State.{State}
use Rattle.rules.specs.State.{start_state}
use Rattle.rules.specs.Bounds.{StateBelow}
use Rattle.rules.specs.Step.{line_sums, next_of, next}
use Rattle.rules.proofs.Growth.{start-below, state-on}
use Rattle.judge.specs.Flow.{chunks, records_of, rest_of}
use Rattle.judge.proofs.Records.{chunks-on}
use Rattle.records.proofs.Sizes.{sums-small}
use Rattle.delega.specs.declared.used.Used.{Used}
use Rattle.delega.specs.declared.DelegaAnswer.{DelegaAnswer}
use Rattle.delega.specs.Used.{none_used, next_used}
use Rattle.delega.specs.OneDelega.{no_such_delega, answered, closes_at, delega_from}

-- the search for delega d, whose answer is a, has come to the state st, with u used: what a is, the rest gives from there
pub record Searching (flow : List ℕ) (d : ℕ) (a : DelegaAnswer) (st : State) (u : Used) : Type 0 where
  pub ahead : st.seen ≤ length flow / 120
  pub rest : a ≡ delega_from d st u (rest_of flow st.seen)
  pub below : StateBelow st
  pub counted : u.lines ≤ st.seen

pub search-start : (flow : List ℕ) (d : ℕ) (st : State) (u : Used) → st ≡ start_state → u ≡ none_used → Searching flow d (delega_from d start_state none_used (records_of flow)) st u
unfolding start_state
search-start flow d st u e f = rw (e, f) (record { ahead = omega arith; rest = rw sub-zero; below = start-below; counted = omega arith })

-- no record is left
pub search-end : (flow : List ℕ) (d : ℕ) (a : DelegaAnswer) (st : State) (u : Used) → Searching flow d a st u → length flow / 120 ≤ st.seen → a ≡ no_such_delega
unfolding delega_from chunks
search-end flow d a st u g h =
    g.rest ∙ ap (λ (n : ℕ). delega_from d st u (chunks n (drop (st.seen * 120) flow))) (let e : length flow / 120 - st.seen ≡ 0 = omega arith in e)

-- no more lines than records
used-on : (n : ℕ) (u : Used) (k : Kind) → u.lines ≤ n → (next_used u k).lines ≤ n + 1
used-on n u Head h = omega arith
used-on n u Taxpayer h = omega arith
used-on n u Domicile h = omega arith
used-on n u (Line s) h = omega arith
used-on n u (Balance s) h = omega arith
used-on n u Payment h = omega arith
used-on n u Receipt h = omega arith
used-on n u Addressee h = omega arith
used-on n u Tail h = omega arith
used-on n u Unknown h = omega arith

module _ (flow : List ℕ) (d : ℕ) (a : DelegaAnswer) (st : State) (u : Used) (g : Searching flow d a st u) (more : st.seen < length flow / 120) (r : List ℕ) (er : r ≡ take 120 (drop (st.seen * 120) flow)) (k : Kind) (ek : k ≡ kind_in r) where
  opened : a ≡ cond (closes_at d st.deleghe (kind_in r)) (answered st u) (delega_from d (next st r) (next_used u (kind_in r)) (rest_of flow (st.seen + 1)))
  unfolding delega_from
  opened =
      g.rest
      ∙ (ap (delega_from d st u) (chunks-on (length flow / 120 - st.seen) (length flow / 120 - (st.seen + 1)) st.seen flow (omega arith))
      ∙ ap (λ (x : List ℕ). cond (closes_at d st.deleghe (kind_in x)) (answered st u) (delega_from d (next st x) (next_used u (kind_in x)) (rest_of flow (st.seen + 1)))) (sym er))

  -- the record is the 50-01 that is looked for
  pub search-found : closes_at d st.deleghe k ≡ true → a ≡ answered st u
  search-found f = opened ∙ rw (← ek, f)

  -- the search goes on after it
  pub search-on : closes_at d st.deleghe k ≡ false → length r ≡ 120 → Searching flow d a (next_of st k (line_sums k r)) (next_used u k)
  unfolding next
  search-on f l =
      record {
        ahead = omega arith;
        rest = rw (← ek, f) at opened;
        below = state-on st k (line_sums k r) g.below (sums-small k r l);
        counted = used-on st.seen u k g.counted;
      }
