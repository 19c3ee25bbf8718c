-- The four ways in which a call for one delega is answered, and that its promise settles the answer.
use Rattle.refusal.proofs.Parts.{refused-parts}
use Rattle.std.specs.Prelude.{Err}
use Prim.Native.Nat.{ℕ, ◌<◌, ◌≤◌}
use mathlib.Core.Path.{◌≡◌, refl, sym, ◌∙◌}
use mathlib.Core.Bool.{Bool, true, false, cond, false≢true}
use mathlib.Core.List.{List, [], ◌∷◌}
use native.Mathlib.Omega.{arith}
use borrow.Author.Tests.{eqb-true, lt-ltb, le-ltb, eq-eqb, ne_eqb}
use lib.Dec.{eqb, ltb}
use Rattle.layout.specs.declared.Kind.{Kind}
use Rattle.layout.specs.declared.Kind.TheVariants.{Head, Taxpayer, Domicile, Line, Balance, Payment, Receipt, Addressee, Tail, Unknown}
use Rattle.layout.specs.Kinds.{kind_in}
use Rattle.rules.specs.declared.State.{State}
use Rattle.rules.specs.State.{start_state}
use Rattle.rules.specs.Step.{next}
use Rattle.judge.specs.Refusal.{Verdict, Accepted, Refused, judged_first}
use Rattle.judge.specs.Flow.{records_of, judged}
use Rattle.judge.proofs.FirstFault.{judgement-number}
use Rattle.delega.specs.declared.used.Used.{Used}
use Rattle.delega.specs.declared.DelegaAnswer.{DelegaAnswer}
use Rattle.delega.specs.Used.{none_used, next_used}
use Rattle.delega.specs.OneDelega.{refused_as, no_such_delega, answered, closes_at, delega_from, delega_of}

-- "Every call on a flow judges it first and gives that refusal if there is one"
pub delega-of-refused : (s : List ℕ) (d : ℕ) {n r p : ℕ} → (judged s).verdict ≡ Refused n r p → delega_of s d ≡ refused_as n r p
unfolding delega_of
delega-of-refused s d e = rw e

-- what is answered for a number, by the number of deleghe and by what is found among the records
abbrev pub by_count : ℕ → ℕ → DelegaAnswer → DelegaAnswer
by_count d count found = cond (eqb d 0) no_such_delega (cond (ltb count d) no_such_delega found)

module _ (s : List ℕ) (d : ℕ) (e : (judged s).verdict ≡ Accepted) where
  pub delega-of-accepted : delega_of s d ≡ by_count d (judged s).summary.deleghe (delega_from d start_state none_used (records_of s))
  unfolding delega_of
  delega-of-accepted = rw e

  -- "a number that is 0 or above the count is refused 21"
  pub delega-zero : d ≡ 0 → delega_of s d ≡ no_such_delega
  delega-zero z = delega-of-accepted ∙ rw (eq-eqb d 0 z)

  pub delega-above : (d ≡ 0 → ⊥) → (judged s).summary.deleghe < d → delega_of s d ≡ no_such_delega
  delega-above z h = delega-of-accepted ∙ rw (ne_eqb d 0 z, lt-ltb _ _ h)

  -- any other number is looked for
  pub delega-within : (d ≡ 0 → ⊥) → d ≤ (judged s).summary.deleghe → delega_of s d ≡ delega_from d start_state none_used (records_of s)
  delega-within z h = delega-of-accepted ∙ rw (ne_eqb d 0 z, le-ltb _ _ h)

-- a record closes delega d only where d deleghe have been opened
pub closes-own : (d n : ℕ) (k : Kind) → closes_at d n k ≡ true → n ≡ d
closes-own d n Head h = absurd (false≢true h)
closes-own d n Taxpayer h = absurd (false≢true h)
closes-own d n Domicile h = absurd (false≢true h)
closes-own d n (Line s) h = absurd (false≢true h)
closes-own d n (Balance s) h = absurd (false≢true h)
closes-own d n Payment h = eqb-true n d h
closes-own d n Receipt h = absurd (false≢true h)
closes-own d n Addressee h = absurd (false≢true h)
closes-own d n Tail h = absurd (false≢true h)
closes-own d n Unknown h = absurd (false≢true h)

-- where a delega is looked for and not there, the refusal is 21
from-number : (d : ℕ) (st : State) (u : Used) (rs : List (List ℕ)) {n r p : ℕ} → (delega_from d st u rs).verdict ≡ Refused n r p → n ≡ 21
unfolding delega_from
from-number d st u [] e = sym (refused-parts e).0
from-number d st u (x ∷ rs) {n} {r} {p} e = go (closes_at d st.deleghe (kind_in x)) _ e (from-number d (next st x) (next_used u (kind_in x)) rs)
  where
    go : (b : Bool) (rest : DelegaAnswer) → (cond b (answered st u) rest).verdict ≡ Refused n r p → (rest.verdict ≡ Refused n r p → n ≡ 21) → n ≡ 21
    go true rest q h = let z : ◌≡◌ {A = ℕ} 0 1 = cc in absurd (omega arith)
    go false rest q h = h q

-- a refusal is the judgement's or 21: it has a number
pub delega-number : (s : List ℕ) (d : ℕ) {n r p : ℕ} → (delega_of s d).verdict ≡ Refused n r p → 1 ≤ n
unfolding delega_of
delega-number s d {n} {r} {p} e = by-verdict (judged s).verdict refl e
  where
    by_tests : (a b : Bool) → (cond a no_such_delega (cond b no_such_delega (delega_from d start_state none_used (records_of s)))).verdict ≡ Refused n r p → 1 ≤ n
    by_tests true b q = let k : 21 ≡ n = (refused-parts q).0 in omega arith
    by_tests false true q = let k : 21 ≡ n = (refused-parts q).0 in omega arith
    by_tests false false q = omega (arith, from-number d start_state none_used (records_of s) q)

    by-verdict : (v : Verdict) → (judged s).verdict ≡ v →
        (judged_first refused_as v (cond (eqb d 0) no_such_delega (cond (ltb (judged s).summary.deleghe d) no_such_delega (delega_from d start_state none_used (records_of s))))).verdict ≡ Refused n r p → 1 ≤ n
    by-verdict Accepted h q = by_tests (eqb d 0) (ltb (judged s).summary.deleghe d) q
    by-verdict (Err why) h q = let w : why.number ≡ n = (refused-parts q).0 in omega (arith, (judgement-number s h).0)

-- "any two answers allowed by it are equal"
pub one-delega : (s : List ℕ) (d : ℕ) (a b : DelegaAnswer) → a ≡ delega_of s d → b ≡ delega_of s d → a ≡ b
one-delega s d a b p q = p ∙ sym q
