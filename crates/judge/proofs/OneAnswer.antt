-- The promises of the judgement and of the k-th record settle their answers.
use Prim.Native.Nat.{ℕ}
use mathlib.Core.Path.{◌≡◌, sym, ◌∙◌}
use mathlib.Core.List.{List}
use Rattle.judge.specs.declared.Judgement.{Judgement}
use denote.Ref.{Bor}
use Rattle.judge.specs.Flow.{judged}
use Rattle.judge.specs.Part.{record_at, record_start, LiesAt}

-- "any two answers allowed by it are equal"
pub one_answer : (s : List ℕ) (a b : Judgement) → a ≡ judged s → b ≡ judged s → a ≡ b
one_answer s a b p q = p ∙ sym q

-- `nth_record`: the part's bytes, and where it lies
pub one-record : (flow : Bor (List ℕ)) (k : ℕ) (a b : Bor (List ℕ)) → LiesAt flow (record_at flow.now k) (record_start flow.now k) a → LiesAt flow (record_at flow.now k) (record_start flow.now k) b →
    (a.now ≡ b.now) × (a.ref_ptr.0 ≡ b.ref_ptr.0) × (a.ref_ptr.1 ≡ b.ref_ptr.1)
one-record flow k a b p q = (p.0 ∙ sym q.0, p.1 ∙ sym q.1, p.2 ∙ sym q.2)
