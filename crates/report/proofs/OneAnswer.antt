-- Each promise of this crate settles the bytes that are left in the room and the number that is answered.
use Prim.Native.Nat.{ℕ}
use mathlib.Core.Path.{◌≡◌, sym, ◌∙◌}
use mathlib.Core.List.{List}
use Rattle.judge.specs.declared.Judgement.{Judgement}
use Rattle.delega.specs.declared.DelegaAnswer.{DelegaAnswer}
use Rattle.report.specs.Printed.{refused_text, delega_text, line_text, judgement_text, Printed}

module _ (r x y : List ℕ) (m n : ℕ) where
  -- "any two answers allowed by it are equal", for any text
  printed-one : (t : List ℕ) → Printed t r x m → Printed t r y n → (x ≡ y) × (m ≡ n)
  printed-one t p q = (p.bytes ∙ sym q.bytes, p.size ∙ sym q.size)

  -- of `judgement_text`
  pub one-judgement-text : (j : Judgement) → Printed (judgement_text j) r x m → Printed (judgement_text j) r y n → (x ≡ y) × (m ≡ n)
  one-judgement-text j = printed-one (judgement_text j)

  -- of `refusal_text`
  pub one-refusal-text : (number at position : ℕ) → Printed (refused_text number at position) r x m → Printed (refused_text number at position) r y n → (x ≡ y) × (m ≡ n)
  one-refusal-text number at position = printed-one (refused_text number at position)

  -- of `delega_text`
  pub one-delega-text : (number : ℕ) (a : DelegaAnswer) → Printed (delega_text number a) r x m → Printed (delega_text number a) r y n → (x ≡ y) × (m ≡ n)
  one-delega-text number a = printed-one (delega_text number a)

  -- of `line_text`
  pub one-line-text : (at : ℕ) → Printed (line_text at) r x m → Printed (line_text at) r y n → (x ≡ y) × (m ≡ n)
  one-line-text at = printed-one (line_text at)
