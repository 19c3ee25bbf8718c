-- The promise of each function of this crate settles its answer, and every byte of the room that it is lent.
use Prim.Native.Nat.{ℕ}
use mathlib.Core.Path.{◌≡◌, sym, ◌∙◌}
use mathlib.Core.Bool.{Bool}
use mathlib.Core.List.{List}
use Rattle.text.specs.Answers.{Characters, Digits, Put}
use Rattle.text.specs.Characters.{first_bad, all_allowed}
use Rattle.text.specs.Numbers.{read_number}
use Rattle.text.specs.Placing.{number_answer, number_bytes, part_answer, part_bytes}
use Rattle.text.specs.Same.{same_bytes}

-- `first_bad`
pub one-first-bad : (part : List ℕ) (a b : Characters) → a ≡ first_bad part → b ≡ first_bad part → a ≡ b
one-first-bad part a b p q = p ∙ sym q

-- `long_allowed`
pub one-long-allowed : (part : List ℕ) (a b : Bool) → a ≡ all_allowed part → b ≡ all_allowed part → a ≡ b
one-long-allowed part a b p q = p ∙ sym q

-- `number`
pub one_number : (part : List ℕ) (a b : Digits) → a ≡ read_number part → b ≡ read_number part → a ≡ b
one_number part a b p q = p ∙ sym q

-- `put_number`: the answer, and the room
pub one-put-number : (at width n : ℕ) (room : List ℕ) (a b : Put) (x y : List ℕ) →
    (a ≡ number_answer at width n room) × (x ≡ number_bytes at width n room) → (b ≡ number_answer at width n room) × (y ≡ number_bytes at width n room) → (a ≡ b) × (x ≡ y)
one-put-number at width n room a b x y p q = (p.0 ∙ sym q.0, p.1 ∙ sym q.1)

-- `put_part`: the answer, and the room
pub one-put-part : (at : ℕ) (part room : List ℕ) (a b : Put) (x y : List ℕ) →
    (a ≡ part_answer at part room) × (x ≡ part_bytes at part room) → (b ≡ part_answer at part room) × (y ≡ part_bytes at part room) → (a ≡ b) × (x ≡ y)
one-put-part at part room a b x y p q = (p.0 ∙ sym q.0, p.1 ∙ sym q.1)

-- `same_bytes`
pub one-same-bytes : (l k : List ℕ) (a b : Bool) → a ≡ same_bytes l k → b ≡ same_bytes l k → a ≡ b
one-same-bytes l k a b p q = p ∙ sym q
