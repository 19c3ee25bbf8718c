-- The promise of each function of this crate settles its answer.
use Prim.Native.Nat.{ℕ, ◌+◌, ◌*◌}
use mathlib.Core.Path.{◌≡◌, sym, ◌∙◌}
use mathlib.Core.List.{List}
use lib.ListN.{take, drop, get_or}
use Rattle.text.specs.Numbers.{number_of, digits_of}
use Rattle.words.specs.Answers.{Fifteen}
use Rattle.words.specs.Words.{word, fifteen_of}

-- `pair_at`
pub one-pair-at : (part : List ℕ) (at a b : ℕ) → a ≡ get_or part at 0 + get_or part (at + 1) 0 * 256 → b ≡ get_or part at 0 + get_or part (at + 1) 0 * 256 → a ≡ b
one-pair-at part at a b p q = p ∙ sym q

-- `word_at`
pub one-word-at : (part : List ℕ) (at a b : ℕ) → a ≡ word (take 8 (drop at part)) → b ≡ word (take 8 (drop at part)) → a ≡ b
one-word-at part at a b p q = p ∙ sym q

-- `amount_at` and `any_amount_at`
pub one-amount-at : (part : List ℕ) (at : ℕ) (a b : Fifteen) → a ≡ fifteen_of (number_of (take 15 (drop at part))) → b ≡ fifteen_of (number_of (take 15 (drop at part))) → a ≡ b
one-amount-at part at a b p q = p ∙ sym q

-- `number_word`
pub one-number-word : (n a b : ℕ) → a ≡ word (digits_of 8 n) → b ≡ word (digits_of 8 n) → a ≡ b
one-number-word n a b p q = p ∙ sym q
