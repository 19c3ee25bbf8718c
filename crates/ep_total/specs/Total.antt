-- Believed. The total of a record M: the one text of a number of cents, and what a text says.
use Rattle.std.specs.Prelude.{ℕ, zero, suc, ◌-◌, ◌*◌, ◌+◌, ◌/◌, ◌%◌, cond, List, [], ◌∷◌, ◌++◌, eqb, ltb, leb, length, replicate}
use Rattle.text.specs.Numbers.{digit, digits_of}
use Rattle.text.specs.Same.{same_bytes}
use Rattle.printing.specs.Decimal.{decimal}
use Rattle.ep_total.specs.Answers.{Total, Cents, NoTotal}

-- "dots for thousands"
abbrev pub dot : ℕ
dot = 46

-- "a comma with two decimals"
abbrev pub comma : ℕ
comma = 44

-- "then spaces"
abbrev pub space : ℕ
space = 32

-- "dots for thousands": a number of at most k, below 1000 in its digits, and else its thousands, a dot and three digits
unfoldable pub dotted_within : ℕ → ℕ → List ℕ
dotted_within zero n = decimal n
dotted_within (suc k) n = cond (ltb n 1000) (decimal n) (dotted_within k (n / 1000) ++ (dot ∷ digits_of 3 (n % 1000)))

-- "at least one digit, dots for thousands"
unfoldable pub dotted : ℕ → List ℕ
dotted n = dotted_within n n

-- "the dots go only when the text would pass fifteen characters", of which the comma and the decimals are three
unfoldable pub euro_text : ℕ → List ℕ
euro_text e = cond (leb (length (dotted e) + 3) 15) (dotted e) (decimal e)

-- "a comma with two decimals": the text of n cents
unfoldable pub total_text : ℕ → List ℕ
total_text n = euro_text (n / 100) ++ (comma ∷ digits_of 2 (n % 100))

-- "then spaces": the fifteen characters that hold it
unfoldable pub total_field : ℕ → List ℕ
total_field n = total_text n ++ replicate (15 - length (total_text n)) space

-- a number with one more digit, where a byte is one
unfoldable pub with_digit : ℕ → ℕ → ℕ
with_digit a b = cond (digit b) (a * 10 + (b - 48)) a

-- the number that the digits of a text say after a, whatever stands between them
unfoldable pub digits_in : ℕ → List ℕ → ℕ
digits_in a [] = a
digits_in a (b ∷ bs) = digits_in (with_digit a b) bs

-- "any other text gives 33": a text says a number where it is that number's own
unfoldable pub own_text : List ℕ → ℕ → Total
own_text t n = cond (same_bytes t (total_field n)) (Cents n) NoTotal

-- M's total: fifteen characters, which say the number that their digits say, or none
unfoldable pub total_of : List ℕ → Total
total_of t = cond (eqb (length t) 15) (own_text t (digits_in 0 t)) NoTotal
