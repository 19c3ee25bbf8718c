-- Serves inner functions. What the header of a run case says: how long its flow is, and the numbers of its call; and the numbers in a text of a run case.
use Rattle.std.specs.Prelude.{ℕ, zero, suc, ◌-◌, ◌*◌, ◌/◌, cond, List, [], ◌∷◌, ◌++◌, ltb, length, take, drop}
use Rattle.text.specs.Answers.{Digits}
use Rattle.text.specs.Answers as Read
use Rattle.text.specs.Numbers.{read_number}
use Rattle.args.specs.Answers.{Argument, Number, NoNumber}
use Rattle.args.specs.Decimal.{decimal_of}
use Rattle.desk.specs.declared.Numbers.{Numbers}

-- a number that a word says; zero where it says none
abbrev pub or_zero : Argument → ℕ
or_zero (Number n) = n
or_zero NoNumber = 0

-- the number in the 20 digits behind so many bytes of a header
unfoldable pub number_at : ℕ → List ℕ → ℕ
number_at i head = or_zero (decimal_of (take 20 (drop i head)))

-- the five numbers of a call: behind a name of 40 bytes, each after a space, in 20 digits
unfoldable pub numbers_of : List ℕ → Numbers
numbers_of head =
    record { first = number_at 41 head; second = number_at 62 head; third = number_at 83 head; fourth = number_at 104 head; fifth = number_at 125 head }

-- how many bytes a flow has; more than any room of a flow holds where the digits say no number
abbrev pub size_read : Digits → ℕ
size_read (Read.Number n) = n
size_read (Read.NonDigit i) = 99999
size_read Read.TooLong = 99999

unfoldable pub size_of : List ℕ → ℕ
size_of digits = size_read (read_number digits)

-- the length that a header says: in six digits before its line end; a header too short for them says none
unfoldable pub length_in : List ℕ → ℕ
length_in head = cond (ltb (length head) 7) 99999 (size_of (take 6 (drop (length head - 7) head)))

-- the i-th number of a text, counted from 0: each in 20 digits with a byte behind it; zero where the text is too short for it
unfoldable pub number_in : List ℕ → ℕ → ℕ
number_in text i = cond (ltb i (length text / 21)) (number_at (21 * i) text) 0

-- its first n numbers
unfoldable pub numbers_in : List ℕ → ℕ → List ℕ
numbers_in text zero = []
numbers_in text (suc n) = numbers_in text n ++ (number_in text n ∷ [])
