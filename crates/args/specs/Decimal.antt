-- Believed. The number that a word says: one to twenty digits and nothing else, where 64 bits hold it.
use Rattle.std.specs.Prelude.{ℕ, ◌^◌, cond, List, eqb, ltb, length}
use Rattle.text.specs.Answers.{Digits}
use Rattle.text.specs.Answers as Read
use Rattle.text.specs.Numbers.{number_of}
use Rattle.args.specs.Answers.{Argument, Number, NoNumber}

-- a number of at most 64 bits; a word with a byte that is no digit says none
abbrev pub fitting : Digits → Argument
fitting (Read.Number n) = cond (ltb n (2 ^ 64)) (Number n) NoNumber
fitting (Read.NonDigit i) = NoNumber
fitting Read.TooLong = NoNumber

-- what a word says
unfoldable pub decimal_of : List ℕ → Argument
decimal_of l = cond (eqb (length l) 0) NoNumber (cond (ltb 20 (length l)) NoNumber (fitting (number_of l)))
