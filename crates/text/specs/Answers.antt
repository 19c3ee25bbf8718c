-- Believed. What the answers of the functions are called in the definitions.
use Rattle.std.specs.Prelude.{ℕ, Bool, true, false, Option, None, Some, Result, Ok, Err}
use Rattle.text.specs.declared.DigitsError.{DigitsError}
use Rattle.text.specs.declared.DigitsError.TheVariants as Why

-- the first byte of a part that is no character, by its offset, or none: all are allowed
abbrev pub Characters : Type 0
Characters = Option ℕ

pattern abbrev pub Allowed : Characters
Allowed = None

pattern abbrev pub BadAt : ℕ → Characters
BadAt i = Some i

-- the number that digits say, or why they say none
abbrev pub Digits : Type 0
Digits = Result ℕ DigitsError

pattern abbrev pub Number : ℕ → Digits
Number n = Ok n

pattern abbrev pub NonDigit : ℕ → Digits
NonDigit i = Err (Why.NonDigit i)

pattern abbrev pub TooLong : Digits
TooLong = Err Why.TooLong

-- whether something was written, or it does not fit
abbrev pub Put : Type 0
Put = Bool

pattern abbrev pub Written : Put
Written = true

pattern abbrev pub Unfit : Put
Unfit = false
