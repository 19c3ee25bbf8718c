use Rattle.std.specs.Prelude.{◌≡◌, Err}
use mathlib.Core.Path.{refl}
use Rattle.text.specs.declared.DigitsError.{DigitsError}
use Rattle.text.specs.declared.DigitsError.TheVariants as Why
use Rattle.desk.specs.Header.{size_read, size_of}
use Rattle.desk.proofs.cases.size_of.Goals as goal

pub returns-in-Ok : goal.returns-in-Ok
unfolding size_of
returns-in-Ok c = rw (← c.number.ensures, c.in-Ok.is)

unread : (e : DigitsError) → 99999 ≡ size_read (Err e)
unread (Why.NonDigit i) = refl
unread Why.TooLong = refl

pub returns-in-Err : goal.returns-in-Err
unfolding size_of
returns-in-Err c = rw (← c.number.ensures, c.in-Err.is) (unread c.in-Err.field-0)
