-- What `?` hands on is the error that it was given.
use Rattle.std.specs.Prelude.{◌≡◌, Result, Ok, Err, IsErrAnd}
use Rattle.std.specs.Result.{IsErr}
use mathlib.Core.Path.{ap}

pub handed_on : {A E : Type 0} {e : E} (r : Result A E) → IsErr r × IsErrAnd r (λ y. y ≡ e) → r ≡ Err e
handed_on (Ok x) h = absurd h.1
handed_on (Err y) h = ap Err h.1
