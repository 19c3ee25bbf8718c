-- `lenient::digits_fault` meets its contract. The loop's invariant: the fields that are left say what all do.
use mathlib.Core.Path.{◌≡◌}
use lib.ListN.{drop}
use Rattle.rules.specs.Checks.{bad_fields}
use Rattle.lenient.proofs.digits_fault.Given as goal

abbrev pub invariant-loop-field : goal.invariant-loop-field
invariant-loop-field l = bad_fields l.field-items l.rec ≡ bad_fields (drop l.field-index l.field-items) l.rec
