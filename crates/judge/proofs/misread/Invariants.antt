use mathlib.Core.Path.{◌≡◌}
use lib.ListN.{drop}
use Rattle.rules.specs.Checks.{bad_fields}
use Rattle.judge.proofs.misread.Given as goal

abbrev pub invariant-loop-field : goal.invariant-loop-field
invariant-loop-field l = bad_fields l.field-items l.rec ≡ bad_fields (drop l.field-index l.field-items) l.rec
