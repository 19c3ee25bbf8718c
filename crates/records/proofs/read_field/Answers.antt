use Rattle.text.proofs.Numerals.{read-is-number}
use lib.ListN.{drop, length-take}
use Prim.Native.Nat.{◌-◌}
use native.Mathlib.Omega.{arith}
use mathlib.Core.Path.{◌∙◌}
use Rattle.records.proofs.read_field.Goals as goal

pub returns : goal.returns
returns c = c.number.ensures ∙ read-is-number _ (omega (arith, c.requires.1, length-take (c.args.field.end - c.args.field.start) (drop c.args.field.start c.args.rec.now)))
