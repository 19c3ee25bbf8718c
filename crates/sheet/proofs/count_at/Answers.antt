-- `sheet::count_at` meets its contract.
use native.Mathlib.Omega.{arith}
use mathlib.Core.Path.{◌∙◌}
use lib.ListN.{length-drop}
use native.Mathlib.Nat.{add-sub_cancel_left}
use Rattle.sheet.proofs.Written.{count-short, count-read}
use Rattle.sheet.proofs.count_at.Goals as goal

pub returns-then-sheet-at : goal.returns-then-sheet-at
returns-then-sheet-at c = count-short _ _ (rw length-drop c.if-sheet-at.true)

pub returns : goal.returns
returns c = c.number.ensures ∙ count-read _ _ _ (rw length-drop (omega (arith, c.if-sheet-at.false))) c.requires.1 (rw (add-sub_cancel_left c.args.at c.args.width))
