-- `sheet::slots::has_subtype` meets its contract.
use mathlib.Core.Path.{ap, ◌∙◌}
use Rattle.amounts.specs.Names.{same_bytes}
use mathlib.Core.List.{List}
use Prim.Native.Nat.{ℕ}
use lib.ListN.{take, drop}
use Rattle.sheet.proofs.Written.{two_digits}
use Rattle.sheet.proofs.slots.has_subtype.Goals as goal

pub returns : goal.returns
returns c = c.same_bytes.ensures ∙ ap (λ (l : List ℕ). same_bytes (take 2 (drop 10 c.args.rec.now)) l) (two_digits _ _ c.requires.1 c.put_number.ensures.1)
