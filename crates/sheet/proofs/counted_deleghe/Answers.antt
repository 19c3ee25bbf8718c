-- `sheet::counted_deleghe` meets its contract.
-- The deleghe are numbered from 1.
use Prim.Native.Nat.{ℕ}
use mathlib.Core.Path.{ap}
use mathlib.Core.List.{List}
use Rattle.sheet.specs.Sheet.{Reading, deleghe_from}
use Rattle.sheet.proofs.Steps.{counts, counts-none, here-counted, count_small}
use Rattle.std.specs.Result.{is_err}
use Rattle.sheet.proofs.counted_deleghe.Goals as goal

abbrev from_one : ℕ → List ℕ → Reading
from_one n = deleghe_from n 1

pub returns-in_default : goal.returns-in_default
returns-in_default c =
    let s = c in
    counts-none s.args.source.sheet.now s.args.source.name.now s.args.spot s.args.flow.now 3 from_one c.count_at.result c.count_at.ensures (ap is_err c.in_default.is)

pub deleghe-requires : goal.deleghe-requires
deleghe-requires c =
    let s = c in
    (here-counted _ s.args.source.name.now _ _ s.requires 3 _ _ _ c.count_at.ensures c.in-Ok.is c.beyond-behind.ensures, count_small 3 _ _ _ c.count_at.ensures c.in-Ok.is)

pub returns : goal.returns
returns c =
    let s = c in
    counts s.args.source.sheet.now s.args.source.name.now s.args.spot s.args.flow.now 3 _ from_one _ _ _ c.count_at.ensures c.in-Ok.is (rw c.beyond-behind.ensures at c.deleghe.ensures)
