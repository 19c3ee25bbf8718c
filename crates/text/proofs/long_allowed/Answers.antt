-- `text::long_allowed` meets its contract: the four quarters are a front of the part, and the rest is behind them.
use Prim.Native.Nat.{◌*◌, ◌/◌}
use mathlib.Core.Path.{sym, ◌∙◌}
use native.Mathlib.Omega.{arith}
use lib.ListN.{length}
use Rattle.text.proofs.Allowed.{all_rest}
use Rattle.text.proofs.long_allowed.Goals as goal

pub returns-then-quarters_allowed : goal.returns-then-quarters_allowed
returns-then-quarters_allowed c =
    let l = c.args.part.now in
    c.all_allowed.ensures ∙ sym (all_rest l (length l / 64 * 16 * 4) (omega arith) ∙ rw (sym c.quarters_allowed.ensures ∙ c.if-quarters_allowed.true))

pub returns-else-quarters_allowed : goal.returns-else-quarters_allowed
returns-else-quarters_allowed c =
    let l = c.args.part.now in
    c.if-quarters_allowed.false ∙ sym (all_rest l (length l / 64 * 16 * 4) (omega arith) ∙ rw (sym c.quarters_allowed.ensures ∙ c.if-quarters_allowed.false))
