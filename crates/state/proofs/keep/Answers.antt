use mathlib.Core.Path.{◌≡◌, sym, ◌∙◌}
use Prim.Native.Nat.{◌<◌}
use native.Mathlib.Omega.{arith}
use lib.ListN.{length}
use borrow.Author.Rules.{rules}
use borrow.Author.Tests.{eqb-true, eqb-false}
use Rattle.state.proofs.Rooms.{overlay-all, none_after, some_after}
use Rattle.state.proofs.keep.Goals as goal

pub returns-then-not-is_empty : goal.returns-then-not-is_empty
returns-then-not-is_empty c =
    let n = eqb-false _ _ (sym c.is_empty.ensures ∙ c.if-not-is_empty.true) in
    let some : 0 < length c.args.kept.now = omega arith in
    let p = (c.requires some).0 in
    let l : length c.state_numbers.result ≡ 29 = search rules in
    c.put.ensures ∙ (overlay-all _ _ (omega arith) ∙ (c.state_numbers.ensures ∙ sym (some_after _ _ some)))

pub returns-else-not-is_empty : goal.returns-else-not-is_empty
returns-else-not-is_empty c = sym (none_after _ _ (eqb-true _ _ (sym c.is_empty.ensures ∙ c.if-not-is_empty.false)))
