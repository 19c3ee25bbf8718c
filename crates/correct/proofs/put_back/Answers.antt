-- `correct::put_back` meets its contract: the old debit is put first and the old credit over what that leaves.
use Rattle.text.proofs.Puts.{length-put}
use Rattle.text.specs.Placing.{put_at}
use lib.ListN.{length}
use Prim.Native.Nat.{◌+◌, ◌≤◌}
use Rattle.text.proofs.Fits.{part-put}
use native.Mathlib.Omega.{arith}
use mathlib.Core.Path.{◌≡◌, ap, ◌∙◌}
use borrow.Author.Rules.{rules}
use Rattle.correct.proofs.put_back.Goals as goal

pub returns : goal.returns
returns c =
    let s = c in
    let f = s.args.flow.now in
    let i = s.requires.inside in
    let a = s.requires.apart in
    let nd : length s.args.debit ≡ 15 = search rules in
    let nc : length s.args.credit ≡ 15 = search rules in
    let gd : s.args.debit_at + length s.args.debit ≤ length f = omega arith in
    let e = part-put _ _ _ _ gd c.put_part.ensures.1 in
    let n = ap length e ∙ length-put _ _ _ gd in
    part-put _ _ _ _ (omega arith) c.put_part-2.ensures.1 ∙ ap (put_at s.args.credit_at s.args.credit) e
