use Prim.Native.Nat.{ℕ, ◌+◌}
use mathlib.Core.Path.{◌≡◌, refl, sym, ap, ◌∙◌}
use native.Mathlib.Omega.{arith}
use lib.ListN.{length, drop, set, length-set}
use Rattle.text.specs.Placing.{put_at}
use Rattle.rules.proofs.Arrays.{struct-array}
use Rattle.state.proofs.Rooms.{overlay-put, put_on, put-end, overlay-all}
use Rattle.handed.specs.Room.{progress_numbers}
use Rattle.handed.proofs.Back.{numbers-length}
use borrow.Author.Rules.{rules}
use Rattle.handed.proofs.progress_numbers.Goals as goal

pub loop-i-init : goal.loop-i-init
loop-i-init c = let k : length c.args.x.kept ≡ 29 = search (rules, struct-array) in let n : length c.args.x.name ≡ 20 = search (rules, struct-array) in (refl, numbers-length c.args.x k n, overlay-put _ _)

pub number_at-requires : goal.number_at-requires
number_at-requires c = omega (arith, c.loop-i-test.true)

pub loop-i-preserved : goal.loop-i-preserved
loop-i-preserved c = let l = c in let x = l.args.x in (simp length-set l.loop-i.invariant.0, l.loop-i.invariant.1, l.loop-i.invariant.2 ∙ (put_on l.loop-i.i (progress_numbers x) l.loop-i.numbers (let t = c.loop-i-test.true in let n = l.loop-i.invariant.1 in omega arith) (let n = l.loop-i.invariant.0 in omega arith) ∙ ap (λ (b : ℕ). put_at (l.loop-i.i + 1) (drop (l.loop-i.i + 1) (progress_numbers x)) (set l.loop-i.numbers l.loop-i.i b)) (sym c.number_at.ensures)))

pub returns : goal.returns
returns c = let l = c in let n = l.loop-i.invariant.1 in sym (l.loop-i.invariant.2 ∙ put-end l.loop-i.i (progress_numbers l.args.x) l.loop-i.numbers (let t = c.loop-i-test.false in omega arith)) ∙ overlay-all _ _ (omega arith)
