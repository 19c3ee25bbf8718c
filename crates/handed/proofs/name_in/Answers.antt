use mathlib.Core.Path.{refl, sym, ◌∙◌}
use native.Mathlib.Omega.{arith}
use lib.ListN.{length-set}
use Rattle.state.proofs.Rooms.{overlay-put, put_on, put-end, overlay-all}
use Rattle.portion.proofs.Counts.{each-most}
use Rattle.handed.proofs.name_in.Goals as goal

pub loop-i-init : goal.loop-i-init
loop-i-init c = (refl, overlay-put _ _)

pub bounds-numbers-i : goal.bounds-numbers-i
bounds-numbers-i c = let l = c.requires.0 in omega arith

pub overflow_cast-name : goal.overflow_cast-name
overflow_cast-name c = let l = c in let m = each-most 255 l.args.numbers.now l.loop-i.i l.requires.1 in omega arith

pub loop-i-preserved : goal.loop-i-preserved
loop-i-preserved c = let l = c in let z = l.requires.0 in (simp length-set l.loop-i.invariant.0, l.loop-i.invariant.1 ∙ put_on l.loop-i.i l.args.numbers.now l.loop-i.name (let t = c.loop-i-test.true in omega arith) (let n = l.loop-i.invariant.0 in omega arith))

pub returns : goal.returns
returns c = let l = c in let z = l.requires.0 in sym (l.loop-i.invariant.1 ∙ put-end l.loop-i.i l.args.numbers.now l.loop-i.name (let t = c.loop-i-test.false in omega arith)) ∙ overlay-all _ _ (omega arith)
