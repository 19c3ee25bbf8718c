use native.Mathlib.Omega.{arith}
use borrow.Author.Rules.{rules}
use Rattle.rules.proofs.Arrays.{struct-array}
use Rattle.report.proofs.SectionLines.{lines_none, lines-on, lines-all}
use Rattle.report.proofs.put_sections.Goals as goal

pub loop-s-init : goal.loop-s-init
loop-s-init c = lines_none _ _ _ (omega arith)

pub loop-s-preserved : goal.loop-s-preserved
loop-s-preserved c = lines-on _ _ (omega arith) c.loop-s.invariant c.put_section-end.ensures

pub shape_of-room : goal.shape_of-room
shape_of-room c = c.loop-s.invariant.same

pub returns : goal.returns
returns c = lines-all _ _ (search (rules, struct-array)) (omega arith) c.loop-s.invariant
