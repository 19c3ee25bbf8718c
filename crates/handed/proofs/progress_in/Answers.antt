use mathlib.Core.Path.{sym, ◌∙◌}
use native.Mathlib.Omega.{arith}
use Rattle.text.proofs.Bytes.{part_length}
use Rattle.handed.specs.Room.{progress_of}
use Rattle.handed.proofs.progress_in.Goals as goal

pub returns-then-not-at_most : goal.returns-then-not-at_most
unfolding progress_of
returns-then-not-at_most c = rw (sym c.at_most.ensures ∙ c.if-not-at_most.true)

pub name_in-name-requires : goal.name_in-name-requires
name_in-name-requires c = let e = c in (part_length 20 33 e.args.room.now (let p = e.requires in omega arith), sym e.at_most.ensures ∙ e.if-not-at_most.false)

pub returns : goal.returns
unfolding progress_of
returns c = let e = c in rw (sym e.at_most.ensures ∙ e.if-not-at_most.false, c.course_of-course.ensures, c.kept_in-kept.ensures, c.name_in-name.ensures)
