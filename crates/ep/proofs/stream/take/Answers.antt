-- `ep::take` meets its contract.
use mathlib.Core.Path.{◌∙◌}
use Rattle.ep.proofs.Courses.{took-unfit, took-cut, took_more, took-many}
use Rattle.ep.proofs.stream.take.Goals.{else-course-via-then-course+then-piece-eq-RECORD+else-course-lt-MOST_RECORDS, else-course-via-then-course+else-piece-eq-RECORD, else-course-via-else-course}
use Rattle.ep.proofs.stream.take.Goals as goal

pub counted-requires : goal.counted-requires
counted-requires c = (c.if-piece-eq-RECORD.true, c.requires, c.if-course-lt-MOST_RECORDS.true)

pub returns-then-course-lt-MOST_RECORDS : goal.returns-then-course-lt-MOST_RECORDS
returns-then-course-lt-MOST_RECORDS c = c.counted.ensures ∙ took_more _ _ c.if-course.true c.if-piece-eq-RECORD.true c.if-course-lt-MOST_RECORDS.true

pub returns-else-course : goal.returns-else-course
returns-else-course c = c.unfit.ensures ∙ elim c.else-course.branch [
  | else-course-via-then-course+then-piece-eq-RECORD+else-course-lt-MOST_RECORDS w ↦ took-many _ _ w.if-course.true w.if-piece-eq-RECORD.true w.if-course-lt-MOST_RECORDS.false
  | else-course-via-then-course+else-piece-eq-RECORD w ↦ took-cut _ _ w.if-course.true w.if-piece-eq-RECORD.false
  | else-course-via-else-course w ↦ took-unfit _ _ w.if-course.false
]
