-- `sheet::put_record` meets its contract.
use native.Mathlib.Omega.{arith}
use Rattle.sheet.proofs.Written.{put_next}
use mathlib.Core.Path.{◌∙◌}
use Rattle.sheet.proofs.put_record.Goals as goal

pub returns-then-count-lt-MOST_RECORDS : goal.returns-then-count-lt-MOST_RECORDS
returns-then-count-lt-MOST_RECORDS c =
    let p = put_next _ _ _ _ (omega (arith, c.requires.0, c.if-count-lt-MOST_RECORDS.true)) c.requires.1 c.put_part.ensures.1 in
    (p.0 ∙ c.requires.0, λ h. p.1)

pub returns-else-count-lt-MOST_RECORDS : goal.returns-else-count-lt-MOST_RECORDS
returns-else-count-lt-MOST_RECORDS c = (c.requires.0, λ h. absurd (omega (arith, h, c.if-count-lt-MOST_RECORDS.false)))
