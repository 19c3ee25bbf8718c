-- `kept_cases::drop_deleghe` meets its contract: the length that is answered lies within the lent flow.
use Rattle.kept_cases.proofs.Within.{kept-within}
use Rattle.kept_cases.proofs.drop_deleghe.Goals as goal

pub returns-in-Ok : goal.returns-in-Ok
returns-in-Ok c = kept-within _ _ _ _ _ c.drop_kept-made.ensures.0 c.in-Ok.is
