-- `sheet::enter` meets its contract.
use Rattle.sheet.proofs.Written.{entered}
use Rattle.sheet.proofs.enter.Goals as goal

pub returns : goal.returns
returns c =
    entered _ c.args.spot _ _ _ _ _ c.requires.flow_len.0 c.filled_record-rec.ensures c.put_record.ensures c.or_misfit-misfit.ensures
