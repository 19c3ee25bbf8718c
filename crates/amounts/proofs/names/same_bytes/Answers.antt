use Rattle.std.proofs.Common.{◌∙◌}
use Rattle.amounts.proofs.Spelling.{same-pointwise}
use Rattle.amounts.proofs.names.same_bytes.Goals as goal

pub returns : goal.returns
returns c = c.eq.ensures ∙ same-pointwise c.args.a.now c.args.b.now
