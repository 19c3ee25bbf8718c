-- `kept::keep` meets its contract.
use mathlib.Core.Path.{ap}
use Rattle.judge.specs.declared.Judgement.{Judgement}
use Rattle.kept.specs.Keeping.{keeping}
use Rattle.kept.proofs.keep.Goals as goal

pub returns : goal.returns
unfolding keeping
returns c = ap (λ (j : Judgement). record { verdict = j.verdict; kept = record { sums = j.summary.sums } }) c.judge-judgement.ensures
