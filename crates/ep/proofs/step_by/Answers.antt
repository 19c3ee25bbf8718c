-- `ep::step_by` meets its contract: each kind has a function of its own.
use mathlib.Core.Path.{sym, ◌∙◌}
use Rattle.ep.proofs.step_by.Goals as goal

pub step_m-requires : goal.step_m-requires
step_m-requires c = (c.requires.0, c.requires.1, c.requires.2, sym c.kind_of.ensures ∙ c.in-RecordM.is)

pub step_v-requires : goal.step_v-requires
step_v-requires c = (c.requires.0, c.requires.1, c.requires.2, sym c.kind_of.ensures ∙ c.in-RecordV.is)

pub step_other-requires : goal.step_other-requires
step_other-requires c = (c.requires.2, sym c.kind_of.ensures ∙ c.in-OtherRecord.is)
