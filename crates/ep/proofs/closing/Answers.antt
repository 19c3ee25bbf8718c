-- `ep::closing` meets its contract.
use mathlib.Core.Path.{sym, ◌∙◌}
use Rattle.ep.proofs.Closes.{none_open, left_alone, states-eq, closing-by}
use Rattle.ep.proofs.closing.Goals as goal

pub returns-then-tally-eq0 : goal.returns-then-tally-eq0
returns-then-tally-eq0 c = sym (none_open _ _ c.if-tally-eq0.true)

pub returns-then-not-tally : goal.returns-then-not-tally
returns-then-not-tally c = rw c.refused.ensures (sym (left_alone _ _ c.if-tally-eq0.false c.if-not-tally.true))

pub returns-then-eq : goal.returns-then-eq
returns-then-eq c = sym (closing-by _ _ c.if-tally-eq0.false c.if-not-tally.false _ (sym (c.eq.ensures ∙ states-eq c.args.tally.total c.args.tally.own) ∙ c.if-eq.true))

pub returns : goal.returns
returns c = rw c.refused-2.ensures (sym (closing-by _ _ c.if-tally-eq0.false c.if-not-tally.false _ (sym (c.eq.ensures ∙ states-eq c.args.tally.total c.args.tally.own) ∙ c.if-eq.false)))
