-- `ep_accounts::debit_of` meets its contract, over the row's number.
use mathlib.Core.Path.{sym}
use Rattle.ep_accounts.proofs.Rows.{row-unused, row-used}
use Rattle.ep_accounts.proofs.debit_of.Goals as goal

pub returns-then-rec-at-eq-BLANK : goal.returns-then-rec-at-eq-BLANK
returns-then-rec-at-eq-BLANK c = sym (row-unused _ c.requires.0 _ c.requires.1 c.if-rec-at-eq-BLANK.true)

pub returns : goal.returns
returns c = row-used _ c.requires.0 _ c.requires.1 c.if-rec-at-eq-BLANK.false _ c.number.ensures
