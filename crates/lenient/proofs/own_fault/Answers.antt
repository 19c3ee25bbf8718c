-- `lenient::own_fault` meets its contract, kind by kind.
use mathlib.Core.Path.{◌∙◌}
use Rattle.rules.specs.Checks.{code_fault}
use Rattle.rules.specs.Values.{head_on, code_on}
use Rattle.lenient.proofs.own_fault.Goals as goal

pub returns-in-Head : goal.returns-in-Head
unfolding head_on
returns-in-Head c = c.head_record.ensures ∙ rw (c.first_value.ensures, c.in-Head.is)

pub returns-in-Taxpayer : goal.returns-in-Taxpayer
unfolding code_on code_fault
returns-in-Taxpayer c = rw (c.in-Taxpayer.is, ← c.has_code.ensures) c.code_fault.ensures

pub returns-in-Domicile : goal.returns-in-Domicile
returns-in-Domicile c = rw c.in-Domicile.is

pub returns-in-Line : goal.returns-in-Line
returns-in-Line c = c.line_fault.ensures ∙ rw (c.line_sums-t.ensures, c.in-Line.is)

pub returns-in-Balance : goal.returns-in-Balance
returns-in-Balance c = rw c.in-Balance.is

pub returns-in-Payment : goal.returns-in-Payment
returns-in-Payment c = rw c.in-Payment.is c.negative_fault.ensures

pub returns-in-Receipt : goal.returns-in-Receipt
returns-in-Receipt c = rw c.in-Receipt.is

pub returns-in-Addressee : goal.returns-in-Addressee
returns-in-Addressee c = rw c.in-Addressee.is

pub returns-in-Tail : goal.returns-in-Tail
returns-in-Tail c = rw c.in-Tail.is c.tail_fault.ensures

pub returns-in-Unknown : goal.returns-in-Unknown
returns-in-Unknown c = rw c.in-Unknown.is
