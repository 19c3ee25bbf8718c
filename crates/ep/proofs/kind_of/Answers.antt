-- `ep::kind_of` meets its contract.
use native.Mathlib.Omega.{arith}
use borrow.Author.Tests.{ne_eqb}
use lib.ListN.{get_or}
use Rattle.ep.specs.Payments.{kind_of}
use Rattle.ep.proofs.kind_of.Goals as goal

pub returns-in-77 : goal.returns-in-77
unfolding kind_of
returns-in-77 c = simp c.in-77.is

pub returns-in-86 : goal.returns-in-86
unfolding kind_of
returns-in-86 c = simp c.in-86.is

pub returns-in_default : goal.returns-in_default
unfolding kind_of
returns-in_default c = let h = c.in_default.in_default-own in simp (ne_eqb (get_or c.args.rec.now 0 0) 77 (λ e. absurd (omega arith)), ne_eqb (get_or c.args.rec.now 0 0) 86 (λ e. absurd (omega arith)))
