-- `ep_total::with_digit` meets its contract.
use mathlib.Core.Logic.{inl, inr}
use native.Mathlib.Omega.{arith}
use borrow.Author.Tests.{lt-ltb, le-ltb}
use Rattle.ep_total.specs.Total.{with_digit}
use Rattle.ep_total.proofs.with_digit.Goals as goal

pub returns-then-is_ascii_digit : goal.returns-then-is_ascii_digit
unfolding with_digit
returns-then-is_ascii_digit c =
    let d = rw c.if-is_ascii_digit.true at c.is_ascii_digit.ensures.cases in
    simp (c.from.ensures, le-ltb _ _ d.0, le-ltb _ _ d.1)

pub returns-else-is_ascii_digit : goal.returns-else-is_ascii_digit
unfolding with_digit
returns-else-is_ascii_digit c =
    let d = rw c.if-is_ascii_digit.false at c.is_ascii_digit.ensures.cases in
    elim d [
      | inl t ↦ simp (lt-ltb _ _ t)
      | inr u ↦ simp (le-ltb c.args.b 48 (omega arith), lt-ltb _ _ u)
    ]
