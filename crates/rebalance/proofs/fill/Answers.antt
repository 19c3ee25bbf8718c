-- `rebalance::fill` meets its contract: a 50-01 is written its final balance, and a record that stores nothing stays.
use Prim.Native.Nat.{ℕ}
use mathlib.Core.List.{[]}
use mathlib.Core.Path.{ap, ◌∙◌}
use borrow.Author.Rules.{rules}
use Rattle.text.specs.Placing.{put_at}
use Rattle.text.specs.Numbers.{digits_of}
use Rattle.layout.specs.Fields.{final_balance}
use Rattle.rebalance.specs.Rebalance.{put_all}
use Rattle.rebalance.proofs.Fitting.{fits-first}
use Rattle.rebalance.proofs.NoneStored.{none_stored}
use Rattle.rebalance.proofs.fill.Goals as goal

pub store-requires : goal.store-requires
store-requires c = (search rules, search rules, rw c.final_of.ensures (fits-first 15 final_balance _ [] (rw c.in-Payment.is at c.requires.2)).0)

pub returns-in-Payment : goal.returns-in-Payment
unfolding put_all
returns-in-Payment c = rw c.in-Payment.is (c.store.ensures ∙ ap (λ (v : ℕ). put_at 35 (digits_of 15 v) c.args.rec.now) c.final_of.ensures)

pub returns-in_default : goal.returns-in_default
unfolding put_all
returns-in_default c = rw (none_stored c.args.st c.args.k c.in_default.not-Balance c.in_default.not-Payment c.in_default.not-Tail)
