use mathlib.Core.Path.{◌≡◌}
use lib.ListN.{length}
use Rattle.rules.specs.declared.State.{State}
use Rattle.rules.proofs.Arrays.{struct-array}
use Rattle.state.specs.Numbers.{state_numbers}
use Rattle.state.proofs.Rooms.{five-sums}
use borrow.Author.Rules.{rules}
use Rattle.state.proofs.state_numbers.Goals as goal

pub returns : goal.returns
unfolding state_numbers
returns c =
    let s : State = c.args.st in
    let a : length s.money.delega.sections ≡ 5 = search (rules, struct-array) in
    let b : length s.money.flow ≡ 5 = search (rules, struct-array) in
    rw (c.from.ensures, five-sums s.money.delega.sections a, five-sums s.money.flow b)
