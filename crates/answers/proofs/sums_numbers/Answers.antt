-- `answers::sums_numbers` meets its contract: the sums of five sections are ten numbers.
use mathlib.Core.Path.{◌≡◌}
use lib.ListN.{length}
use Rattle.rules.proofs.Arrays.{struct-array}
use Rattle.state.proofs.Rooms.{five-sums}
use borrow.Author.Rules.{rules}
use Rattle.answers.proofs.sums_numbers.Goals as goal

pub returns : goal.returns
returns c =
    let five : length c.args.sums ≡ 5 = search (rules, struct-array) in
    rw (five-sums c.args.sums five)
