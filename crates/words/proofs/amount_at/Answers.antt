-- `words::amount_at` meets its contract: the top bits of characters are clear.
use Rattle.words.specs.Words.{Halves}
use Rattle.words.proofs.Fields.{allowed-at-most, at-most-part}
use Rattle.words.proofs.FifteenDigits.{halves-at}
use Rattle.words.proofs.amount_at.Goals as goal
use Rattle.words.proofs.amount_at.Goals.{After-word_at-2}

abbrev halves : (c : After-word_at-2) → Halves c.word_at.result c.word_at-2.result
halves c =
    let s = c in
    halves-at s.args.part.now s.args.at s.requires.0 _ _ c.word_at.ensures c.word_at-2.ensures (at-most-part 127 15 s.args.at s.args.part.now (allowed-at-most s.args.part.now s.requires.1))

pub fifteen_in-requires : goal.fifteen_in-requires
fifteen_in-requires c = halves c

pub returns : goal.returns
returns c = c.fifteen_in.ensures (halves (goal.at.returns c).After-word_at-2)
