-- `words::number_word` meets its contract by the law of the same name.
use mathlib.Core.Path.{sym}
use Rattle.words.proofs.Fields.{number_word}
use Rattle.words.proofs.number_word.Goals as goal

pub returns : goal.returns
returns c = sym (number_word c.args.n c.requires)
