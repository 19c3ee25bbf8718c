-- `words::word_at` meets its contract: a word is two words of four bytes.
use native.Mathlib.Omega.{arith}
use Rattle.words.proofs.Fields.{eight-word}
use Rattle.words.proofs.word_at.Goals as goal

pub overflow_mul-result : goal.overflow_mul-result
overflow_mul-result c = omega (arith, c.four_at-2.ensures.1)

pub overflow_add-result : goal.overflow_add-result
overflow_add-result c = omega (arith, c.four_at.ensures.1, c.four_at-2.ensures.1)

pub returns : goal.returns
returns c =
    let s = c in
    omega (arith, c.four_at.ensures.0, c.four_at-2.ensures.0, eight-word s.args.part.now s.args.at s.requires)
