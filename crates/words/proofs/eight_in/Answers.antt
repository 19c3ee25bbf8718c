-- `words::eight_in` meets its contract: the test tells digits from other characters, and leaves each step room.
use mathlib.Core.Path.{sym}
use native.Mathlib.Omega.{arith}
use Rattle.words.proofs.EightDigits.{eight-room, eight-none, eight-lanes, eight-pairs, eight-fours, eight-said}
use Rattle.words.proofs.eight_in.Goals as goal

pub overflow_add-y : goal.overflow_add-y
overflow_add-y c = omega (arith, eight-room c.args.w c.requires)

pub returns-then-y-ne0 : goal.returns-then-y-ne0
returns-then-y-ne0 c = λ s. sym (eight-none c.args.w s c.if-y-ne0.true)

pub overflow_mul-pairs : goal.overflow_mul-pairs
overflow_mul-pairs c = omega (arith, eight-lanes c.args.w c.requires c.if-y-ne0.false)

pub overflow_add-pairs : goal.overflow_add-pairs
overflow_add-pairs c = omega (arith, eight-lanes c.args.w c.requires c.if-y-ne0.false)

pub overflow_mul-fours : goal.overflow_mul-fours
overflow_mul-fours c = omega (arith, eight-pairs c.args.w c.requires c.if-y-ne0.false)

pub overflow_add-fours : goal.overflow_add-fours
overflow_add-fours c = omega (arith, eight-pairs c.args.w c.requires c.if-y-ne0.false)

pub overflow_mul-result : goal.overflow_mul-result
overflow_mul-result c = omega (arith, eight-fours c.args.w c.requires c.if-y-ne0.false)

pub overflow_add-result : goal.overflow_add-result
overflow_add-result c = omega (arith, eight-fours c.args.w c.requires c.if-y-ne0.false)

pub returns : goal.returns
returns c = λ s. eight-said c.args.w s c.if-y-ne0.false
