-- `words::fifteen_in` meets its contract: zeros in front, or two words of eight that share the eighth character.
use mathlib.Core.Path.{◌≡◌, sym, ◌∙◌}
use native.Mathlib.Omega.{arith}
use lib.ListN.{take, drop}
use Rattle.text.specs.Numbers.{number_of}
use Rattle.words.specs.Answers as Said
use Rattle.words.specs.Words.{fifteen_of, Halves}
use Rattle.words.proofs.FifteenDigits.{front-spelt, back-spelt, zeros-said, zeros-front, front-none, back_none, both-said, amount-below}
use Rattle.words.proofs.fifteen_in.Goals as goal
use Rattle.words.proofs.fifteen_in.Goals.{In_ok-low}

pub returns-then-back-eq3472328296227680304 : goal.returns-then-back-eq3472328296227680304
returns-then-back-eq3472328296227680304 c =
    let a = c.args in
    λ s. zeros-said a.back (back-spelt a.front a.back s) c.if-back-eq3472328296227680304.true ∙ sym (zeros-front a.front a.back s c.if-front-eq3472328296227680304.true)

pub eight_in-requires : goal.eight_in-requires
eight_in-requires c = back-spelt _ _ c.requires

pub returns-then-front-eq3472328296227680304 : goal.returns-then-front-eq3472328296227680304
returns-then-front-eq3472328296227680304 c =
    let a = c.args in
    λ s. c.eight_in.ensures (back-spelt a.front a.back s) ∙ sym (zeros-front a.front a.back s c.if-front-eq3472328296227680304.true)

pub eight_in-requires-2 : goal.eight_in-requires-2
eight_in-requires-2 c = front-spelt _ _ c.requires

pub returns-in_err-high : goal.returns-in_err-high
returns-in_err-high c =
    let a = c.args in
    λ s. c.from_residual.ensures ∙ front-none a.front a.back s (sym (c.in_err-high.was) ∙ c.eight_in-2.ensures (front-spelt a.front a.back s))

pub eight_in-requires-3 : goal.eight_in-requires-3
eight_in-requires-3 c = back-spelt _ _ c.requires

pub returns-in_err-low : goal.returns-in_err-low
returns-in_err-low c =
    let a = c.args in
    λ s. c.from_residual-in_err-low.ensures ∙ back_none a.front a.back s (sym (c.in_err-low.was) ∙ c.eight_in-3.ensures (back-spelt a.front a.back s))

-- What the first eight say.
high : (c : In_ok-low) (s : Halves c.args.front c.args.back) →
    Said.Amount c.in_ok-high.high ≡ fifteen_of (number_of (take 8 s.chars))
high c s = sym (c.in_ok-high.was) ∙ c.eight_in-2.ensures (front-spelt _ _ s)

-- What the last eight say.
low : (c : In_ok-low) (s : Halves c.args.front c.args.back) →
    Said.Amount c.in_ok-low.low ≡ fifteen_of (number_of (drop 7 s.chars))
low c s = sym (c.in_ok-low.was) ∙ c.eight_in-3.ensures (back-spelt _ _ s)

pub overflow_mul-result : goal.overflow_mul-result
overflow_mul-result c =
    let s = c.requires in
    omega (arith, amount-below (take 8 s.chars) _ (front-spelt _ _ s).eight (high c s))

pub overflow_add-result : goal.overflow_add-result
overflow_add-result c =
    let s = c.requires in
    omega (arith, amount-below (take 8 s.chars) _ (front-spelt _ _ s).eight (high c s), amount-below (drop 7 s.chars) _ (back-spelt _ _ s).eight (low c s))

pub returns : goal.returns
returns c = λ s. both-said _ _ s _ _ (high c s) (low c s)
