use Rattle.std.proofs.Common.{◌≡◌, ◌+◌, get_or, take, sym, ap, arith, ◌∙◌}
use lib.Seq.{length-take-le}
use Rattle.taxcode.specs.Places.{by_place}
use Rattle.taxcode.specs.Persons.{odd_values, odd_value, value_at}
use Rattle.taxcode.proofs.Characters.{letter-small, values-tell}
use Rattle.taxcode.proofs.PersonTurns.{person-length, person-stop, person-on, person-end}
use Rattle.taxcode.proofs.persons.person_right.Goals as goal
use Rattle.taxcode.proofs.persons.person_right.Goals.{After-by_place-sum}

pub returns-then-code-ne-PLACES : goal.returns-then-code-ne-PLACES
returns-then-code-ne-PLACES c = sym (person-length _ c.if-code-ne-PLACES.true)

pub returns-then-not-place_right : goal.returns-then-not-place_right
returns-then-not-place_right c =
    sym (person-stop c.args.code.now c.loop-i.invariant.0 _ _ c.loop-i.invariant.1 c.loop-i-test.true (sym c.place_right.ensures ∙ c.if-not-place_right.true))

pub bounds-odd-v : goal.bounds-odd-v
bounds-odd-v c =
    let s = letter-small _ _ (sym c.place_right.ensures ∙ c.if-not-place_right.false) in
    omega (arith, c.even_value-v.ensures)

-- What a character counts.
value : (c : After-by_place-sum) → c.by_place-sum.result ≡ value_at (c.loop-i.i + 1) (get_or (take 15 c.args.code.now) c.loop-i.i 0)
unfolding value_at odd_value odd_values
value c = rw (← c.even_value-v.ensures) (c.by_place-sum.ensures ∙ ap (by_place (c.loop-i.i + 1) c.even_value-v.result) c.from.ensures)

pub overflow_add-sum : goal.overflow_add-sum
overflow_add-sum c =
    let f = length-take-le 15 c.args.code.now (omega (arith, c.loop-i.invariant.0)) in
    let s = (values-tell (c.loop-i.i + 1)).small (get_or (take 15 c.args.code.now) c.loop-i.i 0) (sym c.place_right.ensures ∙ c.if-not-place_right.false) in
    let m = c.loop-i.invariant.1.small in
    omega (arith, value c)

pub loop-i-preserved : goal.loop-i-preserved
loop-i-preserved c =
    let e = sym c.place_right.ensures ∙ c.if-not-place_right.false in
    (c.loop-i.invariant.0, rw (value c) (person-on c.args.code.now c.loop-i.invariant.0 _ _ c.loop-i.invariant.1 c.loop-i-test.true e))

pub returns : goal.returns
returns c = rw (c.from-2.ensures, c.from-3.ensures) (sym (person-end c.args.code.now c.loop-i.invariant.0 _ _ c.loop-i.invariant.1 c.loop-i-test.false))
