use Rattle.std.proofs.Common.{◌≡◌, ℕ, ◌+◌, ◌≤◌, ◌-◌, ◌%◌, Bool, false, cond, List, length, get_or, take, drop, eqb, sym, arith, ◌∙◌}
use lib.ListN.{length-drop}
use lib.Seq.{take_all, length-take-le}
use Rattle.taxcode.specs.Places.{every_from}
use Rattle.taxcode.specs.Firms.{digit_or_space, count_at, firm_right}
use Rattle.taxcode.proofs.Digits.{counts-tell, digit-tested}
use Rattle.taxcode.proofs.Turns.{Counted}
use Rattle.taxcode.proofs.FirmTurns.{firm-length, firm-stop, firm-on, firm-end}
use Rattle.taxcode.proofs.firms.firm_right.Goals as goal

pub returns-then-code-ne-PLACES : goal.returns-then-code-ne-PLACES
returns-then-code-ne-PLACES c = sym (firm-length _ c.if-code-ne-PLACES.true)

pub returns-then-not-is_ascii_digit : goal.returns-then-not-is_ascii_digit
returns-then-not-is_ascii_digit c =
    sym (firm-stop c.args.code.now c.loop-i.invariant.0 _ _ c.loop-i.invariant.1 c.loop-i-test.true (sym (digit-tested (get_or (take 11 c.args.code.now) c.loop-i.i 0)) ∙ sym c.is_ascii_digit.ensures.value ∙ c.if-not-is_ascii_digit.true))

pub overflow_add-sum : goal.overflow_add-sum
overflow_add-sum c =
    let f = length-take-le 11 c.args.code.now (omega (arith, c.loop-i.invariant.0)) in
    let s = (counts-tell (c.loop-i.i + 1)).small (get_or (take 11 c.args.code.now) c.loop-i.i 0) (sym (digit-tested (get_or (take 11 c.args.code.now) c.loop-i.i 0)) ∙ sym c.is_ascii_digit.ensures.value ∙ c.if-not-is_ascii_digit.false) in
    let m = c.loop-i.invariant.1.small in
    omega (arith, c.count_at-sum.ensures)

pub loop-i-preserved : goal.loop-i-preserved
loop-i-preserved c =
    let e = sym (digit-tested (get_or (take 11 c.args.code.now) c.loop-i.i 0)) ∙ sym c.is_ascii_digit.ensures.value ∙ c.if-not-is_ascii_digit.false in
    (c.loop-i.invariant.0, rw c.count_at-sum.ensures (firm-on c.args.code.now c.loop-i.invariant.0 _ _ c.loop-i.invariant.1 c.loop-i-test.true e))

-- What stands behind the digits has been looked at.
ended : (code : List ℕ) (r : Bool) (sum i : ℕ) → length code ≡ 16 → Counted digit_or_space count_at (take 11 code) sum i → length (take 11 code) ≤ i →
    r ≡ every_from digit_or_space 12 (take (length code - 11) (drop 11 code)) → firm_right code ≡ cond r (eqb (sum % 10) 0) false
ended code r sum i l c h e =
    let a = take_all (length code - 11) (drop 11 code) (rw length-drop (omega arith)) in
    rw (e, a) (firm-end code l sum i c h)

pub returns-then-spaces_only : goal.returns-then-spaces_only
returns-then-spaces_only c = sym (rw c.if-spaces_only.true at (ended _ _ _ _ c.loop-i.invariant.0 c.loop-i.invariant.1 c.loop-i-test.false c.spaces_only.ensures))

pub returns-else-spaces_only : goal.returns-else-spaces_only
returns-else-spaces_only c =
    c.if-spaces_only.false ∙ sym (rw c.if-spaces_only.false at (ended _ _ _ _ c.loop-i.invariant.0 c.loop-i.invariant.1 c.loop-i-test.false c.spaces_only.ensures))
