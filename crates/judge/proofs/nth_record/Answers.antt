-- `judge::nth_record` meets its contract: the bytes of the part are those of the record, by the laws of `Records`.
use lib.ListN.{take, drop}
use mathlib.Core.Path.{◌≡◌, refl, sym, ap, ◌∙◌}
use Prim.Native.Nat.{ℕ, ◌-◌, ◌*◌}
use native.Mathlib.Omega.{arith}
use Rattle.judge.proofs.Records.{none_first, none-beyond, record-there}
use Rattle.judge.proofs.nth_record.Goals as goal
use Rattle.judge.proofs.nth_record.Goals.{then-k-eq0-via-then-k-eq0, then-k-eq0-via-else-k-eq0+then-flow-k}

pub returns-then-k-eq0 : goal.returns-then-k-eq0
returns-then-k-eq0 c =
    elim c.then-k-eq0.branch [
      | then-k-eq0-via-then-k-eq0 w ↦ let e = none_first c.args.flow.now c.args.k w.if-k-eq0.true in (sym e.0, refl, omega (arith, e.1))
      | then-k-eq0-via-else-k-eq0+then-flow-k w ↦ let e = none-beyond c.args.flow.now c.args.k w.if-flow-k.true in (sym e.0, refl, omega (arith, e.1))
    ]

pub returns : goal.returns
returns c =
    let k = c.args.k in
    let f = c.args.flow.now in
    let e = record-there f k c.if-k-eq0.false c.if-flow-k.false in
    let w : k * 120 - (k * 120 - 120) ≡ 120 = omega arith in
    (ap (λ (m : ℕ). take m (drop (k * 120 - 120) f)) w ∙ sym e.0, refl, omega (arith, e.1))
