use mathlib.Core.Path.{◌≡◌, sym, ap, ◌∙◌}
use mathlib.Core.Bool.{true}
use Prim.Native.Nat.{ℕ, ◌+◌, ◌-◌, ◌*◌, ◌≤◌}
use native.Mathlib.Omega.{arith}
use mathlib.Core.List.{List}
use lib.ListN.{take, drop}
use lib.Seq.{drop-drop}
use Rattle.text.specs.Characters.{first_bad_from, all_allowed}
use Rattle.text.proofs.Allowed.{allowed-more}
use Rattle.records.proofs.clean_records.Goals as goal

-- where records are clean behind those seen and a block behind them is clean too, all of them are
cleaner : (l : List ℕ) (m n b : ℕ) → m ≤ n → all_allowed (take ((n - m) * 120) (drop (m * 120) l)) ≡ true → all_allowed (take (b * 120) (drop (n * 120) l)) ≡ true → all_allowed (take ((n + b - m) * 120) (drop (m * 120) l)) ≡ true
cleaner l m n b h p q =
    let e : (n - m) * 120 + b * 120 ≡ (n + b - m) * 120 = omega arith in
    let f : m * 120 + (n - m) * 120 ≡ n * 120 = omega arith in
    let d : drop ((n - m) * 120) (drop (m * 120) l) ≡ drop (n * 120) l = drop-drop ((n - m) * 120) (m * 120) l ∙ ap (λ (i : ℕ). drop i l) f in
    rw e at (allowed-more (drop (m * 120) l) ((n - m) * 120) (b * 120) p (rw d q))

pub loop-k-init : goal.loop-k-init
unfolding all_allowed first_bad_from
loop-k-init c = let e : (c.args.seen - c.args.seen) * 120 ≡ 0 = omega arith in (omega arith, c.requires, omega arith, rw e)

pub loop-k-preserved-then-long_allowed : goal.loop-k-preserved-then-long_allowed
loop-k-preserved-then-long_allowed c =
    let i = c.loop-k.invariant in
    let m = c.min-block.ensures in
    let t = c.loop-k-test.true in
    let e : (c.loop-k.k + c.min-block.result) * 120 - c.loop-k.k * 120 ≡ c.min-block.result * 120 = omega arith in
    let clean = rw e at (sym c.long_allowed.ensures ∙ c.if-long_allowed.true) in
    (omega arith, omega arith, omega arith, cleaner c.args.flow.now c.args.seen c.loop-k.k c.min-block.result i.0 i.3 clean)
