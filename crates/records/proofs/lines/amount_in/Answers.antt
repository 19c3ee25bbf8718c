-- `records::lines::amount_in` meets its contract: where no amount is said, the field counts 0.
use Prim.Native.Nat.{ℕ, ◌+◌, ◌-◌}
use mathlib.Core.List.{List}
use mathlib.Core.Path.{◌≡◌, ap, ◌∙◌}
use native.Mathlib.Omega.{arith}
use lib.ListN.{take, drop}
use Rattle.std.specs.Option.{unwrap_or}
use Rattle.words.specs.Answers.{Fifteen}
use Rattle.text.specs.Numbers.{number_of, amount_of}
use Rattle.layout.specs.Fields.{amount_at, bytes_of}
use Rattle.words.proofs.FifteenDigits.{amount-or-zero}
use Rattle.records.proofs.lines.amount_in.Goals as goal
use Rattle.records.proofs.lines.amount_in.Goals.{After-any_amount_at}

-- The field is the fifteen bytes that were read.
fifteen : (c : After-any_amount_at) → take 15 (drop c.args.at c.args.rec.now) ≡ bytes_of c.args.rec.now (amount_at c.args.at)
fifteen c =
    let at = c.args.at in
    let e : 15 ≡ at + 15 - at = omega arith in
    ap (λ n. take n (drop at c.args.rec.now)) e

pub returns : goal.returns
returns c =
    let s = (goal.at.returns c).After-any_amount_at in
    c.unwrap_or.ensures ∙ (ap (λ (a : Fifteen). unwrap_or a 0) s.any_amount_at.ensures ∙ (amount-or-zero (number_of (take 15 (drop s.args.at s.args.rec.now))) ∙ ap (λ (l : List ℕ). amount_of (number_of l)) (fifteen s)))
