-- A refusal to drop deleghe has a number.
use Prim.Native.Nat.{ℕ, ◌≤◌}
use mathlib.Core.Path.{◌≡◌}
use mathlib.Core.List.{List}
use native.Mathlib.Omega.{arith}
use Rattle.judge.proofs.FirstFault.{judgement-number}
use Rattle.dropping.specs.Answers.{Refused}
use Rattle.dropping.specs.Dropping.{dropping_of}
use Rattle.dropping.specs.WhenRefused.{Answers, NotAccepted, BadList, NoneLeft}
use Rattle.dropping.proofs.Answered.{answered-exactly}

-- That of the judgement, 21 or 28: by the reason.
refused-number : (f numbers : List ℕ) {n r p : ℕ} → Answers f numbers (Refused n r p) → 1 ≤ n
refused-number f numbers (NotAccepted e) = (judgement-number f e).0
refused-number f numbers (BadList a x) = omega arith
refused-number f numbers (NoneLeft g h) = omega arith

-- So none of them is 0.
pub dropping-number : (f numbers : List ℕ) {n r p : ℕ} → dropping_of f numbers ≡ Refused n r p → 1 ≤ n
dropping-number f numbers e = refused-number f numbers ((answered-exactly f numbers _).0 e)
