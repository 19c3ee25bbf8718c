-- Every record is a line or counts among the others.
use Prim.Native.Nat.{ℕ, ◌+◌}
use mathlib.Core.Path.{◌≡◌}
use native.Mathlib.Omega.{arith}
use Rattle.layout.specs.declared.Kind.{Kind}
use Rattle.layout.specs.declared.Kind.TheVariants.{Head, Taxpayer, Domicile, Line, Balance, Payment, Receipt, Addressee, Tail, Unknown}
use Rattle.layout.specs.Kinds.{of_line}
use Rattle.rules.specs.Step.{next_others}

-- a line counts, and no other record does: one record is one line or one more of the others
pub counted-once : (n : ℕ) (k : Kind) → next_others n k + of_line 0 (λ s. 1) k ≡ n + 1
counted-once n Head = omega arith
counted-once n Taxpayer = omega arith
counted-once n Domicile = omega arith
counted-once n (Line s) = omega arith
counted-once n (Balance s) = omega arith
counted-once n Payment = omega arith
counted-once n Receipt = omega arith
counted-once n Addressee = omega arith
counted-once n Tail = omega arith
counted-once n Unknown = omega arith
