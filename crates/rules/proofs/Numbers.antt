-- Check 8 of a record that carries a number: the number is that of the delega that the record is of.
use Prim.Native.Nat.{ℕ}
use mathlib.Core.Path.{◌≡◌, refl}
use mathlib.Core.Bool.{true, false≢true}
use Rattle.layout.specs.declared.Kind.{Kind}
use Rattle.layout.specs.declared.Kind.TheVariants.{Head, Taxpayer, Domicile, Line, Balance, Payment, Receipt, Addressee, Tail, Unknown}
use Rattle.layout.specs.Kinds.{numbered}
use Rattle.rules.specs.Checks.{carried, number_fault}
use Rattle.rules.specs.Step.{next_deleghe}

-- a record that carries a number carries that of the delega it is of, as the step counts it
pub numbered-fault : (d : ℕ) (k : Kind) (n : ℕ) → numbered k ≡ true → number_fault d k n ≡ carried (next_deleghe d k) n
unfolding numbered number_fault
numbered-fault d Head n h = absurd (false≢true h)
numbered-fault d Taxpayer n h = refl
numbered-fault d Domicile n h = refl
numbered-fault d (Line s) n h = refl
numbered-fault d (Balance s) n h = refl
numbered-fault d Payment n h = refl
numbered-fault d Receipt n h = refl
numbered-fault d Addressee n h = refl
numbered-fault d Tail n h = absurd (false≢true h)
numbered-fault d Unknown n h = absurd (false≢true h)
