-- The promise of `accounts_in` settles its answer.
use Prim.Native.Nat.{ℕ}
use mathlib.Core.Path.{◌≡◌, sym, ◌∙◌}
use mathlib.Core.List.{List}
use Rattle.ep_accounts.specs.Answers.{Accounts}
use Rattle.ep_accounts.specs.Accounts.{accounts_in}

-- `accounts_in`
pub one-accounts : (rec : List ℕ) (a b : Accounts) → a ≡ accounts_in rec → b ≡ accounts_in rec → a ≡ b
one-accounts rec a b p q = p ∙ sym q
