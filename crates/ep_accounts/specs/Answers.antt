-- Believed. What the accounts of a V come to is called in the definitions.
use Rattle.std.specs.Prelude.{ℕ, Result, Ok, Err}
use Rattle.ep_accounts.specs.declared.AccountsError.{AccountsError}
use Rattle.ep_accounts.specs.declared.AccountsError.TheVariants as Why

-- the sum of the used debits, or what is wrong
abbrev pub Accounts : Type 0
Accounts = Result ℕ AccountsError

pattern abbrev pub Sum : ℕ → Accounts
Sum n = Ok n

pattern abbrev pub NonDigit : Accounts
NonDigit = Err Why.NonDigit

pattern abbrev pub Unequal : Accounts
Unequal = Err Why.Unequal
