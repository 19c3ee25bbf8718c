-- Believed. A tax code that can exist: a person's or a firm's.
use Rattle.std.specs.Prelude.{ℕ, Bool, true, cond, List}
use Rattle.taxcode.specs.Persons.{person_right}
use Rattle.taxcode.specs.Firms.{firm_right}

-- "Sixteen characters follow the Italian decree"; "Eleven digits (a VAT number) and five spaces"
unfoldable pub code_right : List ℕ → Bool
code_right code = cond (person_right code) true (firm_right code)
