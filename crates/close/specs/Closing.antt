-- Believed. A flow closed up over deleghe whose numbers are in a list: "close the flow up over them, renumber the rest from 1".
use Rattle.std.specs.Prelude.{ℕ, zero, suc, ◌+◌, ◌-◌, Bool, true, false, cond, List, [], ◌∷◌, ◌++◌, length, replicate}
use Rattle.text.specs.Among.{among, from_to}
use Rattle.layout.specs.Kinds.{numbered, kind_in}
use Rattle.layout.specs.Fields.{delega_number, value_of}
use Rattle.rules.specs.Step.{next_deleghe}
use Rattle.judge.specs.Flow.{records_of}
use Rattle.rebalance.specs.Numbering.{with_number}
use Rattle.rebalance.specs.Rebalance.{flat}

-- "all records of a delega carry its number": a record that carries a number of the list goes, and any other stays
unfoldable pub stays : List ℕ → List ℕ → Bool
stays numbers r = cond (numbered (kind_in r)) (cond (among (value_of r delega_number) numbers) false true) true

-- "close the flow up": the records that stay, in their order
unfoldable pub kept_of : List ℕ → List (List ℕ) → List (List ℕ)
kept_of numbers [] = []
kept_of numbers (r ∷ rs) = cond (stays numbers r) (r ∷ kept_of numbers rs) (kept_of numbers rs)

-- "renumber the rest from 1": records behind n deleghe
unfoldable pub renumbered : ℕ → List (List ℕ) → List (List ℕ)
renumbered n [] = []
renumbered n (r ∷ rs) = with_number (kind_in r) (next_deleghe n (kind_in r)) r ∷ renumbered (next_deleghe n (kind_in r)) rs

-- "close the flow up over them, renumber the rest from 1": the bytes of the records that stay, with their new numbers
unfoldable pub closed_up : List ℕ → List ℕ → List ℕ
closed_up numbers f = flat (renumbered 0 (kept_of numbers (records_of f)))

-- "The room set free at the end of the lent buffer is filled with spaces": bytes in a room of n
unfoldable pub spaced : List ℕ → ℕ → List ℕ
spaced g n = g ++ replicate (n - length g) 32

-- "a number not in the flow or named twice": there is none such; every number of the list is one of n deleghe, and is named once
unfoldable pub each_once : ℕ → List ℕ → Bool
each_once n [] = true
each_once n (d ∷ ds) = cond (from_to 1 n d) (cond (among d ds) false (each_once n ds)) false

-- "when none would be left": of n deleghe, how many the list doesn't name
unfoldable pub left_of : List ℕ → ℕ → ℕ
left_of numbers zero = 0
left_of numbers (suc n) = left_of numbers n + cond (among (suc n) numbers) 0 1
