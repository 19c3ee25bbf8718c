-- Believed; `is_allowed` and `all_allowed` serve inner functions. The characters that a record may hold, and the first byte of a part that is none of them.
use Rattle.std.specs.Prelude.{ℕ, ◌+◌, List, [], ◌∷◌, Bool, true, false, cond}
use Rattle.text.specs.Among.{from_to}
use Rattle.text.specs.Answers.{Characters, Allowed, BadAt}

-- A byte outside 32 to 126 is no character of a flow.
abbrev pub allowed : ℕ → Bool
allowed b = from_to 32 126 b

-- The first byte that is no character, at its offset, where i bytes stand before the list.
unfoldable pub first_bad_from : ℕ → List ℕ → Characters
first_bad_from i [] = Allowed
first_bad_from i (b ∷ bs) = cond (allowed b) (first_bad_from (i + 1) bs) (BadAt i)

-- The first byte of a part that is no character, at its offset counted from 0.
abbrev pub first_bad : List ℕ → Characters
first_bad l = first_bad_from 0 l

-- Whether an answer says that every byte is a character.
abbrev pub is_allowed : Characters → Bool
is_allowed Allowed = true
is_allowed (BadAt i) = false

-- Every byte of a part is a character.
unfoldable pub all_allowed : List ℕ → Bool
all_allowed l = is_allowed (first_bad l)
