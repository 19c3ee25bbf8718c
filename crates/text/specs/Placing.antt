-- Believed. Bytes put at a place of a room, and numbers put there in digits.
use Rattle.std.specs.Prelude.{ℕ, ◌+◌, ◌^◌, List, ◌++◌, Bool, false, cond, ltb, leb, length, take, drop}
use Rattle.text.specs.Answers.{Put, Written, Unfit}
use Rattle.text.specs.Numbers.{digits_of}

-- The bytes bs stand at s, and every other byte of r stays.
unfoldable pub put_at : ℕ → List ℕ → List ℕ → List ℕ
put_at s bs r = take s r ++ (bs ++ drop (s + length bs) r)

-- A part of w bytes at s lies within a room of l bytes.
unfoldable pub part_fits : ℕ → ℕ → ℕ → Bool
part_fits s w l = leb (s + w) l

-- A number of at most w digits fits, where its w bytes at s lie within the room.
unfoldable pub number_fits : ℕ → ℕ → ℕ → ℕ → Bool
number_fits s w n l = cond (part_fits s w l) (ltb n (10 ^ w)) false

-- A part that lies within the room is written, and any other is not.
unfoldable pub part_answer : ℕ → List ℕ → List ℕ → Put
part_answer s bs r = cond (part_fits s (length bs) (length r)) Written Unfit

-- A part that does not lie within the room leaves every byte as it was.
unfoldable pub part_bytes : ℕ → List ℕ → List ℕ → List ℕ
part_bytes s bs r = cond (part_fits s (length bs) (length r)) (put_at s bs r) r

-- A number that fits is written, and any other is not.
unfoldable pub number_answer : ℕ → ℕ → ℕ → List ℕ → Put
number_answer s w n r = cond (number_fits s w n (length r)) Written Unfit

-- A number that does not fit leaves every byte as it was.
unfoldable pub number_bytes : ℕ → ℕ → ℕ → List ℕ → List ℕ
number_bytes s w n r = cond (number_fits s w n (length r)) (put_at s (digits_of w n) r) r
