-- Believed. What is handed back, as numbers in room that the caller keeps.
use Rattle.std.specs.Prelude.{ℕ, cond, List, [], ◌∷◌, ◌++◌, eqb, take, drop, get_or, replicate}
use Rattle.portion.specs.declared.Course.{Course}
use Rattle.portion.specs.declared.Course.TheVariants.{Going, Accepted, Refused, Foreign}
use Rattle.portion.specs.declared.Progress.{Progress}
use Rattle.portion.specs.Portion.{at_most}

-- How a judgement stands is 1 where it goes on, 2 where it has ended with acceptance, 3 where with a refusal, which stands behind it.
abbrev pub course_numbers : Course → List ℕ
course_numbers Going = 1 ∷ 0 ∷ 0 ∷ 0 ∷ []
course_numbers Accepted = 2 ∷ 0 ∷ 0 ∷ 0 ∷ []
course_numbers (Refused n r p) = 3 ∷ n ∷ r ∷ p ∷ []
course_numbers Foreign = 0 ∷ 0 ∷ 0 ∷ 0 ∷ []

-- And so it is read; any other first number is that of no judgement.
abbrev pub course_of : ℕ → ℕ → ℕ → ℕ → Course
course_of a n r p = cond (eqb a 1) Going (cond (eqb a 2) Accepted (cond (eqb a 3) (Refused n r p) Foreign))

-- Then come the numbers of the state, and the bytes of the name.
unfoldable pub progress_numbers : Progress → List ℕ
progress_numbers x = course_numbers x.course ++ (x.kept ++ x.name)

-- Numbers that are no bytes are no name, and nothing that a judgement handed back.
abbrev pub no_progress : Progress
no_progress = record { course = Foreign; kept = replicate 29 0; name = replicate 20 0 }

-- What the numbers of a room say was handed back.
unfoldable pub progress_of : List ℕ → Progress
progress_of l = cond (at_most 255 (take 20 (drop 33 l))) (record { course = course_of (get_or l 0 0) (get_or l 1 0) (get_or l 2 0) (get_or l 3 0); kept = take 29 (drop 4 l); name = take 20 (drop 33 l) }) no_progress
