-- The numbers that are handed back, one by one; and that they are read as what was handed back.
use Prim.Native.Nat.{ℕ, ◌+◌, ◌-◌, ◌<◌, ◌≤◌}
use mathlib.Core.Path.{◌≡◌, refl, sym, ap, ap₂, ◌∙◌}
use mathlib.Core.Bool.{true}
use mathlib.Core.List.{List, ◌∷◌, ◌++◌, append_assoc}
use native.Mathlib.Omega.{arith}
use lib.ListN.{length, take, drop, get_or, replicate, length-append, get_or-append}
use lib.Seq.{get_or-append-add, take-append_seam, drop-append_seam, drop-drop}
use Rattle.rules.specs.State.{start_state}
use Rattle.state.specs.Numbers.{overlay, sums_numbers, state_numbers}
use Rattle.portion.specs.declared.Course.{Course}
use Rattle.portion.specs.declared.Course.TheVariants.{Going, Accepted, Refused, Foreign}
use Rattle.portion.specs.declared.Progress.{Progress}
use Rattle.portion.specs.Portion.{start_progress, at_most}
use Rattle.handed.specs.Room.{course_numbers, course_of, progress_numbers, progress_of}

pub stands-four : (o : Course) → length (course_numbers o) ≡ 4
stands-four Going = refl
stands-four Accepted = refl
stands-four (Refused n r p) = refl
stands-four Foreign = refl

module _ (x : Progress) where
  pub numbers-stand : (i : ℕ) → i < 4 → get_or (progress_numbers x) i 0 ≡ get_or (course_numbers x.course) i 0
  unfolding progress_numbers
  numbers-stand i h = get_or-append (course_numbers x.course) (x.kept ++ x.name) 0 i (omega (arith, stands-four x.course))

  behind : (i : ℕ) → get_or (progress_numbers x) (4 + i) 0 ≡ get_or (x.kept ++ x.name) i 0
  unfolding progress_numbers
  behind i = ap (λ (m : ℕ). get_or (course_numbers x.course ++ (x.kept ++ x.name)) (m + i) 0) (sym (stands-four x.course)) ∙ get_or-append-add (course_numbers x.course) (x.kept ++ x.name) i 0

  module _ (k : length x.kept ≡ 29) where
    pub numbers-kept : (i : ℕ) → 4 ≤ i → i < 33 → get_or (progress_numbers x) i 0 ≡ get_or x.kept (i - 4) 0
    numbers-kept i g h =
        ap (λ (m : ℕ). get_or (progress_numbers x) m 0) (let e : i ≡ 4 + (i - 4) = omega arith in e) ∙ (behind (i - 4) ∙ get_or-append x.kept x.name 0 (i - 4) (omega arith))

    pub numbers-name : (i : ℕ) → 33 ≤ i → get_or (progress_numbers x) i 0 ≡ get_or x.name (i - 33) 0
    numbers-name i g =
        ap (λ (m : ℕ). get_or (progress_numbers x) m 0) (let e : i ≡ 4 + (i - 4) = omega arith in e)
        ∙ (behind (i - 4)
        ∙ (ap (λ (m : ℕ). get_or (x.kept ++ x.name) m 0) (let e : i - 4 ≡ length x.kept + (i - 33) = omega arith in e) ∙ get_or-append-add x.kept x.name (i - 33) 0))

    pub numbers-length : length x.name ≡ 20 → length (progress_numbers x) ≡ 53
    unfolding progress_numbers
    numbers-length n = length-append (course_numbers x.course) (x.kept ++ x.name) ∙ omega (arith, stands-four x.course, length-append x.kept x.name)

-- what was handed back is read as what it was, whatever stood in the room and stands behind it
course-back : (o : Course) → (o ≡ Foreign → ⊥) → course_of (get_or (course_numbers o) 0 0) (get_or (course_numbers o) 1 0) (get_or (course_numbers o) 2 0) (get_or (course_numbers o) 3 0) ≡ o
course-back Going d = refl
course-back Accepted d = refl
course-back (Refused n r p) d = refl
course-back Foreign d = absurd (d refl)

module _ (x : Progress) (k : length x.kept ≡ 29) (n : length x.name ≡ 20) (room : List ℕ) where
  abbrev after : List ℕ
  after = overlay (progress_numbers x) room

  abbrev rest : List ℕ
  rest = drop (length (progress_numbers x)) room

  after_is : after ≡ course_numbers x.course ++ (x.kept ++ (x.name ++ rest))
  unfolding overlay progress_numbers
  after_is = append_assoc (course_numbers x.course) (x.kept ++ x.name) rest ∙ ap (λ (l : List ℕ). course_numbers x.course ++ l) (append_assoc x.kept x.name rest)

  behind-stands : drop 4 after ≡ x.kept ++ (x.name ++ rest)
  behind-stands = ap₂ drop (sym (stands-four x.course)) after_is ∙ drop-append_seam (course_numbers x.course) (x.kept ++ (x.name ++ rest))

  kept_there : take 29 (drop 4 after) ≡ x.kept
  kept_there = ap₂ take (sym k) behind-stands ∙ take-append_seam x.kept (x.name ++ rest)

  name-there : take 20 (drop 33 after) ≡ x.name
  name-there =
      ap (take 20) (sym (drop-drop 29 4 after) ∙ (ap (drop 29) behind-stands ∙ (ap (λ (i : ℕ). drop i (x.kept ++ (x.name ++ rest))) (sym k) ∙ drop-append_seam x.kept (x.name ++ rest))))
      ∙ (ap (λ (i : ℕ). take i (x.name ++ rest)) (sym n) ∙ take-append_seam x.name rest)

  stands-there : (i : ℕ) → i < 4 → get_or after i 0 ≡ get_or (course_numbers x.course) i 0
  stands-there i h = ap (λ (l : List ℕ). get_or l i 0) after_is ∙ get_or-append (course_numbers x.course) (x.kept ++ (x.name ++ rest)) 0 i (omega (arith, stands-four x.course))

  pub handed-back-is-read : (x.course ≡ Foreign → ⊥) → at_most 255 x.name ≡ true → progress_of after ≡ x
  unfolding progress_of
  handed-back-is-read d b =
      rw (name-there, b, kept_there, stands-there 0 (omega arith), stands-there 1 (omega arith), stands-there 2 (omega arith), stands-there 3 (omega arith), course-back x.course d)

-- the start is a 1 and 52 zeros
pub start-numbers : progress_numbers start_progress ≡ 1 ∷ replicate 52 0
unfolding progress_numbers start_progress state_numbers sums_numbers start_state
start-numbers = refl
