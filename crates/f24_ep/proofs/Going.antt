-- Laws of a reading that goes on: whole records have been taken from the start, and one piece more leaves a course of pieces.
use Prim.Native.Nat.{ℕ, ◌+◌, ◌<◌, ◌≤◌}
use mathlib.Core.Path.{◌≡◌, refl, sym, ap, ◌∙◌}
use mathlib.Core.Bool.{false}
use mathlib.Core.List.{List, [], ◌∷◌, ◌++◌}
use native.Mathlib.Omega.{arith}
use lib.ListN.{length, take, length-take, length-append}
use Rattle.ep.specs.declared.Course.{Course}
use Rattle.ep.specs.Answers.{EpAnswer}
use Rattle.ep.specs.Bounds.{Sound}
use Rattle.ep.specs.Stream.{start_course, took, took_all, joined, answered}
use Rattle.ep.proofs.Streamed.{Whole, whole-last, whole-cut, cut-last, took-last, sound-start, sound-took, streamed, too_many}
use Rattle.f24_ep.specs.Reading.{FromPieces, FromBytes}

-- A course is what so many whole records have come to.
pub record Going (c : Course) (k : ℕ) : Type 0 where
  pub pieces : List (List ℕ)
  pub whole : Whole pieces
  pub many : length pieces ≡ k
  pub course : c ≡ took_all start_course pieces

-- Before the first there are none.
pub going_start : (c : Course) → c ≡ start_course → Going c 0
unfolding took_all
going_start c e = record { pieces = []; whole = tt; many = refl; course = e }

-- Pieces leave a sound course.
sound-all : (c : Course) (ps : List (List ℕ)) → Sound c → Sound (took_all c ps)
unfolding took_all
sound-all c [] s = s
sound-all c (p ∷ ps) s = sound-all (took c p) ps (sound-took c p s)

pub sound-pieces : (c : Course) (ps : List (List ℕ)) → c ≡ took_all start_course ps → Sound c
sound-pieces c ps e = rw e (sound-all start_course ps sound-start)

-- A reading may end here.
pub going-ends : (c : Course) (k : ℕ) → Going c k → k ≤ 10001 → FromPieces c
going-ends c k g h = record { pieces = g.pieces; cut = whole-cut g.pieces g.whole; few = omega (arith, g.many); course = g.course }

-- One piece more: the first n bytes of a room of one record.
module _ (c d : Course) (k n : ℕ) (room : List ℕ) (g : Going c k) (e : d ≡ took c (take n room)) (l : length room ≡ 1900) (m : n ≤ 1900) where
  size : length (take n room) ≡ n
  size = simp length-take (omega arith)

  one_more : length (g.pieces ++ (take n room ∷ [])) ≡ k + 1
  one_more = omega (arith, length-append g.pieces (take n room ∷ []), g.many)

  course-last : d ≡ took_all start_course (g.pieces ++ (take n room ∷ []))
  course-last = e ∙ ap (λ (x : Course). took x (take n room)) g.course ∙ sym (took-last start_course g.pieces (take n room))

  -- Behind a whole record the reading goes on.
  pub going_on : 1900 ≤ n → Going d (k + 1)
  going_on h = record { pieces = g.pieces ++ (take n room ∷ []); whole = whole-last g.pieces (take n room) g.whole (omega (arith, size)); many = one_more; course = course-last }

  -- Behind any other it ends.
  pub going-last : 0 < n → k < 10001 → FromPieces d
  going-last h f = record { pieces = g.pieces ++ (take n room ∷ []); cut = cut-last g.pieces (take n room) g.whole (omega (arith, size)) (omega (arith, size)); few = omega (arith, one_more); course = course-last }

-- The answer of a course of pieces is the judgement of their bytes.
pub answer-of-bytes : (c : Course) (a : EpAnswer) → FromPieces c → a ≡ answered c → FromBytes a
answer-of-bytes c a g e = record { bytes = joined g.pieces; answer = e ∙ ap answered g.course ∙ streamed g.pieces g.cut }

-- Behind so many records there are too many.
pub going-full : (c : Course) (k : ℕ) → Going c k → 10000 < k → c.fits ≡ false
going-full c k g h = ap (λ (d : Course). d.fits) g.course ∙ too_many g.pieces g.whole (omega (arith, g.many))
