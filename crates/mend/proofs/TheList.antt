-- The list afterwards, number by number: record and start of each field that is listed, and past them what was there; and how long it must be.
use Rattle.std.specs.Prelude.{Err}
use Prim.Native.Nat.{ℕ, zero, suc, ◌+◌, ◌-◌, ◌*◌, ◌<◌, ◌≤◌}
use mathlib.Core.Path.{◌≡◌, refl, sym, ap, ◌∙◌}
use mathlib.Core.Bool.{false≢true}
use mathlib.Core.List.{List, [], ◌∷◌, ◌++◌}
use native.Mathlib.Omega.{arith}
use lib.ListN.{length, drop, get_or, length-append, length-drop, get_or-append}
use lib.Seq.{get_or-append-add, get_or-drop}
use Rattle.text.specs.Among.{among}
use Rattle.rules.specs.State.{start_state}
use Rattle.state.specs.Numbers.{overlay}
use Rattle.judge.specs.Flow.{records_of, head_name_of}
use Rattle.judge.proofs.OwnNumbers.{in-fault}
use Rattle.changes.specs.Changes.{Place, place, changes_of, place_numbers}
use Rattle.changes.proofs.Listed.{few-changes}
use Rattle.mend.specs.Answers.{Mending, Mended, Refused}
use Rattle.mend.specs.Mending.{refusal_mended, mending_of, mended_list}
use Rattle.mend.specs.WhenRefused.{FirstRemaining, Answers, TooLong, NotWhole, FaultAt, NoTail, NoFit, ShortList, IsRebalanced}
use Rattle.mend.proofs.Answered.{remaining-in, answered-exactly}
use Rattle.mend.proofs.MendedFlow.{rebalanced-when, list-by}

-- Two numbers for each place.
length-numbers : (ps : List Place) → length (place_numbers ps) ≡ 2 * length ps
unfolding place_numbers
length-numbers [] = refl
length-numbers (p ∷ ps) = omega (arith, length-numbers ps)

-- The i-th place, counted from 0.
abbrev pub place_at : List Place → ℕ → Place
place_at ps i = get_or ps i (place 0 0)

-- Its record and its start stand at twice i and behind it.
numbers-at : (ps : List Place) (i : ℕ) → i < length ps → (get_or (place_numbers ps) (2 * i) 0 ≡ (place_at ps i).«record») × (get_or (place_numbers ps) (2 * i + 1) 0 ≡ (place_at ps i).start)
unfolding place_numbers
numbers-at [] i h = absurd (omega arith)
numbers-at (p ∷ ps) zero h = (refl, refl)
numbers-at (p ∷ ps) (suc i) h =
    let g = numbers-at ps i (omega arith) in
    let e : 2 * suc i ≡ suc (suc (2 * i)) = omega arith in
    let d : suc (suc (2 * i)) + 1 ≡ suc (suc (2 * i + 1)) = omega arith in
    (rw e g.0, rw (e, d) g.1)

module _ (f list : List ℕ) {n : ℕ} (e : mending_of f list ≡ Mended n) where
  list-is : mended_list f list ≡ place_numbers (changes_of f) ++ drop (length (place_numbers (changes_of f))) list
  unfolding overlay
  list-is = list-by f list e

  counted : length (place_numbers (changes_of f)) ≡ 2 * n
  counted = length-numbers (changes_of f) ∙ ap (λ (m : ℕ). 2 * m) (sym (rebalanced-when f list e).counted)

  -- "lists each field changed, with record and start": entry by entry.
  pub list-entry : (i : ℕ) → i < n → (get_or (mended_list f list) (2 * i) 0 ≡ (place_at (changes_of f) i).«record») × (get_or (mended_list f list) (2 * i + 1) 0 ≡ (place_at (changes_of f) i).start)
  list-entry i h =
      let g = numbers-at (changes_of f) i (omega (arith, (rebalanced-when f list e).counted)) in
      let at : (j : ℕ) → j < 2 * n → get_or (mended_list f list) j 0 ≡ get_or (place_numbers (changes_of f)) j 0 = λ j k. ap (λ (l : List ℕ). get_or l j 0) list-is ∙ get_or-append (place_numbers (changes_of f)) _ 0 j (omega (arith, counted)) in
      (at (2 * i) (omega arith) ∙ g.0, at (2 * i + 1) (omega arith) ∙ g.1)

  -- "a call that succeeds leaves so the lent room past what it writes"
  pub list-rest : (j : ℕ) → 2 * n ≤ j → get_or (mended_list f list) j 0 ≡ get_or list j 0
  list-rest j h =
      let ns = place_numbers (changes_of f) in
      let i : j ≡ length ns + (j - length ns) = omega (arith, counted) in
      ap (λ (l : List ℕ). get_or l j 0) list-is
      ∙ (ap (λ (x : ℕ). get_or (ns ++ drop (length ns) list) x 0) i
      ∙ (get_or-append-add ns (drop (length ns) list) (j - length ns) 0 ∙ (get_or-drop (length ns) list (j - length ns) 0 ∙ ap (λ (x : ℕ). get_or list x 0) (sym i))))

-- Any list keeps its length.
pub list_length : (f list : List ℕ) → length (mended_list f list) ≡ length list
list_length f list = go (mending_of f list) refl
  where
    go : (m : Mending) → mending_of f list ≡ m → length (mended_list f list) ≡ length list
    go (Mended n) e = let b = rebalanced-when f list e in rw (list-is f list e) (omega (arith, length-append (place_numbers (changes_of f)) (drop (length (place_numbers (changes_of f))) list), length-drop (length (place_numbers (changes_of f))) list, counted f list e, b.room))
    go (Err why) e = ap length (list-by f list e)

-- A list of 4,368 numbers, eight for each of 546 records, is never too short.
pub long-list : (f list : List ℕ) {r p : ℕ} → 4368 ≤ length list → mending_of f list ≡ Refused 27 r p → ⊥
unfolding among
long-list f list {r} {p} h e = way ((answered-exactly f list (Refused 27 r p)).0 e) refl
  where
    number : {m k j : ℕ} → Refused m k j ≡ Refused 27 r p → m ≡ 27
    number c = ap (λ (y : Mending). (refusal_mended y).number) c

    other : {m k j : ℕ} → FirstRemaining (head_name_of f) start_state (records_of f) m k j → m ≡ 27 → ⊥
    other t q = false≢true (rw q at (in-fault (remaining-in t)))

    way : {x : Mending} → Answers f list x → x ≡ Refused 27 r p → ⊥
    way (TooLong g) c = omega (arith, number c)
    way (NotWhole g d) c = omega (arith, number c)
    way (FaultAt w t) c = other t (number c)
    way (NoTail w g d) c = omega (arith, number c)
    way (NoFit m g) c = omega (arith, number c)
    way (ShortList m g k) c = omega (arith, few-changes f, m.whole.short)
    way (IsRebalanced m g k) c = let z : ◌≡◌ {A = ℕ} 0 1 = cc in absurd (omega arith)
