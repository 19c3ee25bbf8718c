-- Laws of the judgement over records: where it starts, how it goes on over one record, and where it stops.
use Prim.Native.Nat.{ℕ, suc, ◌+◌, ◌-◌, ◌*◌, ◌/◌, ◌%◌, ◌<◌, ◌≤◌}
use mathlib.Core.Path.{◌≡◌, refl, sym, ap, ◌∙◌}
use mathlib.Core.Bool.{Bool, true, false, cond, false≢true}
use mathlib.Core.List.{List, [], ◌∷◌}
use native.Mathlib.Omega.{arith}
use borrow.Author.Tests.{eq-eqb, ne_eqb, le-ltb, eqb-true, eqb-false, ltb-false}
use lib.Dec.{eqb, ltb}
use lib.ListN.{length, take, drop}
use lib.Seq.{drop-drop}
use Rattle.std.specs.Prelude.{Err}
use Rattle.refusal.specs.declared.Refusal.{Refusal}
use Rattle.ep.specs.Answers.{Outcome, Pass, Refused}
use Rattle.ep.specs.declared.Tally.{Tally}
use Rattle.ep.specs.declared.Step.{Step}
use Rattle.text.proofs.Bytes.{part_length}
use Rattle.text.proofs.Tests.{untrue}
use Rattle.ep.specs.Bounds.{Small}
use Rattle.ep.specs.Plain.{Sized}
use Rattle.ep.proofs.Steps.{seen_next, small-next}
use Rattle.ep.specs.Payments.{no_tally, fault, next, stepped, unless, ended, judged_from, records_in, size_right, judged}

-- Lengths that are not refused 30.
pub size-sized : (l : ℕ) → size_right l ≡ true → Sized l
unfolding size_right
size-sized l e = go (eqb l 0) refl (ltb 19000000 l) refl e
  where
    go : (a : Bool) → eqb l 0 ≡ a → (b : Bool) → ltb 19000000 l ≡ b → cond a false (cond b false (eqb (l % 1900) 0)) ≡ true → Sized l
    go true p b q f = absurd (false≢true f)
    go false p true q f = absurd (false≢true f)
    go false p false q f = let n = eqb-false l 0 p in record { some = omega arith; most = ltb-false 19000000 l q; whole = eqb-true _ _ f }

pub sized-size : (l : ℕ) → Sized l → size_right l ≡ true
unfolding size_right
sized-size l s = rw (ne_eqb l 0 (λ e. absurd (omega (arith, s.some))), le-ltb 19000000 l s.most, eq-eqb _ _ s.whole)

module _ (s : List ℕ) where
  pub judged-30 : size_right (length s) ≡ false → judged s ≡ Refused 30 0 0
  unfolding judged
  judged-30 e = rw e

  -- A length that is wrong is refused 30 at 0, 0, whatever the records hold.
  pub length-refused : (Sized (length s) → ⊥) → judged s ≡ Refused 30 0 0
  length-refused n = judged-30 (untrue (size_right (length s)) (λ e. n (size-sized (length s) e)))

  pub judged-start : size_right (length s) ≡ true → judged s ≡ judged_from no_tally (records_in (length s / 1900) s)
  unfolding judged
  judged-start e = rw e

  -- One record more of those that are left.
  pub record-on : (n i : ℕ) → i < n → records_in (n - i) (drop (i * 1900) s) ≡ take 1900 (drop (i * 1900) s) ∷ records_in (n - (i + 1)) (drop ((i + 1) * 1900) s)
  unfolding records_in
  record-on n i h =
      let e : n - i ≡ suc (n - (i + 1)) = omega arith in
      let d : i * 1900 + 1900 ≡ (i + 1) * 1900 = omega arith in
      ap (λ (k : ℕ). records_in k (drop (i * 1900) s)) e ∙ ap (λ (l : List ℕ). take 1900 (drop (i * 1900) s) ∷ records_in (n - (i + 1)) l) (drop-drop 1900 (i * 1900) s ∙ ap (λ (k : ℕ). drop k s) d)

  pub record-none : (n i : ℕ) → n ≤ i → records_in (n - i) (drop (i * 1900) s) ≡ []
  unfolding records_in
  record-none n i h = let e : n - i ≡ 0 = omega arith in ap (λ (k : ℕ). records_in k (drop (i * 1900) s)) e

module _ (t : Tally) (r : List ℕ) (rs : List (List ℕ)) (d : Step) (e : d ≡ stepped t r) where
  -- Over a record without a fault the judgement goes on.
  pub judged-on : d.outcome ≡ Pass → judged_from t (r ∷ rs) ≡ judged_from d.tally rs
  unfolding judged_from stepped
  judged-on p =
      let f : fault t r ≡ Pass = sym (ap (λ (x : Step). x.outcome) e) ∙ p in
      ap (λ (o : Outcome). unless o (judged_from (next t r) rs)) f ∙ ap (λ (u : Tally). judged_from u rs) (sym (ap (λ (x : Step). x.tally) e))

  -- The first fault ends it.
  pub judged-stop : (w : Refusal) → d.outcome ≡ Err w → judged_from t (r ∷ rs) ≡ Err w
  unfolding judged_from stepped
  judged-stop w p =
      let f : fault t r ≡ Err w = sym (ap (λ (x : Step). x.outcome) e) ∙ p in
      ap (λ (o : Outcome). unless o (judged_from (next t r) rs)) f

  pub step-next : d.tally ≡ next t r
  unfolding stepped
  step-next = ap (λ (x : Step). x.tally) e

pub judged-end : (t : Tally) → judged_from t [] ≡ ended t
unfolding judged_from
judged-end t = refl

-- Before the first record all of them are left.
pub judged-all : (s : List ℕ) → size_right (length s) ≡ true → (t : Tally) → t ≡ no_tally → judged s ≡ judged_from t (records_in (length s / 1900 - 0) (drop (0 * 1900) s))
judged-all s e t f =
    let n : length s / 1900 ≡ length s / 1900 - 0 = omega arith in
    judged-start s e ∙ (ap (λ (u : Tally). judged_from u (records_in (length s / 1900) s)) (sym f) ∙ ap (λ (k : ℕ). judged_from t (records_in k s)) n)

-- The i-th record, counted from 0, is as long as one.
pub part-is : (i : ℕ) (s : List ℕ) → i * 1900 + 1900 ≤ length s → length (take (i * 1900 + 1900 - i * 1900) (drop (i * 1900) s)) ≡ 1900
part-is i s h = let w : i * 1900 + 1900 - i * 1900 ≡ 1900 = omega arith in rw w (part_length 1900 (i * 1900) s h)

-- A turn of the loop over records: the i-th of n, counted from 0.
module _ (s : List ℕ) (n i : ℕ) (h : i < n) (t : Tally) (d : Step) (e : d ≡ stepped t (take (i * 1900 + 1900 - i * 1900) (drop (i * 1900) s))) where
  is : d ≡ stepped t (take 1900 (drop (i * 1900) s))
  is = e ∙ ap (λ (k : ℕ). stepped t (take k (drop (i * 1900) s))) (let w : i * 1900 + 1900 - i * 1900 ≡ 1900 = omega arith in w)

  pub turn_on : d.outcome ≡ Pass → judged_from t (records_in (n - i) (drop (i * 1900) s)) ≡ judged_from d.tally (records_in (n - (i + 1)) (drop ((i + 1) * 1900) s))
  turn_on p = ap (judged_from t) (record-on s n i h) ∙ judged-on t (take 1900 (drop (i * 1900) s)) _ d is p

  pub turn-stops : (w : Refusal) → d.outcome ≡ Err w → judged_from t (records_in (n - i) (drop (i * 1900) s)) ≡ Err w
  turn-stops w p = ap (judged_from t) (record-on s n i h) ∙ judged-stop t (take 1900 (drop (i * 1900) s)) _ d is w p

  pub turn_small : n * 1900 ≤ length s → Small t → t.seen < 10000 → Small d.tally
  turn_small l a g = rw (step-next t (take 1900 (drop (i * 1900) s)) [] d is) (small-next t _ (part_length 1900 (i * 1900) s (omega arith)) a g)

  pub turn-seen : d.tally.seen ≡ t.seen + 1
  turn-seen = ap (λ (u : Tally). u.seen) (step-next t (take 1900 (drop (i * 1900) s)) [] d is) ∙ seen_next t (take 1900 (drop (i * 1900) s))
