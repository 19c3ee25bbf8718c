-- A delega that is not named: its records are all there, in their order and under its new number, and its own summary is what it was.
use Prim.Native.Nat.{ℕ, ◌+◌, ◌<◌, ◌≤◌}
use mathlib.Core.Path.{◌≡◌, refl, sym, ap, ◌∙◌}
use mathlib.Core.Bool.{Bool, true, false, cond, false≢true}
use mathlib.Core.List.{List, [], ◌∷◌}
use native.Mathlib.Omega.{arith}
use native.Mathlib.Decide.{ℕ_discrete}
use borrow.Author.Tests.{eqb-true, eq-eqb, ne_eqb}
use lib.Dec.{eqb}
use lib.ListN.{get_or}
use Rattle.text.specs.Among.{among}
use Rattle.layout.specs.declared.Kind.{Kind}
use Rattle.layout.specs.declared.Kind.TheVariants.{Head, Taxpayer, Domicile, Line, Balance, Payment, Receipt, Addressee, Tail, Unknown}
use Rattle.layout.specs.Kinds.{of_line, of_balance, kind_in, numbered}
use Rattle.layout.specs.Fields.{delega_number, value_of}
use Rattle.rules.specs.State.{no_sums}
use Rattle.judge.specs.Flow.{records_of, judged}
use Rattle.judge.specs.Plain.{sum_over, Side, side_of}
use Rattle.delega.specs.OneDelega.{delega_of}
use Rattle.delega.specs.PlainDelega.{of_delega, section_count_of}
use Rattle.delega.proofs.PlainAnswer.{delega-balance, delega-section-sums}
use Rattle.delega.proofs.SectionsUsed.{delega-lines, delega-size, delega-set-added}
use Rattle.close.specs.Closing.{stays, kept_of, left_of}
use Rattle.dropping.specs.Dropping.{shortened}
use Rattle.dropping.specs.Inner.{Droppable}
use Rattle.dropping.specs.Effect.{Stayed, EachStayed, records_with}
use Rattle.close.proofs.Counted.{left-grows, left-rises, left-apart}
use Rattle.dropping.proofs.Stayed.{stayed-kind}
use Rattle.dropping.proofs.Parts.{stayed-sum}
use Rattle.dropping.proofs.Shortened.{shortened-accepted, shortened-stayed}
use Rattle.dropping.proofs.Sums.{in_section, in_finals, in_lines, line-numbered, payment-numbered, stayed-lines, stayed-finals, stayed-section}
use Rattle.dropping.proofs.Numbers.{deleghe-left}

-- Every record of a list stays.
abbrev AllStay : List ℕ → List (List ℕ) → Type 0
AllStay numbers [] = Unit {0}
AllStay numbers (r ∷ rs) = (stays numbers r ≡ true) × AllStay numbers rs

all_stay : (numbers : List ℕ) (rs : List (List ℕ)) → AllStay numbers (kept_of numbers rs)
unfolding kept_of
all_stay numbers [] = tt
all_stay numbers (r ∷ rs) = go (stays numbers r) refl (all_stay numbers rs)
  where
    go : (b : Bool) → stays numbers r ≡ b → AllStay numbers (kept_of numbers rs) → AllStay numbers (cond b (r ∷ kept_of numbers rs) (kept_of numbers rs))
    go true e h = (e, h)
    go false e h = h

-- A list of numbers, and a delega that it does not name.
module _ (numbers : List ℕ) (d : ℕ) (a : among d numbers ≡ false) where
  -- Its records stay.
  with-kept : (rs : List (List ℕ)) → records_with d (kept_of numbers rs) ≡ records_with d rs
  unfolding records_with kept_of stays
  with-kept [] = refl
  with-kept (r ∷ rs) = go (numbered (kind_in r)) refl (eqb (value_of r delega_number) d) refl (among (value_of r delega_number) numbers) refl (with-kept rs)
    where
      go : (n : Bool) → numbered (kind_in r) ≡ n → (b : Bool) → eqb (value_of r delega_number) d ≡ b → (c : Bool) → among (value_of r delega_number) numbers ≡ c → records_with d (kept_of numbers rs) ≡ records_with d rs →
          records_with d (cond (cond n (cond c false true) true) (r ∷ kept_of numbers rs) (kept_of numbers rs)) ≡ cond n (cond b (r ∷ records_with d rs) (records_with d rs)) (records_with d rs)
      go true i true j true k h = absurd (false≢true (sym a ∙ (ap (λ (v : ℕ). among v numbers) (sym (eqb-true (value_of r delega_number) d j)) ∙ k)))
      go true i true j false k h = rw (i, j) (ap (λ (l : List (List ℕ)). r ∷ l) h)
      go true i false j true k h = h
      go true i false j false k h = rw (i, j) h
      go false i b j c k h = rw i h

  -- Another record that stays has the delega's new number where it has the delega's number.
  same-delega : (v : ℕ) → among v numbers ≡ false → eqb (left_of numbers v) (left_of numbers d) ≡ eqb v d
  same-delega v b = go (ℕ_discrete v d)
    where
      go : Dec (v ≡ d) → eqb (left_of numbers v) (left_of numbers d) ≡ eqb v d
      go (yes e) = eq-eqb _ _ (ap (left_of numbers) e) ∙ sym (eq-eqb v d e)
      go (no e) = ne_eqb _ _ (λ z. e (left-apart numbers v d b a z)) ∙ sym (ne_eqb v d e)

  -- Of records that stayed, those of the delega are those that carry its new number.
  with-stayed : (ks qs : List (List ℕ)) → AllStay numbers ks → EachStayed numbers ks qs → EachStayed numbers (records_with d ks) (records_with (left_of numbers d) qs)
  unfolding records_with stays
  with-stayed [] [] t s = tt
  with-stayed [] (q ∷ qs) t s = absurd s
  with-stayed (r ∷ ks) [] t s = absurd s
  with-stayed (r ∷ ks) (q ∷ qs) t s = rw (stayed-kind s.0) (go (numbered (kind_in r)) refl (among (value_of r delega_number) numbers) refl t.0 (with-stayed ks qs t.1 s.1))
    where
      both : (b : Bool) → EachStayed numbers (records_with d ks) (records_with (left_of numbers d) qs) → EachStayed numbers (cond b (r ∷ records_with d ks) (records_with d ks)) (cond b (q ∷ records_with (left_of numbers d) qs) (records_with (left_of numbers d) qs))
      both true ih = (s.0, ih)
      both false ih = ih

      go : (n : Bool) → numbered (kind_in r) ≡ n → (c : Bool) → among (value_of r delega_number) numbers ≡ c → cond n (cond c false true) true ≡ true → EachStayed numbers (records_with d ks) (records_with (left_of numbers d) qs) →
          EachStayed numbers (cond n (cond (eqb (value_of r delega_number) d) (r ∷ records_with d ks) (records_with d ks)) (records_with d ks))
          (cond n (cond (eqb (value_of q delega_number) (left_of numbers d)) (q ∷ records_with (left_of numbers d) qs) (records_with (left_of numbers d) qs)) (records_with (left_of numbers d) qs))
      go true i true j e ih = absurd (false≢true e)
      go true i false j e ih = rw (s.0.number i, same-delega (value_of r delega_number) j) (both (eqb (value_of r delega_number) d) ih)
      go false i c j e ih = ih

-- What the records of a delega add up to, where one that carries no number counts nothing.
own-sum : (d : ℕ) (g : List ℕ → ℕ) → ((r : List ℕ) → numbered (kind_in r) ≡ false → g r ≡ 0) → (rs : List (List ℕ)) → sum_over (λ r. of_delega d r (g r)) rs ≡ sum_over g (records_with d rs)
unfolding sum_over records_with
own-sum d g z [] = refl
own-sum d g z (r ∷ rs) = go (numbered (kind_in r)) (z r) (eqb (value_of r delega_number) d) (own-sum d g z rs)
  where
    go : (n : Bool) → (n ≡ false → g r ≡ 0) → (b : Bool) → sum_over (λ q. of_delega d q (g q)) rs ≡ sum_over g (records_with d rs) →
        cond b (g r) 0 + sum_over (λ q. of_delega d q (g q)) rs ≡ sum_over g (cond n (cond b (r ∷ records_with d rs) (records_with d rs)) (records_with d rs))
    go true y true h = omega arith
    go true y false h = omega arith
    go false y true h = omega (arith, y refl)
    go false y false h = omega arith

-- A balance record carries a number.
balance-numbered : (k : Kind) (f : ℕ → ℕ) → numbered k ≡ false → of_balance 0 f k ≡ 0
unfolding numbered
balance-numbered Head f n = refl
balance-numbered Taxpayer f n = refl
balance-numbered Domicile f n = refl
balance-numbered (Line s) f n = refl
balance-numbered (Balance s) f n = absurd (false≢true (sym n))
balance-numbered Payment f n = refl
balance-numbered Receipt f n = refl
balance-numbered Addressee f n = refl
balance-numbered Tail f n = refl
balance-numbered Unknown f n = refl

-- A delega of a flow from which others may be dropped.
module _ (f numbers : List ℕ) (m : Droppable f numbers) (d : ℕ) (lo : 1 ≤ d) (hi : d ≤ (judged f).summary.deleghe) (a : among d numbers ≡ false) where
  abbrev g : List ℕ
  g = shortened f numbers

  -- Its records are there under its new number, in their order, and no others.
  pub records-kept : EachStayed numbers (records_with d (records_of f)) (records_with (left_of numbers d) (records_of (shortened f numbers)))
  records-kept =
      rw (with-kept numbers d a (records_of f)) at (with-stayed numbers d a (kept_of numbers (records_of f)) (records_of g) (all_stay numbers (records_of f)) (shortened-stayed f numbers m))

  -- What they add up to is the same.
  same_sum : (h : List ℕ → ℕ) → ((r q : List ℕ) → Stayed numbers r q → h q ≡ h r) → ((r : List ℕ) → numbered (kind_in r) ≡ false → h r ≡ 0) →
      sum_over (λ r. of_delega (left_of numbers d) r (h r)) (records_of (shortened f numbers)) ≡ sum_over (λ r. of_delega d r (h r)) (records_of f)
  same_sum h s z = own-sum (left_of numbers d) h z (records_of g) ∙ (stayed-sum numbers h s _ _ records-kept ∙ sym (own-sum d h z (records_of f)))

  -- Its new number is that of a delega of what is left.
  from : 1 ≤ left_of numbers d
  from = omega (arith, left-rises numbers 0 d lo a)

  to : left_of numbers d ≤ (judged (shortened f numbers)).summary.deleghe
  to = omega (arith, left-grows numbers d (judged f).summary.deleghe hi, deleghe-left f numbers m)

  -- Its final balance, its lines, its section sums, and the sections that it uses are what they were.
  pub balance-kept : (delega_of (shortened f numbers) (left_of numbers d)).balance ≡ (delega_of f d).balance
  balance-kept = delega-balance g (left_of numbers d) (shortened-accepted f numbers m) from to ∙ (same_sum in_finals (stayed-finals numbers) (λ r n. payment-numbered (kind_in r) _ n) ∙ sym (delega-balance f d m.accepted lo hi))

  pub lines-kept : (delega_of (shortened f numbers) (left_of numbers d)).lines ≡ (delega_of f d).lines
  lines-kept = delega-lines g (left_of numbers d) (shortened-accepted f numbers m) from to ∙ (same_sum in_lines (stayed-lines numbers) (λ r n. line-numbered (kind_in r) _ n) ∙ sym (delega-lines f d m.accepted lo hi))

  pub section-kept : (x : Side) (i : ℕ) → i < 5 → side_of x (get_or (delega_of (shortened f numbers) (left_of numbers d)).sums i no_sums) ≡ side_of x (get_or (delega_of f d).sums i no_sums)
  section-kept x i h =
      delega-section-sums g (left_of numbers d) (shortened-accepted f numbers m) from to x i h
      ∙ (same_sum (in_section x i) (λ r q s. stayed-section numbers r q s x i h) (λ r n. line-numbered (kind_in r) _ n) ∙ sym (delega-section-sums f d m.accepted lo hi x i h))

  uses : (i : ℕ) → section_count_of (left_of numbers d) i (records_of (shortened f numbers)) ≡ section_count_of d i (records_of f)
  uses i = same_sum (λ r. of_line 0 (λ s. cond (eqb s i) 1 0) (kind_in r)) (λ r q s. ap (of_line 0 (λ s. cond (eqb s i) 1 0)) (stayed-kind s)) (λ r n. line-numbered (kind_in r) _ n)

  pub set-kept : (delega_of (shortened f numbers) (left_of numbers d)).set ≡ (delega_of f d).set
  set-kept =
      delega-set-added g (left_of numbers d) (shortened-accepted f numbers m) from to ∙ (rw (uses 0, uses 1, uses 2, uses 3, uses 4) refl ∙ sym (delega-set-added f d m.accepted lo hi))

  pub size-kept : (delega_of (shortened f numbers) (left_of numbers d)).size ≡ (delega_of f d).size
  size-kept =
      delega-size g (left_of numbers d) (shortened-accepted f numbers m) from to
      ∙ (same_sum (λ r. of_balance 0 (λ s. 1) (kind_in r)) (λ r q s. ap (of_balance 0 (λ i. 1)) (stayed-kind s)) (λ r n. balance-numbered (kind_in r) _ n) ∙ sym (delega-size f d m.accepted lo hi))
