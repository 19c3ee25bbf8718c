-- Laws of what is counted and added up over records, and of what a record's first character says of its kind.
use Prim.Native.Nat.{ℕ, suc, ◌+◌, ◌<◌}
use mathlib.Core.Path.{◌≡◌, refl, sym, ap, ◌∙◌}
use mathlib.Core.Bool.{Bool, true, false, cond}
use mathlib.Core.List.{List, [], ◌∷◌, ◌++◌, append_assoc, append-nil}
use native.Mathlib.Omega.{arith}
use native.Mathlib.Nat.{min-le_left}
use borrow.Author.Tests.{eq-eqb, ne_eqb, eqb-true, eqb-false}
use lib.Dec.{eqb}
use lib.ListN.{length, take, drop, length-take}
use Rattle.ep_total.specs.Answers.{Cents}
use Rattle.ep_total.proofs.Inverse.{written_read, own-text}
use Rattle.ep_accounts.specs.Printed.{used_debits}
use Rattle.ep.specs.declared.Kind.{Kind}
use Rattle.ep.specs.declared.Kind.TheVariants.{RecordM, RecordV, OtherRecord}
use Rattle.ep.specs.Payments.{kind_of, total_in}
use Rattle.ep.specs.Plain.{first_of, count_m, used_in, cents_of, totals_in, RightV, AllV, States, Paid, none, paid}

-- The total of an M says a number exactly where it is that number's text.
pub total-states : (m : List ℕ) (n : ℕ) → total_in m ≡ Cents n → States m n
unfolding total_in
total-states m n e = (written_read (take 15 (drop 1872 m)) n e).0

pub states-total : (m : List ℕ) (n : ℕ) → States m n → total_in m ≡ Cents n
unfolding total_in
states-total m n e = own-text (take 15 (drop 1872 m)) n (omega (arith, length-take 15 (drop 1872 m), min-le_left 15 (length (drop 1872 m)))) e

-- What a record begins with.
pub data Begins (r : List ℕ) : Kind → Type 0 where
  with-m : first_of r ≡ 77 → Begins r RecordM
  with-v : first_of r ≡ 86 → Begins r RecordV
  otherwise : (first_of r ≡ 77 → ⊥) → (first_of r ≡ 86 → ⊥) → Begins r OtherRecord

pub begins : (r : List ℕ) → Begins r (kind_of r)
unfolding kind_of
begins r = go (eqb (first_of r) 77) refl (eqb (first_of r) 86) refl
  where
    go : (a : Bool) → eqb (first_of r) 77 ≡ a → (b : Bool) → eqb (first_of r) 86 ≡ b → Begins r (cond a RecordM (cond b RecordV OtherRecord))
    go true p b q = with-m (eqb-true _ _ p)
    go false p true q = with-v (eqb-true _ _ q)
    go false p false q = otherwise (eqb-false _ _ p) (eqb-false _ _ q)

module _ (r : List ℕ) where
  pub is_m : first_of r ≡ 77 → kind_of r ≡ RecordM
  unfolding kind_of
  is_m e = rw (eq-eqb _ _ e)

  pub is-v : first_of r ≡ 86 → kind_of r ≡ RecordV
  unfolding kind_of
  is-v e = rw (ne_eqb (first_of r) 77 (λ f. absurd (omega arith)), eq-eqb _ _ e)

  module _ (rs : List (List ℕ)) where
    -- One M more.
    pub count-m : first_of r ≡ 77 → count_m (r ∷ rs) ≡ suc (count_m rs)
    unfolding count_m
    count-m e = rw (eq-eqb _ _ e)

    pub used-m : first_of r ≡ 77 → used_in (r ∷ rs) ≡ used_in rs
    unfolding used_in
    used-m e = rw (ne_eqb (first_of r) 86 (λ f. absurd (omega arith)))

    pub totals-m : first_of r ≡ 77 → totals_in (r ∷ rs) ≡ cents_of (total_in r) + totals_in rs
    unfolding totals_in
    totals-m e = rw (eq-eqb _ _ e)

    -- One V more.
    pub count-v : first_of r ≡ 86 → count_m (r ∷ rs) ≡ count_m rs
    unfolding count_m
    count-v e = rw (ne_eqb (first_of r) 77 (λ f. absurd (omega arith)))

    pub used_v : first_of r ≡ 86 → used_in (r ∷ rs) ≡ used_debits r + used_in rs
    unfolding used_in
    used_v e = rw (eq-eqb _ _ e)

    pub totals-v : first_of r ≡ 86 → totals_in (r ∷ rs) ≡ totals_in rs
    unfolding totals_in
    totals-v e = rw (ne_eqb (first_of r) 77 (λ f. absurd (omega arith)))

-- One record behind others.
pub count-last : (rs : List (List ℕ)) (r : List ℕ) → count_m (rs ++ (r ∷ [])) ≡ count_m rs + count_m (r ∷ [])
unfolding count_m
count-last [] r = omega arith
count-last (q ∷ rs) r = go (eqb (first_of q) 77) (count-last rs r)
  where
    go : (t : Bool) → count_m (rs ++ (r ∷ [])) ≡ count_m rs + count_m (r ∷ []) → cond t (suc (count_m (rs ++ (r ∷ [])))) (count_m (rs ++ (r ∷ []))) ≡ cond t (suc (count_m rs)) (count_m rs) + count_m (r ∷ [])
    go true ih = omega arith
    go false ih = ih

pub used-last : (rs : List (List ℕ)) (r : List ℕ) → used_in (rs ++ (r ∷ [])) ≡ used_in rs + used_in (r ∷ [])
unfolding used_in
used-last [] r = omega arith
used-last (q ∷ rs) r = go (eqb (first_of q) 86) (used-last rs r)
  where
    go : (t : Bool) → used_in (rs ++ (r ∷ [])) ≡ used_in rs + used_in (r ∷ []) → cond t (used_debits q + used_in (rs ++ (r ∷ []))) (used_in (rs ++ (r ∷ []))) ≡ cond t (used_debits q + used_in rs) (used_in rs) + used_in (r ∷ [])
    go true ih = omega arith
    go false ih = ih

-- One V more behind others.
pub all-v-last : (vs : List (List ℕ)) (v : List ℕ) → AllV vs → RightV v → AllV (vs ++ (v ∷ []))
all-v-last [] v a r = (r, tt)
all-v-last (w ∷ vs) v a r = (a.0, all-v-last vs v a.1 r)

-- V's before other records: no M, and their used debits.
pub count-vs : (vs rest : List (List ℕ)) → AllV vs → count_m (vs ++ rest) ≡ count_m rest
count-vs [] rest a = refl
count-vs (v ∷ vs) rest a = count-v v (vs ++ rest) a.0.is-v ∙ count-vs vs rest a.1

pub used-vs : (vs rest : List (List ℕ)) → AllV vs → used_in (vs ++ rest) ≡ used_in vs + used_in rest
unfolding used_in
used-vs [] rest a = omega arith
used-vs (v ∷ vs) rest a =
    let p = used_v v (vs ++ rest) a.0.is-v in
    let q = used_v v vs a.0.is-v in
    p ∙ (let e : used_debits v + used_in (vs ++ rest) ≡ used_debits v + used_in vs + used_in rest = omega (arith, used-vs vs rest a.1) in e) ∙ ap (λ (n : ℕ). n + used_in rest) (sym q)

totals-vs : (vs rest : List (List ℕ)) → AllV vs → totals_in (vs ++ rest) ≡ totals_in rest
totals-vs [] rest a = refl
totals-vs (v ∷ vs) rest a = totals-v v (vs ++ rest) a.0.is-v ∙ totals-vs vs rest a.1

-- One payment more behind others.
pub paid-more : (ps : List (List ℕ)) (m : List ℕ) (vs : List (List ℕ)) → Paid ps → first_of m ≡ 77 → 0 < length vs → AllV vs → States m (used_in vs) → Paid (ps ++ (m ∷ vs))
paid-more ps m vs (none e) f s a t = paid m vs [] (ap (λ (l : List (List ℕ)). l ++ (m ∷ vs)) e ∙ ap (λ (l : List (List ℕ)). m ∷ l) (sym (append-nil vs))) f s a t (none refl)
paid-more ps m vs (paid n ws rest e g r b u p) f s a t =
    paid n ws (rest ++ (m ∷ vs)) (ap (λ (l : List (List ℕ)). l ++ (m ∷ vs)) e ∙ ap (λ (l : List (List ℕ)). n ∷ l) (append_assoc ws rest (m ∷ vs))) g r b u (paid-more rest m vs p f s a t)

-- "the sum of their totals" is the sum of the used debits.
pub totals-used : (rs : List (List ℕ)) → Paid rs → totals_in rs ≡ used_in rs
unfolding totals_in used_in
totals-used rs (none e) = rw e
totals-used rs (paid m vs rest e f s a t p) =
    rw (e, totals-m m (vs ++ rest) f, totals-vs vs rest a, states-total m (used_in vs) t, used-m m (vs ++ rest) f, used-vs vs rest a, totals-used rest p)
