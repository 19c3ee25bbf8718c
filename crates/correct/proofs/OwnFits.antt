-- What is stored in the records behind a line whose amounts are replaced fits where it did, but for the line's section, its delega and the tail: so these alone decide.
use Prim.Native.Nat.{ℕ, ◌+◌, ◌≤◌, ◌<◌}
use mathlib.Core.Path.{◌≡◌, refl, sym, ap, ◌∙◌}
use mathlib.Core.Bool.{Bool, true, false, cond}
use mathlib.Core.List.{List, [], ◌∷◌}
use mathlib.Core.Logic.{◌⊎◌, inl, inr}
use native.Mathlib.Omega.{arith}
use borrow.Author.Tests.{eq-eqb}
use lib.Dec.{leb}
use lib.ListN.{get_or}
use lib.Seq.{get_or-set_other}
use Rattle.layout.specs.declared.Kind.{Kind}
use Rattle.layout.specs.declared.Kind.TheVariants.{Line, Balance, Payment, Tail}
use Rattle.layout.specs.Kinds.{kind_in}
use Rattle.amounts.specs.declared.Sums.{Sums}
use Rattle.rules.specs.declared.Money.{Money}
use Rattle.order.specs.declared.Stage.{Stage}
use Rattle.rules.specs.declared.State.{State}
use Rattle.rules.specs.State.{no_sums}
use Rattle.order.specs.Stages.{after_line, after_balance, after_tail}
use Rattle.amounts.specs.Amounts.{final_of}
use Rattle.rules.specs.Stored.{section_sums, stored_section, stored_of}
use Rattle.rules.specs.Step.{added_at, next}
use Rattle.order.specs.Order.{next_stage}
use Rattle.judge.specs.Plain.{state_after}
use Rattle.delega.proofs.Moves.{Standing, Each}
use Rattle.delega.proofs.OwnRecords.{payment-delega, at_closing}
use Rattle.delega.proofs.Held.{closing}
use Rattle.rebalance.specs.Rebalance.{fits_all, all_fit}
use Rattle.text.proofs.Tests.{both_true}
use Rattle.rebalance.proofs.Fitting.{alone, fits-payment, fits_sum, tail-fit}
use Rattle.correct.proofs.Mended.{Near}
use Rattle.correct.proofs.InOrder.{near_next}
use Rattle.correct.proofs.OtherSums.{Off, blank-at, next-delega, off-on}
use Rattle.correct.proofs.WithinDelega.{Follows, same-section, later-section, own-balance, own-payment, follows, none-behind, tail-or-same}

-- A value has at most fifteen digits.
abbrev pub fifteen : ℕ → Bool
fifteen v = leb v 999_999_999_999_999

-- The tail, after two states that differ in money only: its counts fit after one where they fit after the other.
tail-decides : (a b : State) → Near a b → fits_all (stored_of a Tail) ≡ true → fits_all (stored_of b Tail) ≡ fifteen b.money.total
tail-decides a b n f =
    let t = tail-fit a f in
    let c = n.numbers in
    let s = n.counts in
    fits_sum b (omega (arith, t.0)) (omega (arith, t.1))

-- Where two states have the same sums of the open delega, and all fits after the one, the sum of final balances decides.
fits-past : (a b : State) (rs : List (List ℕ)) → Near a b → a.money.delega ≡ b.money.delega → (b.stage.phase ≡ after_tail → ⊥) → Each Standing b rs → all_fit a rs ≡ true → (state_after b rs).stage.phase ≡ after_tail →
    all_fit b rs ≡ fifteen (state_after b rs).money.total
unfolding all_fit state_after next
fits-past a b [] n e q h f z = absurd (q z)
fits-past a b (r ∷ rs) n e q h f z =
    let v = both_true (fits_all (stored_of a (kind_in r))) _ f in
    go v.0 (tail-or-same a b (kind_in r) e h.0.ordered) (λ i. fits-past (next a r) (next b r) rs (near_next a b r n) (next-delega a b r e) i h.1 v.1 z)
  where
    go : fits_all (stored_of a (kind_in r)) ≡ true → (kind_in r ≡ Tail) ⊎ ((stored_of a (kind_in r) ≡ stored_of b (kind_in r)) × ((next_stage b.stage (kind_in r)).phase ≡ after_tail → ⊥)) →
        (((next_stage b.stage (kind_in r)).phase ≡ after_tail → ⊥) → all_fit (next b r) rs ≡ fifteen (state_after (next b r) rs).money.total) →
        all_fit b (r ∷ rs) ≡ fifteen (state_after (next b r) rs).money.total
    go u (inl k) on =
        let s : rs ≡ [] = none-behind (next b r) rs (rw k) h.1 in
        rw (s, k, tail-decides a b n (rw k at u)) (alone (fifteen b.money.total))
    go u (inr w) on = rw (← w.0, u) (on w.1)

-- Section s of the open delega has its balance: the last record was that balance, or belongs to a later section.
record Behind (s : ℕ) (p : Stage) : Type 0 where
  low : after_line ≤ p.phase
  high : p.phase ≤ after_balance
  past : s + after_balance ≤ p.section + p.phase

-- Behind it only lines of later sections stand.
later : (s : ℕ) {p : Stage} {t : ℕ} → Behind s p → Follows p (Line t) → s < t
later s c (same-section q e) = omega (arith, c.past)
later s c (later-section q l) = omega (arith, c.past)

-- So do only balances of later sections.
later-balance : (s : ℕ) {p : Stage} {t : ℕ} → Behind s p → Follows p (Balance t) → s < t
later-balance s c (own-balance q e) = omega (arith, c.past)

-- What a state is after a line, a balance or a 50-01.
module _ (st : State) (r : List ℕ) where
  pub line-stage : {t : ℕ} → kind_in r ≡ Line t → ((next st r).stage.phase ≡ after_line) × ((next st r).stage.section ≡ t) × ((next st r).deleghe ≡ st.deleghe)
  unfolding next
  line-stage e = rw e (refl, refl, refl)

  line_other : {t : ℕ} → kind_in r ≡ Line t → (s : ℕ) → s < t → section_sums (next st r) s ≡ section_sums st s
  unfolding next added_at
  line_other {t} e s l = rw e (get_or-set_other st.money.delega.sections t s _ no_sums (omega arith))

  balance-stage : {t : ℕ} → kind_in r ≡ Balance t → ((next st r).stage.phase ≡ after_balance) × ((next st r).stage.section ≡ t) × ((next st r).deleghe ≡ st.deleghe) × ((next st r).money ≡ st.money)
  unfolding next
  balance-stage e = rw e (refl, refl, refl, refl)

  payment-stage : kind_in r ≡ Payment → (next st r).stage.phase ≡ after_tail → ⊥
  unfolding next
  payment-stage e z = absurd (omega (arith, rw e at z))

module _ (d s : ℕ) where
  -- The final balance of delega d, and the sum of final balances, as the records behind a state give them.
  abbrev delega_fits : State → List (List ℕ) → Bool
  delega_fits b rs = cond (fifteen (final_of (closing d b rs).all)) (fifteen (state_after b rs).money.total) false

  -- The sums of section s at the delega's 50-01.
  abbrev sums_at : State → List (List ℕ) → Sums
  sums_at b rs = get_or (closing d b rs).sections s no_sums

  -- What is shown of the records behind a state.
  abbrev Decided : State → List (List ℕ) → Type 0
  Decided b rs = (all_fit b rs ≡ delega_fits b rs) × (sums_at b rs ≡ section_sums b s)

  -- Behind the section's balance the final balance and the sum of final balances decide, and the section's sums stay.
  fits-behind : (a b : State) (rs : List (List ℕ)) → Off d s a b → b.deleghe ≡ d → Behind s b.stage → Each Standing b rs → all_fit a rs ≡ true → (state_after b rs).stage.phase ≡ after_tail → Decided b rs
  unfolding all_fit state_after at_closing fits_all
  fits-behind a b [] o m c h f z = absurd (omega (arith, c.high))
  fits-behind a b (r ∷ rs) o m c h f z =
      let v = both_true (fits_all (stored_of a (kind_in r))) _ f in
      go (kind_in r) refl (follows b.stage (kind_in r) c.low c.high h.0.ordered) v.0 v.1 (λ i j. fits-behind (next a r) (next b r) rs (off-on d s a b r o) i j h.1 v.1 z)
    where
      go : (k : Kind) → kind_in r ≡ k → Follows b.stage k → fits_all (stored_of a k) ≡ true → all_fit (next a r) rs ≡ true → ((next b r).deleghe ≡ d → Behind s (next b r).stage → Decided (next b r) rs) → Decided b (r ∷ rs)
      go Rattle.layout.specs.declared.Kind.TheVariants.Unknown e w u i on = elim w [ ]
      go Tail e w u i on = elim w [ ]
      go Rattle.layout.specs.declared.Kind.TheVariants.Addressee e w u i on = elim w [ ]
      go Rattle.layout.specs.declared.Kind.TheVariants.Receipt e w u i on = elim w [ ]
      go Rattle.layout.specs.declared.Kind.TheVariants.Domicile e w u i on = elim w [ ]
      go Rattle.layout.specs.declared.Kind.TheVariants.Taxpayer e w u i on = elim w [ ]
      go Rattle.layout.specs.declared.Kind.TheVariants.Head e w u i on = elim w [ ]
      go (Line t) e w u i on =
          let l = later s c w in
          let n = line-stage b r e in
          let p = on (n.2 ∙ m) (record { low = omega arith; high = omega arith; past = omega arith }) in
          rw e (p.0, p.1 ∙ line_other b r e s l)
      go (Balance t) e w u i on =
          let l = later-balance s c w in
          let n = balance-stage b r e in
          let p = on (n.2 ∙ m) (record { low = omega arith; high = omega arith; past = omega arith }) in
          rw (e, ← (blank-at s t a.money.delega.sections b.money.delega.sections (omega arith) o.others), u) (p.0, p.1 ∙ ap (λ (y : Money). get_or y.delega.sections s no_sums) n.3)
      go Payment e w u i on =
          let n = fits-past (next a r) (next b r) rs (near_next a b r o.near) (payment-delega a r e ∙ sym (payment-delega b r e)) (payment-stage b r e) h.1 i z in
          rw (e, eq-eqb b.deleghe d m, fits-payment (final_of b.money.delega.all), n) (refl, refl)

  -- From the line on, what the section's balance stores decides too.
  pub fits-from : (a b : State) (rs : List (List ℕ)) → Off d s a b → b.deleghe ≡ d → b.stage.phase ≡ after_line → b.stage.section ≡ s → Each Standing b rs → all_fit a rs ≡ true → (state_after b rs).stage.phase ≡ after_tail →
      all_fit b rs ≡ cond (fits_all (stored_section s (get_or (closing d b rs).sections s no_sums))) (cond (fifteen (final_of (closing d b rs).all)) (fifteen (state_after b rs).money.total) false) false
  unfolding all_fit state_after at_closing fits_all
  fits-from a b [] o m q t h f z = absurd (omega (arith, z))
  fits-from a b (r ∷ rs) o m q t h f z =
      let v = both_true (fits_all (stored_of a (kind_in r))) _ f in
      go (kind_in r) refl (follows b.stage (kind_in r) (omega arith) (omega arith) h.0.ordered) v.1 (λ i j k. fits-from (next a r) (next b r) rs (off-on d s a b r o) i j k h.1 v.1 z)
    where
      go : (k : Kind) → kind_in r ≡ k → Follows b.stage k → all_fit (next a r) rs ≡ true →
          ((next b r).deleghe ≡ d → (next b r).stage.phase ≡ after_line → (next b r).stage.section ≡ s → all_fit (next b r) rs ≡ cond (fits_all (stored_section s (sums_at (next b r) rs))) (delega_fits (next b r) rs) false) →
          all_fit b (r ∷ rs) ≡ cond (fits_all (stored_section s (sums_at b (r ∷ rs)))) (delega_fits b (r ∷ rs)) false
      go Rattle.layout.specs.declared.Kind.TheVariants.Unknown e x17 g on = elim x17 [ ]
      go Tail e x16 g on = elim x16 [ ]
      go Rattle.layout.specs.declared.Kind.TheVariants.Addressee e x15 g on = elim x15 [ ]
      go Rattle.layout.specs.declared.Kind.TheVariants.Receipt e x14 g on = elim x14 [ ]
      go Rattle.layout.specs.declared.Kind.TheVariants.Domicile e x13 g on = elim x13 [ ]
      go Rattle.layout.specs.declared.Kind.TheVariants.Taxpayer e x12 g on = elim x12 [ ]
      go Rattle.layout.specs.declared.Kind.TheVariants.Head e x11 g on = elim x11 [ ]
      go (Line _) e (same-section i j) g on = let n = line-stage b r e in rw e (on (n.2 ∙ m) n.0 (n.1 ∙ (j ∙ t)))
      go (Line _) e (later-section i j) g on = absurd (omega (arith, i, q))
      go (Balance u) e (own-balance i j) g on =
          let n = balance-stage b r e in
          let l : u ≡ s = j ∙ t in
          let p = fits-behind (next a r) (next b r) rs (off-on d s a b r o) (n.2 ∙ m) (record { low = omega arith; high = omega arith; past = omega arith }) h.1 g z in
          let x = p.1 ∙ ap (λ (y : Money). get_or y.delega.sections s no_sums) n.3 in
          rw (e, l, x, p.0)
      go Payment e (own-payment i) g on = absurd (omega (arith, i, q))
