-- Only the values of the line's section, of its delega and the tail's sum can have more than fifteen digits.
use Prim.Native.Nat.{ℕ, ◌-◌, ◌≤◌}
use mathlib.Core.Path.{◌≡◌, refl, sym, ap, ap₂, ◌∙◌}
use mathlib.Core.Bool.{Bool, true, false, cond, true≢false, false≢true}
use mathlib.Core.List.{List, ◌∷◌}
use mathlib.Core.Logic.{◌↔◌}
use native.Mathlib.Omega.{arith}
use borrow.Author.Tests.{leb-true, leb-false}
use lib.ListN.{get_or}
use Rattle.layout.specs.Sections.{section_at}
use Rattle.layout.specs.Kinds.{kind_in}
use Rattle.amounts.specs.declared.Sums.{Sums}
use Rattle.rules.specs.declared.DelegaSums.{DelegaSums}
use Rattle.rules.specs.declared.State.{State}
use Rattle.rules.specs.State.{no_sums, start_state}
use Rattle.amounts.specs.Amounts.{apart, final_of}
use Rattle.rules.specs.Stored.{stored_section, stored_of}
use Rattle.rules.specs.Step.{next}
use Rattle.judge.specs.Refusal.{Accepted}
use Rattle.judge.specs.Flow.{records_of, head_name_of, judged}
use Rattle.judge.specs.Plain.{Debit, Credit, lines_in, state_after}
use Rattle.judge.proofs.Accepted.{accepted-means-no-fault}
use Rattle.delega.specs.PlainDelega as Delega
use Rattle.delega.proofs.Held.{closing, closing_lines, closing-section}
use Rattle.rebalance.specs.Rebalance.{fits_all, all_fit}
use Rattle.rebalance.specs.Weigh.{any_negative}
use Rattle.text.proofs.Tests.{both_true}
use Rattle.rebalance.proofs.Fitting.{fits-plain, fits-debit, fits-credit, fits-balance}
use Rattle.rebalance.proofs.Rebalanced.{mendable-fits}
use Rattle.rebalance.proofs.Judged.{accepted-mends}
use Rattle.rebalance.proofs.Weighed.{fits-append}
use Rattle.find.specs.Line.{line_of}
use Rattle.correct.specs.Correction.{section_of}
use Rattle.correct.specs.WhenRefused.{HasLine, new_records, Overflows, TotalDebit, TotalCredit, SectionBalance, FinalBalance, TailSum}
use Rattle.correct.proofs.Amended.{amended}
use Rattle.correct.proofs.Split.{Split, line-splits, line-found, within-table}
use Rattle.correct.proofs.OtherSums.{off-line}
use Rattle.correct.proofs.InOrder.{line-kind, records-new, each-behind, each-new, one-at-least, last-new, ends-behind, ends-new, closing-new}
use Rattle.correct.proofs.TailSum.{tail-total}
use Rattle.correct.proofs.OwnFits.{fifteen, line-stage, fits-from}

-- What a section stores fits where the totals, where it has them, and the balance do.
abbrev fits_row : Bool → Sums → Bool
fits_row b t =
    cond b (cond (fifteen t.debit) (cond (fifteen t.credit) (fifteen (apart t.debit t.credit)) false) false) (fifteen (apart t.debit t.credit))

row_fits : (s : ℕ) (t : Sums) → fits_all (stored_section s t) ≡ fits_row (section_at s).totals t
row_fits s t = go (section_at s).totals (fifteen t.debit) (fifteen t.credit) refl refl refl
  where
    go : (b c d : Bool) → (section_at s).totals ≡ b → fifteen t.debit ≡ c → fifteen t.credit ≡ d → fits_all (stored_section s t) ≡ cond b (cond c (cond d (fifteen (apart t.debit t.credit)) false) false) (fifteen (apart t.debit t.credit))
    go false c d p q r = fits-plain s t p
    go true false d p q r = fits-debit s t p (leb-false _ _ q)
    go true true false p q r = fits-credit s t p (leb-true _ _ q) (leb-false _ _ r)
    go true true true p q r = fits-balance s t p (leb-true _ _ q) (leb-true _ _ r)

-- Where it fits, each of them does.
record RowHolds (b : Bool) (t : Sums) : Type 0 where
  totals : b ≡ true → (t.debit ≤ 999_999_999_999_999) × (t.credit ≤ 999_999_999_999_999)
  balance : apart t.debit t.credit ≤ 999_999_999_999_999

row-holds : (b : Bool) (t : Sums) → fits_row b t ≡ true → RowHolds b t
row-holds true t e =
    let p = both_true (fifteen t.debit) _ e in
    let q = both_true (fifteen t.credit) _ p.1 in
    record { totals = λ z. (leb-true _ _ p.0, leb-true _ _ q.0); balance = leb-true _ _ q.1 }
row-holds false t e = record { totals = λ z. absurd (false≢true z); balance = leb-true _ _ e }

-- An accepted flow in which the line is found, and other amounts for it with which no delega is negative.
module _ (f : List ℕ) (d subtype n : ℕ) (a : (judged f).verdict ≡ Accepted) (there : HasLine f d subtype n) (x y : ℕ) (positive : any_negative start_state (new_records f d subtype n x y) ≡ false) where
  abbrev rs : List (List ℕ)
  rs = new_records f d subtype n x y

  abbrev found : line_of f d subtype n ≡ 0 → ⊥
  found = line-found f d subtype n a there

  abbrev s : ℕ
  s = section_of subtype

  abbrev p : Split d s start_state 0 (line_of f d subtype n) (records_of f)
  p = line-splits f d subtype n found

  abbrev st : State
  st = state_after start_state p.before

  -- The sums of the line's section in its delega, the final balance and the tail's sum.
  abbrev own : Sums
  own = record { debit = Delega.section_of d Debit s rs; credit = Delega.section_of d Credit s rs }

  abbrev final : ℕ
  final = Delega.lines_of d Debit rs - Delega.lines_of d Credit rs

  abbrev tail : ℕ
  tail = lines_in Debit rs - lines_in Credit rs

  -- All fitted in the flow as it was, before the line and behind it.
  old-fits : (all_fit start_state p.before ≡ true) × (all_fit (next st p.here) p.behind ≡ true)
  unfolding all_fit
  old-fits =
      let e = mendable-fits (head_name_of f) start_state (records_of f) (accepted-mends f a) in
      let q = both_true (all_fit start_state p.before) _ (sym (ap (all_fit start_state) p.split ∙ fits-append start_state p.before (p.here ∷ p.behind)) ∙ e) in
      (q.0, (both_true (fits_all (stored_of st (kind_in p.here))) _ q.1).1)

  -- The state after the line, with its new amounts.
  abbrev new : State
  new = next st (amended s x y p.here)

  -- What is held at the delega's 50-01, and the tail's sum, in plain sums.
  own-closing : closing d start_state rs ≡ closing d new p.behind
  own-closing = closing-new f d subtype n a found x y

  section-own : get_or (closing d new p.behind).sections s no_sums ≡ own
  section-own =
      let c = closing-section d rs (one-at-least f d subtype n a found x y) (each-new f d subtype n a found x y) (ends-new f d subtype n a found x y) in
      let w = within-table f (accepted-means-no-fault f a).whole.even p in
      ap (λ (t : DelegaSums). get_or t.sections s no_sums) (sym own-closing) ∙ ap₂ (λ (u v : ℕ). record { debit = u; credit = v }) (c Debit s w) (c Credit s w)

  final-own : final_of (closing d new p.behind).all ≡ final
  unfolding final_of
  final-own =
      let c = closing_lines d rs (one-at-least f d subtype n a found x y) (each-new f d subtype n a found x y) (ends-new f d subtype n a found x y) in
      ap (λ (t : DelegaSums). final_of t.all) (sym own-closing) ∙ ap₂ ◌-◌ (c Debit) (c Credit)

  tail-own : (state_after new p.behind).money.total ≡ tail
  tail-own =
      ap (λ (q : State). q.money.total) (sym (last-new f d subtype n a found x y)) ∙ tail-total rs (each-new f d subtype n a found x y) (ends-new f d subtype n a found x y).tail positive

  -- Before the line all fits, and the line stores nothing.
  fits_line : all_fit start_state rs ≡ all_fit new p.behind
  unfolding all_fit fits_all
  fits_line = ap (all_fit start_state) (records-new f d subtype n a found x y) ∙ (fits-append start_state p.before _ ∙ rw (old-fits.0, line-kind f d subtype n a found x y))

  -- The line's section, its delega and the tail decide.
  fits-test : all_fit start_state rs ≡ cond (fits_row (section_at s).totals own) (cond (fifteen final) (fifteen tail) false) false
  fits-test =
      let k = line-kind f d subtype n a found x y in
      let l = line-stage st (amended s x y p.here) k in
      fits_line
      ∙ (fits-from d s (next st p.here) new p.behind (off-line d s st p.here _ p.number p.kind k) (l.2 ∙ p.number) l.0 l.1 (each-behind f d subtype n a found x y) old-fits.1 (ends-behind f d subtype n a found x y).tail
      ∙ rw (section-own, final-own, tail-own, row_fits s own))

  -- Where one of these has more than fifteen digits, not all fits.
  overflow-refused : Overflows d s rs → all_fit start_state rs ≡ true → ⊥
  overflow-refused o e =
      let t = both_true (fits_row (section_at s).totals own) _ (sym fits-test ∙ e) in
      let u = both_true (fifteen final) _ t.1 in
      go o (row-holds (section_at s).totals own t.0) (leb-true _ _ u.0) (leb-true _ _ u.1)
    where
      go : Overflows d s rs → RowHolds (section_at s).totals own → final ≤ 999_999_999_999_999 → tail ≤ 999_999_999_999_999 → ⊥
      go (TotalDebit e h) r i j = omega (arith, (r.totals e).0)
      go (TotalCredit e h) r i j = omega (arith, (r.totals e).1)
      go (SectionBalance h) r i j = omega (arith, r.balance)
      go (FinalBalance h) r i j = omega arith
      go (TailSum h) r i j = omega arith

  -- Where not all fits, one of these has more.
  overflow-told : all_fit start_state rs ≡ false → Overflows d s rs
  overflow-told e =
      go (section_at s).totals (fifteen own.debit) (fifteen own.credit) (fifteen (apart own.debit own.credit)) (fifteen final) (fifteen tail) refl refl refl refl refl refl (sym fits-test ∙ e)
    where
      go : (b t u v w z : Bool) → (section_at s).totals ≡ b → fifteen own.debit ≡ t → fifteen own.credit ≡ u → fifteen (apart own.debit own.credit) ≡ v → fifteen final ≡ w → fifteen tail ≡ z →
          cond (cond b (cond t (cond u v false) false) v) (cond w z false) false ≡ false → Overflows d s rs
      go true false u v w z i j k l m o q = TotalDebit i (leb-false _ _ j)
      go true true false v w z i j k l m o q = TotalCredit i (leb-false _ _ k)
      go true true true false w z i j k l m o q = SectionBalance (leb-false _ _ l)
      go true true true true false z i j k l m o q = FinalBalance (leb-false _ _ m)
      go true true true true true false i j k l m o q = TailSum (leb-false _ _ o)
      go true true true true true true i j k l m o q = absurd (true≢false q)
      go false t u false w z i j k l m o q = SectionBalance (leb-false _ _ l)
      go false t u true false z i j k l m o q = FinalBalance (leb-false _ _ m)
      go false t u true true false i j k l m o q = TailSum (leb-false _ _ o)
      go false t u true true true i j k l m o q = absurd (true≢false q)

  -- "a new stored total, balance or sum has more digits than its field": of the flow with the line's amounts replaced, only these can.
  pub only-these-can-overflow : (all_fit start_state (new_records f d subtype n x y) ≡ false) ↔ Overflows d (section_of subtype) (new_records f d subtype n x y)
  only-these-can-overflow = (overflow-told, λ o. go (all_fit start_state rs) refl (overflow-refused o))
    where
      go : (b : Bool) → all_fit start_state rs ≡ b → (all_fit start_state rs ≡ true → ⊥) → all_fit start_state rs ≡ false
      go true e h = absurd (h e)
      go false e h = e
