-- Only the line's own delega can turn negative.
use Prim.Native.Nat.{ℕ, ◌+◌}
use mathlib.Core.Path.{◌≡◌, refl, sym, ap, ap₂, ◌∙◌}
use mathlib.Core.Bool.{Bool, true, false, cond}
use mathlib.Core.List.{List, [], ◌∷◌}
use mathlib.Core.Logic.{◌↔◌}
use native.Mathlib.Omega.{arith}
use borrow.Author.Tests.{ltb-true, lt-ltb, eq-eqb}
use lib.Dec.{eqb, ltb}
use Rattle.layout.specs.Kinds.{of_payment, kind_in}
use Rattle.layout.specs.Fields.{delega_number, value_of}
use Rattle.rules.specs.declared.DelegaSums.{DelegaSums}
use Rattle.rules.specs.declared.State.{State}
use Rattle.rules.specs.State.{start_state}
use Rattle.rules.specs.Step.{next}
use Rattle.judge.specs.Refusal.{Accepted}
use Rattle.judge.specs.Flow.{records_of, head_name_of, judged}
use Rattle.judge.specs.Plain.{Debit, Credit, state_after}
use Rattle.delega.specs.PlainDelega as Delega
use Rattle.delega.proofs.Moves.{open_at, Between, Standing, Each, Move, Adds, Pays, Keeps, move-of}
use Rattle.delega.proofs.OwnRecords.{payment-delega, at_closing, Ends}
use Rattle.delega.proofs.Held.{closing, closing_lines}
use Rattle.rebalance.specs.Weigh.{negative_at, any_negative}
use Rattle.rebalance.proofs.Fitting.{alone}
use Rattle.rebalance.proofs.Judged.{accepted-mends}
use Rattle.rebalance.proofs.Weighed.{mendable-positive, negative-append, neither}
use Rattle.find.specs.Line.{line_of}
use Rattle.correct.specs.Correction.{section_of}
use Rattle.correct.specs.WhenRefused.{HasLine, Negative, new_records}
use Rattle.correct.proofs.Split.{Split, line-splits, line-found}
use Rattle.correct.proofs.OtherSums.{next-delega}
use Rattle.correct.proofs.InOrder.{line-kind, records-new, each-behind, each-new, opened, one-at-least, ends-behind, ends-new, closing-new}

-- The same deleghe are negative after two states with the same sums of the open one.
same-negative : (a b : State) (rs : List (List ℕ)) → a.money.delega ≡ b.money.delega → any_negative a rs ≡ any_negative b rs
unfolding any_negative
same-negative a b [] e = refl
same-negative a b (r ∷ rs) e =
    ap₂ (λ (t : DelegaSums) (u : Bool). cond (of_payment false (ltb t.all.debit t.all.credit) (kind_in r)) true u) e (same-negative (next a r) (next b r) rs (next-delega a b r e))

-- Where no delega behind it is negative, one is exactly where that with the next 50-01 is.
negative-closing : (d n : ℕ) (a b : State) (rs : List (List ℕ)) → n + 1 ≡ d → Between n b → Each Standing b rs → Ends d (state_after b rs) → any_negative a rs ≡ false →
    any_negative b rs ≡ ltb (closing d b rs).all.debit (closing d b rs).all.credit
unfolding any_negative state_after at_closing
negative-closing d n a b [] e c h w q = absurd (omega (arith, c.counted, w.enough, ap open_at w.tail))
negative-closing d n a b (r ∷ rs) e c h w q = go (move-of n b c r h.0) (λ i. negative-closing d n (next a r) (next b r) rs e i h.1 w (neither (negative_at a (kind_in r)) _ q).1)
  where
    go : Move n b (kind_in r) (value_of r delega_number) (next b r) → (Between n (next b r) → any_negative (next b r) rs ≡ ltb (closing d (next b r) rs).all.debit (closing d (next b r) rs).all.credit) →
        any_negative b (r ∷ rs) ≡ ltb (closing d b (r ∷ rs)).all.debit (closing d b (r ∷ rs)).all.credit
    go (Adds s k v i) f = rw k (f i)
    go (Pays k v m i) f =
        let z = same-negative (next b r) (next a r) rs (payment-delega b r k ∙ sym (payment-delega a r k)) ∙ (neither (negative_at a (kind_in r)) _ q).1 in
        rw (k, eq-eqb b.deleghe d (omega arith), z) (alone (ltb b.money.delega.all.debit b.money.delega.all.credit))
    go (Keeps k m i) f = rw ((k (λ j. 0) 0 (eqb b.deleghe d)).2, (k (λ j. 0) 0 (ltb b.money.delega.all.debit b.money.delega.all.credit)).2) (f i)

-- An accepted flow in which the line is found, and other amounts for it.
module _ (f : List ℕ) (d subtype n : ℕ) (a : (judged f).verdict ≡ Accepted) (there : HasLine f d subtype n) (x y : ℕ) where
  abbrev rs : List (List ℕ)
  rs = new_records f d subtype n x y

  abbrev found : line_of f d subtype n ≡ 0 → ⊥
  found = line-found f d subtype n a there

  abbrev p : Split d (section_of subtype) start_state 0 (line_of f d subtype n) (records_of f)
  p = line-splits f d subtype n found

  -- No delega of the flow as it was is negative, before the line or behind it.
  old-positive : (any_negative start_state p.before ≡ false) × (any_negative (next (state_after start_state p.before) p.here) p.behind ≡ false)
  unfolding any_negative
  old-positive =
      let e = mendable-positive (head_name_of f) start_state (records_of f) (accepted-mends f a) in
      let q = neither (any_negative start_state p.before) _ (sym (ap (any_negative start_state) p.split ∙ negative-append start_state p.before (p.here ∷ p.behind)) ∙ e) in
      (q.0, (neither (negative_at (state_after start_state p.before) (kind_in p.here)) _ q.1).1)

  -- 14 is the test of the line's own delega.
  negative-test : any_negative start_state rs ≡ ltb (Delega.lines_of d Debit rs) (Delega.lines_of d Credit rs)
  unfolding any_negative
  negative-test =
      let o = old-positive in
      let i = opened f d subtype n a found x y in
      let c = closing_lines d rs (one-at-least f d subtype n a found x y) (each-new f d subtype n a found x y) (ends-new f d subtype n a found x y) in
      ap (any_negative start_state) (records-new f d subtype n a found x y)
      ∙ (negative-append start_state p.before _
      ∙ (rw (o.0, line-kind f d subtype n a found x y) (negative-closing d i.closed _ _ p.behind i.own-next i.behind-line (each-behind f d subtype n a found x y) (ends-behind f d subtype n a found x y) o.1)
      ∙ (ap (λ (t : DelegaSums). ltb t.all.debit t.all.credit) (sym (closing-new f d subtype n a found x y)) ∙ ap₂ ltb (c Debit) (c Credit))))

  -- "delega negative": of the flow with the line's amounts replaced, only the line's own delega can be.
  pub only-own-delega-negative : (any_negative start_state (new_records f d subtype n x y) ≡ true) ↔ Negative d (new_records f d subtype n x y)
  only-own-delega-negative = (λ e. ltb-true _ _ (sym negative-test ∙ e), λ h. negative-test ∙ lt-ltb _ _ h)
