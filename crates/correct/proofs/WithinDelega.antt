-- What may stand behind a line of a delega up to its 50-01, and behind EF.
use Prim.Native.Nat.{ℕ, ◌≤◌, ◌<◌}
use mathlib.Core.Path.{◌≡◌, refl}
use mathlib.Core.Bool.{Bool, true, false, cond, false≢true}
use mathlib.Core.List.{List, [], ◌∷◌}
use mathlib.Core.Logic.{◌⊎◌, inl, inr}
use native.Mathlib.Omega.{arith}
use borrow.Author.Tests.{eqb-true, ltb-true, ne_eqb}
use lib.Dec.{eqb, ltb}
use Rattle.layout.specs.declared.Kind.{Kind}
use Rattle.layout.specs.declared.Kind.TheVariants.{Head, Taxpayer, Domicile, Line, Balance, Payment, Receipt, Addressee, Tail, Unknown}
use Rattle.layout.specs.Kinds.{kind_in}
use Rattle.order.specs.declared.Stage.{Stage}
use Rattle.rules.specs.declared.State.{State}
use Rattle.order.specs.Stages.{at_start, after_head, after_taxpayer, after_domicile, after_line, after_balance, after_payment, after_receipt, after_addressee, after_tail}
use Rattle.text.specs.Among.{among}
use Rattle.order.specs.Order.{stands}
use Rattle.rules.specs.Stored.{stored_of}
use Rattle.order.specs.Order.{next_stage}
use Rattle.delega.proofs.Moves.{Standing, Each}
use Rattle.text.proofs.Tests.{both_true}

-- Behind a line the section goes on or has its balance; behind a balance a later section begins or the 50-01 stands.
pub data Follows (p : Stage) : Kind → Type 0 where
  same-section : {t : ℕ} → p.phase ≡ after_line → t ≡ p.section → Follows p (Line t)
  later-section : {t : ℕ} → p.phase ≡ after_balance → p.section < t → Follows p (Line t)
  own-balance : {t : ℕ} → p.phase ≡ after_line → t ≡ p.section → Follows p (Balance t)
  own-payment : p.phase ≡ after_balance → Follows p Payment

-- A phase other than y is not y.
not_at : (x y : ℕ) → (x ≡ y → ⊥) → eqb x y ≡ true → ⊥
not_at x y h e = h (eqb-true _ _ e)

-- Behind a line or a balance nothing else may stand.
pub follows : (p : Stage) (k : Kind) → after_line ≤ p.phase → p.phase ≤ after_balance → stands p k ≡ true → Follows p k
unfolding stands among
follows p Head lo hi e = absurd (not_at p.phase at_start (omega arith) e)
follows p Taxpayer lo hi e = absurd (false≢true (rw (ne_eqb p.phase after_head (omega arith), ne_eqb p.phase after_payment (omega arith), ne_eqb p.phase after_receipt (omega arith), ne_eqb p.phase after_addressee (omega arith)) at e))
follows p Domicile lo hi e = absurd (not_at p.phase after_taxpayer (omega arith) e)
follows p (Line t) lo hi e = go (eqb p.phase after_line) refl (rw (ne_eqb p.phase after_domicile (omega arith)) at e)
  where
    go : (b : Bool) → eqb p.phase after_line ≡ b → cond b (eqb t p.section) (cond (eqb p.phase after_balance) (cond (ltb p.section t) (ltb t 4) false) false) ≡ true → Follows p (Line t)
    go true q f = same-section (eqb-true _ _ q) (eqb-true _ _ f)
    go false q f =
        let a = both_true (eqb p.phase after_balance) _ f in
        later-section (eqb-true _ _ a.0) (ltb-true _ _ (both_true (ltb p.section t) _ a.1).0)
follows p (Balance t) lo hi e = let a = both_true (eqb p.phase after_line) _ e in own-balance (eqb-true _ _ a.0) (eqb-true _ _ a.1)
follows p Payment lo hi e = own-payment (eqb-true _ _ e)
follows p Receipt lo hi e = absurd (not_at p.phase after_payment (omega arith) e)
follows p Addressee lo hi e = absurd (not_at p.phase after_receipt (omega arith) e)
follows p Tail lo hi e = absurd (false≢true (rw (ne_eqb p.phase after_payment (omega arith), ne_eqb p.phase after_receipt (omega arith), ne_eqb p.phase after_addressee (omega arith)) at e))
follows p Unknown lo hi e = absurd (false≢true e)

-- "EF (tail), nothing after"
none-stands : (p : Stage) (k : Kind) → p.phase ≡ after_tail → stands p k ≡ true → ⊥
unfolding stands among
none-stands p Head z e = false≢true (rw z at e)
none-stands p Taxpayer z e = false≢true (rw z at e)
none-stands p Domicile z e = false≢true (rw z at e)
none-stands p (Line s) z e = false≢true (rw z at e)
none-stands p (Balance s) z e = false≢true (rw z at e)
none-stands p Payment z e = false≢true (rw z at e)
none-stands p Receipt z e = false≢true (rw z at e)
none-stands p Addressee z e = false≢true (rw z at e)
none-stands p Tail z e = false≢true (rw z at e)
none-stands p Unknown z e = false≢true e

pub none-behind : (st : State) (rs : List (List ℕ)) → st.stage.phase ≡ after_tail → Each Standing st rs → rs ≡ []
none-behind st [] z h = refl
none-behind st (r ∷ rs) z h = absurd (none-stands st.stage (kind_in r) z h.0.ordered)

-- Where two states have the same sums of the open delega, only EF can store something else, and only behind EF is the phase that of the end.
pub tail-or-same : (a b : State) (k : Kind) → a.money.delega ≡ b.money.delega → stands b.stage k ≡ true → (k ≡ Tail) ⊎ ((stored_of a k ≡ stored_of b k) × ((next_stage b.stage k).phase ≡ after_tail → ⊥))
unfolding stands
tail-or-same a b Head e h = inr (refl, omega arith)
tail-or-same a b Taxpayer e h = inr (refl, omega arith)
tail-or-same a b Domicile e h = inr (refl, omega arith)
tail-or-same a b (Line s) e h = inr (refl, omega arith)
tail-or-same a b (Balance s) e h = inr (rw e, omega arith)
tail-or-same a b Payment e h = inr (rw e, omega arith)
tail-or-same a b Receipt e h = inr (refl, omega arith)
tail-or-same a b Addressee e h = inr (refl, omega arith)
tail-or-same a b Tail e h = inl refl
tail-or-same a b Unknown e h = absurd (false≢true h)
