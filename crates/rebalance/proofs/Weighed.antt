-- What is weighed of records: none that rebalancing mends closes a negative delega; and records one after the other are weighed one part after the other.
use Prim.Native.Nat.{ℕ}
use mathlib.Core.Path.{◌≡◌, refl}
use mathlib.Core.Bool.{Bool, true, false, cond}
use mathlib.Core.List.{List, [], ◌∷◌, ◌++◌}
use lib.Dec.{ltb}
use Rattle.layout.specs.declared.Kind.{Kind}
use Rattle.layout.specs.declared.Kind.TheVariants.{Head, Taxpayer, Domicile, Line, Balance, Payment, Receipt, Addressee, Tail, Unknown}
use Rattle.layout.specs.Kinds.{kind_in}
use Rattle.rules.specs.declared.State.{State}
use Rattle.refusal.specs.Outcomes.{Pass, Fails}
use Rattle.rules.specs.Stored.{stored_of}
use Rattle.rules.specs.Checks.{negative_fault, own_fault}
use Rattle.rules.specs.Step.{next}
use Rattle.judge.specs.Plain.{state_after}
use Rattle.rebalance.specs.Rebalance.{fits_all, all_fit, Mendable}
use Rattle.rebalance.specs.Weigh.{negative_at, any_negative}
use Rattle.rebalance.proofs.Emit.{kept-each}

-- A record that passes its own rules does not close a negative delega.
own-positive : (name : List ℕ) (st : State) (k : Kind) (r : List ℕ) → own_fault name st k r ≡ Pass → negative_at st k ≡ false
unfolding negative_fault
own-positive name st Head r e = refl
own-positive name st Taxpayer r e = refl
own-positive name st Domicile r e = refl
own-positive name st (Line s) r e = refl
own-positive name st (Balance s) r e = refl
own-positive name st Payment r e = go (ltb st.money.delega.all.debit st.money.delega.all.credit) e
  where
    go : (t : Bool) → cond t (Fails 14 2) Pass ≡ Pass → t ≡ false
    go true e = cc
    go false e = refl
own-positive name st Receipt r e = refl
own-positive name st Addressee r e = refl
own-positive name st Tail r e = refl
own-positive name st Unknown r e = refl

-- No delega of records that rebalancing mends is negative.
pub mendable-positive : (name : List ℕ) (st : State) (rs : List (List ℕ)) → Mendable name st rs → any_negative st rs ≡ false
unfolding any_negative
mendable-positive name st [] m = refl
mendable-positive name st (r ∷ rs) m = rw (own-positive name st (kind_in r) r (kept-each name st r m.1).own, mendable-positive name (next st r) rs m.3)

-- A delega of records is negative where one of the first is, or one of the others.
pub negative-append : (st : State) (xs ys : List (List ℕ)) → any_negative st (xs ++ ys) ≡ cond (any_negative st xs) true (any_negative (state_after st xs) ys)
unfolding any_negative state_after
negative-append st [] ys = refl
negative-append st (x ∷ xs) ys = go (negative_at st (kind_in x)) (negative-append (next st x) xs ys)
  where
    go : (b : Bool) → any_negative (next st x) (xs ++ ys) ≡ cond (any_negative (next st x) xs) true (any_negative (state_after (next st x) xs) ys) →
        cond b true (any_negative (next st x) (xs ++ ys)) ≡ cond (cond b true (any_negative (next st x) xs)) true (any_negative (state_after (next st x) xs) ys)
    go true e = refl
    go false e = e

-- What is stored in records fits where that in the first does, and that in the others.
pub fits-append : (st : State) (xs ys : List (List ℕ)) → all_fit st (xs ++ ys) ≡ cond (all_fit st xs) (all_fit (state_after st xs) ys) false
unfolding all_fit state_after
fits-append st [] ys = refl
fits-append st (x ∷ xs) ys = go (fits_all (stored_of st (kind_in x))) (fits-append (next st x) xs ys)
  where
    go : (b : Bool) → all_fit (next st x) (xs ++ ys) ≡ cond (all_fit (next st x) xs) (all_fit (state_after (next st x) xs) ys) false →
        cond b (all_fit (next st x) (xs ++ ys)) false ≡ cond (cond b (all_fit (next st x) xs) false) (all_fit (state_after (next st x) xs) ys) false
    go true e = e
    go false e = refl

-- Where neither of two tests holds, each fails.
pub neither : (a b : Bool) → cond a true b ≡ false → (a ≡ false) × (b ≡ false)
neither true b e = (e, cc)
neither false b e = (refl, e)
