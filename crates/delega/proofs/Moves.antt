-- What a record in its place does to the count of deleghe that have their 50-01, and to the sums of the open one.
use Prim.Native.Nat.{ℕ, ◌+◌}
use mathlib.Core.Path.{◌≡◌, refl, sym, ap, ◌∙◌}
use mathlib.Core.Bool.{Bool, true, false, cond, false≢true}
use mathlib.Core.List.{List, [], ◌∷◌}
use native.Mathlib.Omega.{arith}
use borrow.Author.Tests.{eqb-true}
use lib.Dec.{eqb, ltb}
use lib.ListN.{length, length-set}
use Rattle.layout.specs.declared.Kind.{Kind}
use Rattle.layout.specs.declared.Kind.TheVariants.{Head, Taxpayer, Domicile, Line, Balance, Payment, Receipt, Addressee, Tail, Unknown}
use Rattle.layout.specs.Kinds.{of_line, of_payment, kind_in}
use Rattle.layout.specs.Fields.{delega_number, value_of}
use Rattle.amounts.specs.declared.Sums.{Sums}
use Rattle.rules.specs.declared.DelegaSums.{DelegaSums}
use Rattle.refusal.specs.Outcomes.{Pass}
use Rattle.rules.specs.declared.State.{State}
use Rattle.rules.specs.State.{zero_delega, start_state}
use Rattle.order.specs.Stages.{at_start, after_head, after_taxpayer, after_domicile, after_line, after_balance, after_payment, after_receipt, after_addressee}
use Rattle.text.specs.Among.{among}
use Rattle.order.specs.Order.{stands}
use Rattle.rules.specs.Checks.{number_fault, fault}
use Rattle.rules.specs.Step.{added_at, line_sums, next_of, next}
use Rattle.judge.specs.Plain.{NoFault}
use Rattle.judge.proofs.Accepted.{right_of, carried-number}

-- a delega is open from its record 10 to its 50-01: 1 where the last record was one of these, else 0
abbrev pub open_at : ℕ → ℕ
open_at p = cond (ltb 1 p) (cond (ltb p 6) 1 0) 0

-- n deleghe have their 50-01; the sums are zero where none is open
pub record Between (n : ℕ) (st : State) : Type 0 where
  pub counted : st.deleghe ≡ n + open_at st.stage.phase
  pub settled : open_at st.stage.phase ≡ 0 → st.money.delega ≡ zero_delega
  pub five : length st.money.delega.sections ≡ 5

-- before the first record
pub between_start : Between 0 start_state
unfolding start_state
between_start = record { counted = refl; settled = λ z. refl; five = refl }

-- a record may stand where it stands, and carries the number that it should
pub record Standing (st : State) (r : List ℕ) : Type 0 where
  pub ordered : stands st.stage (kind_in r) ≡ true
  pub numbered : number_fault st.deleghe (kind_in r) (value_of r delega_number) ≡ Pass

-- a fact of each of the records, and of the state that those before it lead to
abbrev pub Each : (State → List ℕ → Type 0) → State → List (List ℕ) → Type 0
Each Fact st [] = Unit {0}
Each Fact st (r ∷ rs) = Fact st r × Each Fact (next st r) rs

-- a record of this kind is neither a line nor a 50-01
abbrev pub Quiet : Kind → Type 0
Quiet k = (f : ℕ → ℕ) (m : ℕ) (b : Bool) → (of_line 0 f k ≡ 0) × (of_payment 0 m k ≡ 0) × (of_payment false b k ≡ false)

-- a record of kind k that carries v, after n deleghe: a line or the 50-01 of the open delega, whose number is n + 1, or neither
pub data Move (n : ℕ) (st : State) (k : Kind) (v : ℕ) (on : State) : Type 0 where
  Adds : (s : ℕ) → k ≡ Line s → v ≡ n + 1 → Between n on → Move n st k v on
  Pays : k ≡ Payment → v ≡ n + 1 → st.deleghe ≡ n + 1 → Between (n + 1) on → Move n st k v on
  Keeps : Quiet k → on.money ≡ st.money → Between n on → Move n st k v on

-- the phases of a list all have a delega open, or none has
abbrev pub EachOpen : ℕ → List ℕ → Type 0
EachOpen o [] = Unit {0}
EachOpen o (y ∷ ys) = (open_at y ≡ o) × EachOpen o ys

pub among-open : (o x : ℕ) (ys : List ℕ) → EachOpen o ys → among x ys ≡ true → open_at x ≡ o
unfolding among
among-open o x [] h e = absurd (false≢true e)
among-open o x (y ∷ ys) h e = go (eqb x y) refl e (among-open o x ys h.1)
  where
    go : (b : Bool) → eqb x y ≡ b → cond b true (among x ys) ≡ true → (among x ys ≡ true → open_at x ≡ o) → open_at x ≡ o
    go true q f g = ap open_at (eqb-true x y q) ∙ h.0
    go false q f g = g f

-- a line stands in an open delega
pub line-open : (p : ℕ) (a b : Bool) → cond (eqb p after_domicile) true (cond (eqb p after_line) a (cond (eqb p after_balance) b false)) ≡ true → open_at p ≡ 1
line-open p a b e = go (eqb p after_domicile) (eqb p after_line) (eqb p after_balance) refl refl refl e
  where
    go : (x y z : Bool) → eqb p after_domicile ≡ x → eqb p after_line ≡ y → eqb p after_balance ≡ z → cond x true (cond y a (cond z b false)) ≡ true → open_at p ≡ 1
    go true y z i j k f = ap open_at (eqb-true p after_domicile i)
    go false true z i j k f = ap open_at (eqb-true p after_line j)
    go false false true i j k f = ap open_at (eqb-true p after_balance k)
    go false false false i j k f = absurd (false≢true f)

-- so does a section's balance
pub balance-open : (p : ℕ) (a : Bool) → cond (eqb p after_line) a false ≡ true → open_at p ≡ 1
balance-open p a e = go (eqb p after_line) refl e
  where
    go : (x : Bool) → eqb p after_line ≡ x → cond x a false ≡ true → open_at p ≡ 1
    go true i f = ap open_at (eqb-true p after_line i)
    go false i f = absurd (false≢true f)

-- a record that passes stands so
pub standing-of : (name : List ℕ) (st : State) (r : List ℕ) → fault name st r ≡ Pass → Standing st r
standing-of name st r e = let a = right_of name st r e in record { ordered = a.ordered; numbered = a.numbered }

-- so do records without a fault
pub each-standing : (name : List ℕ) (st : State) (rs : List (List ℕ)) → NoFault name st rs → Each Standing st rs
each-standing name st [] h = tt
each-standing name st (r ∷ rs) h = (standing-of name st r h.0, each-standing name (next st r) rs h.1)

module _ (n : ℕ) (st : State) (b : Between n st) where
  -- nothing changes that is counted here
  same : (on : State) → on.deleghe ≡ st.deleghe → on.money.delega ≡ st.money.delega → open_at on.stage.phase ≡ open_at st.stage.phase → Between n on
  same on e m o =
      record {
        counted = omega (arith, b.counted);
        settled = λ z. m ∙ b.settled (sym o ∙ z);
        five = ap (λ (t : DelegaSums). length t.sections) m ∙ b.five;
      }

  move : (k : Kind) (v : ℕ) (x : Sums) → stands st.stage k ≡ true → number_fault st.deleghe k v ≡ Pass → Move n st k v (next_of st k x)
  unfolding stands number_fault added_at
  move Head v x o c = Keeps (λ f m t. (refl, refl, refl)) refl (same _ refl refl (sym (ap open_at (eqb-true st.stage.phase at_start o))))
  move Taxpayer v x o c =
      let z = among-open 0 st.stage.phase (after_head ∷ after_payment ∷ after_receipt ∷ after_addressee ∷ []) (refl, (refl, (refl, (refl, tt)))) o in
      Keeps (λ f m t. (refl, refl, refl)) (ap (λ (t : DelegaSums). record { delega = t; flow = st.money.flow; total = st.money.total }) (sym (b.settled z))) (record { counted = omega (arith, b.counted); settled = λ y. refl; five = refl })
  move Domicile v x o c = Keeps (λ f m t. (refl, refl, refl)) refl (same _ refl refl (sym (ap open_at (eqb-true st.stage.phase after_taxpayer o))))
  move (Line s) v x o c =
      let z = line-open st.stage.phase _ _ o in
      let w = carried-number st.deleghe v c in
      Adds s refl (omega (arith, b.counted)) (record { counted = omega (arith, b.counted); settled = λ y. absurd (omega arith); five = simp length-set b.five })
  move (Balance s) v x o c = Keeps (λ f m t. (refl, refl, refl)) refl (same _ refl refl (sym (balance-open st.stage.phase _ o)))
  move Payment v x o c =
      let z = ap open_at (eqb-true st.stage.phase after_balance o) in
      let w = carried-number st.deleghe v c in
      Pays refl (omega (arith, b.counted)) (omega (arith, b.counted)) (record { counted = omega (arith, b.counted); settled = λ y. refl; five = refl })
  move Receipt v x o c = Keeps (λ f m t. (refl, refl, refl)) refl (same _ refl refl (sym (ap open_at (eqb-true st.stage.phase after_payment o))))
  move Addressee v x o c = Keeps (λ f m t. (refl, refl, refl)) refl (same _ refl refl (sym (ap open_at (eqb-true st.stage.phase after_receipt o))))
  move Tail v x o c =
      Keeps (λ f m t. (refl, refl, refl)) refl
      (same _ refl refl (sym (among-open 0 st.stage.phase (after_payment ∷ after_receipt ∷ after_addressee ∷ []) (refl, (refl, (refl, tt))) o)))
  move Unknown v x o c = absurd (false≢true o)

  -- what a record that stands so does
  pub move-of : (r : List ℕ) → Standing st r → Move n st (kind_in r) (value_of r delega_number) (next st r)
  unfolding next
  move-of r e = move (kind_in r) (value_of r delega_number) (line_sums (kind_in r) r) e.ordered e.numbered
