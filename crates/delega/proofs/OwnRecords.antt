-- Over records that stand in order and carry their numbers, what is held at the 50-01 of a delega is what the records that carry its number add up to.
use Prim.Native.Nat.{ℕ, ◌+◌, ◌<◌, ◌≤◌}
use mathlib.Core.Path.{◌≡◌, refl, sym, ap, ◌∙◌}
use mathlib.Core.Bool.{Bool, true, false, cond, false≢true}
use mathlib.Core.List.{List, [], ◌∷◌}
use mathlib.Core.Logic.{◌⊎◌, inl, inr}
use native.Mathlib.Omega.{arith}
use native.Mathlib.Decide.{ℕ_discrete}
use borrow.Author.Tests.{eq-eqb, ne_eqb}
use lib.Dec.{eqb}
use lib.ListN.{length}
use Rattle.layout.specs.declared.Kind.{Kind}
use Rattle.layout.specs.declared.Kind.TheVariants.{Line, Payment}
use Rattle.layout.specs.Kinds.{of_payment, kind_in}
use Rattle.layout.specs.Fields.{delega_number, value_of}
use Rattle.rules.specs.declared.DelegaSums.{DelegaSums}
use Rattle.rules.specs.declared.Money.{Money}
use Rattle.rules.specs.declared.State.{State}
use Rattle.rules.specs.State.{zero_delega, start_state}
use Rattle.order.specs.Stages.{after_tail}
use Rattle.rules.specs.Step.{added, added_at, line_sums, next}
use Rattle.judge.specs.Plain.{sum_over, Side, Debit, Credit, state_after}
use Rattle.delega.specs.OneDelega.{closes_at}
use Rattle.delega.specs.PlainDelega.{of_delega}
use Rattle.delega.proofs.Moves.{open_at, Between, between_start, Standing, Each, Quiet, Move, Adds, Pays, Keeps, move-of}

-- a delega's sums with a line of section s
abbrev pub with_line : DelegaSums → ℕ → List ℕ → DelegaSums
with_line t s r = record { sections = added_at t.sections s (line_sums (Line s) r); all = added t.all (line_sums (Line s) r) }

-- the open delega's sums after a line, after a 50-01, and at the start
pub line-delega : (st : State) (r : List ℕ) (s : ℕ) → kind_in r ≡ Line s → (next st r).money.delega ≡ with_line st.money.delega s r
unfolding next
line-delega st r s e = rw e

pub payment-delega : (st : State) (r : List ℕ) → kind_in r ≡ Payment → (next st r).money.delega ≡ zero_delega
unfolding next
payment-delega st r e = rw e

start-delega : start_state.money.delega ≡ zero_delega
unfolding start_state
start-delega = refl

-- what a record counts: all of it where it carries the number d, else nothing
own : (d : ℕ) (r : List ℕ) (m : ℕ) → value_of r delega_number ≡ d → of_delega d r m ≡ m
own d r m e = rw (eq-eqb (value_of r delega_number) d e)

other : (d : ℕ) (r : List ℕ) (m : ℕ) → (value_of r delega_number ≡ d → ⊥) → of_delega d r m ≡ 0
other d r m e = rw (ne_eqb (value_of r delega_number) d e)

none-counts : (d : ℕ) (r : List ℕ) (m : ℕ) → m ≡ 0 → of_delega d r m ≡ 0
none-counts d r m e = go (eqb (value_of r delega_number) d)
  where
    go : (b : Bool) → cond b m 0 ≡ 0
    go true = e
    go false = refl

-- what is taken at the 50-01 of delega d, among the records that are left after those that led to a state, with what is carried along from one kind of record to the next
unfoldable pub at_closing : {A U : Type 0} → A → (State → U → A) → (U → Kind → U) → ℕ → State → U → List (List ℕ) → A
at_closing none out after d st u [] = none
at_closing none out after d st u (r ∷ rs) = cond (closes_at d st.deleghe (kind_in r)) (out st u) (at_closing none out after d (next st r) (after u (kind_in r)) rs)

-- the last record was EF, and there were at least d deleghe
pub record Ends (d : ℕ) (last : State) : Type 0 where
  pub tail : last.stage.phase ≡ after_tail
  pub enough : d ≤ last.deleghe

-- what is carried along and taken at a 50-01, two numbers of each record, what holds of the two numbers that the open delega has come to, and what is said of them at the end
module _ {A U : Type 0} (absent : A) (out : State → U → A) (after : U → Kind → U) (d : ℕ) (g : Side → List ℕ → ℕ) (Holds : State → U → ℕ → ℕ → Type 0) (Says : A → ℕ → ℕ → Type 0)
    (Fine : State → List ℕ → Type 0)
    (fine : (st : State) (r : List ℕ) → Fine st r → Standing st r)
    (counts : (n : ℕ) (st : State) (r : List ℕ) → Between n st → Fine st r → Quiet (kind_in r) → (x : Side) → (g x r ≡ 0) ⊎ (value_of r delega_number ≡ n + 1))
    (grows : (n : ℕ) (st : State) (u : U) (r : List ℕ) → Between n st → Fine st r → of_payment false true (kind_in r) ≡ false → (h k : ℕ) → Holds st u h k →
    Holds (next st r) (after u (kind_in r)) (h + g Debit r) (k + g Credit r))
    (fresh : (st : State) (u : U) (r : List ℕ) → kind_in r ≡ Payment → Holds (next st r) (after u (kind_in r)) 0 0)
    (pay : (st : State) (u : U) (r : List ℕ) → kind_in r ≡ Payment → Fine st r → (h k : ℕ) → Holds st u h k → Says (out st u) (h + g Debit r) (k + g Credit r)) where
  -- what the records of delega d add up to
  abbrev sum : Side → List (List ℕ) → ℕ
  sum x rs = sum_over (λ r. of_delega d r (g x r)) rs

  abbrev taken : State → U → List (List ℕ) → A
  taken st u rs = at_closing absent out after d st u rs

  -- a record that is no line and no 50-01 counts in its own delega, where it counts at all
  quiet-own : (r : List ℕ) (x : Side) (n : ℕ) → n + 1 ≡ d → (g x r ≡ 0) ⊎ (value_of r delega_number ≡ n + 1) → of_delega d r (g x r) ≡ g x r
  quiet-own r x n e (inl z) = none-counts d r (g x r) z ∙ sym z
  quiet-own r x n e (inr v) = own d r (g x r) (omega arith)

  quiet-other : (r : List ℕ) (x : Side) (n : ℕ) → (n + 1 ≡ d → ⊥) → (g x r ≡ 0) ⊎ (value_of r delega_number ≡ n + 1) → of_delega d r (g x r) ≡ 0
  quiet-other r x n e (inl z) = none-counts d r (g x r) z
  quiet-other r x n e (inr v) = other d r (g x r) (λ w. e (omega arith))

  -- after the delega's 50-01 nothing counts that carries its number
  past : (x : Side) (n : ℕ) (st : State) (rs : List (List ℕ)) → d ≤ n → Between n st → Each Fine st rs → sum x rs ≡ 0
  unfolding sum_over
  past x n st [] l b f = refl
  past x n st (r ∷ rs) l b f = go (move-of n st b r (fine st r f.0)) (λ m k c. past x m (next st r) rs k c f.1)
    where
      go : Move n st (kind_in r) (value_of r delega_number) (next st r) → ((m : ℕ) → d ≤ m → Between m (next st r) → sum x rs ≡ 0) → of_delega d r (g x r) + sum x rs ≡ 0
      go (Adds i k v c) φ = omega (arith, other d r (g x r) (omega arith), φ n l c)
      go (Pays k v w c) φ = omega (arith, other d r (g x r) (omega arith), φ (n + 1) (omega arith) c)
      go (Keeps k m c) φ = omega (arith, quiet-other r x n (omega arith) (counts n st r b f.0 k x), φ n l c)

  -- the delega is the next to have its 50-01
  here : (n : ℕ) (st : State) (u : U) (rs : List (List ℕ)) → n + 1 ≡ d → Between n st → Each Fine st rs → Ends d (state_after st rs) → (h k : ℕ) → Holds st u h k → (t v : ℕ) →
      t ≡ h + sum Debit rs → v ≡ k + sum Credit rs → Says (taken st u rs) t v
  unfolding state_after sum_over at_closing
  here n st u [] e b f w h k y t v p q = absurd (omega (arith, b.counted, w.enough, ap open_at w.tail))
  here n st u (r ∷ rs) e b f w h k y t v p q =
      go (move-of n st b r (fine st r f.0)) (λ c z. here n (next st r) (after u (kind_in r)) rs e c f.1 w _ _ (grows n st u r b f.0 z h k y) t v)
    where
      go : Move n st (kind_in r) (value_of r delega_number) (next st r) →
          (Between n (next st r) → of_payment false true (kind_in r) ≡ false → t ≡ h + g Debit r + sum Debit rs → v ≡ k + g Credit r + sum Credit rs → Says (taken (next st r) (after u (kind_in r)) rs) t v) →
          Says (cond (closes_at d st.deleghe (kind_in r)) (out st u) (taken (next st r) (after u (kind_in r)) rs)) t v
      go (Adds i κ ν c) φ =
          rw (ap (of_payment false (eqb st.deleghe d)) κ)
          (φ c (ap (of_payment false true) κ) (omega (arith, own d r (g Debit r) (omega arith))) (omega (arith, own d r (g Credit r) (omega arith))))
      go (Pays κ ν m c) φ =
          let a = past Debit (n + 1) (next st r) rs (omega arith) c f.1 in
          let b = past Credit (n + 1) (next st r) rs (omega arith) c f.1 in
          rw (ap (of_payment false (eqb st.deleghe d)) κ ∙ eq-eqb st.deleghe d (omega arith))
          (rw (let z : t ≡ h + g Debit r = omega (arith, own d r (g Debit r) (omega arith)) in z, let z : v ≡ k + g Credit r = omega (arith, own d r (g Credit r) (omega arith)) in z) (pay st u r κ f.0 h k y))
      go (Keeps κ m c) φ =
          rw (κ (λ i. 0) 0 (eqb st.deleghe d)).2
          (φ c (κ (λ i. 0) 0 true).2 (omega (arith, quiet-own r Debit n e (counts n st r b f.0 κ Debit))) (omega (arith, quiet-own r Credit n e (counts n st r b f.0 κ Credit))))

  -- others come before it
  before : (n : ℕ) (st : State) (u : U) (rs : List (List ℕ)) → n + 1 < d → Between n st → Each Fine st rs → Ends d (state_after st rs) → (t v : ℕ) →
      t ≡ sum Debit rs → v ≡ sum Credit rs → Says (taken st u rs) t v
  unfolding state_after sum_over at_closing
  before n st u [] e b f w t v p q = absurd (omega (arith, b.counted, w.enough, ap open_at w.tail))
  before n st u (r ∷ rs) e b f w t v p q =
      go (move-of n st b r (fine st r f.0)) (ℕ_discrete (n + 1 + 1) d) (λ m l c. before m (next st r) (after u (kind_in r)) rs l c f.1 w t v)
    where
      passes : (x : Side) → value_of r delega_number ≡ n + 1 → of_delega d r (g x r) ≡ 0
      passes x ν = other d r (g x r) (omega arith)

      keeps : (x : Side) → Quiet (kind_in r) → of_delega d r (g x r) ≡ 0
      keeps x κ = quiet-other r x n (omega arith) (counts n st r b f.0 κ x)

      go : Move n st (kind_in r) (value_of r delega_number) (next st r) → Dec (n + 1 + 1 ≡ d) →
          ((m : ℕ) → m + 1 < d → Between m (next st r) → t ≡ sum Debit rs → v ≡ sum Credit rs → Says (taken (next st r) (after u (kind_in r)) rs) t v) →
          Says (cond (closes_at d st.deleghe (kind_in r)) (out st u) (taken (next st r) (after u (kind_in r)) rs)) t v
      go (Adds i κ ν c) l φ = rw (ap (of_payment false (eqb st.deleghe d)) κ) (φ n e c (omega (arith, passes Debit ν)) (omega (arith, passes Credit ν)))
      go (Pays κ ν m c) (yes l) φ =
          rw (ap (of_payment false (eqb st.deleghe d)) κ ∙ ne_eqb st.deleghe d (omega arith))
          (here (n + 1) (next st r) (after u (kind_in r)) rs l c f.1 w 0 0 (fresh st u r κ) t v (omega (arith, passes Debit ν)) (omega (arith, passes Credit ν)))
      go (Pays κ ν m c) (no l) φ =
          rw (ap (of_payment false (eqb st.deleghe d)) κ ∙ ne_eqb st.deleghe d (omega arith)) (φ (n + 1) (omega arith) c (omega (arith, passes Debit ν)) (omega (arith, passes Credit ν)))
      go (Keeps κ m c) l φ = rw (κ (λ i. 0) 0 (eqb st.deleghe d)).2 (φ n e c (omega (arith, keeps Debit κ)) (omega (arith, keeps Credit κ)))

  -- from the first record on
  pub own-numbers : (u : U) → Holds start_state u 0 0 → (rs : List (List ℕ)) → 1 ≤ d → Each Fine start_state rs → Ends d (state_after start_state rs) → Says (taken start_state u rs) (sum Debit rs) (sum Credit rs)
  own-numbers u y rs lo f w = go (ℕ_discrete 1 d)
    where
      go : Dec (1 ≡ d) → Says (taken start_state u rs) (sum Debit rs) (sum Credit rs)
      go (yes l) = here 0 start_state u rs l between_start f w 0 0 y _ _ (omega arith) (omega arith)
      go (no l) = before 0 start_state u rs (omega arith) between_start f w _ _ refl refl

-- two numbers of a delega's sums, what a line adds to each, and what is said of the two with what the 50-01 adds
module _ {A U : Type 0} (absent : A) (out : State → U → A) (after : U → Kind → U) (d : ℕ) (D : Side → DelegaSums → ℕ) (g : Side → List ℕ → ℕ) (Says : A → ℕ → ℕ → Type 0)
    (Fine : State → List ℕ → Type 0)
    (fine : (st : State) (r : List ℕ) → Fine st r → Standing st r)
    (none : (x : Side) (r : List ℕ) → Quiet (kind_in r) → g x r ≡ 0)
    (zero : (x : Side) → D x zero_delega ≡ 0)
    (line : (x : Side) (t : DelegaSums) (r : List ℕ) (i : ℕ) → kind_in r ≡ Line i → length t.sections ≡ 5 → D x (with_line t i r) ≡ D x t + g x r)
    (pay : (st : State) (u : U) (r : List ℕ) → kind_in r ≡ Payment → Fine st r → (t v : ℕ) →
    t ≡ D Debit st.money.delega + g Debit r → v ≡ D Credit st.money.delega + g Credit r → Says (out st u) t v) where
  -- what the open delega holds
  abbrev held : Side → State → ℕ
  held x st = D x st.money.delega

  grown : (n : ℕ) (st : State) (r : List ℕ) → Between n st → Fine st r → of_payment false true (kind_in r) ≡ false → (x : Side) → held x (next st r) ≡ held x st + g x r
  grown n st r b f z x = go (move-of n st b r (fine st r f))
    where
      go : Move n st (kind_in r) (value_of r delega_number) (next st r) → held x (next st r) ≡ held x st + g x r
      go (Adds i κ ν c) = ap (D x) (line-delega st r i κ) ∙ line x st.money.delega r i κ b.five
      go (Pays κ ν m c) = absurd (false≢true (sym z ∙ ap (of_payment false true) κ))
      go (Keeps κ m c) = ap (λ (t : Money). D x t.delega) m ∙ omega (arith, none x r κ)

  emptied : (st : State) (r : List ℕ) → kind_in r ≡ Payment → (x : Side) → held x (next st r) ≡ 0
  emptied st r κ x = ap (D x) (payment-delega st r κ) ∙ zero x

  -- from the first record on
  pub own-records : (u : U) (rs : List (List ℕ)) → 1 ≤ d → Each Fine start_state rs → Ends d (state_after start_state rs) →
      Says (at_closing absent out after d start_state u rs) (sum_over (λ r. of_delega d r (g Debit r)) rs) (sum_over (λ r. of_delega d r (g Credit r)) rs)
  own-records u =
      own-numbers absent out after d g (λ st u h k. (held Debit st ≡ h) × (held Credit st ≡ k)) Says Fine fine (λ n st r b f κ x. inl (none x r κ))
      (λ n st u r b f z h k y. (omega (arith, grown n st r b f z Debit, y.0), omega (arith, grown n st r b f z Credit, y.1)))
      (λ st u r κ. (emptied st r κ Debit, emptied st r κ Credit))
      (λ st u r κ f h k y. pay st u r κ f _ _ (omega (arith, y.0)) (omega (arith, y.1)))
      u (ap (D Debit) start-delega ∙ zero Debit, ap (D Credit) start-delega ∙ zero Credit)
