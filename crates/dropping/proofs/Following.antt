-- A flow and what is left of it, record by record: what their two states have in common.
use Prim.Native.Nat.{ℕ, ◌≤◌}
use mathlib.Core.Path.{◌≡◌, refl, sym, ap, ◌∙◌}
use mathlib.Core.Bool.{Bool, true, false, cond, false≢true}
use mathlib.Core.List.{List, [], ◌∷◌}
use mathlib.Core.Logic.{◌⊎◌, inl, inr}
use native.Mathlib.Omega.{arith}
use borrow.Author.Tests.{eqb-true, eq-eqb}
use lib.Dec.{eqb}
use Rattle.text.specs.Among.{among}
use Rattle.layout.specs.declared.Kind.{Kind}
use Rattle.layout.specs.declared.Kind.TheVariants.{Head, Taxpayer, Domicile, Line, Balance, Payment, Receipt, Addressee, Tail, Unknown}
use Rattle.layout.specs.Kinds.{numbered}
use Rattle.amounts.specs.declared.Sums.{Sums}
use Rattle.amounts.specs.Amounts.{final_of}
use Rattle.order.specs.declared.Stage.{Stage}
use Rattle.order.specs.Stages.{after_head, after_payment, after_receipt, after_addressee}
use Rattle.order.specs.Order.{stands, next_stage}
use Rattle.rules.specs.declared.DelegaSums.{DelegaSums}
use Rattle.rules.specs.declared.Money.{Money}
use Rattle.rules.specs.declared.State.{State}
use Rattle.rules.specs.State.{start_state}
use Rattle.rules.specs.Step.{added, added_at, next_deleghe, next_money, next_of}
use Rattle.close.specs.Closing.{left_of}
use Rattle.close.proofs.Counted.{left-kept, left-taken, none_left}

-- A record that carries a number begins a delega, or stands within one.
pub data Sort : Kind → Type 0 where
  head : Sort Head
  opening : Sort Taxpayer
  inside : {k : Kind} → numbered k ≡ true → ((d : ℕ) → next_deleghe d k ≡ d) → ((p : Stage) → (2 ≤ (next_stage p k).phase) × ((next_stage p k).phase ≤ 8)) → Sort k
  tail : Sort Tail
  none : Sort Unknown

pub sort : (k : Kind) → Sort k
unfolding numbered
sort Head = head
sort Taxpayer = opening
sort Domicile = inside {k = Domicile} refl (λ d. refl) (λ p. omega arith)
sort (Line s) = inside {k = Line s} refl (λ d. refl) (λ p. omega arith)
sort (Balance s) = inside {k = Balance s} refl (λ d. refl) (λ p. omega arith)
sort Payment = inside {k = Payment} refl (λ d. refl) (λ p. omega arith)
sort Receipt = inside {k = Receipt} refl (λ d. refl) (λ p. omega arith)
sort Addressee = inside {k = Addressee} refl (λ d. refl) (λ p. omega arith)
sort Tail = tail
sort Unknown = none

-- The sums of an open delega go on alike, and the smaller of two totals stays the smaller.
pub money-on : (a b : Money) (k : Kind) (x : Sums) → a.delega ≡ b.delega → a.total ≤ b.total → ((next_money a k x).delega ≡ (next_money b k x).delega) × ((next_money a k x).total ≤ (next_money b k x).total)
money-on a b Head x e h = (e, h)
money-on a b Taxpayer x e h = (refl, h)
money-on a b Domicile x e h = (e, h)
money-on a b (Line s) x e h = (ap (λ (t : DelegaSums). record { sections = added_at t.sections s x; all = added t.all x }) e, h)
money-on a b (Balance s) x e h = (e, h)
money-on a b Payment x e h = let f = ap (λ (t : DelegaSums). final_of t.all) e in (refl, omega arith)
money-on a b Receipt x e h = (e, h)
money-on a b Addressee x e h = (e, h)
money-on a b Tail x e h = (e, h)
money-on a b Unknown x e h = (e, h)

-- A total never falls.
total-grows : (m : Money) (k : Kind) (x : Sums) → m.total ≤ (next_money m k x).total
total-grows m Head x = omega arith
total-grows m Taxpayer x = omega arith
total-grows m Domicile x = omega arith
total-grows m (Line s) x = omega arith
total-grows m (Balance s) x = omega arith
total-grows m Payment x = omega arith
total-grows m Receipt x = omega arith
total-grows m Addressee x = omega arith
total-grows m Tail x = omega arith
total-grows m Unknown x = omega arith

-- A delega has just ended in what is left, or none has begun.
abbrev pub Closed : State → Type 0
Closed on = (among on.stage.phase (after_payment ∷ after_receipt ∷ after_addressee ∷ []) ≡ true) ⊎ ((on.stage.phase ≡ after_head) × (on.deleghe ≡ 0))

-- The last record stayed, and both stand at the same stage of the same delega; or it went, with others of a delega that is named.
pub data Place (numbers : List ℕ) (st on : State) : Type 0 where
  Open : on.stage ≡ st.stage → on.money.delega ≡ st.money.delega → among st.deleghe numbers ≡ false → Place numbers st on
  Gone : 2 ≤ st.stage.phase → st.stage.phase ≤ 8 → among st.deleghe numbers ≡ true → Closed on → Place numbers st on

-- The state of a flow and that of what is left of it.
pub record Follows (numbers : List ℕ) (st on : State) : Type 0 where
  pub number : on.deleghe ≡ left_of numbers st.deleghe
  pub seen : on.seen ≤ st.seen
  pub total : on.money.total ≤ st.money.total
  pub early : st.stage.phase ≤ 1 → st.deleghe ≡ 0
  pub place : Place numbers st on

-- Before the first record, where no delega has the number 0.
pub follows-start : (numbers : List ℕ) → among 0 numbers ≡ false → Follows numbers start_state start_state
unfolding start_state left_of
follows-start numbers e = record { number = refl; seen = omega arith; total = omega arith; early = λ h. refl; place = Open refl refl e }

-- A delega may begin where one has ended or none has begun; EF may stand where one has ended.
pub closed-taxpayer : (on : State) → Closed on → stands on.stage Taxpayer ≡ true
unfolding stands among
closed-taxpayer on (inl e) = go (eqb on.stage.phase after_head) e
  where
    go : (b : Bool) {c : Bool} → c ≡ true → cond b true c ≡ true
    go true e = refl
    go false e = e
closed-taxpayer on (inr e) = rw (eq-eqb on.stage.phase after_head e.0)

pub closed-tail : (on : State) → Closed on → (on.deleghe ≡ 0 → ⊥) → stands on.stage Tail ≡ true
unfolding stands
closed-tail on (inl e) n = e
closed-tail on (inr e) n = absurd (n e.1)

-- Where a delega may begin, one has ended or none has begun.
taxpayer-closed : (st on : State) → on.stage ≡ st.stage → stands st.stage Taxpayer ≡ true → (st.stage.phase ≡ after_head → on.deleghe ≡ 0) → Closed on
unfolding stands among
taxpayer-closed st on e s z = go (eqb st.stage.phase after_head) refl s
  where
    go : (b : Bool) → eqb st.stage.phase after_head ≡ b → cond b true (among st.stage.phase (after_payment ∷ after_receipt ∷ after_addressee ∷ [])) ≡ true → Closed on
    go true q f = let p = eqb-true st.stage.phase after_head q in inr (ap (λ (t : Stage). t.phase) e ∙ p, z p)
    go false q f = inl (ap (λ (t : Stage). among t.phase (after_payment ∷ after_receipt ∷ after_addressee ∷ [])) e ∙ f)

module _ (numbers : List ℕ) (st on : State) (f : Follows numbers st on) (x : Sums) where
  -- A record of a delega that is not named is gone over in both.
  pub kept_on : {k : Kind} → Sort k → numbered k ≡ true → among (next_deleghe st.deleghe k) numbers ≡ false → Follows numbers (next_of st k x) (next_of on k x)
  unfolding numbered
  kept_on head n e = absurd (false≢true n)
  kept_on opening n e =
      let h = f.seen in
      record { number = omega (arith, left-kept numbers st.deleghe e, f.number); seen = omega arith; total = f.total; early = λ h. absurd (omega arith); place = Open refl refl e }
  kept_on {k} (inside m d p) n e = go f.place
    where
      a : among st.deleghe numbers ≡ false
      a = ap (λ (i : ℕ). among i numbers) (sym (d st.deleghe)) ∙ e

      go : Place numbers st on → Follows numbers (next_of st k x) (next_of on k x)
      go (Open s g b) =
          let h = f.seen in
          let w = money-on on.money st.money k x g f.total in
          record {
            number = d on.deleghe ∙ (f.number ∙ ap (left_of numbers) (sym (d st.deleghe)));
            seen = omega arith;
            total = w.1;
            early = λ h. absurd (omega (arith, (p st.stage).0));
            place = Open (ap (λ (t : Stage). next_stage t k) s) w.0 e;
          }
      go (Gone u v b c) = absurd (false≢true (sym a ∙ b))
  kept_on tail n e = absurd (false≢true n)
  kept_on none n e = absurd (false≢true n)

  -- A record of a delega that is named is gone over in the flow alone.
  pub taken-on : {k : Kind} → Sort k → numbered k ≡ true → among (next_deleghe st.deleghe k) numbers ≡ true → stands st.stage k ≡ true → Follows numbers (next_of st k x) on
  unfolding numbered
  taken-on head n e s = absurd (false≢true n)
  taken-on opening n e s = let h = f.seen in record { number = f.number ∙ sym (left-taken numbers st.deleghe e); seen = omega arith; total = f.total; early = λ h. absurd (omega arith); place = Gone (omega arith) (omega arith) e (go f.place) }
    where
      go : Place numbers st on → Closed on
      go (Open g m b) = taxpayer-closed st on g s (λ z. f.number ∙ (ap (left_of numbers) (f.early (omega arith)) ∙ none_left numbers))
      go (Gone u v b c) = c
  taken-on {k} (inside m d p) n e s = go f.place
    where
      a : among st.deleghe numbers ≡ true
      a = ap (λ (i : ℕ). among i numbers) (sym (d st.deleghe)) ∙ e

      go : Place numbers st on → Follows numbers (next_of st k x) on
      go (Open g w b) = absurd (false≢true (sym b ∙ a))
      go (Gone u v b c) =
          let h = f.seen in
          record {
            number = f.number ∙ ap (left_of numbers) (sym (d st.deleghe));
            seen = omega arith;
            total = omega (arith, f.total, total-grows st.money k x);
            early = λ h. absurd (omega (arith, (p st.stage).0));
            place = Gone (p st.stage).0 (p st.stage).1 e c;
          }
  taken-on tail n e s = absurd (false≢true n)
  taken-on none n e s = absurd (false≢true n)
