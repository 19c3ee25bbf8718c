-- Over records that stand in order: the set of the open delega at each stage, which sections are in it, and how many balances they have.
use Prim.Native.Nat.{ℕ, ◌+◌, ◌^◌, ◌<◌}
use mathlib.Core.Path.{◌≡◌, refl, sym, ap, ◌∙◌}
use mathlib.Core.Bool.{Bool, true, false, cond, false≢true}
use mathlib.Core.List.{List, [], ◌∷◌}
use mathlib.Core.Logic.{◌⊎◌, inl, inr}
use native.Mathlib.Omega.{arith}
use native.Mathlib.Nat.{add-zero, lt_of_lt_of_le}
use borrow.Author.Tests.{eq-eqb, eqb-true, ltb-true}
use lib.Dec.{eqb, ltb}
use lib.Bits.{bit_or}
use lib.Count.{ones}
use lib.Pow.{pow_pos, pow_mono}
use Rattle.text.proofs.Tests.{both_true}
use Rattle.layout.specs.declared.Kind.{Kind}
use Rattle.layout.specs.declared.Kind.TheVariants.{Head, Taxpayer, Domicile, Line, Balance, Payment, Receipt, Addressee, Tail, Unknown}
use Rattle.layout.specs.Kinds.{of_line, of_balance, of_payment, kind_in}
use Rattle.layout.specs.Fields.{delega_number, value_of}
use Rattle.layout.proofs.InTable.{section_of, section-within}
use Rattle.refusal.specs.Outcomes.{Pass}
use Rattle.order.specs.declared.Stage.{Stage}
use Rattle.order.specs.Stages.{stage_at, at_start, after_head, after_taxpayer, after_domicile, after_line, after_balance, after_payment, after_receipt, after_addressee}
use Rattle.order.specs.Order.{stands, next_stage}
use Rattle.rules.specs.declared.State.{State}
use Rattle.rules.specs.State.{start_state}
use Rattle.rules.specs.Checks.{number_fault}
use Rattle.rules.specs.Step.{next}
use Rattle.judge.specs.Plain.{Side, Debit, Credit}
use Rattle.judge.proofs.Accepted.{carried-number}
use Rattle.delega.specs.declared.used.Used.{Used}
use Rattle.delega.specs.Used.{bit_of, none_used, used_with, next_used, size_of}
use Rattle.delega.specs.PlainDelega.{bit_at}
use Rattle.delega.proofs.Moves.{open_at, Between, Standing, among-open, line-open, balance-open, Quiet}
use Rattle.delega.proofs.Sets.{put-section, same-section, new-section, some-bit}

-- no set of an open delega has a bit from here on: none at all before its first line, then none behind the latest section
abbrev top_at : Stage → ℕ
top_at p = cond (ltb p.phase after_line) 1 (2 ^ (p.section + 1))

-- 1 where the latest section has no balance yet
abbrev open_lines : Stage → ℕ
open_lines p = cond (eqb p.phase after_line) 1 0

-- the set of an open delega at a stage, after k of its balances
pub record SetAt (p : Stage) (x k : ℕ) : Type 0 where
  pub small : x < 32
  pub behind : x < top_at p
  pub latest : ltb after_domicile p.phase ≡ true → (p.section < 5) × (bit_at x p.section ≡ 1)
  pub counted : size_of x ≡ k + open_lines p

-- a record 10 opens a delega that uses none
opened-set : SetAt (stage_at after_taxpayer 0 0) 0 0
unfolding size_of ones
opened-set = record { small = omega arith; behind = omega arith; latest = λ e. absurd (false≢true e); counted = refl }

domicile-set : (p : Stage) (x k : ℕ) → p.phase ≡ after_taxpayer → SetAt p x k → SetAt (stage_at after_domicile 0 0) x k
domicile-set p x k e h = record { small = h.small; behind = rw e at h.behind; latest = λ f. absurd (false≢true f); counted = rw e at h.counted }

balance-set : (p : Stage) (s x k : ℕ) → p.phase ≡ after_line → s ≡ p.section → SetAt p x k → SetAt (stage_at after_balance s 0) x (k + 1)
balance-set p s x k e f h =
    record {
      small = h.small;
      behind = rw f (rw e at h.behind);
      latest = λ q. rw f (h.latest (ap (ltb after_domicile) e));
      counted = omega (arith, rw e at h.counted);
    }

-- a line of a section that is not there yet, behind all that are
new-set : (s n x k : ℕ) → s < 5 → x < 32 → x < 2 ^ s → size_of x ≡ k → SetAt (stage_at after_line s n) (bit_or x (bit_of s)) k
new-set s n x k l h b e =
    let a = new-section x s h l b in
    let c = put-section x s s h l l in
    record { small = c.0; behind = a.0; latest = λ q. (l, c.1 ∙ rw (eq-eqb s s refl)); counted = omega (arith, a.1) }

line_set : (p : Stage) (s n x k : ℕ) → s < 5 → stands p (Line s) ≡ true → SetAt p x k → SetAt (stage_at after_line s n) (bit_or x (bit_of s)) k
unfolding stands
line_set p s n x k l o h = go (eqb p.phase after_domicile) (eqb p.phase after_line) (eqb p.phase after_balance) refl refl refl o
  where
    go : (a b c : Bool) → eqb p.phase after_domicile ≡ a → eqb p.phase after_line ≡ b → eqb p.phase after_balance ≡ c →
        cond a true (cond b (eqb s p.section) (cond c (cond (ltb p.section s) (ltb s 4) false) false)) ≡ true → SetAt (stage_at after_line s n) (bit_or x (bit_of s)) k
    go true b c i j m q =
        let e = eqb-true p.phase after_domicile i in
        let z : x < 1 = rw e at h.behind in
        let t = pow_pos s in
        new-set s n x k l h.small (omega arith) (omega (arith, rw e at h.counted))
    go false true c i j m q =
        let e = eqb-true p.phase after_line j in
        let f = eqb-true s p.section q in
        let g = h.latest (ap (ltb after_domicile) e) in
        rw (same-section x s h.small l (rw f g.1))
        (record { small = h.small; behind = rw f (rw e at h.behind); latest = λ y. rw f g; counted = rw e at h.counted })
    go false false true i j m q =
        let e = eqb-true p.phase after_balance m in
        let f = ltb-true p.section s (both_true (ltb p.section s) (ltb s 4) q).0 in
        let b : x < 2 ^ (p.section + 1) = rw e at h.behind in
        new-set s n x k l h.small (lt_of_lt_of_le b (pow_mono (omega arith))) (omega (arith, rw e at h.counted))
    go false false false i j m q = absurd (false≢true q)

-- what a line of each section counts, and what holds of the lines and the set that have come to a count
module _ (f : ℕ → ℕ) (Counted : Used → ℕ → Type 0) (blank : Counted none_used 0)
    (line : (u : Used) (s h : ℕ) → s < 5 → u.set < 32 → Counted u h → Counted (used_with u s) (h + f s)) where
  -- what is used at a stage, after lines that count h, and k balances: nothing counts where no delega is open
  pub record Using (p : Stage) (u : Used) (h k : ℕ) : Type 0 where
    pub closed : open_at p.phase ≡ 0 → (h ≡ 0) × (k ≡ 0)
    pub opened : open_at p.phase ≡ 1 → Counted u h × SetAt p u.set k

  -- between two records outside a delega
  stays_closed : (p q : Stage) (u w : Used) (h k : ℕ) → open_at p.phase ≡ 0 → open_at q.phase ≡ 0 → Using p u h k → Using q w (h + 0) (k + 0)
  stays_closed p q u w h k e o g = record { closed = λ z. (omega (arith, (g.closed e).0), omega (arith, (g.closed e).1)); opened = λ z. absurd (omega arith) }

  -- within one
  stays_open : (p q : Stage) (u w : Used) (h k m n : ℕ) → open_at p.phase ≡ 1 → open_at q.phase ≡ 1 → (Counted u h × SetAt p u.set k → Counted w m × SetAt q w.set n) → Using p u h k → Using q w m n
  stays_open p q u w h k m n e o t g = record { closed = λ z. absurd (omega arith); opened = λ z. t (g.opened e) }

  using-on : (p : Stage) (u : Used) (h k : ℕ) (t : Kind) → section_of t < 5 → stands p t ≡ true → of_payment false true t ≡ false → Using p u h k → Using (next_stage p t) (next_used u t) (h + of_line 0 f t) (k + of_balance 0 (λ s. 1) t)
  unfolding stands
  using-on p u h k Head l o z g = stays_closed p _ u _ h k (ap open_at (eqb-true p.phase at_start o)) refl g
  using-on p u h k Taxpayer l o z g =
      let c = g.closed (among-open 0 p.phase (after_head ∷ after_payment ∷ after_receipt ∷ after_addressee ∷ []) (refl, (refl, (refl, (refl, tt)))) o) in
      record {
        closed = λ z. absurd (omega arith);
        opened = λ z. rw (let e : h + 0 ≡ 0 = omega (arith, c.0) in e, let e : k + 0 ≡ 0 = omega (arith, c.1) in e) (blank, opened-set);
      }
  using-on p u h k Domicile l o z g =
      let e = eqb-true p.phase after_taxpayer o in
      stays_open p _ u _ h k _ _ (ap open_at e) refl (λ a. rw (add-zero h, add-zero k) (a.0, domicile-set p u.set k e a.1)) g
  using-on p u h k (Line s) l o z g =
      stays_open p _ u _ h k _ _ (line-open p.phase _ _ o) refl (λ a. rw add-zero (line u s h l a.1.small a.0, line_set p s _ u.set k l o a.1)) g
  using-on p u h k (Balance s) l o z g =
      let e = both_true (eqb p.phase after_line) (eqb s p.section) o in
      stays_open p _ u _ h k _ _ (balance-open p.phase _ o) refl (λ a. rw add-zero (a.0, balance-set p s u.set k (eqb-true _ _ e.0) (eqb-true _ _ e.1) a.1)) g
  using-on p u h k Payment l o z g = absurd (false≢true (sym z))
  using-on p u h k Receipt l o z g = stays_closed p _ u _ h k (ap open_at (eqb-true p.phase after_payment o)) refl g
  using-on p u h k Addressee l o z g = stays_closed p _ u _ h k (ap open_at (eqb-true p.phase after_receipt o)) refl g
  using-on p u h k Tail l o z g =
      stays_closed p _ u _ h k (among-open 0 p.phase (after_payment ∷ after_receipt ∷ after_addressee ∷ []) (refl, (refl, (refl, tt))) o) refl g
  using-on p u h k Unknown l o z g = absurd (false≢true o)

  -- what a record counts: a line what its section does, a balance 1
  abbrev pub counts : Side → List ℕ → ℕ
  counts Debit r = of_line 0 f (kind_in r)
  counts Credit r = of_balance 0 (λ s. 1) (kind_in r)

  -- a balance carries its delega's number
  balance-own : (n : ℕ) (st : State) (t : Kind) (v : ℕ) → Between n st → stands st.stage t ≡ true → number_fault st.deleghe t v ≡ Pass → (◌≡◌ {A = ℕ} (of_balance 0 (λ s. 1) t) 0) ⊎ (v ≡ n + 1)
  unfolding stands number_fault
  balance-own n st Head v b o c = inl refl
  balance-own n st Taxpayer v b o c = inl refl
  balance-own n st Domicile v b o c = inl refl
  balance-own n st (Line s) v b o c = inl refl
  balance-own n st (Balance s) v b o c = inr (omega (arith, carried-number st.deleghe v c, b.counted, balance-open st.stage.phase _ o))
  balance-own n st Payment v b o c = inl refl
  balance-own n st Receipt v b o c = inl refl
  balance-own n st Addressee v b o c = inl refl
  balance-own n st Tail v b o c = inl refl
  balance-own n st Unknown v b o c = inl refl

  pub counts-own : (n : ℕ) (st : State) (r : List ℕ) → Between n st → Standing st r → Quiet (kind_in r) → (x : Side) → (counts x r ≡ 0) ⊎ (value_of r delega_number ≡ n + 1)
  counts-own n st r b e q Debit = inl (q f 0 true).0
  counts-own n st r b e q Credit = balance-own n st (kind_in r) (value_of r delega_number) b e.ordered e.numbered

  -- what is used before the first record, after each, and behind a 50-01
  pub using-start : Using start_state.stage none_used 0 0
  unfolding start_state
  using-start = record { closed = λ z. (refl, refl); opened = λ z. absurd (omega arith) }

  pub using-next : (st : State) (u : Used) (r : List ℕ) → Standing st r → of_payment false true (kind_in r) ≡ false → (h k : ℕ) → Using st.stage u h k →
      Using (next st r).stage (next_used u (kind_in r)) (h + counts Debit r) (k + counts Credit r)
  unfolding next
  using-next st u r e z h k g = using-on st.stage u h k (kind_in r) (section-within r) e.ordered z g

  pub using-behind : (st : State) (u : Used) (r : List ℕ) → kind_in r ≡ Payment → Using (next st r).stage u 0 0
  unfolding next
  using-behind st u r e = rw e (record { closed = λ z. (refl, refl); opened = λ z. absurd (omega arith) })

  -- at a 50-01 the delega is open, and each section has its balance
  pub used-at-payment : (st : State) (u : Used) (r : List ℕ) → kind_in r ≡ Payment → Standing st r → (h k : ℕ) → Using st.stage u h k →
      Counted u (h + counts Debit r) × (size_of u.set ≡ k + counts Credit r) × (u.set < 32) × (0 < u.set)
  unfolding stands
  used-at-payment st u r e s h k g =
      let p = eqb-true st.stage.phase after_balance (rw e at s.ordered) in
      let a = g.opened (ap open_at p) in
      let l = a.1.latest (ap (ltb after_domicile) p) in
      (rw (e, add-zero) a.0, omega (arith, ap (λ (t : Kind). of_balance {A = ℕ} 0 (λ s. 1) t) e, rw p at a.1.counted), a.1.small, some-bit u.set st.stage.section l.1)
