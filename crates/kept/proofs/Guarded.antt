-- A call that is guarded by a record: its own judgement's refusals, then 29, then the plain call. What holds of every such call.
use Prim.Native.Nat.{ℕ, ◌<◌, ◌≤◌}
use mathlib.Core.Path.{◌≡◌, refl, sym, ap, ◌∙◌}
use mathlib.Core.Bool.{Bool, true, false, cond, true≢false, false≢true}
use mathlib.Core.List.{List}
use mathlib.Core.Logic.{◌↔◌}
use native.Mathlib.Omega.{arith}
use borrow.Author.Tests.{ltb-true, ltb-false, ne_eqb}
use lib.Dec.{ltb}
use lib.ListN.{length}
use Rattle.refusal.specs.declared.Refusal.{Refusal}
use Rattle.refusal.specs.Refusals.{refusal, no_refusal}
use Rattle.sums.specs.declared.KeptSums.{KeptSums}
use Rattle.sums.specs.LineSums.{kept_of, stands_for}
use Rattle.sums.specs.Inner.{matched}
use Rattle.sums.proofs.Equality.{stands-exactly}
use Rattle.kept.specs.Inner.{mismatch_of}
use Rattle.kept.specs.WhenRefused.{Answers, AsJudged, Mismatched, AsPlain}

-- A record that does not stand for a flow is not the flow's own.
pub stands-not : (k : KeptSums) (f : List ℕ) → (stands_for k f ≡ false) ↔ (k ≡ kept_of f → ⊥)
stands-not k f = (λ e q. true≢false (sym ((stands-exactly k f).1 q) ∙ e), λ h. go (stands_for k f) refl h)
  where
    go : (b : Bool) → stands_for k f ≡ b → (k ≡ kept_of f → ⊥) → stands_for k f ≡ false
    go true e h = absurd (h ((stands-exactly k f).0 e))
    go false e h = e

-- A record that is found to match stands for the flow, which is no longer than one may be.
pub matched-stands : (k : KeptSums) (f : List ℕ) → matched k f ≡ true → (stands_for k f ≡ true) × (length f ≤ 65520)
unfolding matched
matched-stands k f e = go (ltb 65520 (length f)) refl e
  where
    go : (b : Bool) → ltb 65520 (length f) ≡ b → cond b false (stands_for k f) ≡ true → (stands_for k f ≡ true) × (length f ≤ 65520)
    go true p h = absurd (false≢true h)
    go false p h = (h, ltb-false _ _ p)

-- A refusal that is none, or that has a number.
pub data Sort (x : Refusal) : Type 0 where
  none : x ≡ no_refusal → Sort x
  some : 1 ≤ x.number → Sort x

-- How a call refuses, what it is answered without a record, its own judgement's refusal of the flow, the record and the flow; and what it is answered with them.
pub record Guarded {A : Type 0} (refused : ℕ → ℕ → ℕ → A) (plain : A) (x : Refusal) (k : KeptSums) (f : List ℕ) (answer : A) : Type 0 where
  pub sort : Sort x
  pub long : 65520 < length f → 1 ≤ x.number
  pub told : 1 ≤ x.number → answer ≡ refused x.number x.«record» x.position
  pub weighed : x ≡ no_refusal → answer ≡ cond (stands_for k f) plain (refused 29 0 0)
  pub own : 1 ≤ x.number → plain ≡ refused x.number x.«record» x.position

module _ {A : Type 0} {refused : ℕ → ℕ → ℕ → A} {plain : A} {x : Refusal} {k : KeptSums} {f : List ℕ} {answer : A} (g : Guarded refused plain x k f answer) where
  -- Where the record stands for the flow, the answer is the plain one.
  pub guarded-plain : stands_for k f ≡ true → answer ≡ plain
  guarded-plain e = go g.sort
    where
      go : Sort x → answer ≡ plain
      go (none h) = g.weighed h ∙ rw e
      go (some h) = g.told h ∙ sym (g.own h)

  -- Where it is not found to match, the answer is the judgement's own refusal, else 29.
  pub guarded-none : matched k f ≡ false → answer ≡ refused (mismatch_of x).number (mismatch_of x).«record» (mismatch_of x).position
  unfolding matched mismatch_of
  guarded-none e = go g.sort
    where
      wrong : x ≡ no_refusal → (b : Bool) → ltb 65520 (length f) ≡ b → cond b false (stands_for k f) ≡ false → stands_for k f ≡ false
      wrong h true p q = absurd (omega (arith, g.long (ltb-true _ _ p), ap (λ (y : Refusal). y.number) h))
      wrong h false p q = q

      go : Sort x → answer ≡ refused (mismatch_of x).number (mismatch_of x).«record» (mismatch_of x).position
      go (none h) = g.weighed h ∙ rw (wrong h (ltb 65520 (length f)) refl e, h)
      go (some h) = g.told h ∙ rw (ne_eqb x.number 0 (λ z. omega arith))

  -- Each answer has its reason.
  answer-of : {a : A} → Answers refused plain x k f a → answer ≡ a
  answer-of (AsJudged {n} {r} {p} e h) = g.told (omega (arith, ap (λ (y : Refusal). y.number) e)) ∙ ap (λ (y : Refusal). refused y.number y.«record» y.position) e
  answer-of (Mismatched e h) = g.weighed e ∙ rw ((stands-not k f).1 h)
  answer-of (AsPlain e h) = g.weighed e ∙ rw ((stands-exactly k f).1 h)

  some-way : (a : A) × Answers refused plain x k f a
  some-way = by-sort g.sort
    where
      by-record : x ≡ no_refusal → (b : Bool) → stands_for k f ≡ b → (a : A) × Answers refused plain x k f a
      by-record e true h = (_, AsPlain e ((stands-exactly k f).0 h))
      by-record e false h = (_, Mismatched e ((stands-not k f).0 h))

      by-sort : Sort x → (a : A) × Answers refused plain x k f a
      by-sort (none e) = by-record e (stands_for k f) refl
      by-sort (some h) = (_, AsJudged refl h)

  pub guarded-exactly : (a : A) → (answer ≡ a) ↔ Answers refused plain x k f a
  guarded-exactly a = (λ e. rw (sym (answer-of some-way.1) ∙ e) at some-way.1, answer-of)

  -- An answer that is no refusal is the plain one, and the record is the flow's.
  pub guarded-done : (a : A) → ((n r p : ℕ) → a ≡ refused n r p → ⊥) → (answer ≡ a) ↔ ((plain ≡ a) × (k ≡ kept_of f))
  guarded-done a never = (λ e. go ((guarded-exactly a).0 e) refl, λ w. guarded-plain ((stands-exactly k f).1 w.1) ∙ w.0)
    where
      go : {b : A} → Answers refused plain x k f b → b ≡ a → (plain ≡ a) × (k ≡ kept_of f)
      go (AsJudged e h) q = absurd (never _ _ _ (sym q))
      go (Mismatched e h) q = absurd (never _ _ _ (sym q))
      go (AsPlain e h) q = (q, h)

  -- Of a call whose refusals say what they are.
  module _ (says : A → Refusal) (so : (n r p : ℕ) → says (refused n r p) ≡ refusal n r p) where
    -- No refusal has the number 0, if none of the plain call has.
    pub guarded-number : ((n r p : ℕ) → plain ≡ refused n r p → 1 ≤ n) → (m i j : ℕ) → answer ≡ refused m i j → 1 ≤ m
    guarded-number own m i j e = go ((guarded-exactly _).0 e) refl
      where
        number : (n r p : ℕ) → refused n r p ≡ refused m i j → n ≡ m
        number n r p q = ap (λ (y : Refusal). y.number) (sym (so n r p) ∙ (ap says q ∙ so m i j))

        go : {b : A} → Answers refused plain x k f b → b ≡ refused m i j → 1 ≤ m
        go (AsJudged {n} {r} {p} h l) q = omega (arith, number n r p q)
        go (Mismatched h l) q = omega (arith, number 29 0 0 q)
        go (AsPlain h l) q = own m i j q

    -- Where neither the plain call nor the judgement tells 29, it is told exactly where the flow passes and the record is not the flow's.
    pub guarded-29 : (says plain ≡ refusal 29 0 0 → ⊥) → (x ≡ refusal 29 0 0 → ⊥) → (says answer ≡ refusal 29 0 0) ↔ ((x ≡ no_refusal) × (k ≡ kept_of f → ⊥))
    guarded-29 never judgement = (λ q. go ((guarded-exactly _).0 refl) q, λ w. ap says ((guarded-exactly _).1 (Mismatched w.0 w.1)) ∙ so 29 0 0)
      where
        go : {b : A} → Answers refused plain x k f b → says b ≡ refusal 29 0 0 → (x ≡ no_refusal) × (k ≡ kept_of f → ⊥)
        go (AsJudged {n} {r} {p} e h) q = absurd (judgement (e ∙ (sym (so n r p) ∙ q)))
        go (Mismatched e h) q = (e, h)
        go (AsPlain e h) q = absurd (never q)

    -- Where it is not told, the answer is the plain one.
    pub guarded-else : (says answer ≡ refusal 29 0 0 → ⊥) → answer ≡ plain
    guarded-else never = go ((guarded-exactly _).0 refl) refl
      where
        go : {b : A} → Answers refused plain x k f b → b ≡ answer → answer ≡ plain
        go (AsJudged {n} {r} {p} e h) q = sym q ∙ sym (g.own (omega (arith, ap (λ (y : Refusal). y.number) e)) ∙ ap (λ (y : Refusal). refused y.number y.«record» y.position) e)
        go (Mismatched e h) q = absurd (never (ap says (sym q) ∙ so 29 0 0))
        go (AsPlain e h) q = sym q
