-- What is answered to a flow and a list, and exactly when.
use Rattle.std.specs.Prelude.{Err}
use Prim.Native.Nat.{ℕ, zero, suc, ◌+◌, ◌≤◌}
use mathlib.Core.Path.{◌≡◌, refl, sym, ap, ◌∙◌}
use mathlib.Core.Bool.{Bool, true, false, cond, false≢true}
use mathlib.Core.List.{List, [], ◌∷◌}
use mathlib.Core.Logic.{inl, inr, ◌↔◌}
use native.Mathlib.Omega.{arith}
use native.Mathlib.Decide.{ℕ_discrete}
use borrow.Author.Tests.{eqb-true, eqb-false, eq-eqb, ne_eqb, ltb-true}
use lib.Dec.{eqb, ltb}
use lib.ListN.{length}
use Rattle.text.specs.Among.{among}
use Rattle.text.proofs.Tests.{untrue}
use Rattle.text.proofs.Bytes.{within}
use Rattle.judge.specs.Refusal.{Verdict, Accepted, judged_first}
use Rattle.judge.specs.Flow.{judged}
use Rattle.close.specs.Closing.{each_once, left_of}
use Rattle.close.proofs.Counted.{once-parts, left-counted}
use Rattle.dropping.specs.Answers.{Dropping, Dropped, Refused}
use Rattle.dropping.specs.Dropping.{shortened, weighed, dropping_of}
use Rattle.dropping.specs.Inner.{Droppable}
use Rattle.dropping.specs.WhenRefused.{Names, here, behind, BadNumber, absent, twice, later, GoodList, Unnamed, Answers, NotAccepted, BadList, NoneLeft, AreDropped}

-- A list names a delega where its number is among the list's.
pub among-names : (d : ℕ) (ns : List ℕ) → among d ns ≡ true → Names d ns
unfolding among
among-names d [] e = absurd (false≢true e)
among-names d (n ∷ ns) e = go (eqb d n) refl e (among-names d ns)
  where
    go : (b : Bool) → eqb d n ≡ b → cond b true (among d ns) ≡ true → (among d ns ≡ true → Names d ns) → Names d (n ∷ ns)
    go true q f h = here (eqb-true d n q)
    go false q f h = behind (h f)

pub names-among : {d : ℕ} {ns : List ℕ} → Names d ns → among d ns ≡ true
unfolding among
names-among {d} (here {n} e) = rw (eq-eqb d n e)
names-among {d} (behind {n} {ns} x) = go (eqb d n) (names-among x)
  where
    go : (b : Bool) → among d ns ≡ true → cond b true (among d ns) ≡ true
    go true e = refl
    go false e = e

-- A list whose numbers are not all those of deleghe, each named once, has a bad number.
bad-in : (n : ℕ) (ns : List ℕ) → each_once n ns ≡ false → BadNumber n ns
unfolding each_once
bad-in n [] e = absurd (false≢true (sym e))
bad-in n (d ∷ ds) e = go (ltb d 1) (ltb n d) (among d ds) refl refl refl e (bad-in n ds)
  where
    go : (a b c : Bool) → ltb d 1 ≡ a → ltb n d ≡ b → among d ds ≡ c → cond (cond a false (cond b false true)) (cond c false (each_once n ds)) false ≡ false → (each_once n ds ≡ false → BadNumber n ds) → BadNumber n (d ∷ ds)
    go true b c p q r f h = absent {d = d} (inl (let h = ltb-true d 1 p in omega arith))
    go false true c p q r f h = absent (inr (ltb-true n d q))
    go false false true p q r f h = twice (among-names d ds r)
    go false false false p q r f h = later (h f)

-- A list that has a bad number is not so.
bad-out : {n : ℕ} {ns : List ℕ} → BadNumber n ns → each_once n ns ≡ true → ⊥
bad-out {n} (absent {d} {ds} (inl z)) e = omega (arith, (once-parts n d ds e).0.0)
bad-out {n} (absent {d} {ds} (inr h)) e = omega (arith, (once-parts n d ds e).0.1)
bad-out {n} (twice {d} {ds} x) e = false≢true (sym (once-parts n d ds e).1 ∙ names-among x)
bad-out {n} (later {d} {ds} x) e = bad-out x (once-parts n d ds e).2

-- Where none is left, every delega is named; where one is left, some is not.
none-unnamed : (ns : List ℕ) (n : ℕ) → left_of ns n ≡ 0 → (d : ℕ) → 1 ≤ d → d ≤ n → among d ns ≡ true
unfolding left_of
none-unnamed ns zero e d lo hi = absurd (omega arith)
none-unnamed ns (suc n) e d lo hi = go (among (suc n) ns) refl e (ℕ_discrete d (suc n)) (λ z. none-unnamed ns n z d lo)
  where
    go : (b : Bool) → among (suc n) ns ≡ b → left_of ns n + cond b 0 1 ≡ 0 → Dec (d ≡ suc n) → (left_of ns n ≡ 0 → d ≤ n → among d ns ≡ true) → among d ns ≡ true
    go true q f (yes i) h = ap (λ (x : ℕ). among x ns) i ∙ q
    go true q f (no i) h = h (omega arith) (omega arith)
    go false q f i h = absurd (omega arith)

all_named : (ns : List ℕ) (n : ℕ) → ((d : ℕ) → 1 ≤ d → d ≤ n → among d ns ≡ true) → left_of ns n ≡ 0
unfolding left_of
all_named ns zero h = refl
all_named ns (suc n) h = let e = all_named ns n (λ d lo hi. h d lo (omega arith)) in rw (h (suc n) (omega arith) (omega arith)) (omega arith)

-- One of so many deleghe that a list does not name.
record Missing (ns : List ℕ) (n : ℕ) : Type 0 where
  delega : ℕ
  from : 1 ≤ delega
  to : delega ≤ n
  missing : among delega ns ≡ false

some-missing : (ns : List ℕ) (n : ℕ) → (left_of ns n ≡ 0 → ⊥) → Missing ns n
unfolding left_of
some-missing ns zero h = absurd (h refl)
some-missing ns (suc n) h = go (among (suc n) ns) refl (λ z. some-missing ns n z) h
  where
    go : (b : Bool) → among (suc n) ns ≡ b → ((left_of ns n ≡ 0 → ⊥) → Missing ns n) → (left_of ns n + cond b 0 1 ≡ 0 → ⊥) → Missing ns (suc n)
    go true q f k = let m = f (λ z. k (omega arith)) in record { delega = m.delega; from = m.from; to = omega (arith, m.to); missing = m.missing }
    go false q f k = record { delega = suc n; from = omega arith; to = omega arith; missing = q }

-- A flow and a list.
module _ (f numbers : List ℕ) where
  abbrev deleghe : ℕ
  deleghe = (judged f).summary.deleghe

  -- An accepted flow, and what its deleghe and the list come to.
  good-list : (judged f).verdict ≡ Accepted → each_once deleghe numbers ≡ true → GoodList f numbers
  good-list a e = record { accepted = a; good = λ x. bad-out x e }

  -- Of a good list each number is that of a delega, named once.
  once-of : GoodList f numbers → each_once (judged f).summary.deleghe numbers ≡ true
  once-of g = go (each_once deleghe numbers) refl
    where
      go : (b : Bool) → each_once deleghe numbers ≡ b → each_once deleghe numbers ≡ true
      go true e = e
      go false e = absurd (g.good (bad-in deleghe numbers e))

  -- The reason of the answer, by the two tests.
  reason : (judged f).verdict ≡ Accepted → (b c : Bool) → each_once deleghe numbers ≡ b → eqb (left_of numbers deleghe) 0 ≡ c → Answers f numbers (weighed deleghe f numbers)
  unfolding weighed
  reason a true true e z = rw (z, e) (NoneLeft (good-list a e) (λ d lo hi. among-names d numbers (none-unnamed numbers deleghe (eqb-true _ _ z) d lo hi)))
  reason a true false e z =
      let m = some-missing numbers deleghe (eqb-false _ _ z) in
      rw (z, e) (AreDropped (good-list a e) (record { delega = m.delega; from = m.from; to = m.to; unnamed = λ x. false≢true (sym m.missing ∙ names-among x) }))
  reason a false true e z = rw (z, e) (BadList a (bad-in deleghe numbers e))
  reason a false false e z = rw (z, e) (BadList a (bad-in deleghe numbers e))

  -- What is answered is answered for a reason.
  pub answered : Answers f numbers (dropping_of f numbers)
  unfolding dropping_of
  answered = go (judged f).verdict refl
    where
      go : (v : Verdict) → (judged f).verdict ≡ v → Answers f numbers (judged_first Refused v (weighed deleghe f numbers))
      go Accepted a = reason a (each_once deleghe numbers) (eqb (left_of numbers deleghe) 0) refl refl
      go (Err why) a = NotAccepted a

  -- Where a delega is not named, some are left.
  some_left : Unnamed f numbers → eqb (left_of numbers (judged f).summary.deleghe) 0 ≡ false
  some_left u = ne_eqb (left_of numbers deleghe) 0 (λ z. u.unnamed (among-names u.delega numbers (none-unnamed numbers deleghe z u.delega u.from u.to)))

  -- What is answered for a reason is what is answered.
  by-reason : {a : Dropping} → Answers f numbers a → dropping_of f numbers ≡ a
  unfolding dropping_of weighed
  by-reason (NotAccepted e) = rw e
  by-reason (BadList a x) = rw (a, untrue (each_once deleghe numbers) (λ e. bad-out x e))
  by-reason (NoneLeft g h) = rw (g.accepted, once-of g, eq-eqb (left_of numbers deleghe) 0 (all_named numbers deleghe (λ d lo hi. names-among (h d lo hi))))
  by-reason (AreDropped g u) = rw (g.accepted, once-of g, some_left u)

  -- A flow and a list have this answer exactly where there is this reason.
  pub answered-exactly : (a : Dropping) → (dropping_of f numbers ≡ a) ↔ Answers f numbers a
  answered-exactly a = (λ e. rw e at answered, λ x. by-reason x)

  -- Where deleghe are dropped, they may be, and the length of the flow that is left is answered.
  pub droppable : {n : ℕ} → dropping_of f numbers ≡ Dropped n → Droppable f numbers × (n ≡ length (shortened f numbers))
  droppable {n} e = go ((answered-exactly (Dropped n)).0 e) refl
    where
      go : {a : Dropping} → Answers f numbers a → a ≡ Dropped n → Droppable f numbers × (n ≡ length (shortened f numbers))
      go (NotAccepted i) q = let z : ◌≡◌ {A = ℕ} 0 1 = cc in absurd (omega arith)
      go (BadList i x) q = let z : ◌≡◌ {A = ℕ} 0 1 = cc in absurd (omega arith)
      go (NoneLeft g h) q = let z : ◌≡◌ {A = ℕ} 0 1 = cc in absurd (omega arith)
      go (AreDropped g u) q = (record { accepted = g.accepted; once = once-of g; some = some_left u }, cc)

-- Deleghe that may be dropped are.
pub drops : (f numbers : List ℕ) → Droppable f numbers → dropping_of f numbers ≡ Dropped (length (shortened f numbers))
unfolding dropping_of weighed
drops f numbers m = rw (m.accepted, m.once, m.some)

-- Any one delega of an accepted flow that has two or more is dropped.
pub one-dropped : (f : List ℕ) (d : ℕ) → (judged f).verdict ≡ Accepted → 2 ≤ (judged f).summary.deleghe → 1 ≤ d → d ≤ (judged f).summary.deleghe → dropping_of f (d ∷ []) ≡ Dropped (length (shortened f (d ∷ [])))
unfolding each_once among
one-dropped f d a two lo hi =
    let n = (judged f).summary.deleghe in
    let e : each_once n (d ∷ []) ≡ true = rw (within 1 n d lo hi) in
    drops f (d ∷ []) (record { accepted = a; once = e; some = ne_eqb (left_of (d ∷ []) n) 0 (λ z. omega (arith, left-counted n (d ∷ []) e)) })
