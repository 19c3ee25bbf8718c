-- The records of a flow with one line's amounts replaced still stand in order and carry their numbers; and what is held at the 50-01 of the line's delega comes from the records behind the line.
use Prim.Native.Nat.{ℕ, ◌+◌, ◌%◌, ◌≤◌, ◌<◌}
use mathlib.Core.Path.{◌≡◌, refl, sym, ap, ◌∙◌}
use mathlib.Core.List.{List, [], ◌∷◌, ◌++◌}
use native.Mathlib.Omega.{arith}
use borrow.Author.Tests.{ne_eqb}
use lib.Dec.{eqb, lit≤}
use lib.ListN.{length}
use Rattle.text.specs.Numbers.{number_of, amount_of}
use Rattle.layout.specs.declared.Kind.{Kind}
use Rattle.layout.specs.declared.Kind.TheVariants.{Head, Taxpayer, Domicile, Line, Balance, Payment, Receipt, Addressee, Tail, Unknown}
use Rattle.layout.specs.Kinds.{kind_in}
use Rattle.layout.specs.Fields.{delega_number, value_of}
use Rattle.order.specs.declared.Stage.{Stage}
use Rattle.rules.specs.declared.State.{State}
use Rattle.rules.specs.State.{start_state}
use Rattle.rules.specs.Checks.{number_fault}
use Rattle.rules.specs.Step.{next_deleghe, next}
use Rattle.judge.specs.Refusal.{Accepted}
use Rattle.judge.specs.Flow.{records_of, head_name_of, judged}
use Rattle.judge.specs.Plain.{state_after}
use Rattle.judge.proofs.Accepted.{accepted-means-no-fault, sound-phase, carried-number}
use Rattle.delega.proofs.Moves.{Between, between_start, Standing, Each, each-standing, Move, Adds, Pays, Keeps, move-of}
use Rattle.delega.proofs.OwnRecords.{at_closing, Ends}
use Rattle.delega.proofs.Held.{closing}
use Rattle.find.specs.Line.{line_of}
use Rattle.correct.specs.Correction.{section_of}
use Rattle.correct.specs.Effect.{with_amounts}
use Rattle.correct.proofs.Amended.{amended, amended-part, line-amended}
use Rattle.correct.proofs.Mended.{Near, near_on}
use Rattle.correct.proofs.Split.{Split, line-splits, length-here, within-table, records-replaced}

-- Records one after the other lead to the state that the second ones lead to from that of the first.
pub after-append : (st : State) (xs ys : List (List ℕ)) → state_after st (xs ++ ys) ≡ state_after (state_after st xs) ys
unfolding state_after
after-append st [] ys = refl
after-append st (x ∷ xs) ys = after-append (next st x) xs ys

-- Records stand so where the first do, and the others do behind them.
each-parts : (st : State) (xs ys : List (List ℕ)) → Each Standing st (xs ++ ys) → Each Standing st xs × Each Standing (state_after st xs) ys
unfolding state_after
each-parts st [] ys h = (tt, h)
each-parts st (x ∷ xs) ys h = let p = each-parts (next st x) xs ys h.1 in ((h.0, p.0), p.1)

each-join : (st : State) (xs ys : List (List ℕ)) → Each Standing st xs → Each Standing (state_after st xs) ys → Each Standing st (xs ++ ys)
unfolding state_after
each-join st [] ys h i = i
each-join st (x ∷ xs) ys h i = (h.0, each-join (next st x) xs ys h.1 i)

-- Order and numbers do not look at money.
pub near_next : (a b : State) (r : List ℕ) → Near a b → Near (next a r) (next b r)
unfolding next
near_next a b r n = near_on a b (kind_in r) _ _ n

pub near-standing : (a b : State) (r : List ℕ) → Near a b → Standing a r → Standing b r
near-standing a b r n h = record { ordered = rw n.stages at h.ordered; numbered = rw n.numbers at h.numbered }

each-near : (a b : State) (rs : List (List ℕ)) → Near a b → Each Standing a rs → Each Standing b rs
each-near a b [] n h = tt
each-near a b (r ∷ rs) n h = (near-standing a b r n h.0, each-near (next a r) (next b r) rs (near_next a b r n) h.1)

near-after : (a b : State) (rs : List (List ℕ)) → Near a b → Near (state_after a rs) (state_after b rs)
unfolding state_after
near-after a b [] n = n
near-after a b (r ∷ rs) n = near-after (next a r) (next b r) rs (near_next a b r n)

-- The deleghe that have their 50-01 after records are no fewer than before them.
pub between-after : (n : ℕ) (st : State) (xs : List (List ℕ)) → Between n st → Each Standing st xs → (m : ℕ) × (n ≤ m) × Between m (state_after st xs)
unfolding state_after
between-after n st [] b h = (n, omega arith, b)
between-after n st (r ∷ xs) b h = go (move-of n st b r h.0) (λ i c. between-after i (next st r) xs c h.1)
  where
    go : Move n st (kind_in r) (value_of r delega_number) (next st r) → ((i : ℕ) → Between i (next st r) → (m : ℕ) × (i ≤ m) × Between m (state_after (next st r) xs)) → (m : ℕ) × (n ≤ m) × Between m (state_after (next st r) xs)
    go (Adds s k v c) f = f n c
    go (Pays k v w c) f = let p = f (n + 1) c in (p.0, omega (arith, p.1), p.2)
    go (Keeps k w c) f = f n c

-- What is held at the 50-01 of a delega that has none among the first records comes from the others.
closing-behind : (d m n : ℕ) (st : State) (xs ys : List (List ℕ)) → m < d → Between n st → Each Standing st xs → Between m (state_after st xs) → closing d st (xs ++ ys) ≡ closing d (state_after st xs) ys
unfolding state_after at_closing
closing-behind d m n st [] ys l b h e = refl
closing-behind d m n st (r ∷ xs) ys l b h e = go (move-of n st b r h.0) (λ i c. closing-behind d m i (next st r) xs ys l c h.1 e)
  where
    go : Move n st (kind_in r) (value_of r delega_number) (next st r) → ((i : ℕ) → Between i (next st r) → closing d (next st r) (xs ++ ys) ≡ closing d (state_after (next st r) xs) ys) → closing d st (r ∷ (xs ++ ys)) ≡ closing d (state_after (next st r) xs) ys
    go (Adds s k v c) f = rw k (f n c)
    go (Pays k v w c) f =
        let p = between-after (n + 1) (next st r) xs c h.1 in
        rw (k, ne_eqb st.deleghe d (omega (arith, p.1, p.2.counted, e.counted))) (f (n + 1) c)
    go (Keeps k w c) f = rw (k (λ i. 0) 0 (eqb st.deleghe d)).2 (f n c)

-- A line that stands in order belongs to the delega that is next to have its 50-01.
line-moves : (n : ℕ) (st : State) (r : List ℕ) (s : ℕ) → kind_in r ≡ Line s → Between n st → Standing st r → (st.deleghe ≡ n + 1) × Between n (next st r)
unfolding number_fault
line-moves n st r s e b h = go (move-of n st b r h)
  where
    go : Move n st (kind_in r) (value_of r delega_number) (next st r) → (st.deleghe ≡ n + 1) × Between n (next st r)
    go (Adds t k v c) = (sym (carried-number st.deleghe (value_of r delega_number) (rw e at h.numbered)) ∙ v, c)
    go (Pays k v w c) = let z : ◌≡◌ {A = ℕ} 0 1 = cc in absurd (omega arith)
    go (Keeps k w c) = absurd (omega (arith, rw e at (k (λ i. 1) 0 (eqb 0 0)).0))

-- Delega d is the next to have its 50-01, before a line of it and after the line.
pub record Open (d : ℕ) (before after : State) : Type 0 where
  pub closed : ℕ
  pub own-next : closed + 1 ≡ d
  pub at-line : Between closed before
  pub behind-line : Between closed after

-- No record takes a delega away.
deleghe-grow : (d : ℕ) (k : Kind) → d ≤ next_deleghe d k
deleghe-grow d Head = omega arith
deleghe-grow d Taxpayer = omega arith
deleghe-grow d Domicile = omega arith
deleghe-grow d (Line s) = omega arith
deleghe-grow d (Balance s) = omega arith
deleghe-grow d Payment = omega arith
deleghe-grow d Receipt = omega arith
deleghe-grow d Addressee = omega arith
deleghe-grow d Tail = omega arith
deleghe-grow d Unknown = omega arith

deleghe-after : (st : State) (rs : List (List ℕ)) → st.deleghe ≤ (state_after st rs).deleghe
unfolding state_after next
deleghe-after st [] = omega arith
deleghe-after st (r ∷ rs) = omega (arith, deleghe-grow st.deleghe (kind_in r), deleghe-after (next st r) rs)

-- An accepted flow in which the line is found, and other amounts for it.
module _ (f : List ℕ) (d subtype n : ℕ) (a : (judged f).verdict ≡ Accepted) (found : line_of f d subtype n ≡ 0 → ⊥) (x y : ℕ) where
  -- The line splits the records.
  abbrev s : ℕ
  s = section_of subtype

  abbrev p : Split d s start_state 0 (line_of f d subtype n) (records_of f)
  p = line-splits f d subtype n found

  -- The state before the line, and those after it as it was and as it is.
  abbrev st : State
  st = state_after start_state p.before

  abbrev line : List ℕ
  line = amended s x y p.here

  abbrev old : State
  old = next st p.here

  abbrev new : State
  new = next st line

  abbrev g : List ℕ
  g = with_amounts f d subtype n x y

  whole : length f % 120 ≡ 0
  whole = (accepted-means-no-fault f a).whole.even

  size : length p.here ≡ 120
  size = length-here f whole p

  -- The line is of the same kind, and carries the same number.
  pub line-kind : kind_in line ≡ Line s
  line-kind = line-amended s p.here size p.kind x y

  pub line-number : value_of line delega_number ≡ value_of p.here delega_number
  line-number = ap (λ (b : List ℕ). amount_of (number_of b)) (amended-part s (within-table f whole p) p.here size x y 7 3 (lit≤ tt))

  -- The records of both flows.
  pub records-new : records_of g ≡ p.before ++ (line ∷ p.behind)
  records-new = records-replaced f whole p x y

  old-each : Each Standing start_state p.before × Each Standing st (p.here ∷ p.behind)
  old-each = each-parts start_state p.before (p.here ∷ p.behind) (rw p.split at (each-standing (head_name_of f) start_state (records_of f) (accepted-means-no-fault f a).passes))

  -- The states after the line differ in money only.
  pub near-line : Near old new
  unfolding next
  near-line = rw (p.kind, line-kind) (near_on st st (Line s) _ _ (record { stages = refl; numbers = refl; counts = refl }))

  line-standing : Standing st line
  line-standing = let h = old-each.1.0 in record { ordered = rw (line-kind, ← p.kind) h.ordered; numbered = rw (line-kind, line-number, ← p.kind) h.numbered }

  -- The records behind it stand in order, and so do all.
  pub each-behind : Each Standing new p.behind
  each-behind = each-near old new p.behind near-line old-each.1.1

  pub each-new : Each Standing start_state (records_of g)
  each-new = rw records-new (each-join start_state p.before (line ∷ p.behind) old-each.0 (line-standing, each-behind))

  -- The line's delega is the next to have its 50-01.
  pub opened : Open d st new
  opened =
      let b = between-after 0 start_state p.before between_start old-each.0 in
      let l = line-moves b.0 st line s line-kind b.2 line-standing in
      record { closed = b.0; own-next = sym l.0 ∙ p.number; at-line = b.2; behind-line = l.1 }

  pub one-at-least : 1 ≤ d
  one-at-least = omega (arith, opened.own-next)

  -- The flow ends with EF, and has that many deleghe.
  pub last-new : state_after start_state (records_of g) ≡ state_after new p.behind
  unfolding state_after
  last-new = ap (state_after start_state) records-new ∙ after-append start_state p.before (line ∷ p.behind)

  last-old : state_after start_state (records_of f) ≡ state_after old p.behind
  unfolding state_after
  last-old = ap (state_after start_state) p.split ∙ after-append start_state p.before (p.here ∷ p.behind)

  pub ends-behind : Ends d (state_after new p.behind)
  unfolding state_after
  ends-behind =
      let n = near-after old new p.behind near-line in
      record {
        tail = ap (λ (q : Stage). q.phase) (sym n.stages) ∙ (ap (λ (q : State). q.stage.phase) (sym last-old) ∙ sound-phase f (accepted-means-no-fault f a));
        enough = omega (arith, p.number, deleghe-after st (line ∷ p.behind));
      }

  pub ends-new : Ends d (state_after start_state (records_of g))
  ends-new = rw last-new ends-behind

  -- What is held at its 50-01 comes from the records behind the line.
  pub closing-new : closing d start_state (records_of g) ≡ closing d new p.behind
  unfolding at_closing
  closing-new =
      ap (closing d start_state) records-new
      ∙ (closing-behind d opened.closed 0 start_state p.before (line ∷ p.behind) (omega (arith, opened.own-next)) between_start old-each.0 opened.at-line ∙ rw line-kind)
