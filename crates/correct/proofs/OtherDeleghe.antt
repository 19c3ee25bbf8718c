-- "a correction in one delega leaves the sums reported for every other delega the same" (02, ask 13): the whole answer for another delega is what it was.
use Rattle.std.specs.Prelude.{Err}
use Prim.Native.Nat.{ℕ}
use mathlib.Core.Path.{◌≡◌, refl, sym, ap, ap₂, ◌∙◌}
use mathlib.Core.Bool.{Bool, true, false, cond}
use mathlib.Core.List.{List, [], ◌∷◌, ◌++◌}
use Rattle.layout.specs.declared.Kind.TheVariants.{Line}
use Rattle.layout.specs.Kinds.{kind_in}
use Rattle.rules.specs.declared.State.{State}
use Rattle.rules.specs.State.{start_state}
use Rattle.rules.specs.Step.{next}
use Rattle.judge.specs.declared.Judgement.{Judgement}
use Rattle.judge.specs.Flow.{records_of}
use Rattle.judge.specs.Plain.{Whole, state_after}
use Rattle.judge.proofs.Accepted.{accepted-means-no-fault, sound-judged}
use Rattle.delega.specs.declared.used.Used.{Used}
use Rattle.delega.specs.Used.{none_used, next_used}
use Rattle.delega.specs.OneDelega.{answered, closes_at, delega_from, delega_of}
use Rattle.delega.proofs.Asked.{by_count, delega-of-accepted, closes-own}
use Rattle.rebalance.specs.Rebalance.{refreshed}
use Rattle.rebalance.proofs.Rewritten.{AllLike}
use Rattle.find.specs.Line.{line_of}
use Rattle.correct.specs.Answers.{Correction, Made}
use Rattle.correct.specs.Correction.{section_of, correction_of, corrected_bytes}
use Rattle.correct.specs.Effect.{with_amounts, Call, after, EachOne}
use Rattle.correct.proofs.Amended.{amended}
use Rattle.correct.proofs.Split.{Split, line-splits, records-replaced}
use Rattle.correct.proofs.Answered.{Passed}
use Rattle.correct.proofs.Conditions.{made-passed, made_bytes, refused-untouched}
use Rattle.correct.proofs.StaysAccepted.{accepted-whole, amounts-whole, refreshed-accepted}
use Rattle.correct.proofs.LikeFlows.{refreshed-like}
use Rattle.correct.proofs.TwoLines.{amounts-kind}
use Rattle.correct.proofs.OtherSums.{Off, off-on, off-line}

-- Records that are alike give the same answer for each delega.
like-delega : (e : ℕ) (xs ys : List (List ℕ)) → AllLike xs ys → (st : State) (u : Used) → delega_from e st u xs ≡ delega_from e st u ys
unfolding delega_from
like-delega e [] [] h st u = refl
like-delega e [] (y ∷ ys) h st u = absurd h
like-delega e (x ∷ xs) [] h st u = absurd h
like-delega e (x ∷ xs) (y ∷ ys) h st u = rw (h.0.kind, h.0.step st, like-delega e xs ys h.1 (next st y) (next_used u (kind_in y)))

-- A line of section s in delega d, and another delega e.
module _ (d s e : ℕ) (other : e ≡ d → ⊥) where
  -- Behind the line the sums of delega d alone differ, so the answer for the other is the same; there are as many deleghe.
  behind : (a b : State) (u : Used) (rs : List (List ℕ)) → Off d s a b → (delega_from e a u rs ≡ delega_from e b u rs) × ((state_after a rs).deleghe ≡ (state_after b rs).deleghe)
  unfolding delega_from state_after
  behind a b u [] o = (refl, o.near.numbers)
  behind a b u (r ∷ rs) o = let h = behind (next a r) (next b r) (next_used u (kind_in r)) rs (off-on d s a b r o) in (go (closes_at e a.deleghe (kind_in r)) refl h.0, h.1)
    where
      same : closes_at e b.deleghe (kind_in r) ≡ closes_at e a.deleghe (kind_in r)
      same = ap (λ (n : ℕ). closes_at e n (kind_in r)) (sym o.near.numbers)

      go : (t : Bool) → closes_at e a.deleghe (kind_in r) ≡ t → delega_from e (next a r) (next_used u (kind_in r)) rs ≡ delega_from e (next b r) (next_used u (kind_in r)) rs →
          cond (closes_at e a.deleghe (kind_in r)) (answered a u) (delega_from e (next a r) (next_used u (kind_in r)) rs) ≡ cond (closes_at e b.deleghe (kind_in r)) (answered b u) (delega_from e (next b r) (next_used u (kind_in r)) rs)
      go true q h =
          let n = closes-own e a.deleghe (kind_in r) q in
          let m = o.elsewhere (λ z. other (sym n ∙ z)) in
          rw (same, q, m)
      go false q h = rw (same, q) h

  -- So it is with all records, where the line is another one in its place.
  around : (st : State) (u : Used) (xs : List (List ℕ)) (r t : List ℕ) (ys : List (List ℕ)) → (state_after st xs).deleghe ≡ d → kind_in r ≡ Line s → kind_in t ≡ Line s →
      (delega_from e st u (xs ++ (r ∷ ys)) ≡ delega_from e st u (xs ++ (t ∷ ys))) × ((state_after st (xs ++ (r ∷ ys))).deleghe ≡ (state_after st (xs ++ (t ∷ ys))).deleghe)
  unfolding delega_from state_after
  around st u [] r t ys n k l = let h = behind (next st r) (next st t) (next_used u (Line s)) ys (off-line d s st r t n k l) in (rw (k, l) h.0, h.1)
  around st u (x ∷ xs) r t ys n k l =
      let h = around (next st x) (next_used u (kind_in x)) xs r t ys n k l in
      (ap (cond (closes_at e st.deleghe (kind_in x)) (answered st u)) h.0, h.1)

-- A correction that may be made, and another delega.
module _ (f : List ℕ) (d subtype n x y : ℕ) (m : Passed f d subtype n x y) (e : ℕ) (other : e ≡ d → ⊥) where
  abbrev w : Whole f
  w = accepted-whole f m.accepted

  abbrev p : Split d (section_of subtype) start_state 0 (line_of f d subtype n) (records_of f)
  p = line-splits f d subtype n m.found

  abbrev t : List ℕ
  t = with_amounts f d subtype n x y

  -- Over the records with the line's amounts replaced, it is answered as before, and there are as many deleghe.
  replaced-delega : (delega_from e start_state none_used (records_of (with_amounts f d subtype n x y)) ≡ delega_from e start_state none_used (records_of f)) × ((state_after start_state (records_of (with_amounts f d subtype n x y))).deleghe ≡ (state_after start_state (records_of f)).deleghe)
  replaced-delega =
      rw (records-replaced f w.even p x y, p.split)
      (around d (section_of subtype) e other start_state none_used p.before (amended (section_of subtype) x y p.here) p.here p.behind p.number (amounts-kind f w.even d subtype n m.found x y) p.kind)

  -- So it is of the flow that is left.
  refreshed-delega : delega_of (refreshed (with_amounts f d subtype n x y)) e ≡ delega_of f e
  refreshed-delega =
      let a = refreshed-accepted f d subtype n x y m in
      let i = ap (λ (j : Judgement). j.summary.deleghe) a ∙ (replaced-delega.1 ∙ sym (ap (λ (j : Judgement). j.summary.deleghe) (sound-judged f (accepted-means-no-fault f m.accepted)))) in
      let h = like-delega e _ _ (refreshed-like t (amounts-whole f d subtype n x y m).even) start_state none_used ∙ replaced-delega.0 in
      delega-of-accepted (refreshed t) e (ap (λ (j : Judgement). j.verdict) a) ∙ (ap₂ (by_count e) i h ∙ sym (delega-of-accepted f e m.accepted))

-- A correction in one delega, made or refused, leaves the whole answer for every other number: verdict, balance, lines, set with its size and its first, and sums.
pub other-deleghe-same : (f : List ℕ) (d subtype n x y e : ℕ) → (e ≡ d → ⊥) → delega_of (corrected_bytes f d subtype n x y) e ≡ delega_of f e
other-deleghe-same f d subtype n x y e other = go (correction_of f d subtype n x y) refl
  where
    go : (c : Correction) → correction_of f d subtype n x y ≡ c → delega_of (corrected_bytes f d subtype n x y) e ≡ delega_of f e
    go Made made = ap (λ (l : List ℕ). delega_of l e) (made_bytes f d subtype n x y made) ∙ refreshed-delega f d subtype n x y ((made-passed f d subtype n x y).0 made) e other
    go (Err why) refused = ap (λ (l : List ℕ). delega_of l e) (refused-untouched f d subtype n x y refused)

-- So do calls one after the other, none of them in that delega.
pub series-others-same : (cs : List Call) (f : List ℕ) (e : ℕ) → EachOne (λ c. e ≡ c.delega → ⊥) cs → delega_of (after cs f) e ≡ delega_of f e
unfolding after
series-others-same [] f e h = refl
series-others-same (c ∷ cs) f e h = series-others-same cs _ e h.1 ∙ other-deleghe-same f c.delega c.subtype c.nth c.debit c.credit e h.0
