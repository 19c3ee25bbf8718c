-- A corrected flow is accepted with the sums of its lines, of which there are as many, and so is every flow that a series of calls leaves.
use Rattle.std.specs.Prelude.{Err}
use Prim.Native.Nat.{ℕ, ◌+◌}
use mathlib.Core.Path.{◌≡◌, refl, sym, ap, ◌∙◌}
use mathlib.Core.Bool.{false≢true}
use mathlib.Core.List.{List, [], ◌∷◌, ◌++◌}
use native.Mathlib.Omega.{arith}
use lib.ListN.{length}
use Rattle.layout.specs.declared.Kind.TheVariants.{Line}
use Rattle.layout.specs.Kinds.{of_line, kind_in}
use Rattle.rules.specs.State.{start_state}
use Rattle.order.specs.Order.{stands}
use Rattle.judge.specs.Refusal.{Accepted}
use Rattle.judge.specs.declared.Judgement.{Judgement}
use Rattle.judge.specs.Flow.{accepted_with, records_of, head_name_of, judged}
use Rattle.judge.specs.Plain.{sum_over, line_count_in, Whole, state_after}
use Rattle.judge.proofs.Accepted.{accepted-means-no-fault}
use Rattle.judge.proofs.Counts.{lines_after, accepted-lines}
use Rattle.rebalance.specs.Rebalance.{flat, Mendable, refreshed}
use Rattle.rebalance.proofs.Emit.{kept-stands}
use Rattle.rebalance.proofs.Flat.{name-in-front}
use Rattle.rebalance.proofs.Judged.{flat-records, length-mended, whole_same, judged-rebalanced, accepted-mends}
use Rattle.find.specs.Line.{line_of}
use Rattle.correct.specs.Answers.{Correction, Made}
use Rattle.correct.specs.Correction.{section_of, correction_of, corrected_bytes}
use Rattle.correct.specs.Effect.{with_amounts, Call, after}
use Rattle.correct.proofs.Amended.{amended, kind-amended}
use Rattle.correct.proofs.Mended.{mended-amended}
use Rattle.correct.proofs.Split.{Split, line-splits, length-here, within-table, replaced-flat, records-replaced, length-replaced}
use Rattle.correct.proofs.Answered.{Passed}
use Rattle.correct.proofs.Conditions.{made-passed, made_bytes, refused-untouched}

-- A line does not come first, so a record in its place leaves the name of the flow.
name-behind : (name : List ℕ) (xs : List (List ℕ)) (r t : List ℕ) (ys : List (List ℕ)) (s : ℕ) → kind_in r ≡ Line s → Mendable name start_state (xs ++ (r ∷ ys)) → head_name_of (flat (xs ++ (t ∷ ys))) ≡ head_name_of (flat (xs ++ (r ∷ ys)))
unfolding flat stands start_state
name-behind name [] r t ys s e m = absurd (false≢true (rw e at (kept-stands name start_state r m.1)))
name-behind name (z ∷ xs) r t ys s e m = name-in-front z _ m.0 ∙ sym (name-in-front z _ m.0)

-- An accepted flow has whole records, and rebalancing mends them.
module _ (f : List ℕ) (a : (judged f).verdict ≡ Accepted) where
  pub accepted-whole : Whole f
  accepted-whole = (accepted-means-no-fault f a).whole

-- Records of which one is replaced by another of its kind have as many lines.
lines-replaced : (xs : List (List ℕ)) (r t : List ℕ) (ys : List (List ℕ)) → kind_in t ≡ kind_in r → line_count_in (xs ++ (t ∷ ys)) ≡ line_count_in (xs ++ (r ∷ ys))
unfolding sum_over
lines-replaced [] r t ys e = rw e
lines-replaced (z ∷ xs) r t ys e = ap (λ (n : ℕ). of_line 0 (λ s. 1) (kind_in z) + n) (lines-replaced xs r t ys e)

-- A correction that may be made.
module _ (f : List ℕ) (d subtype n x y : ℕ) (m : Passed f d subtype n x y) where
  -- The flow is of whole records, the line splits them, and its amounts are replaced.
  abbrev w : Whole f
  w = accepted-whole f m.accepted

  abbrev p : Split d (section_of subtype) start_state 0 (line_of f d subtype n) (records_of f)
  p = line-splits f d subtype n m.found

  abbrev t : List ℕ
  t = with_amounts f d subtype n x y

  -- The records are the same but for the line.
  records : records_of t ≡ p.before ++ (amended (section_of subtype) x y p.here ∷ p.behind)
  records = records-replaced f w.even p x y

  -- The amounts leave the number of bytes.
  same_length : length t ≡ length f
  same_length = length-replaced f w.even p x y

  -- It stays a flow of whole records.
  pub amounts-whole : Whole t
  amounts-whole = whole_same f t same_length w

  -- Rebalancing mends the flow as it was.
  old-mends : Mendable (head_name_of f) start_state (p.before ++ (p.here ∷ p.behind))
  old-mends = rw p.split at (accepted-mends f m.accepted)

  -- Rebalancing mends the flow with the line's amounts replaced.
  new-mends : Mendable (head_name_of f) start_state (records_of t)
  new-mends =
      rw records
      (mended-amended (head_name_of f) start_state p.before p.here p.behind (section_of subtype) p.kind x y (omega (arith, m.debit-fits)) (omega (arith, m.credit-fits)) m.right
      old-mends (rw records at m.not_negative) (rw records at m.all-fits))

  -- The amounts leave the name of the flow.
  same_name : head_name_of t ≡ head_name_of f
  same_name =
      ap head_name_of (replaced-flat f w.even p x y)
      ∙ (name-behind (head_name_of f) p.before p.here _ p.behind (section_of subtype) p.kind old-mends ∙ ap head_name_of (ap flat (sym p.split) ∙ flat-records f w.even))

  -- The refreshed flow is accepted, with the sums of its lines.
  pub refreshed-accepted : judged (refreshed t) ≡ accepted_with (state_after start_state (records_of t))
  unfolding refreshed
  refreshed-accepted = judged-rebalanced t amounts-whole (rw same_name new-mends)

  -- It has as many lines.
  pub refreshed-lines : (judged (refreshed t)).summary.lines ≡ (judged f).summary.lines
  refreshed-lines =
      let k = kind-amended (section_of subtype) (within-table f w.even p) p.here (length-here f w.even p) x y in
      ap (λ (j : Judgement). j.summary.lines) refreshed-accepted
      ∙ omega (
        arith,
        lines_after (records_of t),
        ap line_count_in records,
        lines-replaced p.before p.here (amended (section_of subtype) x y p.here) p.behind k,
        ap line_count_in p.split,
        accepted-lines f m.accepted,
      )

  -- It has as many bytes.
  pub refreshed-length : length (refreshed t) ≡ length f
  unfolding refreshed
  refreshed-length = length-mended t amounts-whole.even start_state ∙ same_length

-- A call leaves the number of bytes, made or refused.
pub corrected-length : (f : List ℕ) (d subtype n x y : ℕ) → length (corrected_bytes f d subtype n x y) ≡ length f
corrected-length f d subtype n x y = go (correction_of f d subtype n x y) refl
  where
    go : (c : Correction) → correction_of f d subtype n x y ≡ c → length (corrected_bytes f d subtype n x y) ≡ length f
    go Made e = ap length (made_bytes f d subtype n x y e) ∙ refreshed-length f d subtype n x y ((made-passed f d subtype n x y).0 e)
    go (Err why) e = ap length (refused-untouched f d subtype n x y e)

-- A corrected flow is accepted, with the sums of its lines.
pub corrected-accepted : (f : List ℕ) (d subtype n x y : ℕ) → correction_of f d subtype n x y ≡ Made → judged (corrected_bytes f d subtype n x y) ≡ accepted_with (state_after start_state (records_of (with_amounts f d subtype n x y)))
corrected-accepted f d subtype n x y e = ap judged (made_bytes f d subtype n x y e) ∙ refreshed-accepted f d subtype n x y ((made-passed f d subtype n x y).0 e)

-- It has as many lines.
pub corrected-lines : (f : List ℕ) (d subtype n x y : ℕ) → correction_of f d subtype n x y ≡ Made → (judged (corrected_bytes f d subtype n x y)).summary.lines ≡ (judged f).summary.lines
corrected-lines f d subtype n x y e = ap (λ (s : List ℕ). (judged s).summary.lines) (made_bytes f d subtype n x y e) ∙ refreshed-lines f d subtype n x y ((made-passed f d subtype n x y).0 e)

-- A call leaves an accepted flow accepted, made or refused.
one-stays-accepted : (f : List ℕ) (d subtype n x y : ℕ) → (judged f).verdict ≡ Accepted → (judged (corrected_bytes f d subtype n x y)).verdict ≡ Accepted
one-stays-accepted f d subtype n x y a = go (correction_of f d subtype n x y) refl
  where
    go : (c : Correction) → correction_of f d subtype n x y ≡ c → (judged (corrected_bytes f d subtype n x y)).verdict ≡ Accepted
    go Made e = ap (λ (j : Judgement). j.verdict) (corrected-accepted f d subtype n x y e)
    go (Err why) e = rw (refused-untouched f d subtype n x y e) a

-- Calls one after the other, refused ones among them, leave an accepted flow accepted.
pub series-stays-accepted : (cs : List Call) (f : List ℕ) → (judged f).verdict ≡ Accepted → (judged (after cs f)).verdict ≡ Accepted
unfolding after
series-stays-accepted [] f a = a
series-stays-accepted (c ∷ cs) f a = series-stays-accepted cs _ (one-stays-accepted f c.delega c.subtype c.nth c.debit c.credit a)
