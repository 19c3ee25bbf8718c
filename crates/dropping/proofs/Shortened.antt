-- The flow that is left is accepted; its records are those that stay, with their new numbers, and the tail with its counts and its sum.
use Prim.Native.Nat.{ℕ, suc, ◌*◌, ◌/◌, ◌<◌, ◌≤◌}
use mathlib.Core.Path.{◌≡◌, refl, sym, ap, ap₂, ◌∙◌}
use mathlib.Core.Bool.{Bool, true, false, cond}
use mathlib.Core.List.{List, [], ◌∷◌}
use native.Mathlib.Omega.{arith}
use borrow.Author.Tests.{eqb-false}
use lib.ListN.{length, length-append}
use Rattle.text.specs.Among.{among}
use Rattle.layout.specs.declared.Kind.TheVariants.{Head}
use Rattle.layout.specs.Kinds.{kind_in, numbered}
use Rattle.rules.specs.State.{start_state}
use Rattle.rules.specs.Step.{next_deleghe}
use Rattle.judge.specs.Refusal.{Accepted}
use Rattle.judge.specs.declared.Judgement.{Judgement}
use Rattle.judge.specs.Flow.{accepted_with, records_of, head_name_of, judged}
use Rattle.judge.specs.Plain.{state_after, NoFault, Whole, Sound}
use Rattle.judge.proofs.Records.{length-chunks}
use Rattle.judge.proofs.Accepted.{right_of, head-stands, accepted-means-no-fault, sound-phase, sound-judged}
use Rattle.rebalance.specs.Rebalance.{rebalanced, all_fit, flat, refreshed, Sized, Mendable}
use Rattle.rebalance.proofs.Rebalanced.{sized-rebalanced, mendable-sized, mendable-fits}
use Rattle.rebalance.proofs.Flat.{length-flat, records-flat, name-in-front}
use Rattle.rebalance.proofs.Judged.{sized-records, flat-records, length-mended, judged-rebalanced}
use Rattle.close.specs.Closing.{stays, kept_of, renumbered, closed_up, each_once, left_of}
use Rattle.close.proofs.Counted.{once-parts, among-other}
use Rattle.dropping.specs.Dropping.{shortened}
use Rattle.dropping.specs.Inner.{Droppable}
use Rattle.dropping.specs.Effect.{EachStayed}
use Rattle.dropping.proofs.Following.{follows-start}
use Rattle.dropping.proofs.OneRecord.{unnumbered-stays, unnumbered-same}
use Rattle.dropping.proofs.Left.{left-mends}

-- A list that names each delega once names no delega 0.
once-zero : (n : ℕ) (numbers : List ℕ) → each_once n numbers ≡ true → among 0 numbers ≡ false
unfolding among
once-zero n [] e = refl
once-zero n (d ∷ ds) e = let p = once-parts n d ds e in among-other d ds 0 (λ z. omega (arith, p.0.0)) ∙ once-zero n ds p.2

-- No more records stay than there are.
few-kept : (numbers : List ℕ) (rs : List (List ℕ)) → length (kept_of numbers rs) ≤ length rs
unfolding kept_of
few-kept numbers [] = omega arith
few-kept numbers (r ∷ rs) = go (stays numbers r) (few-kept numbers rs)
  where
    go : (b : Bool) → length (kept_of numbers rs) ≤ length rs → length (cond b (r ∷ kept_of numbers rs) (kept_of numbers rs)) ≤ suc (length rs)
    go true h = omega arith
    go false h = omega arith

-- New numbers leave the number of records.
pub length-renumbered : (n : ℕ) (rs : List (List ℕ)) → length (renumbered n rs) ≡ length rs
unfolding renumbered
length-renumbered n [] = refl
length-renumbered n (r ∷ rs) = ap suc (length-renumbered (next_deleghe n (kind_in r)) rs)

-- The head stays as it is.
head-kept : (numbers r : List ℕ) (rs : List (List ℕ)) → kind_in r ≡ Head → renumbered 0 (kept_of numbers (r ∷ rs)) ≡ r ∷ renumbered 0 (kept_of numbers rs)
unfolding renumbered kept_of numbered
head-kept numbers r rs e =
    let n : numbered (kind_in r) ≡ false = rw e in
    rw (unnumbered-stays r n numbers) (ap₂ ◌∷◌ (unnumbered-same r n _) (ap (λ (m : ℕ). renumbered m (kept_of numbers rs)) (ap (next_deleghe 0) e)))

-- What stays of records without a fault begins with their head.
head_first : (name numbers : List ℕ) (rs : List (List ℕ)) → Sized rs → NoFault name start_state rs → 0 < length rs → (head_name_of (flat (renumbered 0 (kept_of numbers rs))) ≡ head_name_of (flat rs)) × (0 < length (flat (renumbered 0 (kept_of numbers rs))))
unfolding flat start_state
head_first name numbers [] z h n = absurd (omega arith)
head_first name numbers (r ∷ rs) z h n =
    let l : length r ≡ 120 = z.0 in
    let e = head-kept numbers r rs (head-stands _ (kind_in r) refl (right_of name start_state r h.0).ordered) in
    (ap (λ (xs : List (List ℕ)). head_name_of (flat xs)) e ∙ (name-in-front r _ l ∙ sym (name-in-front r (flat rs) l)), rw (e, length-append) (omega arith))

-- A flow from which deleghe may be dropped.
module _ (f numbers : List ℕ) (m : Droppable f numbers) where
  sound : Sound f
  sound = accepted-means-no-fault f m.accepted

  -- Its deleghe are those after all records.
  deleghe-are : (state_after start_state (records_of f)).deleghe ≡ (judged f).summary.deleghe
  deleghe-are = sym (ap (λ (j : Judgement). j.summary.deleghe) (sound-judged f sound))

  abbrev kept : List (List ℕ)
  kept = kept_of numbers (records_of f)

  -- What stays is mended, and differs in numbers and the tail alone.
  both : Mendable (head_name_of f) start_state (renumbered 0 (kept_of numbers (records_of f))) × EachStayed numbers (kept_of numbers (records_of f)) (rebalanced start_state (renumbered 0 (kept_of numbers (records_of f))))
  unfolding start_state
  both =
      left-mends numbers (head_name_of f) start_state start_state (records_of f) (sized-records f sound.whole.even) sound.passes (follows-start numbers (once-zero _ numbers m.once))
      (λ z. eqb-false _ 0 m.some (ap (left_of numbers) (sym deleghe-are) ∙ z)) (sound-phase f sound)

  abbrev rs' : List (List ℕ)
  rs' = renumbered 0 kept

  -- Its records have 120 bytes each.
  sized : Sized (renumbered 0 (kept_of numbers (records_of f)))
  sized = mendable-sized (head_name_of f) start_state rs' both.0

  -- The flow that is closed up is made of them.
  pub records-closed : records_of (closed_up numbers f) ≡ renumbered 0 (kept_of numbers (records_of f))
  unfolding closed_up
  records-closed = records-flat rs' sized

  pub length-closed : length (closed_up numbers f) ≡ length (kept_of numbers (records_of f)) * 120
  unfolding closed_up
  length-closed = length-flat rs' sized ∙ ap (λ (n : ℕ). n * 120) (length-renumbered 0 kept)

  -- It is no longer than the flow.
  pub closed-short : length (closed_up numbers f) ≤ length f
  closed-short = omega (arith, length-closed, few-kept numbers (records_of f), length-chunks (length f / 120) f, sound.whole.even)

  -- Its records are 1 to 546, and begin with the head.
  begins : (head_name_of (closed_up numbers f) ≡ head_name_of f) × (0 < length (closed_up numbers f))
  unfolding closed_up
  begins = rw (flat-records f sound.whole.even) at (head_first (head_name_of f) numbers (records_of f) (sized-records f sound.whole.even) sound.passes (omega (arith, length-chunks (length f / 120) f, sound.whole.even, sound.whole.some)))

  pub closed-whole : Whole (closed_up numbers f)
  closed-whole = record { short = omega (arith, closed-short, sound.whole.short); some = begins.1; even = omega (arith, length-closed) }

  -- What stays is mended by rebalancing.
  closed-mends : Mendable (head_name_of (closed_up numbers f)) start_state (records_of (closed_up numbers f))
  closed-mends = rw (begins.0, records-closed) both.0

  -- So all that is stored fits.
  pub closed-fits : all_fit start_state (records_of (closed_up numbers f)) ≡ true
  closed-fits = mendable-fits (head_name_of (closed_up numbers f)) start_state (records_of (closed_up numbers f)) closed-mends

  -- The flow that is left is accepted, with the counts and sums of what stays.
  pub shortened-judged : judged (shortened f numbers) ≡ accepted_with (state_after start_state (renumbered 0 (kept_of numbers (records_of f))))
  unfolding shortened refreshed
  shortened-judged = judged-rebalanced (closed_up numbers f) closed-whole closed-mends ∙ ap (λ (rs : List (List ℕ)). accepted_with (state_after start_state rs)) records-closed

  pub shortened-accepted : (judged (shortened f numbers)).verdict ≡ Accepted
  shortened-accepted = ap (λ (j : Judgement). j.verdict) shortened-judged

  -- It is as long as what is closed up.
  pub shortened-length : length (shortened f numbers) ≡ length (closed_up numbers f)
  unfolding shortened refreshed
  shortened-length = length-mended (closed_up numbers f) closed-whole.even start_state

  -- Its records are those that stay, with their new numbers, rebalanced.
  pub shortened-records : records_of (shortened f numbers) ≡ rebalanced start_state (renumbered 0 (kept_of numbers (records_of f)))
  unfolding shortened refreshed
  shortened-records = rw records-closed (records-flat (rebalanced start_state rs') (sized-rebalanced start_state rs' sized))

  -- Each differs in its number alone, the tail in its counts and its sum.
  pub shortened-stayed : EachStayed numbers (kept_of numbers (records_of f)) (records_of (shortened f numbers))
  shortened-stayed = rw shortened-records both.1
