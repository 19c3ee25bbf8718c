-- A flow from which deleghe are dropped: what stands in the lent room, and that it is accepted; a refusal changes nothing; lists of more numbers than deleghe.
use Rattle.std.specs.Prelude.{Err}
use Prim.Native.Nat.{ℕ, ◌-◌, ◌/◌, ◌<◌, ◌≤◌}
use mathlib.Core.Path.{◌≡◌, refl, sym, ap, ◌∙◌}
use mathlib.Core.List.{List, [], ◌∷◌}
use native.Mathlib.Omega.{arith}
use lib.Seq.{length-take-le}
use lib.ListN.{length, take, drop, replicate, length-append, length-replicate}
use Rattle.layout.specs.declared.RecordType.{RecordType}
use Rattle.layout.specs.declared.RecordType.TheVariants.{F4, T10, T20, T40, T50, EF, NoType}
use Rattle.layout.specs.Kinds.{type_in}
use Rattle.judge.specs.Refusal.{Verdict, Accepted}
use Rattle.judge.specs.Flow.{records_of, judged}
use Rattle.judge.specs.Plain.{sum_over, opens, tens_in}
use Rattle.judge.proofs.Records.{length-chunks}
use Rattle.judge.proofs.Accepted.{accepted-means-no-fault}
use Rattle.judge.proofs.Counts.{accepted-deleghe}
use Rattle.close.specs.Closing.{spaced}
use Rattle.close.proofs.Counted.{too_many}
use Rattle.close.proofs.Spaces.{spaced-front, spaced-behind}
use Rattle.dropping.specs.Answers.{Dropping, Dropped, Refused}
use Rattle.dropping.specs.Dropping.{shortened, weighed, dropping_of, dropped_flow}
use Rattle.dropping.specs.Inner.{Droppable}
use Rattle.dropping.proofs.Shortened.{closed-short, shortened-length, shortened-accepted}
use Rattle.dropping.proofs.Answered.{droppable}

-- "with nothing written": a refusal leaves every byte.
pub refused-stays : (f numbers : List ℕ) {n r p : ℕ} → dropping_of f numbers ≡ Refused n r p → dropped_flow f numbers ≡ f
unfolding dropped_flow
refused-stays f numbers e = rw e

-- Deleghe are dropped.
module _ (f numbers : List ℕ) {n : ℕ} (e : dropping_of f numbers ≡ Dropped n) where
  may : Droppable f numbers
  may = (droppable f numbers e).0

  -- "the new length is answered"
  pub dropped-length : n ≡ length (shortened f numbers)
  dropped-length = (droppable f numbers e).1

  room : dropped_flow f numbers ≡ spaced (shortened f numbers) (length f)
  unfolding dropped_flow
  room = rw e

  -- It is the length of the flow that is left, which stands in front; "The room set free at the end of the lent buffer is filled with spaces".
  pub dropped-room : (take n (dropped_flow f numbers) ≡ shortened f numbers) × (drop n (dropped_flow f numbers) ≡ replicate (length f - n) 32) × (n ≤ length f) × (length (dropped_flow f numbers) ≡ length f)
  unfolding spaced
  dropped-room =
      let l = sym dropped-length in
      let s : n ≤ length f = omega (arith, dropped-length, shortened-length f numbers may, closed-short f numbers may) in
      (ap (take n) room ∙ spaced-front (shortened f numbers) (length f) n l, ap (drop n) room ∙ spaced-behind (shortened f numbers) (length f) n l, s, ap length room ∙ rw (length-append, length-replicate) (omega arith))

  -- "The result is accepted."
  pub dropped-accepted : (judged (take n (dropped_flow f numbers))).verdict ≡ Accepted
  dropped-accepted = ap (λ (g : List ℕ). (judged g).verdict) dropped-room.0 ∙ shortened-accepted f numbers may

-- No flow has more than 546 deleghe, one for each record at most.
opens_one : (t : RecordType) → opens t ≤ 1
opens_one F4 = omega arith
opens_one T10 = omega arith
opens_one T20 = omega arith
opens_one T40 = omega arith
opens_one T50 = omega arith
opens_one EF = omega arith
opens_one NoType = omega arith

few-tens : (rs : List (List ℕ)) → tens_in rs ≤ length rs
unfolding sum_over
few-tens [] = omega arith
few-tens (r ∷ rs) = omega (arith, opens_one (type_in r), few-tens rs)

few-deleghe : (f : List ℕ) → (judged f).verdict ≡ Accepted → (judged f).summary.deleghe ≤ 546
few-deleghe f a = omega (arith, accepted-deleghe f a, few-tens (records_of f), length-chunks (length f / 120) f, (accepted-means-no-fault f a).whole.short)

-- A list of more numbers than the flow has deleghe is refused 21.
pub long-list : (f numbers : List ℕ) → (judged f).verdict ≡ Accepted → (judged f).summary.deleghe < length numbers → dropping_of f numbers ≡ Refused 21 0 0
unfolding dropping_of weighed
long-list f numbers a h = rw (a, too_many (judged f).summary.deleghe numbers h)

-- So the answer to a list of more than 546 numbers is that to its first 547: the flow's own refusal, or 21.
pub cut_list : (f numbers : List ℕ) → 547 ≤ length numbers → dropping_of f numbers ≡ dropping_of f (take 547 numbers)
unfolding dropping_of
cut_list f numbers h = go (judged f).verdict refl
  where
    go : (v : Verdict) → (judged f).verdict ≡ v → dropping_of f numbers ≡ dropping_of f (take 547 numbers)
    go Accepted a = let k = few-deleghe f a in long-list f numbers a (omega arith) ∙ sym (long-list f (take 547 numbers) a (omega (arith, length-take-le 547 numbers h)))
    go (Err why) a = rw a

-- The length answered lies within the flow that is handed back.
pub dropped-within : (f numbers left : List ℕ) (n : ℕ) (a : Dropping) → a ≡ dropping_of f numbers → left ≡ dropped_flow f numbers → a ≡ Dropped n → n ≤ length left
dropped-within f numbers left n a p q e = let r = dropped-room f numbers {n = n} (sym p ∙ e) in rw q (omega (arith, r.2, r.3))
