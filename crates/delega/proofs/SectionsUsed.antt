-- For an accepted flow and a number from 1 to the count: the lines of the delega are those that carry its number, its set has the bit of a section exactly when it has a line of that section, the size of
-- the set is the number of its balance records, and the first of the set is the first section that has a line.
use Prim.Native.Nat.{ℕ, zero, suc, ◌+◌, ◌^◌, ◌<◌, ◌≤◌}
use mathlib.Core.Path.{◌≡◌, refl, ap, ◌∙◌}
use mathlib.Core.Bool.{Bool, true, false, cond}
use mathlib.Core.List.{List}
use mathlib.Core.Logic.{◌↔◌}
use native.Mathlib.Omega.{arith}
use native.Mathlib.Nat.{zero-div}
use borrow.Author.Tests.{lt-ltb}
use lib.Dec.{eqb, lit<}
use Rattle.layout.specs.Kinds.{of_line, kind_in}
use Rattle.refusal.specs.Outcomes.{Pass}
use Rattle.rules.specs.State.{start_state}
use Rattle.rules.specs.Checks.{fault}
use Rattle.judge.specs.Refusal.{Accepted}
use Rattle.judge.specs.Flow.{records_of, head_name_of, judged}
use Rattle.judge.specs.Plain.{sum_over}
use Rattle.judge.proofs.Accepted.{accepted-means-no-fault}
use Rattle.delega.specs.declared.used.Used.{Used}
use Rattle.delega.specs.declared.DelegaAnswer.{DelegaAnswer}
use Rattle.delega.specs.Used.{none_used, used_with, next_used, first_of}
use Rattle.delega.specs.OneDelega.{no_such_delega, answered, delega_of}
use Rattle.delega.specs.PlainDelega.{of_delega, line_count_of, section_count_of, balances_of, bit_at, some_of, added_up}
use Rattle.delega.proofs.Asked.{delega-within}
use Rattle.delega.proofs.Moves.{standing-of}
use Rattle.delega.proofs.OwnRecords.{own-numbers}
use Rattle.delega.proofs.PlainAnswer.{delega-from-closing, each_of, ends}
use Rattle.delega.proofs.Sets.{put-section, first-section, bits-added}
use Rattle.delega.proofs.Uses.{Using, counts, counts-own, using-start, using-next, using-behind, used-at-payment}

-- the lines and the set of an answer
abbrev used_in : DelegaAnswer → Used
used_in a = record { lines = a.lines; set = a.set }

-- one more of a section that there was some of, or none
some_more : (a : Bool) (b h : ℕ) → b ≡ some_of h → cond a 1 b ≡ some_of (h + cond a 1 0)
some_more true b h e = rw (lt-ltb 0 (h + 1) (omega arith))
some_more false b h e = e ∙ ap some_of (let z : h ≡ h + 0 = omega arith in z)

-- so there is some of it exactly where that is 1, and none where it is 0
some-exactly : (b n : ℕ) → b ≡ some_of n → ((b ≡ 1) ↔ (0 < n)) × (b ≡ 0 → n ≡ 0)
some-exactly b zero e = let z : b ≡ 0 = e in ((λ q. absurd (omega arith), λ h. absurd (omega arith)), λ q. refl)
some-exactly b (suc n) e = let z : b ≡ 1 = e ∙ rw (lt-ltb 0 (suc n) (omega arith)) in ((λ q. omega arith, λ h. z), λ q. absurd (omega arith))

-- no bit is set in the empty set
bit-of-none : (i : ℕ) → bit_at 0 i ≡ 0
bit-of-none i = rw (zero-div (2 ^ i))

module _ (s : List ℕ) (d : ℕ) (e : (judged s).verdict ≡ Accepted) (lo : 1 ≤ d) (hi : d ≤ (judged s).summary.deleghe) where
  -- what a line of each section counts, and what holds of the lines and the set that have come to a count
  used-by : (f : ℕ → ℕ) (Counted : Used → ℕ → Type 0) → Counted none_used 0 → ((u : Used) (x h : ℕ) → x < 5 → u.set < 32 → Counted u h → Counted (used_with u x) (h + f x)) →
      Counted (used_in (delega_of s d)) (sum_over (λ r. of_delega d r (of_line 0 f (kind_in r))) (records_of s))
      × ((delega_of s d).size ≡ balances_of d (records_of s)) × ((delega_of s d).set < 32) × (0 < (delega_of s d).set) × ((delega_of s d).first ≡ first_of (delega_of s d).set)
  used-by f Counted blank line =
      rw (delega-within s d e (omega arith) hi, ← (delega-from-closing d start_state none_used (records_of s)))
      (own-numbers no_such_delega answered next_used d (counts f Counted blank line) (λ st u h k. Using f Counted blank line st.stage u h k)
      (λ a t v. Counted (used_in a) t × (a.size ≡ v) × (a.set < 32) × (0 < a.set) × (a.first ≡ first_of a.set))
      (λ st r. fault (head_name_of s) st r ≡ Pass) (standing-of (head_name_of s))
      (λ n st r b g. counts-own f Counted blank line n st r b (standing-of (head_name_of s) st r g))
      (λ n st u r b g. using-next f Counted blank line st u r (standing-of (head_name_of s) st r g))
      (λ st u r k. using-behind f Counted blank line st _ r k)
      (λ st u r k g h m y. let a = used-at-payment f Counted blank line st u r k (standing-of (head_name_of s) st r g) h m y in (a.0, a.1, a.2, a.3, refl))
      none_used (using-start f Counted blank line) (records_of s) lo (each_of (head_name_of s) start_state (records_of s) (accepted-means-no-fault s e).passes) (ends s d e lo hi))

  -- "gains the line count": the lines that carry its number
  pub delega-lines : (delega_of s d).lines ≡ line_count_of d (records_of s)
  delega-lines = (used-by (λ x. 1) (λ u h. u.lines ≡ h) refl (λ u x h l m q. ap (λ (n : ℕ). n + 1) q)).0

  -- bit i by the lines of section i
  bit-of-section : (i : ℕ) → i < 5 → bit_at (delega_of s d).set i ≡ some_of (section_count_of d i (records_of s))
  bit-of-section i l =
      (used-by (λ x. cond (eqb x i) 1 0) (λ u h. bit_at u.set i ≡ some_of h) (bit-of-none i)
      (λ u x h k m q. (put-section u.set x i m k l).1 ∙ some_more (eqb x i) (bit_at u.set i) h q)).0

  -- "and which": bit i is set exactly when the delega has a line of section i
  pub delega-set : (i : ℕ) → i < 5 → (bit_at (delega_of s d).set i ≡ 1) ↔ (0 < section_count_of d i (records_of s))
  delega-set i l = (some-exactly _ _ (bit-of-section i l)).0

  abbrev none : Used → ℕ → Type 0
  none u h = Unit {0}

  -- "how many of the five sections it uses": the number of its balance records
  pub delega-size : (delega_of s d).size ≡ balances_of d (records_of s)
  delega-size = (used-by (λ x. 0) none tt (λ u x h k m q. tt)).1

  -- a set of the five sections, and not empty
  pub delega-set-within : (0 < (delega_of s d).set) × ((delega_of s d).set < 32)
  delega-set-within = let a = used-by (λ x. 0) none tt (λ u x h k m q. tt) in (a.3, a.2)

  -- "as one number (1, 2, 4, 8, 16 added, in 01's order)": one of these for each section that has a line
  pub delega-set-added : (delega_of s d).set ≡ added_up (λ i. some_of (section_count_of d i (records_of s)))
  delega-set-added =
      let f = bit-of-section in
      omega (arith, bits-added (delega_of s d).set delega-set-within.1, f 0 (lit< tt), f 1 (lit< tt), f 2 (lit< tt), f 3 (lit< tt), f 4 (lit< tt))

  -- "trailing zeros the first one": the first section that has a line
  pub delega-first : ((delega_of s d).first < 5) × (0 < section_count_of d (delega_of s d).first (records_of s)) × ((i : ℕ) → i < (delega_of s d).first → section_count_of d i (records_of s) ≡ 0)
  delega-first =
      let a = used-by (λ x. 0) none tt (λ u x h k m q. tt) in
      let x = (delega_of s d).set in
      let b : (i : ℕ) → (first_of x < 5) × (bit_at x (first_of x) ≡ 1) × (i < first_of x → bit_at x i ≡ 0) = λ i. first-section x i a.3 a.2 in
      rw a.4 (
        (b 0).0,
        (delega-set (first_of x) (b 0).0).0 (b 0).1,
        λ i l. (some-exactly _ _ (bit-of-section i (omega (arith, (b 0).0)))).1 ((b i).2 l),
      )
