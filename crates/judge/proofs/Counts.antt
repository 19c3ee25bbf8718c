-- The counts of an accepted flow: its records, its deleghe, one for each record of type 10, and its lines.
use Prim.Native.Nat.{ℕ, ◌+◌, ◌/◌}
use mathlib.Core.Path.{◌≡◌, refl, ap, ◌∙◌}
use mathlib.Core.Bool.{Bool, true, false, cond}
use mathlib.Core.List.{List, [], ◌∷◌}
use native.Mathlib.Omega.{arith}
use lib.Dec.{eqb}
use lib.ListN.{length}
use Rattle.text.specs.Answers.{Digits, Number, NonDigit, TooLong}
use Rattle.layout.specs.declared.Section.{Section}
use Rattle.layout.specs.declared.RecordType.{RecordType}
use Rattle.layout.specs.declared.RecordType.TheVariants.{F4, T10, T20, T40, T50, EF, NoType}
use Rattle.layout.specs.declared.Kind.{Kind}
use Rattle.layout.specs.declared.Kind.TheVariants.{Taxpayer, Line, Balance, Payment, Receipt, Addressee, Unknown}
use Rattle.layout.specs.Sections.{sections}
use Rattle.layout.specs.Kinds.{section_kind_from, payment_kind, kind_of, type_in, subtype_in, kind_in}
use Rattle.refusal.specs.Outcomes.{Pass}
use Rattle.rules.specs.declared.State.{State}
use Rattle.rules.specs.State.{start_state}
use Rattle.rules.specs.Checks.{fault}
use Rattle.rules.specs.Step.{next_deleghe, next}
use Rattle.rules.proofs.Others.{counted-once}
use Rattle.judge.specs.Refusal.{Accepted}
use Rattle.judge.specs.declared.Summary.{Summary}
use Rattle.judge.specs.declared.Judgement.{Judgement}
use Rattle.judge.specs.Flow.{summary_of, records_of, head_name_of, judged}
use Rattle.judge.proofs.Records.{length-chunks}
use Rattle.judge.specs.Plain.{sum_over, opens, tens_in, line_count_in, state_after, NoFault}
use Rattle.judge.proofs.Accepted.{accepted-means-no-fault, sound-judged}

-- where each record that passes keeps a fact of the state and adds its own number to a number of the summary, that number of an accepted flow is their sum
module _ (s : List ℕ) (e : (judged s).verdict ≡ Accepted) (Fact : State → Type 0) (f : Summary → ℕ) (g : List ℕ → ℕ)
    (step : (st : State) (r : List ℕ) → fault (head_name_of s) st r ≡ Pass → Fact st → Fact (next st r) × (f (summary_of (next st r)) ≡ f (summary_of st) + g r)) where
  adds-up : (st : State) (rs : List (List ℕ)) → NoFault (head_name_of s) st rs → Fact st → f (summary_of (state_after st rs)) ≡ f (summary_of st) + sum_over g rs
  unfolding state_after sum_over
  adds-up st [] h i = omega arith
  adds-up st (r ∷ rs) h i =
      let a = step st r h.0 i in
      let b = adds-up (next st r) rs h.1 a.0 in
      omega arith

  pub accepted-adds : Fact start_state → f (summary_of start_state) ≡ 0 → f (judged s).summary ≡ sum_over g (records_of s)
  accepted-adds i z =
      let h = accepted-means-no-fault s e in
      ap (λ (j : Judgement). f j.summary) (sound-judged s h) ∙ omega (arith, adds-up start_state (records_of s) h.passes i)

-- each record counts
pub seen-after : (st : State) (rs : List (List ℕ)) → (state_after st rs).seen ≡ st.seen + length rs
unfolding state_after next
seen-after st [] = omega arith
seen-after st (r ∷ rs) = omega (arith, seen-after (next st r) rs)

-- a record of type 10 opens a delega, and no other does
section-opens-none : (d i : ℕ) (xs : List Section) (n : ℕ) → next_deleghe d (section_kind_from i xs n) ≡ d
unfolding section_kind_from
section-opens-none d i [] n = refl
section-opens-none d i (x ∷ xs) n = go (eqb n x.line_subtype) (eqb n x.balance_subtype) (section_kind_from (i + 1) xs n) (section-opens-none d (i + 1) xs n)
  where
    go : (a b : Bool) (k : Kind) → next_deleghe d k ≡ d → next_deleghe d (cond a (Line i) (cond b (Balance i) k)) ≡ d
    go true b k e = refl
    go false true k e = refl
    go false false k e = e

payment-opens-none : (d n : ℕ) → next_deleghe d (payment_kind n) ≡ d
unfolding payment_kind
payment-opens-none d n = go (eqb n 1) (eqb n 2) (eqb n 3)
  where
    go : (a b c : Bool) → next_deleghe d (cond a Payment (cond b Receipt (cond c Addressee Unknown))) ≡ d
    go true b c = refl
    go false true c = refl
    go false false true = refl
    go false false false = refl

ten-opens : (d : ℕ) (t : RecordType) (n : Digits) → next_deleghe d (kind_of t n) ≡ d + opens t
ten-opens d F4 n = omega arith
ten-opens d T10 n = refl
ten-opens d T20 n = omega arith
ten-opens d T40 (Number n) = omega (arith, section-opens-none d 0 sections n)
ten-opens d T40 (NonDigit i) = omega arith
ten-opens d T40 TooLong = omega arith
ten-opens d T50 (Number n) = omega (arith, payment-opens-none d n)
ten-opens d T50 (NonDigit i) = omega arith
ten-opens d T50 TooLong = omega arith
ten-opens d EF n = omega arith
ten-opens d NoType n = omega arith

opens_one : (t : RecordType) → opens t ≡ 1 → t ≡ T10
opens_one F4 e = absurd (omega arith)
opens_one T10 e = refl
opens_one T20 e = absurd (omega arith)
opens_one T40 e = absurd (omega arith)
opens_one T50 e = absurd (omega arith)
opens_one EF e = absurd (omega arith)
opens_one NoType e = absurd (omega arith)

pub taxpayer-is-ten : (r : List ℕ) → kind_in r ≡ Taxpayer → type_in r ≡ T10
unfolding kind_in
taxpayer-is-ten r e =
    let n : next_deleghe 0 (kind_in r) ≡ 1 = ap (next_deleghe 0) e in
    opens_one (type_in r) (omega (arith, ten-opens 0 (type_in r) (subtype_in r)))

-- so the deleghe after records are those before and the records of type 10
pub deleghe-after : (st : State) (rs : List (List ℕ)) → (state_after st rs).deleghe ≡ st.deleghe + tens_in rs
unfolding state_after next sum_over kind_in
deleghe-after st [] = omega arith
deleghe-after st (r ∷ rs) = omega (arith, deleghe-after (next st r) rs, ten-opens st.deleghe (type_in r) (subtype_in r))

-- "number of records", those of 120 bytes that the flow has
pub accepted-records : (s : List ℕ) → (judged s).verdict ≡ Accepted → (judged s).summary.records ≡ length s / 120
unfolding start_state
accepted-records s e =
    ap (λ (j : Judgement). j.summary.records) (sound-judged s (accepted-means-no-fault s e))
    ∙ omega (arith, seen-after start_state (records_of s), length-chunks (length s / 120) s)

-- "number of deleghe", the records of type 10
pub accepted-deleghe : (s : List ℕ) → (judged s).verdict ≡ Accepted → (judged s).summary.deleghe ≡ tens_in (records_of s)
unfolding start_state next kind_in
accepted-deleghe s e =
    accepted-adds s e (λ st. Unit {0}) (λ m. m.deleghe) (λ r. opens (type_in r)) (λ st r p i. (tt, ten-opens st.deleghe (type_in r) (subtype_in r))) tt refl

-- every record is a line or counts among the others
lines-or-others : (st : State) (rs : List (List ℕ)) → (state_after st rs).others + line_count_in rs ≡ st.others + length rs
unfolding state_after next sum_over
lines-or-others st [] = omega arith
lines-or-others st (r ∷ rs) = omega (arith, lines-or-others (next st r) rs, counted-once st.others (kind_in r))

-- so the lines after all records are the records that are lines
pub lines_after : (rs : List (List ℕ)) → (summary_of (state_after start_state rs)).lines ≡ line_count_in rs
unfolding start_state
lines_after rs = omega (arith, lines-or-others start_state rs, seen-after start_state rs)

-- "the number of lines", the records that are lines
pub accepted-lines : (s : List ℕ) → (judged s).verdict ≡ Accepted → (judged s).summary.lines ≡ line_count_in (records_of s)
accepted-lines s e = ap (λ (j : Judgement). j.summary.lines) (sound-judged s (accepted-means-no-fault s e)) ∙ lines_after (records_of s)
