-- Believed. The records M and V of the F24 EP form: what is judged of each, in which order, and what is answered.
use Rattle.std.specs.Prelude.{ℕ, zero, suc, ◌+◌, ◌/◌, ◌%◌, Bool, true, false, cond, List, [], ◌∷◌, eqb, ltb, length, take, drop, get_or, Err}
use Rattle.ep_total.specs.Answers.{Total, Cents, NoTotal}
use Rattle.ep_total.specs.Total.{total_of}
use Rattle.ep_accounts.specs.Answers.{Accounts, Sum, NonDigit, Unequal}
use Rattle.ep_accounts.specs.Accounts.{accounts_in}
use Rattle.ep.specs.declared.Kind.{Kind}
use Rattle.ep.specs.declared.Kind.TheVariants.{RecordM, RecordV, OtherRecord}
use Rattle.ep.specs.Answers.{Outcome, Pass, Fault, EpAnswer, Accepted, Refused}
use Rattle.ep.specs.declared.Tally.{Tally}
use Rattle.ep.specs.declared.Step.{Step}

-- "records M and V": the type is the first character
unfoldable pub kind_of : List ℕ → Kind
kind_of r = cond (eqb (get_or r 0 0) 77) RecordM (cond (eqb (get_or r 0 0) 86) RecordV OtherRecord)

-- "M's total at 1873"
unfoldable pub total_in : List ℕ → Total
total_in r = total_of (take 15 (drop 1872 r))

-- before the first record
abbrev pub no_tally : Tally
no_tally = record { seen = 0; count = 0; sum = 0; at = 0; followed = false; own = 0; total = NoTotal }

-- the number of the record that comes next
abbrev pub here : Tally → ℕ
here t = t.seen + 1

-- "It equals the sum over the V records that follow"
abbrev pub states : Total → ℕ → Bool
states (Cents n) s = eqb n s
states NoTotal s = false

-- "is judged right after the last of them, under the M's number"; "an M without a V gives 31 at the record after it", whose number is n
unfoldable pub closing : Tally → ℕ → Outcome
closing t n = cond (eqb t.count 0) Pass (cond t.followed (cond (states t.total t.own) Pass (Fault 33 t.at)) (Fault 31 n))

-- "32 digits of a used debit or the final balance, 33 sums"
abbrev pub accounts_fault : ℕ → Accounts → Outcome
accounts_fault n (Sum s) = Pass
accounts_fault n NonDigit = Fault 32 n
accounts_fault n Unequal = Fault 33 n

-- "31 order of records": a V belongs to an M
unfoldable pub v_fault : Tally → Accounts → Outcome
v_fault t a = cond (eqb t.count 0) (Fault 31 (here t)) (accounts_fault (here t) a)

-- "31 order of records": a record that is neither stands nowhere, and what is judged before it goes first
abbrev pub after_other : ℕ → Outcome → Outcome
after_other n Pass = Fault 31 n
after_other n (Err why) = Err why

-- the checks of one record: an M is judged with what stands before it
abbrev pub fault_by : Kind → Tally → List ℕ → Outcome
fault_by RecordM t r = closing t (here t)
fault_by RecordV t r = v_fault t (accounts_in r)
fault_by OtherRecord t r = after_other (here t) (closing t (here t))

-- the first failed check of the record that comes next
unfoldable pub fault : Tally → List ℕ → Outcome
fault t r = fault_by (kind_of r) t r

-- what a V adds; one that is refused adds nothing
abbrev pub added : Accounts → ℕ
added (Sum s) = s
added NonDigit = 0
added Unequal = 0

-- a V adds to the sum of all, and to that of its M
unfoldable pub with_accounts : Tally → Accounts → Tally
with_accounts t a = record { seen = here t; count = t.count; sum = t.sum + added a; at = t.at; followed = true; own = t.own + added a; total = t.total }

-- an M is one more, with a total of its own and no V yet
unfoldable pub with_payment : Tally → Total → Tally
with_payment t m = record { seen = here t; count = t.count + 1; sum = t.sum; at = here t; followed = false; own = 0; total = m }

-- any other record is one more record
unfoldable pub with_other : Tally → Tally
with_other t = record { seen = here t; count = t.count; sum = t.sum; at = t.at; followed = t.followed; own = t.own; total = t.total }

abbrev pub next_by : Kind → Tally → List ℕ → Tally
next_by RecordM t r = with_payment t (total_in r)
next_by RecordV t r = with_accounts t (accounts_in r)
next_by OtherRecord t r = with_other t

-- what the records have established with this one
unfoldable pub next : Tally → List ℕ → Tally
next t r = next_by (kind_of r) t r

-- both
unfoldable pub stepped : Tally → List ℕ → Step
stepped t r = record { tally = next t r; outcome = fault t r }

-- a failed check is the refusal, "with the record's number and position 0"
abbrev pub unless : Outcome → EpAnswer → EpAnswer
unless Pass a = a
unless (Err why) a = Err why

-- "Acceptance answers the count of M and the sum of their totals", once the last M is closed
unfoldable pub ended : Tally → EpAnswer
ended t = unless (closing t (here t)) (Accepted t.count t.sum)

-- "record by record": the first fault ends it
unfoldable pub judged_from : Tally → List (List ℕ) → EpAnswer
judged_from t [] = ended t
judged_from t (r ∷ rs) = unless (fault t r) (judged_from (next t r) rs)

-- "of 1,900 characters": the first n records of s
unfoldable pub records_in : ℕ → List ℕ → List (List ℕ)
records_in zero s = []
records_in (suc n) s = take 1900 s ∷ records_in n (drop 1900 s)

-- "30 length, none or too many records"
unfoldable pub size_right : ℕ → Bool
size_right l = cond (eqb l 0) false (cond (ltb 19000000 l) false (eqb (l % 1900) 0))

-- the answer for any bytes: 30 "at 0, 0; then, record by record"
unfoldable pub judged : List ℕ → EpAnswer
judged s = cond (size_right (length s)) (judged_from no_tally (records_in (length s / 1900) s)) (Refused 30 0 0)
