-- For theorems, but for what the sums of a section's lines are made of, `sum_over`, `Side`, `column_of` and `section_in`: these are believed, for a record of sums (02, ask 10). What a flow's judgement is measured by: plain counts and sums over its records, the records that pass, and the checks of a record one by one.
use Rattle.std.specs.Prelude.{ℕ, ◌+◌, ◌<◌, ◌≤◌, ◌%◌, ◌≡◌, true, false, cond, List, [], ◌∷◌, ◌++◌, map, eqb, length, take, drop, replicate, Err}
use Rattle.text.specs.Answers.{Allowed}
use Rattle.text.specs.Characters.{first_bad}
use Rattle.text.specs.Numbers.{number_of}
use Rattle.layout.specs.declared.Field.{Field}
use Rattle.layout.specs.declared.RecordType.{RecordType}
use Rattle.layout.specs.declared.RecordType.TheVariants.{F4, T10, T20, T40, T50, EF, NoType}
use Rattle.layout.specs.declared.Kind.{Kind}
use Rattle.layout.specs.declared.Kind.TheVariants.{Head, Taxpayer, Tail}
use Rattle.layout.specs.Sections.{section_at}
use Rattle.layout.specs.Kinds.{of_line, of_payment, type_in, kind_in}
use Rattle.layout.specs.Fields.{amount_at, final_balance, delega_number, creation_date, support_name, fields_of, bytes_of, value_of}
use Rattle.amounts.specs.declared.Sums.{Sums}
use Rattle.order.specs.declared.Stage.{Stage}
use Rattle.rules.specs.declared.State.{State}
use Rattle.refusal.specs.Outcomes.{Outcome, Pass, Fails}
use Rattle.rules.specs.State.{start_state}
use Rattle.order.specs.Order.{stands, type_stands, full}
use Rattle.amounts.specs.Dates.{date_right}
use Rattle.amounts.specs.Names.{name_right}
use Rattle.taxcode.specs.TaxCodes.{code_right}
use Rattle.rules.specs.Stored.{Stored, stored_of, right, fault_of}
use Rattle.rules.specs.Checks.{char_fault, or_bad, bad_fields, number_fault, own_checks, fault}
use Rattle.rules.specs.Step.{next}
use Rattle.judge.specs.declared.Summary.{Summary}
use Rattle.refusal.specs.declared.Refusal.{Refusal}
use Rattle.refusal.specs.Refusals.{refusal}
use Rattle.judge.specs.Flow.{records_of, head_name_of}
use Rattle.judge.specs.Part.{record_at}

-- a number of each record, added up over the records
unfoldable pub sum_over : (List ℕ → ℕ) → List (List ℕ) → ℕ
sum_over f [] = 0
sum_over f (r ∷ rs) = f r + sum_over f rs

-- 1 for the type 10, with which a delega begins, and 0 for any other
abbrev pub opens : RecordType → ℕ
opens F4 = 0
opens T10 = 1
opens T20 = 0
opens T40 = 0
opens T50 = 0
opens EF = 0
opens NoType = 0

-- the number of records of type 10
abbrev pub tens_in : List (List ℕ) → ℕ
tens_in rs = sum_over (λ r. opens (type_in r)) rs

-- the number of lines
abbrev pub line_count_in : List (List ℕ) → ℕ
line_count_in rs = sum_over (λ r. of_line 0 (λ s. 1) (kind_in r)) rs

-- the two sides of a line
pub data Side : Type 0 where
  Debit : Side
  Credit : Side

-- one side of sums
abbrev pub side_of : Side → Sums → ℕ
side_of Debit t = t.debit
side_of Credit t = t.credit

-- the field of one side in the lines of section s
abbrev pub column_of : Side → ℕ → Field
column_of Debit s = amount_at (section_at s).debit
column_of Credit s = amount_at (section_at s).credit

-- one side of all lines, added up
abbrev pub lines_in : Side → List (List ℕ) → ℕ
lines_in x rs = sum_over (λ r. of_line 0 (λ s. value_of r (column_of x s)) (kind_in r)) rs

-- one side of the lines of section i, added up
abbrev pub section_in : Side → ℕ → List (List ℕ) → ℕ
section_in x i rs = sum_over (λ r. of_line 0 (λ s. cond (eqb s i) (value_of r (column_of x i)) 0) (kind_in r)) rs

-- the final balances of the records 50-01, added up
abbrev pub finals_in : List (List ℕ) → ℕ
finals_in rs = sum_over (λ r. of_payment 0 (value_of r final_balance) (kind_in r)) rs

-- the last of the records, or x where there are none
unfoldable pub last_of : List ℕ → List (List ℕ) → List ℕ
last_of x [] = x
last_of x (r ∷ rs) = last_of r rs

-- the state after records
unfoldable pub state_after : State → List (List ℕ) → State
state_after st [] = st
state_after st (r ∷ rs) = state_after (next st r) rs

-- a summary in which every number is zero
abbrev pub zeros : Summary
zeros = record { deleghe = 0; records = 0; total = 0; lines = 0; sums = replicate 5 (record { debit = 0; credit = 0 }) }

-- no record of a list has a fault
abbrev pub NoFault : List ℕ → State → List (List ℕ) → Type 0
NoFault name st [] = Unit {0}
NoFault name st (r ∷ rs) = (fault name st r ≡ Pass) × NoFault name (next st r) rs

-- 1 to 546 whole records
pub record Whole (s : List ℕ) : Type 0 where
  pub short : length s ≤ 65520
  pub some : 0 < length s
  pub even : length s % 120 ≡ 0

-- whole records without a fault, of which the last is EF
pub record Sound (s : List ℕ) : Type 0 where
  pub whole : Whole s
  pub passes : NoFault (head_name_of s) start_state (records_of s)
  pub ends : kind_in (last_of [] (records_of s)) ≡ Tail

-- the first record with a fault, number n at position p, is the k-th of a list
pub record FirstFault (name : List ℕ) (st : State) (rs : List (List ℕ)) (n k p : ℕ) : Type 0 where
  pub before : List (List ℕ)
  pub here : List ℕ
  pub behind : List (List ℕ)
  pub split : rs ≡ before ++ (here ∷ behind)
  pub counted : k ≡ length before + 1
  pub passes : NoFault name st before
  pub fails : fault name (state_after st before) here ≡ Fails n p

-- no record has a fault, and the last is not EF
pub record Unfinished (s : List ℕ) : Type 0 where
  pub passes : NoFault (head_name_of s) start_state (records_of s)
  pub ends : kind_in (last_of [] (records_of s)) ≡ Tail → ⊥

-- why a flow is refused with this number, record and position: 1 and 2 by its length; the first fault in the order of the records; 5 behind the last record
pub data RefusedFor (s : List ℕ) (x : Refusal) : Type 0 where
  LongFlow : 65520 < length s → x ≡ refusal 1 0 0 → RefusedFor s x
  NoBytes : length s ≡ 0 → x ≡ refusal 2 0 0 → RefusedFor s x
  RaggedFlow : length s ≤ 65520 → (length s % 120 ≡ 0 → ⊥) → x ≡ refusal 2 0 0 → RefusedFor s x
  FaultAt : Whole s → FirstFault (head_name_of s) start_state (records_of s) x.number x.«record» x.position → RefusedFor s x
  NoTail : Whole s → Unfinished s → x ≡ refusal 5 (length (records_of s) + 1) 0 → RefusedFor s x

-- the head of a flow breaks no check before 17, which are 3, 4, 7 and 16, and its date is none
pub record NoSuchDay (s : List ℕ) : Type 0 where
  pub whole : Whole s
  pub characters : first_bad (record_at s 1) ≡ Allowed
  pub head : kind_in (record_at s 1) ≡ Head
  pub digits : bad_fields (fields_of Head) (record_at s 1) ≡ Pass
  pub name : name_right (bytes_of (record_at s 1) support_name) ≡ true
  pub day : date_right (value_of (record_at s 1) creation_date) ≡ false

-- of 1 to 546 whole records the first that has a fault is the k-th: a record of type 10 that breaks no check before 26, which are 3, 4, 7 and 8, and the code at its positions 11 to 26 cannot exist
pub record NoSuchCode (s : List ℕ) (k : ℕ) : Type 0 where
  pub whole : Whole s
  pub before : List (List ℕ)
  pub here : List ℕ
  pub behind : List (List ℕ)
  pub split : records_of s ≡ before ++ (here ∷ behind)
  pub counted : k ≡ length before + 1
  pub passes : NoFault (head_name_of s) start_state before
  pub characters : first_bad here ≡ Allowed
  pub taxpayer : type_in here ≡ T10
  pub ordered : stands (state_after start_state before).stage Taxpayer ≡ true
  pub digits : bad_fields (fields_of Taxpayer) here ≡ Pass
  pub number : value_of here delega_number ≡ tens_in before + 1
  pub code : code_right (take 16 (drop 10 here)) ≡ false

-- 4: a record of a type and a kind may stand at a stage
abbrev pub order_check : Stage → RecordType → Kind → Outcome
order_check p t k = cond (stands p k) Pass (cond (type_stands p t) (Fails 4 11) (Fails 4 2))

-- 6: the section has room for one more line
abbrev pub most_check : Stage → Kind → Outcome
most_check p k = cond (full p k) (Fails 6 11) Pass

-- 7: a numeric field has digits only
abbrev pub field_check : List ℕ → Field → Outcome
field_check r f = or_bad (number_of (bytes_of r f)) f Pass

-- 10 to 13, 15, 18 to 20: a stored field is right
abbrev pub stored_check : List ℕ → Stored → Outcome
stored_check r x = cond (right x r) Pass (fault_of x)

-- every check of one record by itself, in the order of the numbers
unfoldable pub checks_of : List ℕ → State → List ℕ → List Outcome
checks_of name st r =
    (char_fault (first_bad r) ∷ order_check st.stage (type_in r) (kind_in r) ∷ most_check st.stage (kind_in r) ∷ [])
    ++ (map (field_check r) (fields_of (kind_in r))
    ++ (number_fault st.deleghe (kind_in r) (value_of r delega_number) ∷ (own_checks name st (kind_in r) r ++ map (stored_check r) (stored_of st (kind_in r)))))

-- an outcome has no number below n
abbrev pub AtLeast : ℕ → Outcome → Type 0
AtLeast n Pass = Unit {0}
AtLeast n (Err why) = n ≤ why.number

-- none of a list of outcomes has a number below n
abbrev pub AllAtLeast : ℕ → List Outcome → Type 0
AllAtLeast n [] = Unit {0}
AllAtLeast n (o ∷ os) = AtLeast n o × AllAtLeast n os
