-- The fault of a record is the first failed one of its single checks, and none with a smaller number fails.
use Rattle.std.specs.Prelude.{Err}
use Prim.Native.Nat.{ℕ, ◌≤◌, ◌<◌}
use mathlib.Core.Path.{◌≡◌, refl, sym, ap, ◌∙◌}
use mathlib.Core.Bool.{Bool, true, false, cond}
use mathlib.Core.List.{List, [], ◌∷◌, ◌++◌, map}
use native.Mathlib.Omega.{arith}
use lib.Dec.{eqb, ltb}
use Rattle.text.specs.Answers.{Characters, Allowed, BadAt, Digits, Number, NonDigit, TooLong}
use Rattle.text.specs.Characters.{first_bad}
use Rattle.text.specs.Numbers.{number_of}
use Rattle.layout.specs.declared.Field.{Field}
use Rattle.layout.specs.declared.RecordType.{RecordType}
use Rattle.layout.specs.declared.Kind.{Kind}
use Rattle.layout.specs.declared.Kind.TheVariants.{Head, Taxpayer, Domicile, Line, Balance, Payment, Receipt, Addressee, Tail, Unknown}
use Rattle.layout.specs.Sections.{section_at}
use Rattle.layout.specs.Kinds.{type_in, kind_in}
use Rattle.layout.specs.Fields.{amount_at, creation_date, delega_number, tax_code, fields_of, support_name, bytes_of, value_of}
use Rattle.amounts.specs.declared.Sums.{Sums}
use Rattle.order.specs.declared.Stage.{Stage}
use Rattle.refusal.proofs.Parts.{fails-parts}
use Rattle.refusal.specs.Outcomes.{Outcome, Pass, Fails}
use Rattle.rules.specs.declared.State.{State}
use Rattle.amounts.specs.Outcomes.{first, first_of}
use Rattle.order.specs.Order.{stands, full, type_stands, standing}
use Rattle.amounts.specs.Amounts.{line_right, line_fault}
use Rattle.amounts.specs.Dates.{date_right}
use Rattle.amounts.specs.Names.{name_right, same_bytes}
use Rattle.taxcode.specs.TaxCodes.{code_right}
use Rattle.rules.specs.Stored.{Stored, Value, Mark, section_sums, stored_balance, stored_of, right, fault_of, wrong}
use Rattle.rules.specs.Checks.{char_fault, or_bad, bad_fields, carried, number_fault, negative_fault, head_name, tail_name, date_fault, code_fault, own_checks, own_fault, fault}
use Rattle.amounts.proofs.Outcomes.{first-assoc, first_of-cons, first_of-append}
use Rattle.judge.specs.Plain.{order_check, most_check, field_check, stored_check, checks_of, AtLeast, AllAtLeast}

-- each group of checks is its single checks, the first that fails
standing-first : (p : Stage) (t : RecordType) (k : Kind) → standing p t k ≡ first (order_check p t k) (most_check p k)
unfolding standing
standing-first p t k = go (stands p k) (type_stands p t) (full p k)
  where
    go : (a b c : Bool) → cond a (cond c (Fails 6 11) Pass) (cond b (Fails 4 11) (Fails 4 2)) ≡ first (cond a Pass (cond b (Fails 4 11) (Fails 4 2))) (cond c (Fails 6 11) Pass)
    go true b c = refl
    go false true c = refl
    go false false c = refl

fields-first : (fs : List Field) (r : List ℕ) → bad_fields fs r ≡ first_of (map (field_check r) fs)
unfolding bad_fields
fields-first [] r = refl
fields-first (f ∷ fs) r = go (number_of (bytes_of r f)) (fields-first fs r) ∙ sym (first_of-cons (field_check r f) (map (field_check r) fs))
  where
    go : (d : Digits) {o u : Outcome} → o ≡ u → or_bad d f o ≡ first (or_bad d f Pass) u
    go (Number n) e = e
    go (NonDigit i) e = refl
    go TooLong e = refl

stored-first : (xs : List Stored) (r : List ℕ) → wrong xs r ≡ first_of (map (stored_check r) xs)
stored-first [] r = refl
stored-first (x ∷ xs) r = go x (right x r) (stored-first xs r) ∙ sym (first_of-cons (stored_check r x) (map (stored_check r) xs))
  where
    go : (x : Stored) (b : Bool) {o u : Outcome} → o ≡ u → cond b o (fault_of x) ≡ first (cond b Pass (fault_of x)) u
    go x true e = e
    go (Value n f v) false e = refl
    go (Mark n c v) false e = refl

-- the fault of a record is the first of its checks that fails
pub fault-is-first : (name : List ℕ) (st : State) (r : List ℕ) → fault name st r ≡ first_of (checks_of name st r)
unfolding fault checks_of
fault-is-first name st r =
    let k = kind_in r in
    let own = own_checks name st k r in
    let stored = map (stored_check r) (stored_of st k) in
    let fields = map (field_check r) (fields_of k) in
    let number = number_fault st.deleghe k (value_of r delega_number) in
    let e = first_of-append fields (number ∷ (own ++ stored)) ∙ ap (first (first_of fields)) (first_of-cons number (own ++ stored) ∙ ap (first number) (first_of-append own stored)) in
    simp (standing-first, first-assoc, fields-first, stored-first) (sym (first_of-append (char_fault (first_bad r) ∷ order_check st.stage (type_in r) k ∷ most_check st.stage k ∷ []) (fields ++ (number ∷ (own ++ stored))) ∙ simp (first-assoc, e)))

-- a check whose only fault has number n
pub data Only (n : ℕ) : Outcome → Type 0 where
  passed : Only n Pass
  failed : {p : ℕ} → Only n (Fails n p)

pub only-cond : {n : ℕ} {x y : Outcome} (b : Bool) → Only n x → Only n y → Only n (cond b x y)
only-cond true p q = p
only-cond false p q = q

-- a check that never has number n; where the first of two faults has it, it is the other's
abbrev pub Never : ℕ → Outcome → Type 0
Never n o = (q : ℕ) → o ≡ Fails n q → ⊥

pub never : {m n : ℕ} {o : Outcome} → Only m o → (m ≡ n → ⊥) → Never n o
never passed d q e = let z : ◌≡◌ {A = ℕ} 0 1 = cc in omega arith
never failed d q e = d (fails-parts e).0

pub other-fault : (o : Outcome) {x : Outcome} {n q : ℕ} → Never n o → first o x ≡ Fails n q → (o ≡ Pass) × (x ≡ Fails n q)
other-fault Pass n e = (refl, e)
other-fault (Err why) {q = q} n e = absurd (n q e)

-- 4 and 6 are all that the order has
pub order-number : (p : Stage) (t : RecordType) (k : Kind) {n q : ℕ} → standing p t k ≡ Fails n q → n ≤ 6
unfolding standing
order-number p t k {n} {q} e = go (stands p k) (full p k) (type_stands p t) e
  where
    go : (a b c : Bool) → cond a (cond b (Fails 6 11) Pass) (cond c (Fails 4 11) (Fails 4 2)) ≡ Fails n q → n ≤ 6
    go true true c e = let z : ◌≡◌ {A = ℕ} 6 n = (fails-parts e).0 in omega arith
    go true false c e = let z : ◌≡◌ {A = ℕ} 0 1 = cc in absurd (omega arith)
    go false b true e = let z : ◌≡◌ {A = ℕ} 4 n = (fails-parts e).0 in omega arith
    go false b false e = let z : ◌≡◌ {A = ℕ} 4 n = (fails-parts e).0 in omega arith

-- checks whose numbers, none of which is 5 or above 20 but for 26, rise from lo on
abbrev Rising : ℕ → List Outcome → Type 0
Rising lo [] = Unit {0}
Rising lo (o ∷ os) = (n : ℕ) × ((lo ≤ n) × (20 < n → n ≡ 26) × (n ≡ 5 → ⊥)) × Only n o × Rising n os

pub char-only : (c : Characters) → Only 3 (char_fault c)
char-only Allowed = passed
char-only (BadAt i) = failed

-- a record that has no character fault is made of characters
pub allowed_of : (c : Characters) → char_fault c ≡ Pass → c ≡ Allowed
allowed_of Allowed e = refl
allowed_of (BadAt i) e = cc

pub field-only : (d : Digits) (f : Field) {o : Outcome} → Only 7 o → Only 7 (or_bad d f o)
field-only (Number n) f h = h
field-only (NonDigit i) f h = failed
field-only TooLong f h = failed

carried-only : (e n : ℕ) → Only 8 (carried e n)
unfolding carried
carried-only e n = only-cond (eqb n e) passed failed

pub number-only : (d : ℕ) (k : Kind) (n : ℕ) → Only 8 (number_fault d k n)
unfolding number_fault
number-only d Head n = passed
number-only d Taxpayer n = carried-only _ n
number-only d Domicile n = carried-only _ n
number-only d (Line s) n = carried-only _ n
number-only d (Balance s) n = carried-only _ n
number-only d Payment n = carried-only _ n
number-only d Receipt n = carried-only _ n
number-only d Addressee n = carried-only _ n
number-only d Tail n = passed
number-only d Unknown n = passed

pub line-only : (s d c : ℕ) → Only 9 (line_fault s d c)
unfolding line_fault
line-only s d c = only-cond (line_right s d c) passed (only-cond (eqb d 0) (only-cond (eqb c 0) failed failed) failed)

-- the stored fields of a record stand in the order of their refusals
abbrev pub refusal_at : Stored → ℕ
refusal_at (Value n f v) = n
refusal_at (Mark n c b) = n

abbrev Climbs : ℕ → List Stored → Type 0
Climbs lo [] = Unit {0}
Climbs lo (x ∷ xs) = ((lo ≤ refusal_at x) × (20 < refusal_at x → refusal_at x ≡ 26) × (refusal_at x ≡ 5 → ⊥)) × Climbs (refusal_at x) xs

stored-only : (x : Stored) (r : List ℕ) → Only (refusal_at x) (stored_check r x)
stored-only (Value n f v) r = only-cond (right (Value n f v) r) passed failed
stored-only (Mark n c b) r = only-cond (right (Mark n c b) r) passed failed

stored-rising : (lo : ℕ) (xs : List Stored) (r : List ℕ) → Climbs lo xs → Rising lo (map (stored_check r) xs)
stored-rising lo [] r h = tt
stored-rising lo (x ∷ xs) r h = (refusal_at x, h.0, stored-only x r, stored-rising (refusal_at x) xs r h.1)

balance-climbs : (b : Bool) (s : ℕ) (t : Sums) → Climbs 8 (cond b (Value 10 (amount_at (section_at s).total_debit) t.debit ∷ Value 11 (amount_at (section_at s).total_credit) t.credit ∷ stored_balance s t) (stored_balance s t))
balance-climbs true s t = omega arith
balance-climbs false s t = omega arith

rest-rising : (name : List ℕ) (st : State) (k : Kind) (r : List ℕ) → Rising 8 (own_checks name st k r ++ map (stored_check r) (stored_of st k))
unfolding head_name date_fault negative_fault tail_name code_fault
rest-rising name st Head r = (
  16,
  omega arith,
  only-cond (name_right (bytes_of r support_name)) passed failed,
  (17, omega arith, only-cond (date_right (value_of r creation_date)) passed failed, tt),
)
rest-rising name st Taxpayer r = (26, omega arith, only-cond (code_right (bytes_of r tax_code)) passed failed, tt)
rest-rising name st Domicile r = tt
rest-rising name st (Line s) r = (9, omega arith, line-only s _ _, tt)
rest-rising name st (Balance s) r = stored-rising 8 (stored_of st (Balance s)) r (balance-climbs (section_at s).totals s (section_sums st s))
rest-rising name st Payment r = (
  14,
  omega arith,
  only-cond (ltb st.money.delega.all.debit st.money.delega.all.credit) failed passed,
  stored-rising 14 (stored_of st Payment) r (omega arith),
)
rest-rising name st Receipt r = tt
rest-rising name st Addressee r = tt
rest-rising name st Tail r = (
  16,
  omega arith,
  only-cond (same_bytes (bytes_of r support_name) name) passed failed,
  stored-rising 16 (stored_of st Tail) r (omega arith),
)
rest-rising name st Unknown r = tt

fields-rising : (fs : List Field) (r : List ℕ) (os : List Outcome) → ((lo : ℕ) → lo ≤ 7 → Rising lo os) → (lo : ℕ) → lo ≤ 7 → Rising lo (map (field_check r) fs ++ os)
fields-rising [] r os g lo h = g lo h
fields-rising (f ∷ fs) r os g lo h = (7, omega arith, field-only (number_of (bytes_of r f)) f passed, fields-rising fs r os g 7 (omega arith))

checks-rising : (name : List ℕ) (st : State) (r : List ℕ) → Rising 3 (checks_of name st r)
unfolding checks_of
checks-rising name st r = (
  3,
  omega arith,
  char-only (first_bad r),
  (
    4,
    omega arith,
    only-cond (stands st.stage (kind_in r)) passed (only-cond (type_stands st.stage (type_in r)) failed failed),
    (
      6,
      omega arith,
      only-cond (full st.stage (kind_in r)) failed passed,
      fields-rising (fields_of (kind_in r)) r _ (λ lo h. (8, omega arith, number-only st.deleghe (kind_in r) (value_of r delega_number), rest-rising name st (kind_in r) r)) 6 (omega arith),
    ),
  ),
)

-- of rising checks the first that fails has the smallest number, and it is not 5
at_least : {m n : ℕ} {o : Outcome} → m ≤ n → Only n o → AtLeast m o
at_least h passed = tt
at_least h failed = h

pub only-number : {m n p : ℕ} → Only n (Fails m p) → m ≡ n
only-number failed = refl

least : (m lo : ℕ) (os : List Outcome) → Rising lo os → m ≤ lo → AllAtLeast m os
least m lo [] u h = tt
least m lo (o ∷ os) u h = (at_least (omega arith) u.2, least m u.0 os u.3 (omega arith))

-- a number that a check of one record can have
pub record Numbered (lo n : ℕ) : Type 0 where
  pub least : lo ≤ n
  pub most : 20 < n → n ≡ 26
  pub not_five : n ≡ 5 → ⊥

rising-first : (lo : ℕ) (os : List Outcome) {n p : ℕ} → Rising lo os → first_of os ≡ Fails n p → AllAtLeast n os × Numbered lo n
rising-first lo [] u e = let z : ◌≡◌ {A = ℕ} 0 1 = cc in absurd (omega arith)
rising-first lo (Pass ∷ os) {n} u e =
    let a = rising-first u.0 os u.3 (sym (first_of-cons Pass os) ∙ e) in
    let i : u.0 ≤ n = a.1.least in
    ((tt, a.0), record { least = omega arith; most = a.1.most; not_five = a.1.not_five })
rising-first lo (Err why ∷ os) {n} u e =
    let f = sym (first_of-cons (Err why) os) ∙ e in
    let i : why.number ≡ n = (fails-parts f).0 in
    let j = only-number u.2 in
    ((omega arith, least n u.0 os u.3 (omega arith)), record { least = omega arith; most = λ k. let x = u.1.1 (omega arith) in omega arith; not_five = λ k. u.1.2 (omega arith) })

-- behind the numeric fields only the checks from 8 on are left
pub rest-number : (name : List ℕ) (st : State) (r : List ℕ) {n p : ℕ} →
    first (number_fault st.deleghe (kind_in r) (value_of r delega_number)) (first (own_fault name st (kind_in r) r) (wrong (stored_of st (kind_in r)) r)) ≡ Fails n p → 8 ≤ n
rest-number name st r e =
    let k = kind_in r in
    let own = own_checks name st k r in
    let stored = map (stored_check r) (stored_of st k) in
    let number = number_fault st.deleghe k (value_of r delega_number) in
    let f = first_of-cons number (own ++ stored) ∙ ap (first number) (first_of-append own stored ∙ ap (first (first_of own)) (sym (stored-first (stored_of st k) r))) in
    (rising-first 8 (number ∷ (own ++ stored)) (8, omega arith, number-only st.deleghe k (value_of r delega_number), rest-rising name st k r) (f ∙ e)).1.least

module _ (name : List ℕ) (st : State) (r : List ℕ) {n p : ℕ} (e : fault name st r ≡ Fails n p) where
  smallest : AllAtLeast n (checks_of name st r) × Numbered 3 n
  smallest = rising-first 3 (checks_of name st r) (checks-rising name st r) (sym (fault-is-first name st r) ∙ e)

  -- a record's fault is one of 3 to 20, and not 5, which is told behind the last record; or it is 26
  pub fault-number : Numbered 3 n
  fault-number = smallest.1

  -- "within a record the checks in the order of their numbers": no check with a smaller number than the fault's fails
  pub no-smaller-number-fails : AllAtLeast n (checks_of name st r)
  no-smaller-number-fails = smallest.0
