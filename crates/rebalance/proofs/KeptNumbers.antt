-- The numbers of the checks that rebalancing leaves alone.
use Prim.Native.Nat.{ℕ}
use mathlib.Core.Path.{refl}
use mathlib.Core.List.{List, [], ◌∷◌}
use lib.Dec.{eqb, ltb}
use Rattle.text.specs.Answers.{Characters, Allowed, BadAt, Digits, Number, NonDigit, TooLong}
use Rattle.text.specs.Characters.{first_bad}
use Rattle.text.specs.Numbers.{number_of}
use Rattle.text.specs.Among.{among}
use Rattle.layout.specs.declared.Field.{Field}
use Rattle.layout.specs.declared.RecordType.{RecordType}
use Rattle.layout.specs.declared.Kind.{Kind}
use Rattle.layout.specs.declared.Kind.TheVariants.{Head, Taxpayer, Domicile, Line, Balance, Payment, Receipt, Addressee, Tail, Unknown}
use Rattle.layout.specs.Kinds.{type_in, kind_in}
use Rattle.layout.specs.Fields.{creation_date, tax_code, support_name, bytes_of, value_of, delega_number}
use Rattle.refusal.specs.Outcomes.{Outcome}
use Rattle.amounts.specs.Outcomes.{first}
use Rattle.amounts.specs.Dates.{date_right}
use Rattle.amounts.specs.Names.{name_right, same_bytes}
use Rattle.taxcode.specs.TaxCodes.{code_right}
use Rattle.order.specs.declared.Stage.{Stage}
use Rattle.order.specs.Order.{stands, full, type_stands, standing}
use Rattle.rules.specs.declared.State.{State}
use Rattle.rules.specs.Checks.{char_fault, or_bad, bad_fields, carried, number_fault, negative_fault, head_name, tail_name, date_fault, code_fault, own_fault}
use Rattle.judge.proofs.OwnNumbers.{In, none, has, in-cond, in-first, in-more, line-in}
use Rattle.rebalance.specs.Rebalance.{kept_fields, kept_fault}

-- The numbers of the checks that every record has, before those in a list.
abbrev pub before : List ℕ → List ℕ
before ns = 3 ∷ 4 ∷ 6 ∷ 7 ∷ ns

in-before : {ns : List ℕ} {o : Outcome} → In ns o → In (before ns) o
in-before h = in-more 3 (in-more 4 (in-more 6 (in-more 7 h)))

-- 3
pub characters-in : (ns : List ℕ) (c : Characters) → In (before ns) (char_fault c)
unfolding among
characters-in ns Allowed = none
characters-in ns (BadAt i) = has refl

-- 4 and 6
standing-in : (ns : List ℕ) (p : Stage) (t : RecordType) (k : Kind) → In (before ns) (standing p t k)
unfolding among standing
standing-in ns p t k = in-cond (stands p k) (in-cond (full p k) (has refl) none) (in-cond (type_stands p t) (has refl) (has refl))

-- 7
fields_in : (ns : List ℕ) (fs : List Field) (r : List ℕ) → In (before ns) (bad_fields fs r)
unfolding among bad_fields
fields_in ns [] r = none
fields_in ns (f ∷ fs) r = go (number_of (bytes_of r f)) (fields_in ns fs r)
  where
    go : (d : Digits) {o : Outcome} → In (before ns) o → In (before ns) (or_bad d f o)
    go (Number n) h = h
    go (NonDigit i) h = has refl
    go TooLong h = has refl

-- 9, 14, 16, 17 and 26
pub own_in : (name : List ℕ) (st : State) (k : Kind) (r : List ℕ) → In (9 ∷ 14 ∷ 16 ∷ 17 ∷ 26 ∷ []) (own_fault name st k r)
unfolding among negative_fault head_name tail_name date_fault code_fault
own_in name st Head r = in-first (in-cond (name_right (bytes_of r support_name)) none (has refl)) (in-cond (date_right (value_of r creation_date)) none (has refl))
own_in name st Taxpayer r = in-cond (code_right (bytes_of r tax_code)) none (has refl)
own_in name st Domicile r = none
own_in name st (Line s) r = line-in _ s _ _
own_in name st (Balance s) r = none
own_in name st Payment r = in-cond (ltb st.money.delega.all.debit st.money.delega.all.credit) (has refl) none
own_in name st Receipt r = none
own_in name st Addressee r = none
own_in name st Tail r = in-cond (same_bytes (bytes_of r support_name) name) none (has refl)
own_in name st Unknown r = none

-- 8
carried-in : (d n : ℕ) → In (8 ∷ 9 ∷ 14 ∷ 16 ∷ 17 ∷ 26 ∷ []) (carried d n)
unfolding among carried
carried-in d n = in-cond (eqb n d) none (has refl)

pub number_in : (d : ℕ) (k : Kind) (n : ℕ) → In (8 ∷ 9 ∷ 14 ∷ 16 ∷ 17 ∷ 26 ∷ []) (number_fault d k n)
unfolding number_fault
number_in d Head n = none
number_in d Taxpayer n = carried-in _ n
number_in d Domicile n = carried-in d n
number_in d (Line s) n = carried-in d n
number_in d (Balance s) n = carried-in d n
number_in d Payment n = carried-in d n
number_in d Receipt n = carried-in d n
number_in d Addressee n = carried-in d n
number_in d Tail n = none
number_in d Unknown n = none

-- The checks on the delega number and on what is a record's own.
abbrev pub last_checks : List ℕ → State → List ℕ → Outcome
last_checks name st r = first (number_fault st.deleghe (kind_in r) (value_of r delega_number)) (own_fault name st (kind_in r) r)

-- A fault of the checks that rebalancing leaves alone is 3, 4, 6 or 7, or that of the last ones.
pub kept_in : (ns : List ℕ) (name : List ℕ) (st : State) (r : List ℕ) → In ns (last_checks name st r) → In (before ns) (kept_fault name st r)
unfolding kept_fault
kept_in ns name st r h =
    in-first (characters-in ns (first_bad r)) (in-first (standing-in ns st.stage (type_in r) (kind_in r)) (in-first (fields_in ns (kept_fields (kind_in r)) r) (in-before h)))

-- The last ones have 8, 9, 14, 16, 17 or 26.
pub last-in : (name : List ℕ) (st : State) (r : List ℕ) → In (8 ∷ 9 ∷ 14 ∷ 16 ∷ 17 ∷ 26 ∷ []) (last_checks name st r)
last-in name st r = in-first (number_in st.deleghe (kind_in r) (value_of r delega_number)) (in-more 8 (own_in name st (kind_in r) r))
