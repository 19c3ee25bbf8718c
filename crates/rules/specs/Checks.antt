-- Believed. The checks 3 to 20 and 26 of one record, in the order of their numbers.
use Rattle.std.specs.Prelude.{ℕ, ◌+◌, cond, List, [], ◌∷◌, eqb, ltb}
use Rattle.text.specs.Answers.{Characters, Allowed, BadAt, Digits, Number, NonDigit, TooLong}
use Rattle.text.specs.Characters.{first_bad}
use Rattle.text.specs.Numbers.{number_of}
use Rattle.layout.specs.declared.Field.{Field}
use Rattle.layout.specs.declared.Kind.{Kind}
use Rattle.layout.specs.declared.Kind.TheVariants.{Head, Taxpayer, Domicile, Line, Balance, Payment, Receipt, Addressee, Tail, Unknown}
use Rattle.layout.specs.Sections.{section_at}
use Rattle.layout.specs.Kinds.{type_in, kind_in}
use Rattle.layout.specs.Fields.{amount_at, delega_number, creation_date, tax_code, support_name, fields_of, bytes_of, value_of}
use Rattle.amounts.specs.declared.Sums.{Sums}
use Rattle.rules.specs.declared.State.{State}
use Rattle.refusal.specs.Outcomes.{Outcome, Pass, Fails}
use Rattle.amounts.specs.Outcomes.{first, first_of}
use Rattle.order.specs.Order.{standing}
use Rattle.amounts.specs.Amounts.{line_fault}
use Rattle.amounts.specs.Dates.{date_right}
use Rattle.amounts.specs.Names.{name_right, same_bytes}
use Rattle.taxcode.specs.TaxCodes.{code_right}
use Rattle.rules.specs.Stored.{stored_of, wrong}

-- 3, "a byte outside 32 to 126", at the "first such byte"
abbrev pub char_fault : Characters → Outcome
char_fault Allowed = Pass
char_fault (BadAt i) = Fails 3 (i + 1)

-- 7, "non-digit in a numeric field": of the first such field "the first non-digit's own position", which is i characters behind the field's start (`number_of` tells no TooLong)
abbrev pub or_bad : Digits → Field → Outcome → Outcome
or_bad (Number n) f o = o
or_bad (NonDigit i) f o = Fails 7 (f.start + i + 1)
or_bad TooLong f o = Fails 7 (f.start + 1)

unfoldable pub bad_fields : List Field → List ℕ → Outcome
bad_fields [] r = Pass
bad_fields (f ∷ fs) r = or_bad (number_of (bytes_of r f)) f (bad_fields fs r)

-- 8: "The first delega is 1, each next one is one more, and all records of a delega carry its number"
unfoldable pub carried : ℕ → ℕ → Outcome
carried expected n = cond (eqb n expected) Pass (Fails 8 4)

unfoldable pub number_fault : ℕ → Kind → ℕ → Outcome
number_fault d Head n = Pass
number_fault d Taxpayer n = carried (d + 1) n
number_fault d Domicile n = carried d n
number_fault d (Line s) n = carried d n
number_fault d (Balance s) n = carried d n
number_fault d Payment n = carried d n
number_fault d Receipt n = carried d n
number_fault d Addressee n = carried d n
number_fault d Tail n = Pass
number_fault d Unknown n = Pass

-- 14, "Zero is allowed, negative is not"
unfoldable pub negative_fault : Sums → Outcome
negative_fault t = cond (ltb t.debit t.credit) (Fails 14 2) Pass

-- 16 of the head, and 16 of the tail, which is held to the head's name
unfoldable pub head_name : List ℕ → Outcome
head_name name = cond (name_right name) Pass (Fails 16 20)

unfoldable pub tail_name : List ℕ → List ℕ → Outcome
tail_name name own = cond (same_bytes own name) Pass (Fails 16 20)

-- 17, "date not valid"
unfoldable pub date_fault : ℕ → Outcome
date_fault v = cond (date_right v) Pass (Fails 17 14)

-- 26, a taxpayer's code that cannot exist, "at the field's start"
unfoldable pub code_fault : List ℕ → Outcome
code_fault code = cond (code_right code) Pass (Fails 26 11)

-- 9 of a line, 14 of a 50-01, 16 and 17 of the head, 16 of the tail, and 26 of a 10, "after 8 in the same record": what is judged beside the stored fields. No kind of record has a stored field of a smaller number
abbrev pub own_checks : List ℕ → State → Kind → List ℕ → List Outcome
own_checks name st Head r = head_name (bytes_of r support_name) ∷ date_fault (value_of r creation_date) ∷ []
own_checks name st Taxpayer r = code_fault (bytes_of r tax_code) ∷ []
own_checks name st Domicile r = []
own_checks name st (Line s) r = line_fault s (value_of r (amount_at (section_at s).debit)) (value_of r (amount_at (section_at s).credit)) ∷ []
own_checks name st (Balance s) r = []
own_checks name st Payment r = negative_fault st.money.delega.all ∷ []
own_checks name st Receipt r = []
own_checks name st Addressee r = []
own_checks name st Tail r = tail_name name (bytes_of r support_name) ∷ []
own_checks name st Unknown r = []

-- the first of these that fails
abbrev pub own_fault : List ℕ → State → Kind → List ℕ → Outcome
own_fault name st k r = first_of (own_checks name st k r)

-- "within a record the checks in the order of their numbers": the first failed check of a record r of a flow whose head has this name
unfoldable pub fault : List ℕ → State → List ℕ → Outcome
fault name st r =
    first (char_fault (first_bad r))
    (first (standing st.stage (type_in r) (kind_in r))
    (first (bad_fields (fields_of (kind_in r)) r)
    (first (number_fault st.deleghe (kind_in r) (value_of r delega_number))
    (first (own_fault name st (kind_in r) r) (wrong (stored_of st (kind_in r)) r)))))
