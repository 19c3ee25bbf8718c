-- Which numbers the checks behind 8 have, by the kind of record; and what a fault behind 8 tells of the checks before it.
use Prim.Native.Nat.{ℕ, ◌<◌}
use mathlib.Core.Path.{◌≡◌, refl}
use mathlib.Core.Bool.{Bool, true, false, cond, false≢true}
use mathlib.Core.List.{List, [], ◌∷◌}
use native.Mathlib.Omega.{arith}
use lib.Dec.{eqb, ltb}
use Rattle.text.specs.Answers.{Allowed}
use Rattle.text.specs.Among.{among}
use Rattle.text.specs.Characters.{first_bad}
use Rattle.text.specs.Numbers.{number_of}
use Rattle.layout.specs.declared.Field.{Field}
use Rattle.layout.specs.declared.Kind.{Kind}
use Rattle.layout.specs.declared.Kind.TheVariants.{Head, Taxpayer, Domicile, Line, Balance, Payment, Receipt, Addressee, Tail, Unknown}
use Rattle.layout.specs.Sections.{section_at}
use Rattle.layout.specs.Kinds.{type_in, kind_in}
use Rattle.layout.specs.Fields.{creation_date, delega_number, tax_code, support_name, fields_of, bytes_of, value_of}
use Rattle.refusal.specs.Outcomes.{Outcome, Pass, Fails}
use Rattle.amounts.specs.Outcomes.{first}
use Rattle.amounts.specs.Amounts.{line_right, line_fault}
use Rattle.amounts.specs.Dates.{date_right}
use Rattle.amounts.specs.Names.{name_right, same_bytes}
use Rattle.taxcode.specs.TaxCodes.{code_right}
use Rattle.order.specs.Order.{standing}
use Rattle.rules.specs.declared.State.{State}
use Rattle.rules.specs.Stored.{Stored, Value, Mark, stored_of, right, fault_of, wrong}
use Rattle.rules.specs.Checks.{char_fault, bad_fields, number_fault, negative_fault, head_name, tail_name, date_fault, code_fault, own_fault, fault}
use Rattle.judge.proofs.ChecksInOrder.{Only, passed, char-only, field-only, allowed_of, number-only, never, other-fault, order-number, refusal_at}

-- an outcome passes, or has one of these numbers
pub data In (ns : List ℕ) : Outcome → Type 0 where
  none : In ns Pass
  has : {n p : ℕ} → among n ns ≡ true → In ns (Fails n p)

pub in-fault : {ns : List ℕ} {n p : ℕ} → In ns (Fails n p) → among n ns ≡ true
in-fault (has h) = h

pub in-cond : {ns : List ℕ} (b : Bool) {x y : Outcome} → In ns x → In ns y → In ns (cond b x y)
in-cond true h i = h
in-cond false h i = i

pub in-first : {ns : List ℕ} {a b : Outcome} → In ns a → In ns b → In ns (first a b)
in-first none i = i
in-first (has h) i = has h

-- one number more may be named
pub in-more : (m : ℕ) {ns : List ℕ} {o : Outcome} → In ns o → In (m ∷ ns) o
unfolding among
in-more m none = none
in-more m {ns} (has {n} h) = has (go (eqb n m))
  where
    go : (b : Bool) → cond b true (among n ns) ≡ true
    go true = refl
    go false = h

-- 9 of a line, among others
pub line-in : (ns : List ℕ) (s d c : ℕ) → In (9 ∷ ns) (line_fault s d c)
unfolding among line_fault
line-in ns s d c = in-cond (line_right s d c) none (in-cond (eqb d 0) (in-cond (eqb c 0) (has refl) (has refl)) (has refl))

-- the stored fields of a list have these numbers
abbrev AllIn : List ℕ → List Stored → Type 0
AllIn ns [] = Unit {0}
AllIn ns (x ∷ xs) = (among (refusal_at x) ns ≡ true) × AllIn ns xs

stored-in : (ns : List ℕ) (xs : List Stored) (r : List ℕ) → AllIn ns xs → In ns (wrong xs r)
stored-in ns [] r h = none
stored-in ns (x ∷ xs) r h = in-cond (right x r) (stored-in ns xs r h.1) (go x h.0)
  where
    go : (x : Stored) → among (refusal_at x) ns ≡ true → In ns (fault_of x)
    go (Value n f v) e = has e
    go (Mark n c v) e = has e

-- the numbers behind 8, by kind
abbrev rest_numbers : Kind → List ℕ
rest_numbers Head = 16 ∷ 17 ∷ []
rest_numbers Taxpayer = 26 ∷ []
rest_numbers Domicile = []
rest_numbers (Line s) = 9 ∷ []
rest_numbers (Balance s) = 10 ∷ 11 ∷ 12 ∷ 13 ∷ []
rest_numbers Payment = 14 ∷ 15 ∷ []
rest_numbers Receipt = []
rest_numbers Addressee = []
rest_numbers Tail = 16 ∷ 18 ∷ 19 ∷ 20 ∷ []
rest_numbers Unknown = []

rest_in : (name : List ℕ) (st : State) (k : Kind) (r : List ℕ) → In (rest_numbers k) (first (own_fault name st k r) (wrong (stored_of st k) r))
unfolding among head_name date_fault negative_fault tail_name code_fault
rest_in name st Head r = in-first (in-first (in-cond (name_right (bytes_of r support_name)) none (has refl)) (in-cond (date_right (value_of r creation_date)) none (has refl))) none
rest_in name st Taxpayer r = in-first (in-cond (code_right (bytes_of r tax_code)) none (has refl)) none
rest_in name st Domicile r = none
rest_in name st (Line s) r = in-first (line-in [] s _ _) none
rest_in name st (Balance s) r = stored-in _ (stored_of st (Balance s)) r (all_in (section_at s).totals _ _ (refl, (refl, (refl, (refl, tt)))) (refl, (refl, tt)))
  where
    all_in : (b : Bool) (xs ys : List Stored) → AllIn (10 ∷ 11 ∷ 12 ∷ 13 ∷ []) xs → AllIn (10 ∷ 11 ∷ 12 ∷ 13 ∷ []) ys → AllIn (10 ∷ 11 ∷ 12 ∷ 13 ∷ []) (cond b xs ys)
    all_in true xs ys u v = u
    all_in false xs ys u v = v
rest_in name st Payment r = in-first (in-cond (ltb st.money.delega.all.debit st.money.delega.all.credit) (has refl) none) (stored-in _ (stored_of st Payment) r (refl, tt))
rest_in name st Receipt r = none
rest_in name st Addressee r = none
rest_in name st Tail r = in-first (in-cond (same_bytes (bytes_of r support_name) name) none (has refl)) (stored-in _ (stored_of st Tail) r (refl, (refl, (refl, tt))))
rest_in name st Unknown r = none

-- 17 is a head's, and 26 a record 10's
whose : (k : Kind) → (among 17 (rest_numbers k) ≡ true → k ≡ Head) × (among 26 (rest_numbers k) ≡ true → k ≡ Taxpayer)
unfolding among
whose Head = (λ e. refl, λ e. absurd (false≢true e))
whose Taxpayer = (λ e. absurd (false≢true e), λ e. refl)
whose Domicile = (λ e. absurd (false≢true e), λ e. absurd (false≢true e))
whose (Line s) = (λ e. absurd (false≢true e), λ e. absurd (false≢true e))
whose (Balance s) = (λ e. absurd (false≢true e), λ e. absurd (false≢true e))
whose Payment = (λ e. absurd (false≢true e), λ e. absurd (false≢true e))
whose Receipt = (λ e. absurd (false≢true e), λ e. absurd (false≢true e))
whose Addressee = (λ e. absurd (false≢true e), λ e. absurd (false≢true e))
whose Tail = (λ e. absurd (false≢true e), λ e. absurd (false≢true e))
whose Unknown = (λ e. absurd (false≢true e), λ e. absurd (false≢true e))

-- so a record with 17 is a head, and one with 26 a record 10
module _ (name : List ℕ) (st : State) (k : Kind) (r : List ℕ) {q : ℕ} where
  pub seventeen-is-head : first (own_fault name st k r) (wrong (stored_of st k) r) ≡ Fails 17 q → k ≡ Head
  seventeen-is-head e = (whose k).0 (in-fault (rw e at (rest_in name st k r)))

  pub twenty-six-is-taxpayer : first (own_fault name st k r) (wrong (stored_of st k) r) ≡ Fails 26 q → k ≡ Taxpayer
  twenty-six-is-taxpayer e = (whose k).1 (in-fault (rw e at (rest_in name st k r)))

-- a fault behind 8 of a record whose fields fl are looked at: the checks up to 8 pass, and it is what stands behind them
pub record Behind (st : State) (r : List ℕ) (fl : List Field) (x : Outcome) (n q : ℕ) : Type 0 where
  pub characters : first_bad r ≡ Allowed
  pub ordered : standing st.stage (type_in r) (kind_in r) ≡ Pass
  pub digits : bad_fields fl r ≡ Pass
  pub numbered : number_fault st.deleghe (kind_in r) (value_of r delega_number) ≡ Pass
  pub rest : x ≡ Fails n q

fields-only : (fs : List Field) (r : List ℕ) → Only 7 (bad_fields fs r)
unfolding bad_fields
fields-only [] r = passed
fields-only (f ∷ fs) r = field-only (number_of (bytes_of r f)) f (fields-only fs r)

module _ (st : State) (r : List ℕ) (fl : List Field) (x : Outcome) {n q : ℕ} where
  pub behind-eight : 8 < n → first (char_fault (first_bad r)) (first (standing st.stage (type_in r) (kind_in r)) (first (bad_fields fl r) (first (number_fault st.deleghe (kind_in r) (value_of r delega_number)) x))) ≡ Fails n q →
      Behind st r fl x n q
  behind-eight h e =
      let a = other-fault (char_fault (first_bad r)) (never (char-only (first_bad r)) (λ z. omega arith)) e in
      let b = other-fault (standing st.stage (type_in r) (kind_in r)) (λ q f. let l = order-number st.stage (type_in r) (kind_in r) f in omega arith) a.1 in
      let c = other-fault (bad_fields fl r) (never (fields-only fl r) (λ z. omega arith)) b.1 in
      let d = other-fault (number_fault st.deleghe (kind_in r) (value_of r delega_number)) (never (number-only st.deleghe (kind_in r) (value_of r delega_number)) (λ z. omega arith)) c.1 in
      record { characters = allowed_of (first_bad r) a.0; ordered = b.0; digits = c.0; numbered = d.0; rest = d.1 }

-- of the judgement
pub fault-behind : (name : List ℕ) (st : State) (r : List ℕ) {n q : ℕ} → 8 < n → fault name st r ≡ Fails n q → Behind st r (fields_of (kind_in r)) (first (own_fault name st (kind_in r) r) (wrong (stored_of st (kind_in r)) r)) n q
unfolding fault
fault-behind name st r h e = behind-eight st r _ _ h e
