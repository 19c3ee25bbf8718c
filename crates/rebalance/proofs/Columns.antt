-- The kinds of records that store something: where their stored fields stand, what is written there, and which numeric fields they are.
use Prim.Native.Nat.{ℕ, ◌<◌}
use mathlib.Core.Path.{◌≡◌, refl, sym, ap, ◌∙◌}
use mathlib.Core.Bool.{Bool, true, false, cond}
use mathlib.Core.List.{List, [], ◌∷◌}
use lib.Dec.{T, ltb, lit≤}
use Rattle.text.specs.Answers.{Allowed, Digits, Number, NonDigit, TooLong}
use Rattle.text.specs.Characters.{first_bad}
use Rattle.text.specs.Numbers.{number_of}
use Rattle.text.proofs.Allowed.{allowed-byte, allowed-digits}
use Rattle.layout.specs.declared.Field.{Field}
use Rattle.layout.specs.declared.Section.{Section}
use Rattle.layout.specs.declared.Kind.{Kind}
use Rattle.layout.specs.declared.Kind.TheVariants.{Head, Taxpayer, Domicile, Line, Balance, Payment, Receipt, Addressee, Tail, Unknown}
use Rattle.layout.specs.Sections.{sections, no_section, section_at}
use Rattle.layout.specs.Kinds.{kind_in}
use Rattle.layout.specs.Fields.{amount_at, delega_number, final_balance, tail_deleghe, tail_sum, tail_records, fields_of, bytes_of}
use Rattle.layout.proofs.InTable.{section_of, section-within}
use Rattle.layout.proofs.Table.{at_each}
use Rattle.amounts.specs.declared.Sums.{Sums}
use Rattle.rules.specs.declared.State.{State}
use Rattle.refusal.specs.Outcomes.{Outcome, Pass}
use Rattle.amounts.specs.Outcomes.{first}
use Rattle.amounts.specs.Amounts.{sign_of, apart}
use Rattle.rules.specs.Stored.{Stored, Value, Mark, section_sums, stored_of}
use Rattle.rules.specs.Checks.{or_bad, bad_fields}
use Rattle.amounts.proofs.Outcomes.{first-none}
use Rattle.rebalance.specs.Rebalance.{kept_fields, clear}
use Rattle.text.proofs.Tests.{both_true}
use Rattle.rebalance.proofs.Written.{laid, Printable, value_fields, digits-pass}

-- A record stores nothing, or it is the balance of a section, a 50-01 or the tail.
pub data Storing (st : State) : Kind → Type 0 where
  plain : {k : Kind} → stored_of st k ≡ [] → fields_of k ≡ kept_fields k → Storing st k
  balance : (s : ℕ) → s < 5 → Storing st (Balance s)
  payment : Storing st Payment
  tail : Storing st Tail

-- So it is with every kind whose section is in the table.
storing-kind : (st : State) (k : Kind) → section_of k < 5 → Storing st k
storing-kind st Head h = plain refl refl
storing-kind st Taxpayer h = plain refl refl
storing-kind st Domicile h = plain refl refl
storing-kind st (Line s) h = plain refl refl
storing-kind st (Balance s) h = balance s h
storing-kind st Payment h = payment
storing-kind st Receipt h = plain refl refl
storing-kind st Addressee h = plain refl refl
storing-kind st Tail h = tail
storing-kind st Unknown h = plain refl refl

-- So it is with every record.
pub storing : (st : State) (r : List ℕ) → Storing st (kind_in r)
storing st r = storing-kind st (kind_in r) (section-within r)

-- The two characters of the type, the delega number and the subtype lie outside the stored fields, and these are laid out, as one test.
sound : List Stored → Bool
sound xs = cond (clear 1 1 xs) (cond (clear 2 1 xs) (cond (clear 3 7 xs) (cond (clear 10 2 xs) (laid xs) false) false) false) false

-- The same as facts.
pub record Columns (xs : List Stored) : Type 0 where
  pub first-character : clear 1 1 xs ≡ true
  pub second-character : clear 2 1 xs ≡ true
  pub delega-number : clear 3 7 xs ≡ true
  pub subtype : clear 10 2 xs ≡ true
  pub laid_out : laid xs ≡ true

-- The stored fields of the balance of a row of the table, with totals or without.
abbrev row_stored : Bool → Sums → Section → List Stored
row_stored b t x = cond b (Value 10 (amount_at x.total_debit) t.debit ∷ Value 11 (amount_at x.total_credit) t.credit ∷ ends) ends
  where
    ends : List Stored
    ends = Mark 12 x.sign (sign_of t.debit t.credit) ∷ Value 13 (amount_at x.balance) (apart t.debit t.credit) ∷ []

-- A test that holds is true.
true_of : (b : Bool) → T b → b ≡ true
true_of true t = refl
true_of false t = absurd t

-- The test holds for every record, and is computed over the whole table for the balances.
sound-stored : {st : State} {k : Kind} → Storing st k → sound (stored_of st k) ≡ true
unfolding clear laid section_at sound
sound-stored (plain e f) = rw e
sound-stored {st} (balance s h) = true_of _ (at_each (λ (x : Section). sound (row_stored x.totals (section_sums st s) x)) no_section sections tt s h)
sound-stored payment = refl
sound-stored tail = refl

-- Where the stored fields of a record stand.
pub columns : {st : State} {k : Kind} → Storing st k → Columns (stored_of st k)
unfolding sound
columns {st} {k} w =
    let xs = stored_of st k in
    let p = both_true (clear 1 1 xs) _ (sound-stored w) in
    let q = both_true (clear 2 1 xs) _ p.1 in
    let s = both_true (clear 3 7 xs) _ q.1 in
    let t = both_true (clear 10 2 xs) _ s.1 in
    record { first-character = p.0; second-character = q.0; delega-number = s.0; subtype = t.0; laid_out = t.1 }

-- The two signs are characters.
printable-sign : (t : Bool) → first_bad (cond t 78 80 ∷ []) ≡ Allowed
printable-sign true = allowed-byte 78 (lit≤ tt) (lit≤ tt)
printable-sign false = allowed-byte 80 (lit≤ tt) (lit≤ tt)

-- What is written to the balance of a row is printable.
printable-row : (b : Bool) (t : Sums) (x : Section) → Printable (row_stored b t x)
unfolding sign_of
printable-row true t x = (allowed-digits _ _, (allowed-digits _ _, (printable-sign (ltb t.debit t.credit), (allowed-digits _ _, tt))))
printable-row false t x = (printable-sign (ltb t.debit t.credit), (allowed-digits _ _, tt))

-- What is written to stored fields is printable.
pub printable-stored : {st : State} {k : Kind} → Storing st k → Printable (stored_of st k)
printable-stored (plain e f) = rw e tt
printable-stored {st} (balance s h) = printable-row (section_at s).totals (section_sums st s) (section_at s)
printable-stored payment = (allowed-digits _ _, tt)
printable-stored tail = (allowed-digits _ _, (allowed-digits _ _, (allowed-digits _ _, tt)))

-- A list of fields is of digits where its first is and the others are.
bad-one : (f : Field) (fs : List Field) (r : List ℕ) → bad_fields (f ∷ fs) r ≡ first (bad_fields (f ∷ []) r) (bad_fields fs r)
unfolding bad_fields
bad-one f fs r = go (number_of (bytes_of r f))
  where
    go : (d : Digits) → or_bad d f (bad_fields fs r) ≡ first (or_bad d f Pass) (bad_fields fs r)
    go (Number n) = refl
    go (NonDigit i) = refl
    go TooLong = refl

-- Fields of digits may be read in any order.
bad-swap : (f g h : Field) (r : List ℕ) → bad_fields (f ∷ g ∷ h ∷ []) r ≡ Pass → bad_fields (f ∷ h ∷ g ∷ []) r ≡ Pass
unfolding bad_fields
bad-swap f g h r e =
    let p = digits-pass (number_of (bytes_of r f)) f _ e in
    let q = digits-pass (number_of (bytes_of r g)) g _ p.1 in
    let o = digits-pass (number_of (bytes_of r h)) h _ q.1 in
    rw (p.0, o.0, q.0)

-- One of two outcomes passes where the other does.
abbrev pub Same : Outcome → Outcome → Type 0
Same a b = (a ≡ Pass → b ≡ Pass) × (b ≡ Pass → a ≡ Pass)

-- Equal outcomes pass together.
same : (a b : Outcome) → a ≡ b → Same a b
same a b e = (λ p. sym e ∙ p, λ p. e ∙ p)

-- The stored numeric fields of the balance of a row are its totals, where it has them, and its balance.
row-fields : (b : Bool) (t : Sums) (x : Section) → cond b (amount_at x.total_debit ∷ amount_at x.total_credit ∷ amount_at x.balance ∷ []) (amount_at x.balance ∷ []) ≡ value_fields (row_stored b t x)
unfolding value_fields
row-fields true t x = refl
row-fields false t x = refl

-- The numeric fields of a record are the kept ones and the stored ones.
pub fields-same : {st : State} {k : Kind} → Storing st k → (r : List ℕ) → Same (bad_fields (fields_of k) r) (first (bad_fields (kept_fields k) r) (bad_fields (value_fields (stored_of st k)) r))
unfolding value_fields bad_fields
fields-same (plain e f) r = rw (e, f) (same _ _ (sym (first-none _)))
fields-same {st} (balance s h) r =
    same _ _ (ap (λ (fs : List Field). bad_fields (delega_number ∷ fs) r) (row-fields (section_at s).totals (section_sums st s) (section_at s)) ∙ bad-one delega_number (value_fields (stored_of st (Balance s))) r)
fields-same payment r = same _ _ (bad-one delega_number (final_balance ∷ []) r)
fields-same tail r = (bad-swap tail_deleghe tail_sum tail_records r, bad-swap tail_deleghe tail_records tail_sum r)
