-- Two records that differ in the delega number alone are read alike: their kind, their amounts, and every check but those on the number.
use Prim.Native.Nat.{ℕ, ◌+◌, ◌-◌, ◌<◌, ◌≤◌}
use mathlib.Core.Path.{◌≡◌, refl, sym, ap, ap₂, ◌∙◌}
use mathlib.Core.Bool.{Bool, true, false, cond}
use mathlib.Core.List.{List, [], ◌∷◌}
use native.Mathlib.Omega.{arith}
use lib.Dec.{lit≤}
use lib.ListN.{take, drop, get_or}
use lib.Seq.{get_or-drop, drop-drop}
use Rattle.text.specs.Answers.{Allowed, Number}
use Rattle.text.specs.Characters.{first_bad}
use Rattle.text.specs.Numbers.{number_of, amount_of}
use Rattle.layout.specs.declared.Field.{Field}
use Rattle.layout.specs.declared.Kind.{Kind}
use Rattle.layout.specs.declared.Kind.TheVariants.{Head, Taxpayer, Domicile, Line, Balance, Payment, Receipt, Addressee, Tail, Unknown}
use Rattle.layout.specs.Sections.{section_at}
use Rattle.layout.specs.Kinds.{type_of, kind_of, type_in, kind_in, numbered}
use Rattle.layout.specs.Fields.{amount_at, delega_number, creation_date, tax_code, support_name, fields_of, bytes_of, value_of}
use Rattle.layout.proofs.InTable.{section_of, section-within}
use Rattle.layout.proofs.InOrder.{InOrder, fields-in-order}
use Rattle.layout.proofs.Amounts.{behind, number-first}
use Rattle.layout.proofs.Table.{row-rule}
use Rattle.refusal.specs.Outcomes.{Outcome, Pass}
use Rattle.amounts.specs.Amounts.{line_fault}
use Rattle.amounts.proofs.Outcomes.{first-pass, five-pass}
use Rattle.order.specs.Order.{standing}
use Rattle.rules.specs.declared.State.{State}
use Rattle.rules.specs.Stored.{Stored, Value, Mark, stored_of, right, fault_of, wrong}
use Rattle.rules.specs.Checks.{char_fault, bad_fields, number_fault, tail_name, code_fault, own_fault, fault}
use Rattle.rules.specs.Step.{next_deleghe, line_sums}
use Rattle.rebalance.specs.Rebalance.{start_of}
use Rattle.rebalance.proofs.Written.{digits-pass}
use Rattle.rebalance.proofs.Numbered.{number-right}

-- Two records of 120 bytes have the same type, and the same bytes from position 11 on.
pub record SameBut (r q : List ℕ) : Type 0 where
  pub first-character : get_or q 1 0 ≡ get_or r 1 0
  pub second-character : get_or q 2 0 ≡ get_or r 2 0
  pub rest : drop 10 q ≡ drop 10 r

-- Fields, and stored fields, that start behind the delega number.
abbrev Behind : List Field → Type 0
Behind [] = Unit {0}
Behind (f ∷ fs) = (10 ≤ f.start) × Behind fs

abbrev StoredBehind : List Stored → Type 0
StoredBehind [] = Unit {0}
StoredBehind (x ∷ xs) = (10 ≤ start_of x) × StoredBehind xs

-- Fields in order behind it are behind it.
order-behind : (n : ℕ) (fs : List Field) → 10 ≤ n → InOrder n fs → Behind fs
order-behind n [] h o = tt
order-behind n (f ∷ fs) h o = (omega (arith, o.0), order-behind f.end fs (omega (arith, o.0, o.1)) o.3)

-- The numeric fields of a record that carries a number are the number and fields behind it.
fields-behind : (r : List ℕ) → numbered (kind_in r) ≡ true → Behind (behind (kind_in r))
fields-behind r n = order-behind 10 (behind (kind_in r)) (lit≤ tt) (rw (number-first (kind_in r) n) at (fields-in-order r)).3

-- What a record stores stands behind it.
kind-stored-behind : (st : State) (k : Kind) → section_of k < 5 → StoredBehind (stored_of st k)
kind-stored-behind st Head w = tt
kind-stored-behind st Taxpayer w = tt
kind-stored-behind st Domicile w = tt
kind-stored-behind st (Line s) w = tt
kind-stored-behind st (Balance s) w = go (section_at s).totals refl
  where
    go : (t : Bool) → (section_at s).totals ≡ t → StoredBehind (stored_of st (Balance s))
    go true e = rw e (omega (arith, rw e at (row-rule s w)))
    go false e = rw e (omega (arith, row-rule s w))
kind-stored-behind st Payment w = omega arith
kind-stored-behind st Receipt w = tt
kind-stored-behind st Addressee w = tt
kind-stored-behind st Tail w = omega arith
kind-stored-behind st Unknown w = tt

module _ (r q : List ℕ) (same : SameBut r q) where
  -- A part that starts behind the number.
  part_same : (n m : ℕ) → 10 ≤ m → take n (drop m q) ≡ take n (drop m r)
  part_same n m h =
      let e : 10 + (m - 10) ≡ m = omega arith in
      rw (← e, ← (drop-drop (m - 10) 10 q), ← (drop-drop (m - 10) 10 r), same.rest)

  -- A byte behind it.
  byte-same : (m : ℕ) → 10 ≤ m → get_or q m 0 ≡ get_or r m 0
  byte-same m h =
      let e : 10 + (m - 10) ≡ m = omega arith in
      rw (← e) (sym (get_or-drop 10 q (m - 10) 0) ∙ (ap (λ (l : List ℕ). get_or l (m - 10) 0) same.rest ∙ get_or-drop 10 r (m - 10) 0))

  -- A field behind it holds the same.
  field-same : (f : Field) → 10 ≤ f.start → bytes_of q f ≡ bytes_of r f
  field-same f h = part_same (f.end - f.start) f.start h

  pub value_same : (f : Field) → 10 ≤ f.start → value_of q f ≡ value_of r f
  value_same f h = ap (λ (b : List ℕ). amount_of (number_of b)) (field-same f h)

  -- They are of the same type and of the same kind.
  pub type-same : type_in q ≡ type_in r
  type-same = ap₂ type_of same.first-character same.second-character

  pub kind-same : kind_in q ≡ kind_in r
  unfolding kind_in
  kind-same = ap₂ kind_of type-same (ap number_of (part_same 2 10 (lit≤ tt)))

  -- The amounts of a line are the same.
  sums_by : (k : Kind) → section_of k < 5 → line_sums k q ≡ line_sums k r
  sums_by Head w = refl
  sums_by Taxpayer w = refl
  sums_by Domicile w = refl
  sums_by (Line s) w = ap₂ (λ (d c : ℕ). record { debit = d; credit = c }) (value_same (amount_at (section_at s).debit) (omega (arith, row-rule s w))) (value_same (amount_at (section_at s).credit) (omega (arith, row-rule s w)))
  sums_by (Balance s) w = refl
  sums_by Payment w = refl
  sums_by Receipt w = refl
  sums_by Addressee w = refl
  sums_by Tail w = refl
  sums_by Unknown w = refl

  pub sums_same : line_sums (kind_in r) q ≡ line_sums (kind_in r) r
  sums_same = sums_by (kind_in r) (section-within r)

  -- What is a record's own to check is the same.
  own-by : (name : List ℕ) (st : State) (k : Kind) → section_of k < 5 → own_fault name st k q ≡ own_fault name st k r
  own-by name st Head w = rw (field-same support_name (lit≤ tt), field-same creation_date (lit≤ tt))
  own-by name st Taxpayer w = ap code_fault (field-same tax_code (lit≤ tt))
  own-by name st Domicile w = refl
  own-by name st (Line s) w = ap₂ (line_fault s) (value_same (amount_at (section_at s).debit) (omega (arith, row-rule s w))) (value_same (amount_at (section_at s).credit) (omega (arith, row-rule s w)))
  own-by name st (Balance s) w = refl
  own-by name st Payment w = refl
  own-by name st Receipt w = refl
  own-by name st Addressee w = refl
  own-by name st Tail w = ap (tail_name name) (field-same support_name (lit≤ tt))
  own-by name st Unknown w = refl

  -- Stored fields behind the number are as right.
  wrong-by : (xs : List Stored) → StoredBehind xs → wrong xs q ≡ wrong xs r
  wrong-by [] b = refl
  wrong-by (x ∷ xs) b = ap₂ (λ (t : Bool) (o : Outcome). cond t o (fault_of x)) (right_by x b.0) (wrong-by xs b.1)
    where
      right_by : (x : Stored) → 10 ≤ start_of x → right x q ≡ right x r
      right_by (Value n f v) h = rw (value_same f h)
      right_by (Mark n c v) h = rw (byte-same c h)

  -- Fields behind the number are as good.
  bad-by : (fs : List Field) → Behind fs → bad_fields fs q ≡ bad_fields fs r
  unfolding bad_fields
  bad-by [] b = refl
  bad-by (f ∷ fs) b = rw (field-same f b.0, bad-by fs b.1)

  -- Where the numeric fields are of digits and the number is another, they are of digits still.
  digits-by : (v : ℕ) → numbered (kind_in r) ≡ true → number_of (bytes_of q delega_number) ≡ Number v → bad_fields (fields_of (kind_in r)) r ≡ Pass → bad_fields (fields_of (kind_in r)) q ≡ Pass
  unfolding bad_fields
  digits-by v n e p =
      let f = number-first (kind_in r) n in
      let b = (digits-pass (number_of (bytes_of r delega_number)) delega_number (bad_fields (behind (kind_in r)) r) (rw f at p)).1 in
      rw (f, e) (bad-by (behind (kind_in r)) (fields-behind r n) ∙ b)

  -- A record that passes every check after one state passes them after another with the number that is expected there, where order, own checks and stored fields come to the same.
  pub passes_on : (name : List ℕ) (st on : State) → fault name st r ≡ Pass → numbered (kind_in r) ≡ true → first_bad q ≡ Allowed → standing on.stage (type_in r) (kind_in r) ≡ Pass →
      number_of (bytes_of q delega_number) ≡ Number (next_deleghe on.deleghe (kind_in r)) → own_fault name on (kind_in r) r ≡ own_fault name st (kind_in r) r → stored_of on (kind_in r) ≡ stored_of st (kind_in r) → fault name on q ≡ Pass
  unfolding fault
  passes_on name st on p n c o v own stored =
      let k = kind_in r in
      let a = five-pass (char_fault (first_bad r)) (standing st.stage (type_in r) k) (bad_fields (fields_of k) r) (number_fault st.deleghe k (value_of r delega_number)) _ p in
      let e = first-pass (own_fault name st k r) (wrong (stored_of st k) r) a.4 in
      let u = number-right on.deleghe k (value_of q delega_number) (λ z. ap amount_of v) in
      rw (kind-same, type-same, c, o, digits-by _ n v a.2, u, own-by name on k (section-within r) ∙ (own ∙ e.0), ap (λ (xs : List Stored). wrong xs q) stored ∙ (wrong-by (stored_of st k) (kind-stored-behind st k (section-within r)) ∙ e.1))
