-- The laws of rebalancing one record.
use Prim.Native.Nat.{ℕ}
use mathlib.Core.Path.{◌≡◌, refl, sym, ap, ap₂, ◌∙◌}
use mathlib.Core.Bool.{Bool, true, false, cond}
use mathlib.Core.List.{List, [], ◌∷◌}
use lib.ListN.{length, take, drop, get_or}
use Rattle.text.specs.Answers.{Allowed}
use Rattle.text.specs.Characters.{first_bad}
use Rattle.text.specs.Numbers.{number_of, amount_of}
use Rattle.layout.specs.declared.Kind.{Kind}
use Rattle.layout.specs.declared.Kind.TheVariants.{Balance, Payment, Tail}
use Rattle.layout.specs.Sections.{section_at}
use Rattle.layout.specs.Kinds.{type_of, kind_of, type_in, kind_in}
use Rattle.layout.specs.Fields.{delega_number, final_balance, tail_deleghe, tail_sum, tail_records, fields_of, value_of}
use Rattle.rules.specs.declared.State.{State}
use Rattle.refusal.specs.Outcomes.{Outcome, Pass, Fails}
use Rattle.order.specs.Order.{stands, full, type_stands, standing}
use Rattle.rules.specs.Stored.{Stored, section_sums, stored_of, wrong}
use Rattle.rules.specs.Checks.{char_fault, or_bad, bad_fields, number_fault, tail_name, own_fault, fault}
use Rattle.rules.specs.Step.{line_sums, next}
use Rattle.judge.proofs.ChecksInOrder.{allowed_of}
use Rattle.amounts.proofs.Outcomes.{first-pass, five-pass}
use Rattle.rebalance.specs.Rebalance.{put_all, emit, fits_all, clear, kept_fields, kept_fault}
use Rattle.rebalance.specs.Places.{balance_columns}
use Rattle.rebalance.proofs.Outside.{balance-covers}
use Rattle.rebalance.proofs.Alike.{stored-over}
use Rattle.rebalance.proofs.Written.{byte_of, laid, length-put_all, put_all-clear, Holds, put_all-holds, holds_same, put_all-allowed, value_fields, holds-numbers, holds-pass, pass_fits, pass-holds}
use Rattle.rebalance.proofs.Columns.{Storing, plain, balance, payment, tail, storing, Columns, columns, printable-stored, fields-same}

-- What the other checks and the next state read of a record is the same in another.
pub record Kept (name : List ℕ) (st : State) (k : Kind) (r out : List ℕ) : Type 0 where
  pub fields : bad_fields (kept_fields k) out ≡ bad_fields (kept_fields k) r
  pub own : own_fault name st k out ≡ own_fault name st k r
  pub sums : line_sums k out ≡ line_sums k r

-- Whether the bytes of a delega number are digits.
abbrev digits_checked : List ℕ → Outcome
digits_checked b = or_bad (number_of b) delega_number Pass

-- Writing the stored fields, after whatever state, leaves what the other checks and the next state read.
pub kept : {s : State} {k : Kind} → Storing s k → Columns (stored_of s k) → (name : List ℕ) (st : State) (r : List ℕ) → ((m n : ℕ) → clear m n (stored_of s k) ≡ true → take n (drop m (put_all (stored_of s k) r)) ≡ take n (drop m r)) → Kept name st k r (put_all (stored_of s k) r)
unfolding bad_fields put_all clear
kept (plain e f) c name st r part = rw e (record { fields = refl; own = refl; sums = refl })
kept (balance x h) c name st r part = record { fields = ap digits_checked (part 3 7 c.delega-number); own = refl; sums = refl }
kept payment c name st r part = record { fields = ap digits_checked (part 3 7 c.delega-number); own = refl; sums = refl }
kept tail c name st r part = record { fields = refl; own = ap (tail_name name) (part 19 20 refl); sums = refl }

-- The checks that rebalancing leaves alone, one by one.
pub record KeptEach (name : List ℕ) (st : State) (r : List ℕ) : Type 0 where
  pub characters : char_fault (first_bad r) ≡ Pass
  pub order : standing st.stage (type_in r) (kind_in r) ≡ Pass
  pub digits : bad_fields (kept_fields (kind_in r)) r ≡ Pass
  pub number : number_fault st.deleghe (kind_in r) (value_of r delega_number) ≡ Pass
  pub own : own_fault name st (kind_in r) r ≡ Pass

-- Where they pass together, each passes.
pub kept-each : (name : List ℕ) (st : State) (r : List ℕ) → kept_fault name st r ≡ Pass → KeptEach name st r
unfolding kept_fault
kept-each name st r e =
    let p = five-pass (char_fault (first_bad r)) (standing st.stage (type_in r) (kind_in r)) (bad_fields (kept_fields (kind_in r)) r) (number_fault st.deleghe (kind_in r) (value_of r delega_number)) _ e in
    record { characters = p.0; order = p.1; digits = p.2; number = p.3; own = p.4 }

-- Where each passes, they pass together.
pub kept-all : (name : List ℕ) (st : State) (r : List ℕ) → KeptEach name st r → kept_fault name st r ≡ Pass
unfolding kept_fault
kept-all name st r k = rw (k.characters, k.order, k.digits, k.number, k.own)

-- What two states store in a record of a kind stands in the same columns: what is written last stays.
over-kind : {b : State} {k : Kind} → Storing b k → (a : State) (r : List ℕ) → length r ≡ 120 → put_all (stored_of a k) (put_all (stored_of b k) r) ≡ put_all (stored_of a k) r
unfolding put_all
over-kind (plain e f) a r l = rw e
over-kind {b} (balance s h) a r l =
    stored-over (balance_columns s) (stored_of b (Balance s)) (stored_of a (Balance s)) r (balance-covers s (section_sums b s) (section_at s).totals) (balance-covers s (section_sums a s) (section_at s).totals)
    (columns {st = b} (balance s h)).laid_out (columns {st = a} (balance s h)).laid_out l
over-kind {b} payment a r l = stored-over (final_balance ∷ []) (stored_of b Payment) (stored_of a Payment) r (refl, refl, tt) (refl, refl, tt) (columns {st = b} payment).laid_out (columns {st = a} payment).laid_out l
over-kind {b} tail a r l =
    stored-over (tail_deleghe ∷ tail_records ∷ tail_sum ∷ []) (stored_of b Tail) (stored_of a Tail) r (refl, refl, (refl, refl, (refl, refl, tt))) (refl, refl, (refl, refl, (refl, refl, tt))) (columns {st = b} tail).laid_out
    (columns {st = a} tail).laid_out l

-- Two states that store the same in a record rebalance it alike.
pub emit-same-stored : (st st' : State) (r : List ℕ) → stored_of st (kind_in r) ≡ stored_of st' (kind_in r) → emit st r ≡ emit st' r
unfolding emit
emit-same-stored st st' r e = ap (λ (xs : List Stored). put_all xs r) e

-- A record in which fields are written that lie outside its type and its subtype keeps its kind.
pub kind-put : (xs : List Stored) (r : List ℕ) → Columns xs → length r ≡ 120 → kind_in (put_all xs r) ≡ kind_in r
unfolding kind_in
kind-put xs r c l = ap₂ kind_of (ap₂ type_of (byte 1 c.first-character) (byte 2 c.second-character)) (ap number_of (put_all-clear xs r c.laid_out l 10 2 c.subtype))
  where
    byte : (i : ℕ) → clear i 1 xs ≡ true → get_or (put_all xs r) i 0 ≡ get_or r i 0
    byte i e = byte_of (put_all xs r) i ∙ (ap (λ (b : List ℕ). get_or b 0 0) (put_all-clear xs r c.laid_out l i 1 e) ∙ sym (byte_of r i))

-- A record that stores nothing stays.
pub emit-plain : (st : State) (r : List ℕ) → stored_of st (kind_in r) ≡ [] → emit st r ≡ r
unfolding emit put_all
emit-plain st r e = rw e

-- A record that passes the checks that rebalancing leaves alone may stand where it does.
pub kept-stands : (name : List ℕ) (st : State) (r : List ℕ) → kept_fault name st r ≡ Pass → stands st.stage (kind_in r) ≡ true
unfolding kept_fault standing
kept-stands name st r e = go (stands st.stage (kind_in r)) (type_stands st.stage (type_in r)) (kept-each name st r e).order
  where
    go : (t u : Bool) → cond t (cond (full st.stage (kind_in r)) (Fails 6 11) Pass) (cond u (Fails 4 11) (Fails 4 2)) ≡ Pass → t ≡ true
    go true u e = refl
    go false true e = cc
    go false false e = cc

-- A record of 120 bytes, after the records that led to a state.
module _ (st : State) (r : List ℕ) (l : length r ≡ 120) where
  abbrev xs : List Stored
  xs = stored_of st (kind_in r)

  -- Its stored fields stand apart, outside its type, its delega number and its subtype.
  places : Columns xs
  places = columns (storing st r)

  laid_out : laid xs ≡ true
  laid_out = places.laid_out

  -- It has 120 bytes after rebalancing.
  pub emit-length : length (emit st r) ≡ 120
  unfolding emit
  emit-length = length-put_all xs r laid_out l

  -- Bytes outside its stored fields stay, as a part.
  emit-part : (m n : ℕ) → clear m n (stored_of st (kind_in r)) ≡ true → take n (drop m (emit st r)) ≡ take n (drop m r)
  unfolding emit
  emit-part m n e = put_all-clear xs r laid_out l m n e

  -- A byte outside its stored fields stays.
  pub emit-outside : (c : ℕ) → clear c 1 (stored_of st (kind_in r)) ≡ true → get_or (emit st r) c 0 ≡ get_or r c 0
  emit-outside c e = byte_of (emit st r) c ∙ (ap (λ (b : List ℕ). get_or b 0 0) (emit-part c 1 e) ∙ sym (byte_of r c))

  -- Its type stays.
  pub emit-type : type_in (emit st r) ≡ type_in r
  emit-type = ap₂ type_of (emit-outside 1 places.first-character) (emit-outside 2 places.second-character)

  -- Its kind stays.
  pub emit-kind : kind_in (emit st r) ≡ kind_in r
  unfolding emit
  emit-kind = kind-put xs r places l

  -- Its delega number stays.
  pub emit-number : value_of (emit st r) delega_number ≡ value_of r delega_number
  emit-number = ap (λ (b : List ℕ). amount_of (number_of b)) (emit-part 3 7 places.delega-number)

  -- It holds its stored fields after rebalancing.
  emit-holds : Holds (stored_of st (kind_in r)) (emit st r)
  unfolding emit
  emit-holds = put_all-holds xs r laid_out l

  -- What the other checks and the next state read of it stays, after whatever state it is looked at.
  pub emit-kept : (name : List ℕ) (a : State) → Kept name a (kind_in r) r (emit st r)
  unfolding emit
  emit-kept name a = kept (storing st r) places name a r emit-part

  -- The next state ignores what rebalancing writes.
  pub next-emit : (a : State) → next a (emit st r) ≡ next a r
  unfolding next
  next-emit a = rw (emit-kind, (emit-kept [] a).sums)

  -- Rebalanced once more, after the same state or another, it is as if it had been so after the second alone.
  pub emit-over : (a : State) → emit a (emit st r) ≡ emit a r
  unfolding emit
  emit-over a = rw emit-kind (over-kind (storing st r) a r l)

  -- It is made of characters after rebalancing, where it was before.
  emit-allowed : first_bad r ≡ Allowed → first_bad (emit st r) ≡ Allowed
  unfolding emit
  emit-allowed e = put_all-allowed xs r laid_out l (printable-stored (storing st r)) e

  -- It passes the checks that rebalancing leaves alone, after whatever state, where it did before.
  pub emit-passes-kept : (name : List ℕ) (a : State) → kept_fault name a r ≡ Pass → kept_fault name a (emit st r) ≡ Pass
  emit-passes-kept name a e =
      let p = kept-each name a r e in
      let k = emit-kept name a in
      kept-all name a (emit st r)
      (record {
        characters = ap char_fault (emit-allowed (allowed_of (first_bad r) p.characters));
        order = rw (emit-type, emit-kind) p.order;
        digits = rw emit-kind (k.fields ∙ p.digits);
        number = rw (emit-kind, emit-number) p.number;
        own = rw emit-kind (k.own ∙ p.own);
      })

  -- Its numeric fields are of digits after rebalancing, where the kept ones are.
  emit-numbers : bad_fields (kept_fields (kind_in r)) (emit st r) ≡ Pass → bad_fields (fields_of (kind_in r)) (emit st r) ≡ Pass
  emit-numbers e = (fields-same (storing st r) (emit st r)).1 (rw e (holds-numbers xs (emit st r) emit-holds))

  -- A record that passes the checks that rebalancing leaves alone passes all after it, where what is written fits.
  pub emit-passes : (name : List ℕ) → kept_fault name st r ≡ Pass → fits_all (stored_of st (kind_in r)) ≡ true → fault name st (emit st r) ≡ Pass
  unfolding fault
  emit-passes name e f =
      let a = kept-each name st r e in
      let k = emit-kept name st in
      rw (emit-type, emit-kind, emit-number, emit-allowed (allowed_of (first_bad r) a.characters), a.order, emit-numbers (k.fields ∙ a.digits), a.number, k.own ∙ a.own) (holds-pass xs (emit st r) f emit-holds)

  -- A record that passes every check passes those that rebalancing leaves alone, and its stored fields are of digits and right.
  fault-parts : (name : List ℕ) → fault name st r ≡ Pass → (kept_fault name st r ≡ Pass) × (bad_fields (value_fields (stored_of st (kind_in r))) r ≡ Pass) × (wrong (stored_of st (kind_in r)) r ≡ Pass)
  unfolding fault kept_fault
  fault-parts name e =
      let a = five-pass (char_fault (first_bad r)) (standing st.stage (type_in r) (kind_in r)) (bad_fields (fields_of (kind_in r)) r) (number_fault st.deleghe (kind_in r) (value_of r delega_number)) _ e in
      let n = first-pass (bad_fields (kept_fields (kind_in r)) r) (bad_fields (value_fields xs) r) ((fields-same (storing st r) r).0 a.2) in
      let w = first-pass (own_fault name st (kind_in r) r) (wrong xs r) a.4 in
      (rw (a.0, a.1, n.0, a.3) w.0, n.1, w.1)

  -- A record that passes every check passes those that rebalancing leaves alone.
  pub fault-kept : (name : List ℕ) → fault name st r ≡ Pass → kept_fault name st r ≡ Pass
  fault-kept name e = (fault-parts name e).0

  -- What rebalancing writes into a record that passes every check fits.
  pub fault-fits : (name : List ℕ) → fault name st r ≡ Pass → fits_all (stored_of st (kind_in r)) ≡ true
  fault-fits name e = pass_fits xs r laid_out l (fault-parts name e).2

  -- A record that passes every check is its own rebalancing.
  pub emit-own : (name : List ℕ) → fault name st r ≡ Pass → emit st r ≡ r
  unfolding emit
  emit-own name e = let p = fault-parts name e in holds_same xs r laid_out l (pass-holds xs r laid_out l p.1 p.2)
