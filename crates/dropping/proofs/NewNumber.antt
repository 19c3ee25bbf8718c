-- A record with another number after another state: its kind, what it leads to, and that it passes every check there.
use Prim.Native.Nat.{ℕ, ◌<◌}
use mathlib.Core.Path.{◌≡◌, refl, ap, ◌∙◌}
use mathlib.Core.Bool.{Bool, true, false, cond}
use mathlib.Core.List.{List}
use native.Mathlib.Omega.{arith}
use lib.Dec.{lit<}
use lib.ListN.{length}
use Rattle.text.specs.Answers.{Allowed}
use Rattle.text.specs.Characters.{first_bad}
use Rattle.text.specs.Numbers.{number_of, digits_of}
use Rattle.text.specs.Placing.{put_at}
use Rattle.text.proofs.Allowed.{allowed-digits}
use Rattle.text.proofs.Numerals.{number_digits, length_digits}
use Rattle.text.proofs.Puts.{put-after, put-byte-before, put-allowed}
use Rattle.layout.specs.declared.Kind.{Kind}
use Rattle.layout.specs.Kinds.{type_in, kind_in, numbered}
use Rattle.refusal.specs.Outcomes.{Pass}
use Rattle.amounts.proofs.Outcomes.{first-pass}
use Rattle.order.specs.Order.{standing}
use Rattle.rules.specs.declared.State.{State}
use Rattle.rules.specs.Stored.{stored_of}
use Rattle.rules.specs.Checks.{char_fault, own_fault, fault}
use Rattle.rules.specs.Step.{next_deleghe, line_sums, next_of, next}
use Rattle.judge.proofs.ChecksInOrder.{allowed_of}
use Rattle.rebalance.specs.Numbering.{with_number}
use Rattle.rebalance.proofs.Numbered.{number-here}
use Rattle.dropping.proofs.OtherNumber.{SameBut, kind-same, sums_same, passes_on}

-- A record of 120 bytes, with a number.
module _ (k : Kind) (d : ℕ) (r : List ℕ) (l : length r ≡ 120) where
  -- It differs in the number alone.
  pub number-alone : SameBut r (with_number k d r)
  unfolding with_number
  number-alone = go (numbered k)
    where
      go : (t : Bool) → SameBut r (cond t (put_at 3 (digits_of 7 d) r) r)
      go true =
          let n = length_digits 7 d in
          record {
            first-character = put-byte-before 3 (digits_of 7 d) r (omega arith) 1 0 (lit< tt);
            second-character = put-byte-before 3 (digits_of 7 d) r (omega arith) 2 0 (lit< tt);
            rest = put-after 3 (digits_of 7 d) r (omega arith) 10 (omega arith);
          }
      go false = record { first-character = refl; second-character = refl; rest = refl }

  -- It is made of characters where it was.
  number-allowed : first_bad r ≡ Allowed → first_bad (with_number k d r) ≡ Allowed
  unfolding with_number
  number-allowed c = go (numbered k)
    where
      go : (t : Bool) → first_bad (cond t (put_at 3 (digits_of 7 d) r) r) ≡ Allowed
      go true = put-allowed 3 (digits_of 7 d) r (omega (arith, length_digits 7 d)) (allowed-digits 7 d) c
      go false = c

-- A record that passes every check is made of characters.
passes-characters : (name : List ℕ) (st : State) (r : List ℕ) → fault name st r ≡ Pass → first_bad r ≡ Allowed
unfolding fault
passes-characters name st r p = allowed_of (first_bad r) (first-pass (char_fault (first_bad r)) _ p).0

-- A record that carries a number, with that of the delega which it is of after a state.
module _ (on : State) (r : List ℕ) (l : length r ≡ 120) where
  abbrev pub renewed_record : List ℕ
  renewed_record = with_number (kind_in r) (next_deleghe on.deleghe (kind_in r)) r

  -- It is of the same kind.
  pub renewed-kind : kind_in (with_number (kind_in r) (next_deleghe on.deleghe (kind_in r)) r) ≡ kind_in r
  renewed-kind = kind-same r renewed_record (number-alone (kind_in r) _ r l)

  -- It leads on as the record did.
  pub renewed-next : next on (with_number (kind_in r) (next_deleghe on.deleghe (kind_in r)) r) ≡ next_of on (kind_in r) (line_sums (kind_in r) r)
  unfolding next
  renewed-next = rw (renewed-kind, sums_same r renewed_record (number-alone (kind_in r) _ r l))

  -- It passes every check after that state, where it passed after another and order, own checks and stored fields come to the same.
  pub renewed-passes : (name : List ℕ) (st : State) → fault name st r ≡ Pass → numbered (kind_in r) ≡ true → next_deleghe on.deleghe (kind_in r) < 10000000 → standing on.stage (type_in r) (kind_in r) ≡ Pass →
      own_fault name on (kind_in r) r ≡ own_fault name st (kind_in r) r → stored_of on (kind_in r) ≡ stored_of st (kind_in r) → fault name on (with_number (kind_in r) (next_deleghe on.deleghe (kind_in r)) r) ≡ Pass
  renewed-passes name st p n h o own stored =
      let d = next_deleghe on.deleghe (kind_in r) in
      passes_on r renewed_record (number-alone (kind_in r) d r l) name st on p n (number-allowed (kind_in r) d r l (passes-characters name st r p)) o (ap number_of (number-here (kind_in r) d r l n) ∙ number_digits 7 d h) own stored
