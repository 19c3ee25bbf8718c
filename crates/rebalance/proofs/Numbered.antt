-- A record with the number of its delega: its length, its number, and the bytes that stay; and a record that holds its number.
use Prim.Native.Nat.{ℕ, ◌+◌, ◌<◌}
use mathlib.Core.Path.{◌≡◌, refl, sym, ap, ◌∙◌}
use mathlib.Core.Bool.{Bool, true, false, cond, false≢true}
use mathlib.Core.List.{List}
use native.Mathlib.Omega.{arith}
use borrow.Author.Tests.{eq-eqb}
use lib.ListN.{length, take, drop, get_or}
use Rattle.text.specs.Numbers.{number_of, amount_of, digits_of}
use Rattle.text.specs.Placing.{put_at}
use Rattle.text.proofs.Bytes.{part_length}
use Rattle.text.proofs.Numerals.{number_digits, length_digits, digits-of-number}
use Rattle.text.proofs.Puts.{length-put, put-here, put_same}
use Rattle.layout.specs.declared.Kind.{Kind}
use Rattle.layout.specs.declared.Kind.TheVariants.{Head, Taxpayer, Domicile, Line, Balance, Payment, Receipt, Addressee, Tail, Unknown}
use Rattle.layout.specs.Kinds.{numbered}
use Rattle.layout.specs.Fields.{delega_number, bytes_of, value_of}
use Rattle.refusal.specs.Outcomes.{Outcome, Pass}
use Rattle.rules.specs.Checks.{or_bad, bad_fields, carried, number_fault}
use Rattle.rules.specs.Step.{next_deleghe}
use Rattle.judge.proofs.Accepted.{carried-number}
use Rattle.rebalance.specs.Numbering.{with_number}
use Rattle.rebalance.specs.Rebalance.{kept_fields}
use Rattle.rebalance.proofs.Written.{digits-pass}
use Rattle.rebalance.proofs.Outside.{Beside, put-off}

-- Where the number is the one expected, the check on it passes.
pub number-right : (d : ℕ) (k : Kind) (n : ℕ) → (numbered k ≡ true → n ≡ next_deleghe d k) → number_fault d k n ≡ Pass
unfolding number_fault carried numbered
number-right d Head n h = refl
number-right d Taxpayer n h = rw (eq-eqb n (d + 1) (h refl))
number-right d Domicile n h = rw (eq-eqb n d (h refl))
number-right d (Line s) n h = rw (eq-eqb n d (h refl))
number-right d (Balance s) n h = rw (eq-eqb n d (h refl))
number-right d Payment n h = rw (eq-eqb n d (h refl))
number-right d Receipt n h = rw (eq-eqb n d (h refl))
number-right d Addressee n h = rw (eq-eqb n d (h refl))
number-right d Tail n h = refl
number-right d Unknown n h = refl

-- A record of 120 bytes, with a number.
module _ (k : Kind) (d : ℕ) (r : List ℕ) (l : length r ≡ 120) where
  -- It has 120 bytes still.
  pub length-number : length (with_number k d r) ≡ 120
  unfolding with_number
  length-number = go (numbered k)
    where
      go : (t : Bool) → length (cond t (put_at 3 (digits_of 7 d) r) r) ≡ 120
      go true = length-put 3 (digits_of 7 d) r (omega (arith, length_digits 7 d)) ∙ l
      go false = l

  -- A record of a delega has the digits of the number.
  pub number-here : numbered k ≡ true → take 7 (drop 3 (with_number k d r)) ≡ digits_of 7 d
  unfolding with_number
  number-here e = let n = length_digits 7 d in rw e (put-here 3 (digits_of 7 d) r (omega arith) 7 (sym n))

  -- It says the number, where this has at most seven digits.
  pub number-said : numbered k ≡ true → d < 10000000 → value_of (with_number k d r) delega_number ≡ d
  number-said e h = ap (λ (b : List ℕ). amount_of (number_of b)) (number-here e) ∙ ap amount_of (number_digits 7 d h)

  -- Every other byte stays.
  pub number-byte : (i : ℕ) → (numbered k ≡ true → Beside i delega_number) → get_or (with_number k d r) i 0 ≡ get_or r i 0
  unfolding with_number
  number-byte i o = go (numbered k) o
    where
      go : (t : Bool) → (t ≡ true → Beside i delega_number) → get_or (cond t (put_at 3 (digits_of 7 d) r) r) i 0 ≡ get_or r i 0
      go true o = put-off delega_number (digits_of 7 d) r (rw (length_digits 7 d)) (omega arith) i (o refl)
      go false o = refl

  -- A record that holds the number stays as it is.
  pub number_same : (numbered k ≡ true → take 7 (drop 3 r) ≡ digits_of 7 d) → with_number k d r ≡ r
  unfolding with_number
  number_same h = go (numbered k) h
    where
      go : (t : Bool) → (t ≡ true → take 7 (drop 3 r) ≡ digits_of 7 d) → cond t (put_at 3 (digits_of 7 d) r) r ≡ r
      go true g = let m = length_digits 7 d in put_same 3 (digits_of 7 d) r (omega arith) (rw m (g refl))
      go false g = refl

-- A record that passes the checks on its digits and its number holds the number that is expected.
pub number-held : (k : Kind) (d : ℕ) (r : List ℕ) → length r ≡ 120 → bad_fields (kept_fields k) r ≡ Pass → number_fault d k (value_of r delega_number) ≡ Pass → numbered k ≡ true → take 7 (drop 3 r) ≡ digits_of 7 (next_deleghe d k)
unfolding bad_fields number_fault numbered
number-held k d r l = go k
  where
    digits : (o : Outcome) (m : ℕ) → or_bad (number_of (bytes_of r delega_number)) delega_number o ≡ Pass → carried m (value_of r delega_number) ≡ Pass → take 7 (drop 3 r) ≡ digits_of 7 m
    digits o m p q =
        sym (digits-of-number 7 (value_of r delega_number) (bytes_of r delega_number) (part_length 7 3 r (omega arith)) (digits-pass (number_of (bytes_of r delega_number)) delega_number o p).0) ∙ ap (digits_of 7) (carried-number m (value_of r delega_number) q)

    go : (j : Kind) → bad_fields (kept_fields j) r ≡ Pass → number_fault d j (value_of r delega_number) ≡ Pass → numbered j ≡ true → take 7 (drop 3 r) ≡ digits_of 7 (next_deleghe d j)
    go Head p q e = absurd (false≢true e)
    go Taxpayer p q e = digits _ _ p q
    go Domicile p q e = digits _ _ p q
    go (Line s) p q e = digits _ _ p q
    go (Balance s) p q e = digits _ _ p q
    go Payment p q e = digits _ _ p q
    go Receipt p q e = digits _ _ p q
    go Addressee p q e = digits _ _ p q
    go Tail p q e = absurd (false≢true e)
    go Unknown p q e = absurd (false≢true e)
