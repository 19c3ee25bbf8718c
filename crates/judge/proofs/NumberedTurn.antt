-- A turn of the judge over a record that carries its delega's number: the amounts behind it, read one by one, and the number, compared as one word.
use Prim.Native.Nat.{ℕ, suc, ◌-◌, ◌<◌}
use mathlib.Core.Path.{◌≡◌, refl, sym, ap, ◌∙◌}
use mathlib.Core.Bool.{true, false, false≢true}
use mathlib.Core.List.{List, ◌∷◌, ◌++◌, map}
use native.Mathlib.Omega.{arith}
use borrow.Author.Tests.{ne_eqb}
use lib.ListN.{length, take, drop, get_or, replicate}
use lib.Seq.{drop-cons}
use Rattle.text.specs.Answers.{Digits, Number, NonDigit, TooLong, Allowed}
use Rattle.text.specs.Characters.{first_bad}
use Rattle.text.specs.Numbers.{number_of, amount_of, digits_of}
use Rattle.words.specs.Answers as Said
use Rattle.words.specs.Words.{word, fifteen_of}
use Rattle.words.proofs.NumberWords.{same_number, other-number}
use Rattle.layout.specs.declared.Field.{Field}
use Rattle.layout.specs.declared.Kind.{Kind}
use Rattle.layout.specs.declared.Kind.TheVariants.{Head, Taxpayer, Domicile, Line, Balance, Payment, Receipt, Addressee, Tail, Unknown}
use Rattle.layout.specs.Kinds.{kind_in, numbered}
use Rattle.layout.specs.Fields.{nowhere, delega_number, fields_of, bytes_of, value_of}
use Rattle.layout.proofs.Amounts.{behind, number-first}
use Rattle.layout.proofs.Spelled.{zero-behind}
use Rattle.refusal.specs.Outcomes.{Outcome, Pass, Fails}
use Rattle.rules.specs.Checks.{or_bad, bad_fields, carried, number_fault}
use Rattle.rules.specs.Step.{next_deleghe}
use Rattle.rules.specs.Values.{values_in}
use Rattle.rules.proofs.Numbers.{numbered-fault}

-- where the fields all pass, the first is a number and those behind it pass
or-passes : (d : Digits) (f : Field) (o : Outcome) → or_bad d f o ≡ Pass → (o ≡ Pass) × (d ≡ Number (amount_of d))
or-passes (Number n) f o e = (e, refl)
or-passes (NonDigit i) f o e = let z : ◌≡◌ {A = ℕ} 0 1 = cc in absurd (omega arith)
or-passes TooLong f o e = let z : ◌≡◌ {A = ℕ} 0 1 = cc in absurd (omega arith)

-- fifteen characters that say no amount are a field that is no number
pub amount-none : (fl : List Field) (r : List ℕ) (j : ℕ) → j < length fl → fifteen_of (number_of (bytes_of r (get_or fl j nowhere))) ≡ Said.NonDigit → bad_fields (drop j fl) r ≡ Pass → ⊥
unfolding bad_fields
amount-none fl r j h e p =
    let v = (or-passes (number_of (bytes_of r (get_or fl j nowhere))) (get_or fl j nowhere) (bad_fields (drop (suc j) fl) r) (rw (drop-cons fl j nowhere h) at p)).1 in
    let n = sym (ap fifteen_of v) ∙ e in
    let z : ◌≡◌ {A = ℕ} 0 1 = cc in
    absurd (omega arith)

-- a record without a number opens no delega
pub unnumbered-next : (d : ℕ) (k : Kind) → numbered k ≡ false → next_deleghe d k ≡ d
unfolding numbered
unnumbered-next d Head e = refl
unnumbered-next d Taxpayer e = let z : true ≡ false = e in absurd (false≢true (sym z))
unnumbered-next d Domicile e = refl
unnumbered-next d (Line s) e = refl
unnumbered-next d (Balance s) e = refl
unnumbered-next d Payment e = refl
unnumbered-next d Receipt e = refl
unnumbered-next d Addressee e = refl
unnumbered-next d Tail e = refl
unnumbered-next d Unknown e = refl

module _ (r : List ℕ) (n : numbered (kind_in r) ≡ true) where
  -- the number, then the amounts
  pub number-then : bad_fields (fields_of (kind_in r)) r ≡ or_bad (number_of (bytes_of r delega_number)) delega_number (bad_fields (behind (kind_in r)) r)
  unfolding bad_fields
  number-then = ap (λ (fl : List Field). bad_fields fl r) (number-first (kind_in r) n)

  pub values-then : values_in (fields_of (kind_in r)) r ≡ value_of r delega_number ∷ (map (value_of r) (behind (kind_in r)) ++ replicate (3 - length (behind (kind_in r))) 0)
  unfolding values_in
  values-then = ap (λ (fl : List Field). map (value_of r) fl ++ replicate (4 - length fl) 0) (number-first (kind_in r) n) ∙ ap (λ (m : ℕ). value_of r delega_number ∷ (map (value_of r) (behind (kind_in r)) ++ replicate m 0)) (let e : 4 - suc (length (behind (kind_in r))) ≡ 3 - length (behind (kind_in r)) = omega arith in e)

  -- an amount that is none: the fields are not all numbers
  pub amount-bad : (bad_fields (behind (kind_in r)) r ≡ Pass → ⊥) → bad_fields (fields_of (kind_in r)) r ≡ Pass → ⊥
  amount-bad b g = b (or-passes (number_of (bytes_of r delega_number)) delega_number (bad_fields (behind (kind_in r)) r) (sym number-then ∙ g)).0

  module _ (l : length r ≡ 120) (ok : first_bad r ≡ Allowed) (d : ℕ) (small : d < 1000) where
    -- the number is the one expected
    pub number_same : word (take 8 (drop 2 r)) ≡ word (digits_of 8 d) → number_of (bytes_of r delega_number) ≡ Number d
    number_same e = same_number r 2 d ok (omega arith) small e

    -- a number that is another one, or none
    pub number-other : (e : ℕ) → d ≡ next_deleghe e (kind_in r) → (word (take 8 (drop 2 r)) ≡ word (digits_of 8 d) → ⊥) → bad_fields (fields_of (kind_in r)) r ≡ Pass → number_fault e (kind_in r) (value_of r delega_number) ≡ Fails 8 4
    unfolding carried
    number-other e ed differs g =
        let v = (or-passes (number_of (bytes_of r delega_number)) delega_number (bad_fields (behind (kind_in r)) r) (sym number-then ∙ g)).1 in
        numbered-fault e (kind_in r) (value_of r delega_number) n
        ∙ rw (ne_eqb (value_of r delega_number) (next_deleghe e (kind_in r)) (λ q. differs (other-number r 2 d (omega arith) small (zero-behind r n) (v ∙ ap Number (q ∙ sym ed)))))
