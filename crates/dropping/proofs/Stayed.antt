-- A record that stayed is read alike: its kind, and every field outside the columns in which it may differ.
use Prim.Native.Nat.{ℕ, zero, suc, ◌+◌, ◌-◌, ◌<◌, ◌≤◌}
use mathlib.Core.Path.{◌≡◌, refl, sym, ap, ap₂, ◌∙◌}
use mathlib.Core.Bool.{true, false}
use mathlib.Core.List.{List, []}
use mathlib.Core.Logic.{inr}
use native.Mathlib.Omega.{arith}
use lib.Dec.{lit≤}
use lib.ListN.{take, drop, get_or}
use lib.Seq.{ext_get_or, get_or-take, get_or-drop}
use Rattle.text.specs.Numbers.{number_of, amount_of}
use Rattle.text.proofs.Bytes.{part_length}
use Rattle.layout.specs.declared.Field.{Field}
use Rattle.layout.specs.declared.Kind.{Kind}
use Rattle.layout.specs.declared.Kind.TheVariants.{Head, Taxpayer, Domicile, Line, Balance, Payment, Receipt, Addressee, Tail, Unknown}
use Rattle.layout.specs.Kinds.{type_of, kind_of, type_in, kind_in, numbered}
use Rattle.layout.specs.Fields.{delega_number, value_of, in_columns}
use Rattle.rebalance.proofs.Outside.{off-all}
use Rattle.dropping.specs.Effect.{renewed, Stayed}
use Rattle.dropping.proofs.OneRecord.{renewed-number}

-- Type and subtype stand outside the columns in which a record may differ.
kind-outside : (k : Kind) → (in_columns 1 (renewed k) ≡ false) × (in_columns 2 (renewed k) ≡ false) × (in_columns 10 (renewed k) ≡ false) × (in_columns 11 (renewed k) ≡ false)
unfolding in_columns
kind-outside Head = (refl, refl, refl, refl)
kind-outside Taxpayer = (refl, refl, refl, refl)
kind-outside Domicile = (refl, refl, refl, refl)
kind-outside (Line s) = (refl, refl, refl, refl)
kind-outside (Balance s) = (refl, refl, refl, refl)
kind-outside Payment = (refl, refl, refl, refl)
kind-outside Receipt = (refl, refl, refl, refl)
kind-outside Addressee = (refl, refl, refl, refl)
kind-outside Tail = (refl, refl, refl, refl)
kind-outside Unknown = (refl, refl, refl, refl)

module _ {numbers r q : List ℕ} (s : Stayed numbers r q) where
  -- A part outside them is the same.
  part-stayed : (n m : ℕ) → m + n ≤ 120 → ((j : ℕ) → j < n → in_columns (m + j) (renewed (kind_in r)) ≡ false) → take n (drop m q) ≡ take n (drop m r)
  part-stayed n m h o =
      let w = s.was in
      let v = s.is in
      let l = part_length n m q (omega arith) in
      let k = part_length n m r (omega arith) in
      ext_get_or 0 _ _ (l ∙ sym k) (λ j i. byte j (omega arith))
    where
      byte : (j : ℕ) → j < n → get_or (take n (drop m q)) j 0 ≡ get_or (take n (drop m r)) j 0
      byte j i = get_or-take n (drop m q) j 0 i ∙ (get_or-drop m q j 0 ∙ (s.same (m + j) (o j i) ∙ (sym (get_or-drop m r j 0) ∙ sym (get_or-take n (drop m r) j 0 i))))

  pub stayed-type : type_in q ≡ type_in r
  stayed-type = let o = kind-outside (kind_in r) in ap₂ type_of (s.same 1 o.0) (s.same 2 o.1)

  pub stayed-kind : kind_in q ≡ kind_in r
  unfolding kind_in
  stayed-kind = ap₂ kind_of stayed-type (ap number_of (part-stayed 2 10 (lit≤ tt) two))
    where
      two : (j : ℕ) → j < 2 → in_columns (10 + j) (renewed (kind_in r)) ≡ false
      two zero h = (kind-outside (kind_in r)).2
      two (suc zero) h = (kind-outside (kind_in r)).3
      two (suc (suc j)) h = absurd (omega arith)

  -- A field behind the number of a record that carries one says the same.
  pub stayed-value : numbered (kind_in r) ≡ true → (f : Field) → 10 ≤ f.start → f.start ≤ f.end → f.end ≤ 120 → value_of q f ≡ value_of r f
  unfolding in_columns
  stayed-value n f h i e =
      ap (λ (b : List ℕ). amount_of (number_of b)) (part-stayed (f.end - f.start) f.start (omega arith) (λ j k. rw (renewed-number (kind_in r) n) (off-all (f.start + j) delega_number [] (inr (omega arith)) refl)))
