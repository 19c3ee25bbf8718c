-- What a text says, step by step as the code asks: its length, the number that its digits say, and whether it is that number's own text.
use Prim.Native.Nat.{ℕ, ◌<◌, ◌≤◌}
use mathlib.Core.Path.{◌≡◌, sym, ap, ◌∙◌}
use mathlib.Core.Bool.{Bool, true, false}
use mathlib.Core.List.{List}
use native.Mathlib.Omega.{arith}
use borrow.Author.Tests.{eq-eqb, ne_eqb}
use lib.ListN.{length, take, replicate}
use Rattle.text.specs.Same.{same_bytes}
use Rattle.text.proofs.Same.{same-lengths}
use Rattle.printing.specs.Appended.{Appended}
use Rattle.ep_total.specs.Answers.{Cents, NoTotal}
use Rattle.ep_total.specs.Total.{space, total_text, total_field, digits_in, own_text, total_of}
use Rattle.ep_total.proofs.Texts.{field-long, field_put}

module _ (t : List ℕ) where
  -- A total has fifteen characters.
  pub no_length : (length t ≡ 15 → ⊥) → total_of t ≡ NoTotal
  unfolding total_of
  no_length d = rw (ne_eqb _ _ d)

  module _ (n : ℕ) (h : length t ≡ 15) (d : n ≡ digits_in 0 t) where
    -- Fifteen characters are held against the text of the number that their digits say.
    pub held : total_of t ≡ own_text t n
    unfolding total_of
    held = rw (eq-eqb _ _ h, d)

    module _ (r : List ℕ) (e : ℕ) (a : Appended 0 (total_text n) 31 (replicate 40 space) r e) where
      -- A number whose text is too long has no field.
      pub too_long : 15 < e → total_of t ≡ NoTotal
      unfolding own_text
      too_long g =
          let l : 15 < length (total_text n) = omega (arith, a.next) in
          held ∙ rw (same-lengths t (total_field n) (λ q. absurd (omega (arith, field-long n l))))

      -- Any other is compared with its field.
      pub compared : (b : Bool) → e ≤ 15 → b ≡ same_bytes t (take 15 r) → b ≡ same_bytes t (total_field n)
      compared b g q =
          let l : length (total_text n) ≤ 15 = omega (arith, a.next) in
          q ∙ ap (same_bytes t) (ap (take 15) a.bytes ∙ field_put n l)

    pub own : (b : Bool) → b ≡ same_bytes t (total_field n) → b ≡ true → total_of t ≡ Cents n
    unfolding own_text
    own b q e = held ∙ rw (sym q ∙ e)

    pub other : (b : Bool) → b ≡ same_bytes t (total_field n) → b ≡ false → total_of t ≡ NoTotal
    unfolding own_text
    other b q e = held ∙ rw (sym q ∙ e)
