-- What is judged behind the last V of an M, case by case.
use Prim.Native.Nat.{ℕ}
use mathlib.Core.Path.{◌≡◌, refl}
use mathlib.Core.Bool.{Bool, true, false, cond}
use borrow.Author.Tests.{eq-eqb, ne_eqb}
use lib.Dec.{eqb}
use Rattle.std.specs.Prelude.{Some}
use Rattle.std.specs.Option.{option_eq}
use Rattle.ep_total.specs.Answers.{Total, Cents, NoTotal}
use Rattle.ep.specs.Answers.{Pass, Fault}
use Rattle.ep.specs.declared.Tally.{Tally}
use Rattle.ep.specs.Payments.{states, closing}

module _ (t : Tally) (n : ℕ) where
  -- No M stands open.
  pub none_open : t.count ≡ 0 → closing t n ≡ Pass
  unfolding closing
  none_open e = rw (eq-eqb _ _ e)

  module _ (o : t.count ≡ 0 → ⊥) where
    -- An M without a V.
    pub left_alone : t.followed ≡ false → closing t n ≡ Fault 31 n
    unfolding closing
    left_alone e = rw (ne_eqb _ _ o, e)

    module _ (f : t.followed ≡ true) where
      -- An M whose total is no text of a number.
      pub unread : t.total ≡ NoTotal → closing t n ≡ Fault 33 t.at
      unfolding closing
      unread e = rw (ne_eqb _ _ o, f, e)

      module _ (v : ℕ) (e : t.total ≡ Cents v) where
        -- An M whose total is the sum.
        pub stated : v ≡ t.own → closing t n ≡ Pass
        unfolding closing
        stated q = rw (ne_eqb _ _ o, f, e, eq-eqb _ _ q)

        -- An M whose total is another number.
        pub misstated : (v ≡ t.own → ⊥) → closing t n ≡ Fault 33 t.at
        unfolding closing
        misstated q = rw (ne_eqb _ _ o, f, e, ne_eqb _ _ q)

-- Whether a total is the number that it is held against.
pub states-eq : (o : Total) (s : ℕ) → option_eq eqb o (Some s) ≡ states o s
states-eq (Cents n) s = refl
states-eq NoTotal s = refl

-- An M with a V, whether its total is the sum or not.
pub closing-by : (t : Tally) (n : ℕ) → (t.count ≡ 0 → ⊥) → t.followed ≡ true → (b : Bool) → states t.total t.own ≡ b → closing t n ≡ cond b Pass (Fault 33 t.at)
unfolding closing
closing-by t n o f b e = rw (ne_eqb _ _ o, f, e)
