-- The ways through a call, in the order of its tests.
use Prim.Native.Nat.{ℕ, ◌/◌, ◌%◌, ◌<◌, ◌≤◌}
use mathlib.Core.Path.{◌≡◌, ap}
use mathlib.Core.Bool.{true, false}
use mathlib.Core.List.{List}
use borrow.Author.Tests.{lt-ltb, le-ltb, eq-eqb, ne_eqb}
use lib.ListN.{length}
use Rattle.state.specs.Numbers.{state_of}
use Rattle.portion.specs.declared.Course.{Course}
use Rattle.portion.specs.declared.Progress.{Progress}
use Rattle.portion.specs.Portion.{told, foreign, possible, went_on, refused_now, gone_on, unless_ended, portioned}

module _ (s : List ℕ) (p : ℕ) (x : Progress) where
  pub impossible : possible x ≡ false → portioned s p x ≡ foreign x
  unfolding portioned
  impossible e = rw e

  pub by-course : (o : Course) → possible x ≡ true → x.course ≡ o → portioned s p x ≡ unless_ended o x (gone_on s p x)
  unfolding portioned
  by-course o e f = rw e (ap (λ (c : Course). unless_ended c x (gone_on s p x)) f)

  pub too_long : 65520 < length s → gone_on s p x ≡ told (refused_now 1 x)
  unfolding gone_on
  too_long h = rw (lt-ltb _ _ h)

  module _ (h : length s ≤ 65520) where
    pub empty : length s ≡ 0 → gone_on s p x ≡ told (refused_now 2 x)
    unfolding gone_on
    empty e = rw (le-ltb _ _ h, eq-eqb _ _ e)

    module _ (n : length s ≡ 0 → ⊥) where
      pub ragged : (length s % 120 ≡ 0 → ⊥) → gone_on s p x ≡ told (refused_now 2 x)
      unfolding gone_on
      ragged r = rw (le-ltb _ _ h, ne_eqb _ _ n, ne_eqb _ _ r)

      module _ (w : length s % 120 ≡ 0) where
        pub more_left : (state_of x.kept).seen < length s / 120 → gone_on s p x ≡ told (went_on s p x)
        unfolding gone_on
        more_left m = rw (le-ltb _ _ h, ne_eqb _ _ n, eq-eqb _ _ w, lt-ltb _ _ m)

        pub none_left : length s / 120 ≤ (state_of x.kept).seen → gone_on s p x ≡ foreign x
        unfolding gone_on
        none_left m = rw (le-ltb _ _ h, ne_eqb _ _ n, eq-eqb _ _ w, le-ltb _ _ m)
