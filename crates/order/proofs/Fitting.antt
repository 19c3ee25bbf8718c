-- A record fits where checks 4 and 6 pass.
use Prim.Native.Nat.{ℕ}
use mathlib.Core.Path.{◌≡◌, refl, sym}
use mathlib.Core.Bool.{Bool, true, false, cond, not, false≢true}
use Rattle.refusal.specs.Outcomes.{Pass, Fails}
use Rattle.layout.specs.declared.RecordType.{RecordType}
use Rattle.layout.specs.declared.Kind.{Kind}
use Rattle.order.specs.declared.Stage.{Stage}
use Rattle.order.specs.Order.{stands, full, type_stands, fitting, standing}

-- the contrary of a test
pub turned : (a : Bool) → not a ≡ cond a false true
turned true = refl
turned false = refl

-- a record that fits passes both checks
pub fits-passes : (p : Stage) (t : RecordType) (k : Kind) → fitting p k ≡ true → standing p t k ≡ Pass
unfolding fitting standing
fits-passes p t k = go (stands p k) (full p k)
  where
    go : (a b : Bool) → cond a (cond b false true) false ≡ true → cond a (cond b (Fails 6 11) Pass) (cond (type_stands p t) (Fails 4 11) (Fails 4 2)) ≡ Pass
    go true true e = absurd (false≢true e)
    go true false e = refl
    go false b e = absurd (false≢true e)

-- a record that does not fit fails one of them
pub unfit-refused : (p : Stage) (t : RecordType) (k : Kind) → fitting p k ≡ false → (e : ℕ) × (q : ℕ) × (standing p t k ≡ Fails e q)
unfolding fitting standing
unfit-refused p t k = go (stands p k) (full p k) (type_stands p t)
  where
    go : (a b d : Bool) → cond a (cond b false true) false ≡ false → (e : ℕ) × (q : ℕ) × (cond a (cond b (Fails 6 11) Pass) (cond d (Fails 4 11) (Fails 4 2)) ≡ Fails e q)
    go true true d f = (6, 11, refl)
    go true false d f = absurd (false≢true (sym f))
    go false b true f = (4, 11, refl)
    go false b false f = (4, 2, refl)
