-- The types that may stand here, one section at a time.
use Rattle.std.proofs.Common.{◌≡◌, refl, Bool, true, false, cond, ◌||◌}
use Rattle.std.specs.List.{list_any, range_with_len}
use Rattle.layout.specs.declared.RecordType.TheVariants.{T40}
use Rattle.order.specs.declared.Stage.{Stage}
use Rattle.order.specs.Order.{section_stands, type_stands}

one-by-one : (a b r : Bool) → (cond a true b || r) ≡ cond a true (cond b true r)
one-by-one true b r = refl
one-by-one false true r = refl
one-by-one false false r = refl

pub forty : (p : Stage) → list_any (section_stands p) (range_with_len 0 5) ≡ type_stands p T40
unfolding type_stands section_stands
forty p = simp one-by-one
