-- Which record is the line that is named goes by the kinds of the records.
use Prim.Native.Nat.{ℕ, ◌+◌}
use mathlib.Core.Path.{◌≡◌, refl, ap}
use mathlib.Core.List.{List, [], ◌∷◌, map}
use Rattle.layout.specs.declared.Kind.{Kind}
use Rattle.layout.specs.declared.Kind.TheVariants.{Head, Taxpayer, Domicile, Line, Balance, Payment, Receipt, Addressee, Tail, Unknown}
use Rattle.layout.specs.Kinds.{section_kind, kind_in}
use Rattle.order.specs.declared.Stage.{Stage}
use Rattle.judge.specs.Flow.{records_of}
use mathlib.Core.Bool.{cond}
use Rattle.order.specs.Order.{next_stage}
use Rattle.rules.specs.Step.{next_deleghe}
use Rattle.find.specs.Line.{is_line, line_from, line_of_kind, line_of}

-- Among records of the same kinds the line of a section is the same one.
line-by-kinds : (d s n : ℕ) (p : Stage) (e j : ℕ) (xs ys : List (List ℕ)) → map kind_in xs ≡ map kind_in ys → line_from d s n p e j xs ≡ line_from d s n p e j ys
unfolding line_from
line-by-kinds d s n p e j [] [] h = refl
line-by-kinds d s n p e j [] (y ∷ ys) h = cc
line-by-kinds d s n p e j (x ∷ xs) [] h = cc
line-by-kinds d s n p e j (x ∷ xs) (y ∷ ys) h =
    let k : kind_in x ≡ kind_in y = cc in
    let t : map kind_in xs ≡ map kind_in ys = cc in
    rw k (ap (cond (is_line d s n p e (kind_in y)) (j + 1)) (line-by-kinds d s n (next_stage p (kind_in y)) (next_deleghe e (kind_in y)) (j + 1) xs ys t))

-- So it is with the line that is named in a flow.
pub line_same : (f g : List ℕ) (d subtype n : ℕ) → map kind_in (records_of f) ≡ map kind_in (records_of g) → line_of f d subtype n ≡ line_of g d subtype n
unfolding line_of
line_same f g d subtype n e = go (section_kind subtype)
  where
    go : (k : Kind) → line_of_kind d k n f ≡ line_of_kind d k n g
    go Head = refl
    go Taxpayer = refl
    go Domicile = refl
    go (Line s) = line-by-kinds d s n _ _ _ (records_of f) (records_of g) e
    go (Balance s) = refl
    go Payment = refl
    go Receipt = refl
    go Addressee = refl
    go Tail = refl
    go Unknown = refl
