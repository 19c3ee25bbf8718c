-- A flow with the amounts of one line replaced: lines are found where they were; other amounts of the same line leave nothing of these, and those of another line may be replaced before or after.
use Prim.Native.Nat.{ℕ, ◌-◌, ◌%◌, ◌<◌}
use mathlib.Core.Path.{◌≡◌, sym, ap, ◌∙◌}
use mathlib.Core.List.{List, [], map-append}
use native.Mathlib.Omega.{arith}
use native.Mathlib.Decide.{dec_lt}
use lib.ListN.{length, get_or}
use lib.Seq.{get_or_at}
use Rattle.layout.specs.declared.Kind.TheVariants.{Line}
use Rattle.layout.specs.Kinds.{kind_in}
use Rattle.layout.proofs.Table.{row-rule}
use Rattle.rules.specs.State.{start_state}
use Rattle.judge.specs.Flow.{records_of}
use Rattle.find.specs.Line.{line_of}
use Rattle.find.proofs.ByKinds.{line_same}
use Rattle.correct.specs.Correction.{section_of, replaced}
use Rattle.correct.specs.Effect.{with_amounts, record_named}
use Rattle.correct.specs.Writing.{amounts_put}
use Rattle.correct.proofs.Putting.{amounts-over, amounts-past}
use Rattle.correct.proofs.Amended.{amended, line-amended}
use Rattle.correct.proofs.Split.{Split, line-splits, length-here, line_at, amounts-room, records-replaced}

-- A flow of whole records, and a line that is there.
module _ (f : List ℕ) (w : length f % 120 ≡ 0) (d subtype n : ℕ) (found : line_of f d subtype n ≡ 0 → ⊥) where
  abbrev s : ℕ
  s = section_of subtype

  abbrev k : ℕ
  k = line_of f d subtype n

  abbrev p : Split d s start_state 0 k (records_of f)
  p = line-splits f d subtype n found

  module _ (x y : ℕ) where
    -- With other amounts it is the same line.
    pub amounts-kind : kind_in (amended s x y p.here) ≡ Line s
    amounts-kind = line-amended s p.here (length-here f w p) p.kind x y

    -- Every line is found where it was.
    pub amounts-line : (e t m : ℕ) → line_of (with_amounts f d subtype n x y) e t m ≡ line_of f e t m
    amounts-line e t m = line_same (with_amounts f d subtype n x y) f e t m (rw (records-replaced f w p x y, p.split, map-append, map-append, amounts-kind, p.kind))

    -- The record that is named is the line with these amounts.
    pub amounts-named : record_named (with_amounts f d subtype n x y) d subtype n ≡ amended (section_of subtype) x y (line-splits f d subtype n found).here
    amounts-named =
        ap (λ (j : ℕ). get_or (records_of (with_amounts f d subtype n x y)) (j - 1) []) (amounts-line d subtype n)
        ∙ (ap (λ (l : List (List ℕ)). get_or l (k - 1) []) (records-replaced f w p x y) ∙ get_or_at p.before _ p.behind [] (k - 1) (omega (arith, p.counted)))

    -- Other amounts again leave nothing of these.
    pub amounts-again : (u v : ℕ) → with_amounts (with_amounts f d subtype n x y) d subtype n u v ≡ with_amounts f d subtype n u v
    unfolding replaced amounts_put
    amounts-again u v = rw (amounts-line d subtype n) (amounts-over f _ _ (amounts-room f w p) x y u v)

-- Two lines of a flow of whole records.
module _ (f : List ℕ) (w : length f % 120 ≡ 0) (d subtype n : ℕ) (found : line_of f d subtype n ≡ 0 → ⊥) (e t m : ℕ) (other : line_of f e t m ≡ 0 → ⊥) (x y u v : ℕ) where
  -- The one stands before the other.
  lines-past : line_of f d subtype n < line_of f e t m →
      replaced (line_of f d subtype n) (section_of subtype) x y (replaced (line_of f e t m) (section_of t) u v f) ≡ replaced (line_of f e t m) (section_of t) u v (replaced (line_of f d subtype n) (section_of subtype) x y f)
  unfolding replaced amounts_put
  lines-past h =
      let p = line-splits f d subtype n found in
      let a = line_at f w p in
      let r = row-rule (section_of subtype) a.section in
      amounts-past f _ _ _ _ (amounts-room f w p) (amounts-room f w (line-splits f e t m other)) (omega (arith, a.counted)) x y u v

-- Amounts of two lines may be replaced in either order.
pub amounts-commute : (f : List ℕ) → length f % 120 ≡ 0 → (d subtype n : ℕ) → (line_of f d subtype n ≡ 0 → ⊥) → (e t m : ℕ) → (line_of f e t m ≡ 0 → ⊥) → (line_of f d subtype n ≡ line_of f e t m → ⊥) → (x y u v : ℕ) →
    with_amounts (with_amounts f d subtype n x y) e t m u v ≡ with_amounts (with_amounts f e t m u v) d subtype n x y
amounts-commute f w d subtype n found e t m other apart x y u v =
    rw (amounts-line f w d subtype n found x y e t m, amounts-line f w e t m other u v d subtype n) (go (dec_lt (line_of f d subtype n) (line_of f e t m)))
  where
    go : Dec (line_of f d subtype n < line_of f e t m) →
        replaced (line_of f e t m) (section_of t) u v (replaced (line_of f d subtype n) (section_of subtype) x y f) ≡ replaced (line_of f d subtype n) (section_of subtype) x y (replaced (line_of f e t m) (section_of t) u v f)
    go (yes h) = sym (lines-past f w d subtype n found e t m other x y u v h)
    go (no h) = lines-past f w e t m other d subtype n found u v x y (omega arith)
