-- Flows that differ in what rebalancing writes alone: a line is the same record in both, and with other amounts they are alike again. So a correction of a refreshed flow is one of the flow as it was.
use Prim.Native.Nat.{ℕ, ◌%◌}
use mathlib.Core.Path.{◌≡◌, sym, ap, ◌∙◌}
use mathlib.Core.List.{List}
use native.Mathlib.Omega.{arith}
use lib.ListN.{length}
use Rattle.rules.specs.State.{start_state}
use Rattle.judge.specs.Flow.{records_of}
use Rattle.rebalance.specs.Rebalance.{rebalanced, all_fit, flat, refreshed}
use Rattle.rebalance.specs.Weigh.{any_negative}
use Rattle.rebalance.proofs.Rewritten.{Like, AllLike, like-lines, like-rebalanced, like-around, like-parts, same-kinds, same-rebalanced, same-negative, same-fits}
use Rattle.rebalance.proofs.Rebalanced.{sized-rebalanced}
use Rattle.rebalance.proofs.Flat.{records-flat}
use Rattle.rebalance.proofs.Judged.{sized-records, length-mended}
use Rattle.find.specs.Line.{line_of}
use Rattle.find.proofs.ByKinds.{line_same}
use Rattle.correct.specs.Correction.{section_of}
use Rattle.correct.specs.Effect.{with_amounts, record_named}
use Rattle.correct.proofs.Amended.{amended}
use Rattle.correct.proofs.Split.{Split, line-splits, named_here, records-replaced}

-- Two flows of whole records that are alike, and a line that is named.
module _ (f g : List ℕ) (w : length f % 120 ≡ 0) (v : length g % 120 ≡ 0) (h : AllLike (records_of g) (records_of f)) (d subtype n : ℕ) where
  -- It is found at the same record.
  like-line : line_of g d subtype n ≡ line_of f d subtype n
  like-line = line_same g f d subtype n (same-kinds (records_of g) (records_of f) h)

  -- It is there.
  module _ (found : line_of f d subtype n ≡ 0 → ⊥) where
    abbrev there : line_of g d subtype n ≡ 0 → ⊥
    there z = found (sym like-line ∙ z)

    -- It splits the records of both.
    abbrev p : Split d (section_of subtype) start_state 0 (line_of f d subtype n) (records_of f)
    p = line-splits f d subtype n found

    abbrev q : Split d (section_of subtype) start_state 0 (line_of g d subtype n) (records_of g)
    q = line-splits g d subtype n there

    -- These are alike before it and behind it, and so is the line.
    around : AllLike q.before p.before × Like q.here p.here × AllLike q.behind p.behind
    around = like-parts q.before p.before q.here p.here q.behind p.behind (omega (arith, p.counted, q.counted, like-line)) (rw (p.split, q.split) at h)

    -- The line is the same.
    same_here : q.here ≡ p.here
    same_here = like-lines q.here p.here (section_of subtype) p.kind around.1

    like-named : record_named g d subtype n ≡ record_named f d subtype n
    like-named = named_here g d subtype n there ∙ (same_here ∙ sym (named_here f d subtype n found))

    -- With other amounts the flows are alike again.
    like-amounts : (x y : ℕ) → AllLike (records_of (with_amounts g d subtype n x y)) (records_of (with_amounts f d subtype n x y))
    like-amounts x y = rw (records-replaced g v q x y, records-replaced f w p x y, same_here) (like-around q.before p.before (amended (section_of subtype) x y p.here) q.behind p.behind around.0 around.2)

-- A flow of whole records, refreshed.
module _ (t : List ℕ) (w : length t % 120 ≡ 0) where
  -- It has as many bytes.
  length-refreshed : length (refreshed t) ≡ length t
  unfolding refreshed
  length-refreshed = length-mended t w start_state

  whole : length (refreshed t) % 120 ≡ 0
  whole = rw length-refreshed w

  -- Its records are alike.
  pub refreshed-like : AllLike (records_of (refreshed t)) (records_of t)
  unfolding refreshed
  refreshed-like =
      let z = sized-records t w in
      rw (records-flat (rebalanced start_state (records_of t)) (sized-rebalanced start_state (records_of t) z)) (like-rebalanced start_state (records_of t) z)

  -- A line is found at the same record, which is the same.
  module _ (d subtype n : ℕ) where
    pub refreshed-line : line_of (refreshed t) d subtype n ≡ line_of t d subtype n
    refreshed-line = like-line t (refreshed t) w whole refreshed-like d subtype n

    module _ (found : line_of t d subtype n ≡ 0 → ⊥) where
      pub refreshed-named : record_named (refreshed t) d subtype n ≡ record_named t d subtype n
      refreshed-named = like-named t (refreshed t) w whole refreshed-like d subtype n found

      -- With other amounts, and refreshed once more, it is as if they had been replaced before; so it is with what is negative and what fits.
      module _ (x y : ℕ) where
        abbrev new : List (List ℕ)
        new = records_of (with_amounts (refreshed t) d subtype n x y)

        abbrev old : List (List ℕ)
        old = records_of (with_amounts t d subtype n x y)

        abbrev again : AllLike (records_of (with_amounts (refreshed t) d subtype n x y)) (records_of (with_amounts t d subtype n x y))
        again = like-amounts t (refreshed t) w whole refreshed-like d subtype n found x y

        pub refreshed-again : refreshed (with_amounts (refreshed t) d subtype n x y) ≡ refreshed (with_amounts t d subtype n x y)
        unfolding refreshed
        refreshed-again = ap flat (same-rebalanced new old again start_state)

        pub refreshed-negative : any_negative start_state (records_of (with_amounts (refreshed t) d subtype n x y)) ≡ any_negative start_state (records_of (with_amounts t d subtype n x y))
        refreshed-negative = same-negative new old again start_state

        pub refreshed-fits : all_fit start_state (records_of (with_amounts (refreshed t) d subtype n x y)) ≡ all_fit start_state (records_of (with_amounts t d subtype n x y))
        refreshed-fits = same-fits new old again start_state
