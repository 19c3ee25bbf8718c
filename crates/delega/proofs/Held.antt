-- The sums that are held at the 50-01 of a delega, over records that stand in order and carry their numbers: those of the lines that carry its number.
use Prim.Native.Nat.{ℕ, ◌+◌, ◌<◌, ◌≤◌}
use mathlib.Core.Path.{◌≡◌, refl}
use mathlib.Core.Bool.{true, cond}
use mathlib.Core.List.{List}
use native.Mathlib.Omega.{arith}
use native.Mathlib.Decide.{ℕ_discrete}
use borrow.Author.Tests.{eq-eqb, ne_eqb}
use lib.Dec.{eqb}
use lib.ListN.{length, get_or}
use lib.Seq.{get_or-set_same, get_or-set_other}
use Rattle.layout.specs.declared.Kind.TheVariants.{Line}
use Rattle.layout.specs.Kinds.{of_line, kind_in}
use Rattle.layout.specs.Fields.{value_of}
use Rattle.amounts.specs.declared.Sums.{Sums}
use Rattle.rules.specs.declared.DelegaSums.{DelegaSums}
use Rattle.rules.specs.declared.State.{State}
use Rattle.rules.specs.State.{no_sums, zero_delega, start_state}
use Rattle.rules.specs.Step.{added_at, line_sums}
use Rattle.judge.proofs.PlainSums.{side-line, side-added, no-side}
use Rattle.judge.specs.Plain.{Side, Debit, Credit, side_of, column_of, state_after}
use Rattle.delega.specs.PlainDelega.{section_of, lines_of}
use Rattle.delega.proofs.Moves.{Standing, Each}
use Rattle.delega.proofs.OwnRecords.{with_line, at_closing, Ends, own-records}

-- one side of no sums
pub none-side : (x : Side) → side_of x no_sums ≡ 0
none-side Debit = refl
none-side Credit = refl

-- a section's side grows by the lines of that section
module _ (x : Side) (i : ℕ) (r : List ℕ) where
  abbrev of_section : ℕ → ℕ
  of_section s = cond (eqb s i) (value_of r (column_of x i)) 0

  section-grows : (s : ℕ) (l : List Sums) → i < length l → side_of x (get_or (added_at l s (line_sums (Line s) r)) i no_sums) ≡ side_of x (get_or l i no_sums) + of_section s
  unfolding added_at
  section-grows s l h = go (ℕ_discrete i s)
    where
      go : Dec (i ≡ s) → side_of x (get_or (added_at l s (line_sums (Line s) r)) i no_sums) ≡ side_of x (get_or l i no_sums) + of_section s
      go (yes e) =
          let k : s < length l = omega arith in
          rw (e, get_or-set_same l s _ no_sums k, eq-eqb s s refl) (omega (arith, side-added x (get_or l s no_sums) (line_sums (Line s) r), side-line x s r))
      go (no e) = rw (get_or-set_other l s i _ no_sums e, ne_eqb s i (omega arith)) (omega arith)

-- what a line adds to one side of all, and to one side of a section
pub line-all : (x : Side) (t : DelegaSums) (r : List ℕ) (i : ℕ) → kind_in r ≡ Line i → side_of x (with_line t i r).all ≡ side_of x t.all + of_line 0 (λ j. value_of r (column_of x j)) (kind_in r)
line-all x t r i k = rw k (omega (arith, side-added x t.all (line_sums (Line i) r), side-line x i r))

line-section : (i : ℕ) → i < 5 → (x : Side) (t : DelegaSums) (r : List ℕ) (j : ℕ) → kind_in r ≡ Line j → length t.sections ≡ 5 →
    side_of x (get_or (with_line t j r).sections i no_sums) ≡ side_of x (get_or t.sections i no_sums) + of_line 0 (of_section x i r) (kind_in r)
line-section i h x t r j k l = rw k (section-grows x i r j t.sections (omega arith))

-- the sums of the open delega, at the 50-01 of delega d
abbrev pub closing : ℕ → State → List (List ℕ) → DelegaSums
closing d st rs = at_closing zero_delega (λ on u. on.money.delega) (λ u k. u) d st (tt {0}) rs

-- records that stand so from the first on, and end a flow with d deleghe at least
module _ (d : ℕ) (rs : List (List ℕ)) (lo : 1 ≤ d) (h : Each Standing start_state rs) (w : Ends d (state_after start_state rs)) where
  both-lines : ((closing d start_state rs).all.debit ≡ lines_of d Debit rs) × ((closing d start_state rs).all.credit ≡ lines_of d Credit rs)
  both-lines =
      own-records zero_delega (λ on u. on.money.delega) (λ u k. u) d (λ x t. side_of x t.all) (λ x r. of_line 0 (λ i. value_of r (column_of x i)) (kind_in r)) (λ a t u. (a.all.debit ≡ t) × (a.all.credit ≡ u))
      Standing (λ st r f. f) (λ x r q. (q _ 0 true).0) none-side (λ x t r i k l. line-all x t r i k) (λ st w r k f t u a b. (omega (arith, rw k at a), omega (arith, rw k at b))) (tt {0}) rs lo h w

  both-sections : (i : ℕ) → i < 5 → ((get_or (closing d start_state rs).sections i no_sums).debit ≡ section_of d Debit i rs) × ((get_or (closing d start_state rs).sections i no_sums).credit ≡ section_of d Credit i rs)
  both-sections i g =
      own-records zero_delega (λ on u. on.money.delega) (λ u k. u) d (λ x t. side_of x (get_or t.sections i no_sums)) (λ x r. of_line 0 (of_section x i r) (kind_in r))
      (λ a t u. ((get_or a.sections i no_sums).debit ≡ t) × ((get_or a.sections i no_sums).credit ≡ u))
      Standing (λ st r f. f) (λ x r q. (q _ 0 true).0) (λ x. no-side x 5 i) (line-section i g) (λ st w r k f t u a b. (omega (arith, rw k at a), omega (arith, rw k at b))) (tt {0}) rs lo h w

  -- all debits and all credits
  pub closing_lines : (x : Side) → side_of x (closing d start_state rs).all ≡ lines_of d x rs
  closing_lines Debit = both-lines.0
  closing_lines Credit = both-lines.1

  -- those of one section
  pub closing-section : (x : Side) (i : ℕ) → i < 5 → side_of x (get_or (closing d start_state rs).sections i no_sums) ≡ section_of d x i rs
  closing-section Debit i g = (both-sections i g).0
  closing-section Credit i g = (both-sections i g).1
