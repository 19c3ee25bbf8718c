-- `sheet::read_sheet` meets its contract: the head, the deleghe with their count and the tail are read one behind the other, and nothing is left behind them.
-- The bytes behind a spot, and the walk under way there.
use Prim.Native.Nat.{ℕ}
use mathlib.Core.Path.{◌≡◌, refl, sym, ◌∙◌}
use mathlib.Core.List.{List}
use native.Mathlib.Omega.{arith}
use lib.Dec.{lit≤}
use lib.ListN.{drop}
use Rattle.layout.specs.declared.Kind.TheVariants.{Head, Tail}
use Rattle.layout.specs.Fields.{bytes_of, support_name}
use Rattle.sheet.specs.declared.Spot.{Spot}
use Rattle.sheet.specs.Answers.{Walked, To}
use Rattle.sheet.specs.Sheet.{Reading, and_then, one_record, counted, deleghe_from, at_end, sheet_of}
use Rattle.sheet.specs.Walk.{start_spot, Follows}
use Rattle.sheet.proofs.Walks.{Going, going_start, going-by, going-then, going-stop}
use Rattle.sheet.proofs.Steps.{record-missing, after_head, after_deleghe, sheet-parts, sheet-ends, sheet-goes-on, here-start}
use Rattle.sheet.proofs.read_sheet.Goals as goal
use Rattle.sheet.proofs.read_sheet.Goals.{Start}

abbrev left : Start → Spot → List ℕ
left s b = drop b.at s.args.sheet.now

abbrev Goes : Start → Spot → List ℕ → Reading → Type 0
Goes s b g S = Going s.args.sheet.now (bytes_of s.args.sheet.now support_name) start_spot s.args.flow.now (sheet_of s.args.sheet.now) b g S

-- The deleghe are numbered from 1.
abbrev from_one : ℕ → List ℕ → Reading
from_one n = deleghe_from n 1

-- Before the head.
opened : (s : Start) → Goes s start_spot s.args.flow.now (and_then (one_record Head 0 s.args.sheet.now) after_head)
opened s = going-by _ _ _ _ _ _ _ _ _ (sheet-parts s.args.sheet.now) (going_start _ _ _ _ _ (here-start _ _ _ s.requires refl))

-- What the walk over the next part of it answers.
abbrev Gives : Start → Spot → List ℕ → Reading → Walked → List ℕ → Type 0
Gives s b g S w h = Follows s.args.sheet.now (bytes_of s.args.sheet.now support_name) b g S w h

-- Behind the head.
behind-head : (s : Start) (w : Walked) (head : Spot) (g : List ℕ) → Gives s start_spot s.args.flow.now (one_record Head 0 s.args.sheet.now) w g → w ≡ To head → Goes s head g (after_head (left s head))
behind-head s w head g x e =
    going-then _ _ _ _ _ _ _ (one_record Head 0 s.args.sheet.now) after_head _ _ _ (opened s) x e

-- Behind the deleghe.
behind-all : (s : Start) (head : Spot) (f : List ℕ) (w : Walked) (all : Spot) (g : List ℕ) → Goes s head f (after_head (left s head)) → Gives s head f (counted 3 (left s head) from_one) w g → w ≡ To all → Goes s all g (after_deleghe (left s all))
behind-all s head f w all g b x e =
    going-then _ _ _ _ _ _ _ (counted 3 (left s head) from_one) after_deleghe _ _ _ b x e

-- Behind the tail.
behind-end : (s : Start) (all : Spot) (f : List ℕ) (w : Walked) (end : Spot) (g : List ℕ) → Goes s all f (after_deleghe (left s all)) → Gives s all f (one_record Tail 0 (left s all)) w g → w ≡ To end → Goes s end g (at_end (left s end))
behind-end s all f w end g b x e =
    going-then _ _ _ _ _ _ _ (one_record Tail 0 (left s all)) at_end _ _ _ b x e

pub returns-then-sheet-lt-RECORD : goal.returns-then-sheet-lt-RECORD
returns-then-sheet-lt-RECORD c =
    let s = (goal.at.returns-then-sheet-lt-RECORD c).Start in
    going-stop _ _ _ _ _ _ _ (one_record Head 0 s.args.sheet.now) after_head _ _ (opened s) (record-missing s.args.sheet.now (bytes_of s.args.sheet.now support_name) start_spot s.args.flow.now Head 0 (omega (arith, c.if-sheet-lt-RECORD.true))) refl

pub record-requires : goal.record-requires
record-requires c =
    let s = (goal.at.record-requires c).Start in
    (here-start _ _ _ s.requires c.start.ensures, lit≤ tt)

pub returns-in_err-head : goal.returns-in_err-head
returns-in_err-head c =
    let s = (goal.at.returns-in_err-head c).Start in
    rw c.from_residual.ensures (going-stop _ _ _ _ _ _ _ (one_record Head 0 s.args.sheet.now) after_head _ _ (opened s) (rw c.start.ensures at c.«record».ensures) c.in_err-head.was)

pub counted_deleghe-requires : goal.counted_deleghe-requires
counted_deleghe-requires c =
    let s = (goal.at.counted_deleghe-requires c).Start in
    let head = behind-head s c.«record».result c.in_ok-head.head c.«record».new.flow (rw c.start.ensures at c.«record».ensures) c.in_ok-head.was in
    head.here

pub returns-in_err-all : goal.returns-in_err-all
returns-in_err-all c =
    let s = (goal.at.returns-in_err-all c).Start in
    let head = behind-head s c.«record».result c.in_ok-head.head c.«record».new.flow (rw c.start.ensures at c.«record».ensures) c.in_ok-head.was in
    rw c.from_residual-in_err-all.ensures (going-stop _ _ _ _ _ _ _ (counted 3 (left s c.in_ok-head.head) from_one) after_deleghe _ _ head c.counted_deleghe.ensures c.in_err-all.was)

pub record-requires-2 : goal.record-requires-2
record-requires-2 c =
    let s = (goal.at.record-requires-2 c).Start in
    let head = behind-head s c.«record».result c.in_ok-head.head c.«record».new.flow (rw c.start.ensures at c.«record».ensures) c.in_ok-head.was in
    let all = behind-all s c.in_ok-head.head c.«record».new.flow c.counted_deleghe.result c.in_ok-all.all c.counted_deleghe.new.flow head c.counted_deleghe.ensures c.in_ok-all.was in
    (all.here, lit≤ tt)

pub returns-in_err-end : goal.returns-in_err-end
returns-in_err-end c =
    let s = (goal.at.returns-in_err-end c).Start in
    let head = behind-head s c.«record».result c.in_ok-head.head c.«record».new.flow (rw c.start.ensures at c.«record».ensures) c.in_ok-head.was in
    let all = behind-all s c.in_ok-head.head c.«record».new.flow c.counted_deleghe.result c.in_ok-all.all c.counted_deleghe.new.flow head c.counted_deleghe.ensures c.in_ok-all.was in
    rw c.from_residual-in_err-end.ensures (going-stop _ _ _ _ _ _ _ (one_record Tail 0 (left s c.in_ok-all.all)) at_end _ _ all c.record-2.ensures c.in_err-end.was)

pub shape_of-flow-then-end-sheet : goal.shape_of-flow-then-end-sheet
shape_of-flow-then-end-sheet c =
    let s = (goal.at.shape_of-flow-then-end-sheet c).Start in
    let head = behind-head s c.«record».result c.in_ok-head.head c.«record».new.flow (rw c.start.ensures at c.«record».ensures) c.in_ok-head.was in
    let all = behind-all s c.in_ok-head.head c.«record».new.flow c.counted_deleghe.result c.in_ok-all.all c.counted_deleghe.new.flow head c.counted_deleghe.ensures c.in_ok-all.was in
    let end = behind-end s c.in_ok-all.all c.counted_deleghe.new.flow c.record-2.result c.in_ok-end.end c.record-2.new.flow all c.record-2.ensures c.in_ok-end.was in
    end.here.room ∙ sym s.requires

pub returns-then-end-sheet : goal.returns-then-end-sheet
returns-then-end-sheet c =
    let s = (goal.at.returns-then-end-sheet c).Start in
    let head = behind-head s c.«record».result c.in_ok-head.head c.«record».new.flow (rw c.start.ensures at c.«record».ensures) c.in_ok-head.was in
    let all = behind-all s c.in_ok-head.head c.«record».new.flow c.counted_deleghe.result c.in_ok-all.all c.counted_deleghe.new.flow head c.counted_deleghe.ensures c.in_ok-all.was in
    let end = behind-end s c.in_ok-all.all c.counted_deleghe.new.flow c.record-2.result c.in_ok-end.end c.record-2.new.flow all c.record-2.ensures c.in_ok-end.was in
    sheet-ends _ _ _ _ _ _ _ end c.if-end-sheet.true

pub shape_of-flow : goal.shape_of-flow
shape_of-flow c =
    let s = (goal.at.shape_of-flow c).Start in
    let head = behind-head s c.«record».result c.in_ok-head.head c.«record».new.flow (rw c.start.ensures at c.«record».ensures) c.in_ok-head.was in
    let all = behind-all s c.in_ok-head.head c.«record».new.flow c.counted_deleghe.result c.in_ok-all.all c.counted_deleghe.new.flow head c.counted_deleghe.ensures c.in_ok-all.was in
    let end = behind-end s c.in_ok-all.all c.counted_deleghe.new.flow c.record-2.result c.in_ok-end.end c.record-2.new.flow all c.record-2.ensures c.in_ok-end.was in
    end.here.room ∙ sym s.requires

pub returns : goal.returns
returns c =
    let s = (goal.at.returns c).Start in
    let head = behind-head s c.«record».result c.in_ok-head.head c.«record».new.flow (rw c.start.ensures at c.«record».ensures) c.in_ok-head.was in
    let all = behind-all s c.in_ok-head.head c.«record».new.flow c.counted_deleghe.result c.in_ok-all.all c.counted_deleghe.new.flow head c.counted_deleghe.ensures c.in_ok-all.was in
    let end = behind-end s c.in_ok-all.all c.counted_deleghe.new.flow c.record-2.result c.in_ok-end.end c.record-2.new.flow all c.record-2.ensures c.in_ok-end.was in
    sheet-goes-on _ _ _ _ _ _ _ end c.if-end-sheet.false
