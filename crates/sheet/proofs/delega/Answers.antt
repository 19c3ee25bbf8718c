-- `sheet::delega` meets its contract: its records 10 and 20, its sections and its 50-01 are read one behind the other.
-- The bytes behind a spot, and the walk under way there.
use Prim.Native.Nat.{ℕ}
use mathlib.Core.Path.{◌≡◌}
use mathlib.Core.List.{List}
use lib.ListN.{drop}
use Rattle.layout.specs.declared.Kind.TheVariants.{Taxpayer, Domicile, Payment}
use Rattle.sheet.specs.declared.Spot.{Spot}
use Rattle.sheet.specs.Answers.{Walked, To}
use Rattle.sheet.specs.Walk.{Follows}
use Rattle.sheet.specs.Sheet.{Reading, and_then, one_record, sections_from, one_delega}
use Rattle.sheet.proofs.Walks.{Going, going_start, going-by, going-then, going-stop, going-room}
use Rattle.sheet.proofs.Steps.{after_twenty, after_ten, delega-parts}
use Rattle.sheet.proofs.delega.Goals as goal
use Rattle.sheet.proofs.delega.Goals.{Start}

abbrev left : Start → Spot → List ℕ
left s b = drop b.at s.args.source.sheet.now

abbrev Goes : Start → Spot → List ℕ → Reading → Type 0
Goes s b g S = Going s.args.source.sheet.now s.args.source.name.now s.args.spot s.args.flow.now (one_delega s.args.d (left s s.args.spot)) b g S

-- What the walk over the next part of it answers.
abbrev Gives : Start → Spot → List ℕ → Reading → Walked → List ℕ → Type 0
Gives s b g S w h = Follows s.args.source.sheet.now s.args.source.name.now b g S w h

-- Before its record 10.
opened : (s : Start) → Goes s s.args.spot s.args.flow.now (and_then (one_record Taxpayer s.args.d (left s s.args.spot)) (after_ten s.args.d))
opened s = going-by _ _ _ _ _ _ _ _ _ (delega-parts s.args.d (left s s.args.spot)) (going_start _ _ _ _ _ s.requires.0)

-- Behind it.
behind-ten : (s : Start) (w : Walked) (ten : Spot) (g : List ℕ) → Gives s s.args.spot s.args.flow.now (one_record Taxpayer s.args.d (left s s.args.spot)) w g → w ≡ To ten → Goes s ten g (after_ten s.args.d (left s ten))
behind-ten s w ten g x e =
    going-then _ _ _ _ _ _ _ (one_record Taxpayer s.args.d (left s s.args.spot)) (after_ten s.args.d) _ _ _ (opened s) x e

-- Behind its record 20.
behind-twenty : (s : Start) (ten : Spot) (f : List ℕ) (w : Walked) (twenty : Spot) (g : List ℕ) → Goes s ten f (after_ten s.args.d (left s ten)) → Gives s ten f (one_record Domicile s.args.d (left s ten)) w g → w ≡ To twenty → Goes s twenty g (after_twenty s.args.d (left s twenty))
behind-twenty s ten f w twenty g b x e =
    going-then _ _ _ _ _ _ _ (one_record Domicile s.args.d (left s ten)) (after_twenty s.args.d) _ _ _ b x e

-- Behind its sections.
behind-lines : (s : Start) (twenty : Spot) (f : List ℕ) (w : Walked) (lines : Spot) (g : List ℕ) → Goes s twenty f (after_twenty s.args.d (left s twenty)) → Gives s twenty f (sections_from s.args.d 5 0 (left s twenty)) w g → w ≡ To lines → Goes s lines g (one_record Payment s.args.d (left s lines))
behind-lines s twenty f w lines g b x e =
    going-then _ _ _ _ _ _ _ (sections_from s.args.d 5 0 (left s twenty)) (one_record Payment s.args.d) _ _ _ b x e

pub returns-in_err-ten : goal.returns-in_err-ten
returns-in_err-ten c =
    let s = (goal.at.returns-in_err-ten c).Start in
    rw c.from_residual.ensures (going-stop _ _ _ _ _ _ _ (one_record Taxpayer s.args.d (left s s.args.spot)) (after_ten s.args.d) _ _ (opened s) c.«record».ensures c.in_err-ten.was)

pub record-requires-2 : goal.record-requires-2
record-requires-2 c =
    let s = (goal.at.record-requires-2 c).Start in
    let ten = behind-ten s c.«record».result c.in_ok-ten.ten c.«record».new.flow c.«record».ensures c.in_ok-ten.was in
    (ten.here, s.requires.1)

pub returns-in_err-twenty : goal.returns-in_err-twenty
returns-in_err-twenty c =
    let s = (goal.at.returns-in_err-twenty c).Start in
    let ten = behind-ten s c.«record».result c.in_ok-ten.ten c.«record».new.flow c.«record».ensures c.in_ok-ten.was in
    rw c.from_residual-in_err-twenty.ensures (going-stop _ _ _ _ _ _ _ (one_record Domicile s.args.d (left s c.in_ok-ten.ten)) (after_twenty s.args.d) _ _ ten c.record-2.ensures c.in_err-twenty.was)

pub sections-requires : goal.sections-requires
sections-requires c =
    let s = (goal.at.sections-requires c).Start in
    let ten = behind-ten s c.«record».result c.in_ok-ten.ten c.«record».new.flow c.«record».ensures c.in_ok-ten.was in
    let twenty = behind-twenty s c.in_ok-ten.ten c.«record».new.flow c.record-2.result c.in_ok-twenty.twenty c.record-2.new.flow ten c.record-2.ensures c.in_ok-twenty.was in
    (twenty.here, s.requires.1)

pub returns-in_err-lines : goal.returns-in_err-lines
returns-in_err-lines c =
    let s = (goal.at.returns-in_err-lines c).Start in
    let ten = behind-ten s c.«record».result c.in_ok-ten.ten c.«record».new.flow c.«record».ensures c.in_ok-ten.was in
    let twenty = behind-twenty s c.in_ok-ten.ten c.«record».new.flow c.record-2.result c.in_ok-twenty.twenty c.record-2.new.flow ten c.record-2.ensures c.in_ok-twenty.was in
    rw c.from_residual-in_err-lines.ensures (going-stop _ _ _ _ _ _ _ (sections_from s.args.d 5 0 (left s c.in_ok-twenty.twenty)) (one_record Payment s.args.d) _ _ twenty c.sections.ensures c.in_err-lines.was)

pub record-requires-3 : goal.record-requires-3
record-requires-3 c =
    let s = (goal.at.record-requires-3 c).Start in
    let ten = behind-ten s c.«record».result c.in_ok-ten.ten c.«record».new.flow c.«record».ensures c.in_ok-ten.was in
    let twenty = behind-twenty s c.in_ok-ten.ten c.«record».new.flow c.record-2.result c.in_ok-twenty.twenty c.record-2.new.flow ten c.record-2.ensures c.in_ok-twenty.was in
    let lines = behind-lines s c.in_ok-twenty.twenty c.record-2.new.flow c.sections.result c.in_ok-lines.lines c.sections.new.flow twenty c.sections.ensures c.in_ok-lines.was in
    (lines.here, s.requires.1)

pub shape_of-flow : goal.shape_of-flow
shape_of-flow c =
    let s = (goal.at.shape_of-flow c).Start in
    let ten = behind-ten s c.«record».result c.in_ok-ten.ten c.«record».new.flow c.«record».ensures c.in_ok-ten.was in
    let twenty = behind-twenty s c.in_ok-ten.ten c.«record».new.flow c.record-2.result c.in_ok-twenty.twenty c.record-2.new.flow ten c.record-2.ensures c.in_ok-twenty.was in
    let lines = behind-lines s c.in_ok-twenty.twenty c.record-2.new.flow c.sections.result c.in_ok-lines.lines c.sections.new.flow twenty c.sections.ensures c.in_ok-lines.was in
    going-room _ _ _ _ _ _ _ (one_record Payment s.args.d (left s c.in_ok-lines.lines)) _ _ lines c.record-3.ensures

pub returns : goal.returns
returns c =
    let s = (goal.at.returns c).Start in
    let ten = behind-ten s c.«record».result c.in_ok-ten.ten c.«record».new.flow c.«record».ensures c.in_ok-ten.was in
    let twenty = behind-twenty s c.in_ok-ten.ten c.«record».new.flow c.record-2.result c.in_ok-twenty.twenty c.record-2.new.flow ten c.record-2.ensures c.in_ok-twenty.was in
    let lines = behind-lines s c.in_ok-twenty.twenty c.record-2.new.flow c.sections.result c.in_ok-lines.lines c.sections.new.flow twenty c.sections.ensures c.in_ok-lines.was in
    lines.leads _ _ c.record-3.ensures
