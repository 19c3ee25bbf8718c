use Prim.Native.Nat.{ℕ, ◌*◌, ◌/◌, ◌<◌, ◌≤◌}
use mathlib.Core.Path.{◌≡◌, sym, ap, ◌∙◌}
use mathlib.Core.List.{List}
use native.Mathlib.Omega.{arith}
use borrow.Author.Tests.{eq-eqb}
use borrow.Author.Rules.{rules}
use lib.ListN.{length, take, get_or}
use Rattle.state.specs.Numbers.{state_of, state_in}
use Rattle.state.proofs.Rooms.{some_in, some_after}
use Rattle.judge.specs.declared.Judgement.{Judgement}
use Rattle.judge.specs.Flow.{Ready}
use Rattle.portion.specs.Portion.{went_on}
use Rattle.portion.specs.Inner.{Goes}
use Rattle.portion.specs.declared.Progress.{Progress}
use Rattle.portion.proofs.Reach.{last_within, last_some, part-sized, went-told}
use Rattle.portion.proofs.go_on.Goals as goal
use Rattle.portion.proofs.go_on.Goals.{After-last_of-last, Start}

pub returns-then-portion-eq0 : goal.returns-then-portion-eq0
unfolding went_on
returns-then-portion-eq0 c = rw (eq-eqb _ _ c.if-portion-eq0.true)

-- after `last_of`
abbrev Reached : Type 0
Reached = After-last_of-last

abbrev begun : Reached → Start
begun c = (goal.at.overflow_mul-last c).Start

abbrev flow : Reached → List ℕ
flow c = (begun c).args.flow.now

abbrev x : Reached → Progress
x c = (begun c).args.x

abbrev seen : Reached → ℕ
seen c = get_or (x c).kept 0 0

goes : (c : Reached) → Goes (flow c) (x c)
goes c = (begun c).requires

ahead : (c : Reached) → seen c < length (flow c) / 120
unfolding state_of
ahead c = (goes c).more

within : (c : Reached) → (seen c ≤ c.last_of-last.result) × (c.last_of-last.result ≤ length (flow c) / 120)
within c = let w = last_within (seen c) (begun c).args.portion (length (flow c) / 120) (let a = ahead c in omega arith) in let e = c.last_of-last.ensures in (omega arith, omega arith)

pub held_name-name-requires : goal.held_name-name-requires
held_name-name-requires c = let p = c.requires.ready in let s = p.some in let w = p.whole in omega arith

pub last_of-last-requires : goal.last_of-last-requires
unfolding state_of
last_of-last-requires c = let m = c.requires.more in omega arith

pub overflow_mul-last : goal.overflow_mul-last
overflow_mul-last c = let w = (within c).1 in let s = (goes c).ready.short in omega arith

sized : (c : Reached) → length (take (c.last_of-last.result * 120) (flow c)) ≡ c.last_of-last.result * 120
sized c = let e = c.last_of-last.ensures in ap (λ (m : ℕ). length (take (m * 120) (flow c))) e ∙ (part-sized (flow c) (seen c) (begun c).args.portion (let a = ahead c in omega arith) ∙ ap (λ (m : ℕ). m * 120) (sym e))

pub slice_bounds-judge_from-end : goal.slice_bounds-judge_from-end
slice_bounds-judge_from-end c = sym (sized c)

-- the numbers are those of a state
full : (c : Reached) → length (x c).kept ≡ 29
full c = search rules

kept_in : (c : Reached) → state_in (x c).kept ≡ state_of (x c).kept
kept_in c = some_in (x c).kept (let f = full c in omega arith)

part-ready : (c : Reached) → Ready (take (c.last_of-last.result * 120) (flow c)) (state_in (x c).kept)
unfolding state_of
part-ready c =
    let r = (goes c).ready in
    let l = sized c in
    let w = within c in
    let a = ahead c in
    let some = last_some (seen c) (begun c).args.portion (length (flow c) / 120) a (let n = c.if-portion-eq0.false in omega arith) in
    let e = c.last_of-last.ensures in
    let s = r.short in
    rw (kept_in c) (record { some = omega arith; whole = omega arith; short = omega arith; ahead = omega arith; below = r.below })

pub judge_from-judgement-requires : goal.judge_from-judgement-requires
judge_from-judgement-requires c = let q = (goal.at.judge_from-judgement-requires c).After-last_of-last in (λ h. (full q, (goes q).phase), part-ready q, search rules)

pub returns : goal.returns
unfolding state_of
returns c =
    let j = c in
    let q = (goal.at.returns c).After-last_of-last in
    let o = j.judge_from-judgement.ensures in
    went-told (flow q) (begun q).args.portion (x q) (let a = ahead q in omega arith) q.if-portion-eq0.false _ (state_in (x q).kept) _ j.judge_from-judgement.result.verdict _ c.course_by-course.result
    q.held_name-name.ensures
    (kept_in q)
    q.last_of-last.ensures
    (ap (λ (y : Judgement). y.verdict) o.0)
    (o.1 ∙ some_after (x q).kept _ (let f = full q in omega arith))
    c.course_by-course.ensures
