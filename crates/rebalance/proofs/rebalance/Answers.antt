use Prim.Native.Nat.{ℕ, ◌+◌, ◌-◌, ◌*◌, ◌/◌, ◌<◌}
use mathlib.Core.List.{List}
use mathlib.Core.Path.{◌≡◌, refl, ap, ◌∙◌}
use native.Mathlib.Nat.{add-sub_cancel_left}
use native.Mathlib.Omega.{arith}
use lib.ListN.{length, take, drop}
use borrow.Rule.Slice.PartMut.{put_mid}
use Rattle.rules.specs.State.{start_state}
use Rattle.rules.specs.Step.{next}
use Rattle.rules.specs.declared.State.{State}
use Rattle.judge.specs.Plain.{Whole}
use Rattle.rebalance.specs.Rebalance.{emit}
use Rattle.rebalance.proofs.Passes.{Passing, passing-start, passing-turn, passing-fits, passing-on, passing-end}
use Rattle.rebalance.proofs.rebalance.Goals as goal
use Rattle.rebalance.proofs.rebalance.Goals.{After-settle-arg-1}

-- At the call: the flow and the state as the turn began.
abbrev AtCall : Type 0
AtCall = After-settle-arg-1

abbrev flow₀ : AtCall → List ℕ
flow₀ c = c.args.flow.now

abbrev flow : AtCall → List ℕ
flow c = c.loop-k.flow

abbrev st : AtCall → State
st c = c.loop-k.st

passing : (c : AtCall) → Passing (flow₀ c) (flow c) (st c)
passing c = c.loop-k.invariant.passing

whole : (c : AtCall) → Whole (flow₀ c)
whole c = c.requires.0

more : (c : AtCall) → (st c).seen < length (flow c) / 120
more c = omega (arith, (passing c).same, c.loop-k.invariant.at, c.loop-k-test.true)

-- The part that is lent is the record.
lent : (flow : List ℕ) (k n : ℕ) → k ≡ n → take (k * 120 + 120 - k * 120) (drop (k * 120) flow) ≡ take 120 (drop (n * 120) flow)
lent flow k n e = rw (e, add-sub_cancel_left (n * 120) 120)

part : (c : AtCall) → take (c.loop-k.k * 120 + 120 - c.loop-k.k * 120) (drop (c.loop-k.k * 120) (flow c)) ≡ take 120 (drop ((st c).seen * 120) (flow c))
part c = lent (flow c) c.loop-k.k (st c).seen c.loop-k.invariant.at

-- It is written back where it was.
back : (f flow ys : List ℕ) (st after : State) (k : ℕ) → k ≡ st.seen → Passing f (put_mid (st.seen * 120) (st.seen * 120 + 120 - st.seen * 120) flow ys) after → Passing f (put_mid (k * 120) (k * 120 + 120 - k * 120) flow ys) after
back f flow ys st after k e h = rw e h

pub loop-k-init : goal.loop-k-init
unfolding start_state
loop-k-init c = rw c.start-st.ensures record { passing = passing-start _ c.requires.1; at = refl }

pub settle-st-requires : goal.settle-st-requires
settle-st-requires c = rw (part c) (passing-turn (flow₀ c) (flow c) (st c) (passing c) (whole c) (more c), passing-fits (flow₀ c) (flow c) (st c) (passing c) (whole c) (more c))

pub loop-k-preserved : goal.loop-k-preserved
unfolding next
loop-k-preserved c =
    let q = (goal.at.loop-k-preserved c).After-settle-arg-1 in
    rw (c.settle-st.ensures.0 ∙ ap (next (st q)) (part q))
    record {
      passing = back _ _ _ (st q) _ q.loop-k.k q.loop-k.invariant.at (passing-on (flow₀ q) (flow q) (st q) (passing q) (whole q) (more q) _ (c.settle-st.ensures.1 ∙ ap (emit (st q)) (part q)));
      at = omega (arith, q.loop-k.invariant.at);
    }

pub shape_of-flow : goal.shape_of-flow
shape_of-flow c = c.loop-k.invariant.passing.same

pub returns : goal.returns
returns c = let l = c.loop-k.invariant.passing in passing-end _ _ _ l c.requires.0 (omega (arith, l.same, c.loop-k.invariant.at, c.loop-k-test.false))
