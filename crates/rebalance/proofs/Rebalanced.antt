-- The laws of rebalancing records: those that it mends are accepted after it with the sums of their lines, and those without a fault are their own rebalancing.
use Prim.Native.Nat.{ℕ, suc}
use mathlib.Core.Path.{◌≡◌, refl, ap, ap₂}
use mathlib.Core.Bool.{true}
use mathlib.Core.List.{List, [], ◌∷◌, ◌++◌}
use borrow.Author.Tests.{eq-eqb}
use lib.ListN.{length}
use Rattle.rules.specs.declared.State.{State}
use Rattle.order.specs.Stages.{after_tail}
use Rattle.rules.specs.Step.{next}
use Rattle.judge.specs.Flow.{accepted_with, closing, judged_from}
use Rattle.judge.specs.Plain.{state_after, NoFault}
use Rattle.rebalance.specs.Rebalance.{emit, rebalanced, all_fit, Sized, Mendable}
use Rattle.rebalance.proofs.Emit.{emit-length, next-emit, emit-passes, fault-kept, fault-fits, emit-own}
use Rattle.rebalance.proofs.Rewritten.{like-rebalanced, same-fits}

-- Records that rebalancing mends are accepted after it, with the sums of their lines.
pub rebalanced-accepted : (name : List ℕ) (st : State) (rs : List (List ℕ)) → Mendable name st rs → judged_from name st (rebalanced st rs) ≡ accepted_with (state_after st rs)
unfolding judged_from rebalanced state_after closing
rebalanced-accepted name st [] m = rw (eq-eqb _ _ m)
rebalanced-accepted name st (r ∷ rs) m = rw (emit-passes st r m.0 name m.1 m.2, next-emit st r m.0 st) (rebalanced-accepted name (next st r) rs m.3)

-- Records without a fault are their own rebalancing.
pub faultless-own : (name : List ℕ) (st : State) (rs : List (List ℕ)) → Sized rs → NoFault name st rs → rebalanced st rs ≡ rs
unfolding rebalanced
faultless-own name st [] s n = refl
faultless-own name st (r ∷ rs) s n = ap₂ ◌∷◌ (emit-own st r s.0 name n.0) (faultless-own name (next st r) rs s.1 n.1)

-- Records without a fault that end with the tail are among those that rebalancing mends.
pub faultless-mendable : (name : List ℕ) (st : State) (rs : List (List ℕ)) → Sized rs → NoFault name st rs → (state_after st rs).stage.phase ≡ after_tail → Mendable name st rs
unfolding state_after
faultless-mendable name st [] s n e = e
faultless-mendable name st (r ∷ rs) s n e =
    (s.0, fault-kept st r s.0 name n.0, fault-fits st r s.0 name n.0, faultless-mendable name (next st r) rs s.1 n.1 e)

-- Rebalancing leaves the number of records.
pub length-rebalanced : (st : State) (rs : List (List ℕ)) → length (rebalanced st rs) ≡ length rs
unfolding rebalanced
length-rebalanced st [] = refl
length-rebalanced st (r ∷ rs) = ap suc (length-rebalanced (next st r) rs)

-- Rebalancing leaves the length of every record.
pub sized-rebalanced : (st : State) (rs : List (List ℕ)) → Sized rs → Sized (rebalanced st rs)
unfolding rebalanced
sized-rebalanced st [] s = tt
sized-rebalanced st (r ∷ rs) s = (emit-length st r s.0, sized-rebalanced (next st r) rs s.1)

-- Records after others are rebalanced from the state that these lead to.
pub rebalanced-append : (st : State) (xs ys : List (List ℕ)) → rebalanced st (xs ++ ys) ≡ rebalanced st xs ++ rebalanced (state_after st xs) ys
unfolding rebalanced state_after
rebalanced-append st [] ys = refl
rebalanced-append st (x ∷ xs) ys = ap (λ (t : List (List ℕ)). emit st x ∷ t) (rebalanced-append (next st x) xs ys)

-- Records that rebalancing mends have 120 bytes each.
pub mendable-sized : (name : List ℕ) (st : State) (rs : List (List ℕ)) → Mendable name st rs → Sized rs
mendable-sized name st [] m = tt
mendable-sized name st (r ∷ rs) m = (m.0, mendable-sized name (next st r) rs m.3)

-- What rebalancing writes into records that it mends fits.
pub mendable-fits : (name : List ℕ) (st : State) (rs : List (List ℕ)) → Mendable name st rs → all_fit st rs ≡ true
unfolding all_fit
mendable-fits name st [] m = refl
mendable-fits name st (r ∷ rs) m = rw m.2 (mendable-fits name (next st r) rs m.3)

-- What rebalancing writes into rebalanced records fits where it does in the records as they were.
pub fits-rebalanced : (st : State) (rs : List (List ℕ)) → Sized rs → all_fit st (rebalanced st rs) ≡ all_fit st rs
fits-rebalanced st rs s = same-fits _ rs (like-rebalanced st rs s) st
