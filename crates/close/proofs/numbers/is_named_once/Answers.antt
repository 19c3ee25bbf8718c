-- `close::numbers::is_named_once` meets its contract.
use Prim.Native.Nat.{ℕ, ◌≤◌, ◌<◌}
use mathlib.Core.Path.{◌≡◌, refl, ◌∙◌}
use mathlib.Core.Bool.{Bool, true, false, cond}
use mathlib.Core.List.{List}
use mathlib.Core.Logic.{◌⊎◌, inl, inr}
use native.Mathlib.Omega.{arith}
use borrow.Author.Tests.{lt-ltb, le-ltb}
use lib.Dec.{ltb}
use Rattle.std.proofs.lemmas.Grind.{common_steps}
use Rattle.text.specs.Among.{among}
use Rattle.order.proofs.Fitting.{turned}
use Rattle.close.specs.Inner.{named_once}
use Rattle.close.proofs.numbers.is_named_once.Goals as goal

-- A number that is no delega's is not named once.
unnamed : (n d : ℕ) (others : List ℕ) → (d < 1) ⊎ (n < d) → false ≡ named_once n d others
unfolding named_once
unnamed n d others (inl h) = rw (lt-ltb d 1 h)
unnamed n d others (inr h) = rw (lt-ltb n d h) (go (ltb d 1))
  where
    go : (t : Bool) → false ≡ cond (cond t false false) (cond (among d others) false true) false
    go true = refl
    go false = refl

pub returns-then-contains : goal.returns-then-contains
unfolding named_once
returns-then-contains c =
    let h : 1 ≤ c.args.d = grind (arith, common_steps) in
    let k : c.args.d ≤ c.args.deleghe = grind (arith, common_steps) in
    rw (le-ltb c.args.d 1 h, le-ltb c.args.deleghe c.args.d k, ← c.names.ensures) (turned c.names.result)

pub returns-else-contains : goal.returns-else-contains
unfolding named_once
returns-else-contains c =
    let h : (c.args.d < 1) ⊎ (c.args.deleghe < c.args.d) = grind (arith, common_steps) in
    c.if-contains.false ∙ unnamed c.args.deleghe c.args.d c.args.others.now h
