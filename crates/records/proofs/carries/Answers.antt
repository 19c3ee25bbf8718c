use lib.Dec.{eqb}
use Prim.Native.Nat.{ℕ}
use mathlib.Core.Path.{ap}
use Rattle.records.proofs.carries.Goals as goal

pub returns : goal.returns
returns c = ap (λ (w : ℕ). eqb w c.args.own) c.word_at.ensures
