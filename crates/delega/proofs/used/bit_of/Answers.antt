-- `delega::used::bit_of` meets its contract: the bit of a section is 1 shifted by its place in the order of the sections, and past the fifth there is none.
use native.Mathlib.Omega.{arith}
use Rattle.delega.proofs.Sets.{bit_shifted, bit-none}
use Rattle.delega.proofs.used.bit_of.Goals as goal

pub returns-then-s-lt5 : goal.returns-then-s-lt5
returns-then-s-lt5 c = bit_shifted _ (omega (arith, c.if-s-lt5.true))

pub returns : goal.returns
returns c = bit-none _ (omega (arith, c.if-s-lt5.false))
