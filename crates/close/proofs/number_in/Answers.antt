-- `close::number_in` meets its contract: where no number is said, it counts 0.
use mathlib.Core.Path.{◌≡◌, ap, ◌∙◌}
use lib.ListN.{take, drop}
use native.Mathlib.Omega.{arith}
use Rattle.text.specs.Numbers.{number_of, amount_of}
use Rattle.text.proofs.Bytes.{part_length}
use Rattle.text.proofs.Numerals.{read-is-number, said-or-zero}
use Rattle.close.proofs.number_in.Goals as goal
use Rattle.close.proofs.number_in.Goals.{After-number}

-- The number was read of the seven bytes of the field.
read : (c : After-number) → c.number.result ≡ number_of (take 7 (drop 3 c.args.rec.now))
read c = c.number.ensures ∙ read-is-number _ (omega (arith, part_length 7 3 c.args.rec.now (omega (arith, c.requires))))

pub returns : goal.returns
returns c = c.unwrap_or.ensures ∙ (said-or-zero c.number.result ∙ ap amount_of (read (goal.at.returns c).After-number))
