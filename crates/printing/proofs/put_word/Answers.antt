-- `printing::put_word` meets its contract: the word fits, so that it is put whole.
use mathlib.Core.Path.{refl, ◌∙◌}
use native.Mathlib.Omega.{arith}
use Rattle.text.proofs.Fits.{part-fits, part-written}
use Rattle.printing.proofs.Appending.{append-put}
use Rattle.printing.proofs.put_word.Goals as goal

pub returns : goal.returns
returns c =
    append-put (c.put_part.ensures.1 ∙ (part-written _ _ _ (part-fits _ _ _ (omega arith))).1)
    refl (omega arith) (omega arith)
