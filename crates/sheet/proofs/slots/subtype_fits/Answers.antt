-- `sheet::slots::subtype_fits` meets its contract.
use mathlib.Core.Path.{ap, ◌∙◌}
use lib.ListN.{take, drop}
use Rattle.text.specs.Numbers.{digits_of}
use Rattle.layout.specs.declared.Section.{Section}
use Rattle.amounts.specs.Names.{same_bytes}
use Rattle.sheet.specs.Slots.{subtype_text}
use Rattle.sheet.proofs.Written.{subtypes-small, subtype-by}
use borrow.Author.Rules.{rules}
use Rattle.sheet.proofs.slots.subtype_fits.Goals as goal

pub has_subtype-requires : goal.has_subtype-requires
has_subtype-requires c = (search rules, rw c.section_at.ensures (subtypes-small _).0)

pub has_subtype-requires-in-Balance : goal.has_subtype-requires-in-Balance
has_subtype-requires-in-Balance c = (search rules, rw c.section_at-in-Balance.ensures (subtypes-small _).1)

pub returns-in-Line : goal.returns-in-Line
unfolding subtype_text
returns-in-Line c = rw c.in-Line.is (subtype-by _ c.args.rec.now _ (c.has_subtype.ensures ∙ ap (λ (x : Section). same_bytes (take 2 (drop 10 c.args.rec.now)) (digits_of 2 x.line_subtype)) c.section_at.ensures))

pub returns-in-Balance : goal.returns-in-Balance
unfolding subtype_text
returns-in-Balance c = rw c.in-Balance.is (subtype-by _ c.args.rec.now _ (c.has_subtype-in-Balance.ensures ∙ ap (λ (x : Section). same_bytes (take 2 (drop 10 c.args.rec.now)) (digits_of 2 x.balance_subtype)) c.section_at-in-Balance.ensures))

pub returns-in-Payment : goal.returns-in-Payment
unfolding subtype_text
returns-in-Payment c = rw c.in-Payment.is (subtype-by _ c.args.rec.now _ c.has_subtype-in-Payment.ensures)

pub returns-in-Receipt : goal.returns-in-Receipt
unfolding subtype_text
returns-in-Receipt c = rw c.in-Receipt.is (subtype-by _ c.args.rec.now _ c.has_subtype-in-Receipt.ensures)

pub returns-in-Addressee : goal.returns-in-Addressee
unfolding subtype_text
returns-in-Addressee c = rw c.in-Addressee.is (subtype-by _ c.args.rec.now _ c.has_subtype-in-Addressee.ensures)
