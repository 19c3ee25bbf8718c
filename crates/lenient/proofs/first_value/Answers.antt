-- `lenient::first_value` meets its contract: what the first numeric field says, and 0 where it says no number.
-- The field that is read is the first.
use mathlib.Core.Path.{◌≡◌, ap, ◌∙◌}
use mathlib.Core.List.{List}
use Prim.Native.Nat.{ℕ}
use lib.ListN.{get_or}
use Rattle.text.proofs.Numerals.{said-or-zero}
use Rattle.text.specs.Answers.{Digits}
use Rattle.text.specs.Numbers.{number_of, amount_of}
use Rattle.layout.specs.declared.Field.{Field}
use Rattle.layout.specs.declared.Fields.{Fields}
use Rattle.layout.specs.declared.Kind.{Kind}
use Rattle.layout.specs.Fields.{nowhere, fields_of, bytes_of}
use Rattle.lenient.proofs.KeptFields.{first-listed, first-within}
use Rattle.lenient.proofs.first_value.Goals as goal
use Rattle.lenient.proofs.first_value.Goals.{After-read_field-arg-1}

abbrev AtField : Type 0
AtField = After-read_field-arg-1

abbrev kind : AtField → Kind
kind c = c.args.kind

abbrev rec : AtField → List ℕ
rec c = c.args.rec.now

field_is : (c : AtField) → get_or c.fields_of-fields.result.fields 0 nowhere ≡ get_or (fields_of (kind c)) 0 nowhere
field_is c = ap (λ (x : Fields). get_or x.fields 0 nowhere) c.fields_of-fields.ensures ∙ first-listed (fields_of (kind c))

read : (c : AtField) (d : Digits) → d ≡ number_of (bytes_of (rec c) (get_or c.fields_of-fields.result.fields 0 nowhere)) → d ≡ number_of (bytes_of (rec c) (get_or (fields_of (kind c)) 0 nowhere))
read c d e = e ∙ ap (λ (x : Field). number_of (bytes_of (rec c) x)) (field_is c)

pub read_field-requires : goal.read_field-requires
read_field-requires c = (c.requires, rw (field_is c) (first-within (kind c)))

pub returns : goal.returns
returns c = c.unwrap_or.ensures ∙ (said-or-zero c.read_field.result ∙ ap amount_of (read (goal.at.returns c).After-read_field-arg-1 _ c.read_field.ensures))
