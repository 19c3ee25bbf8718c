-- Serves inner functions. How a record is read: how many numeric fields stand behind the first, and where the second starts.
use Rattle.std.specs.Prelude.{ℕ, ◌-◌, length, get_or}
use Rattle.layout.specs.declared.Form.{Form}
use Rattle.layout.specs.declared.Kind.{Kind}
use Rattle.layout.specs.Fields.{nowhere, fields_of}

-- a form, by its parts
abbrev pub form_with : Kind → ℕ → ℕ → Form
form_with k n s = record { kind = k; amounts = n; at = s }

-- the form of a record of a kind: its numeric fields but the first, and where they begin
unfoldable pub form_of : Kind → Form
form_of k = form_with k (length (fields_of k) - 1) (get_or (fields_of k) 1 nowhere).start
