-- Believed. What is filled in a record to be written. It goes by the slot, whatever record stands in it.
use Rattle.std.specs.Prelude.{ℕ, Bool, true, false, cond, List, map}
use Rattle.text.specs.Placing.{put_at}
use Rattle.layout.specs.declared.Kind.{Kind}
use Rattle.layout.specs.declared.Kind.TheVariants.{Head, Taxpayer, Domicile, Line, Balance, Payment, Receipt, Addressee, Tail, Unknown}
use Rattle.layout.specs.Sections.{at}
use Rattle.rules.specs.State.{start_state}
use Rattle.rules.specs.Stored.{stored_of}
use Rattle.rebalance.specs.Rebalance.{put_all}
use Rattle.rebalance.specs.Numbering.{with_number}
use Rattle.sheet.specs.Sheet.{Entry}

-- the slot of EF
abbrev pub is_tail : Kind → Bool
is_tail Head = false
is_tail Taxpayer = false
is_tail Domicile = false
is_tail (Line s) = false
is_tail (Balance s) = false
is_tail Payment = false
is_tail Receipt = false
is_tail Addressee = false
is_tail Tail = true
is_tail Unknown = false

-- "the tail's name", from the head
unfoldable pub with_name : Kind → List ℕ → List ℕ → List ℕ
with_name k name r = cond (is_tail k) (put_at (at 20) name r) r

-- "fills delega numbers, final balances and the tail's name, counts and sum", and a made record's totals, sign and balance: balances, counts and sums are what they are before any line, until the flow is rebalanced.
-- "every filled field taken as right": what stood there is not looked at
unfoldable pub filled : List ℕ → Entry → List ℕ
filled name e = put_all (stored_of start_state e.slot) (with_name e.slot name (with_number e.slot e.delega e.bytes))

-- the records to be written, with what is filled
unfoldable pub filled_all : List ℕ → List Entry → List (List ℕ)
filled_all name es = map (filled name) es
