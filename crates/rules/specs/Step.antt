-- Believed. The step over a record: it looks at the kind and, of a line, at the amounts.
use Rattle.std.specs.Prelude.{ℕ, ◌+◌, List, get_or, set}
use Rattle.layout.specs.declared.Kind.{Kind}
use Rattle.layout.specs.declared.Kind.TheVariants.{Head, Taxpayer, Domicile, Line, Balance, Payment, Receipt, Addressee, Tail, Unknown}
use Rattle.layout.specs.Sections.{section_at}
use Rattle.layout.specs.Kinds.{of_line, of_taxpayer, kind_in}
use Rattle.layout.specs.Fields.{amount_at, value_of}
use Rattle.amounts.specs.declared.Sums.{Sums}
use Rattle.rules.specs.declared.Money.{Money}
use Rattle.rules.specs.declared.State.{State}
use Rattle.rules.specs.State.{no_sums, zero_delega}
use Rattle.order.specs.Order.{next_stage}
use Rattle.amounts.specs.Amounts.{final_of}

-- "The first delega is 1, each next one is one more"
abbrev pub next_deleghe : ℕ → Kind → ℕ
next_deleghe d k = of_taxpayer d (d + 1) k

-- for "the line count", which the summary takes from the other side: the records that are no lines, each of which counts
abbrev pub next_others : ℕ → Kind → ℕ
next_others n k = of_line (n + 1) (λ s. n) k

-- a line's amounts added to sums, and to those of section s in a list
abbrev pub added : Sums → Sums → Sums
added t x = record { debit = t.debit + x.debit; credit = t.credit + x.credit }

unfoldable pub added_at : List Sums → ℕ → Sums → List Sums
added_at l s x = set l s (added (get_or l s no_sums) x)

-- "Sums start at zero for every delega"; a line counts in its delega and in the flow; a 50-01 closes the delega, and its final balance counts in the flow's sum
abbrev pub next_money : Money → Kind → Sums → Money
next_money m Head x = m
next_money m Taxpayer x = record { delega = zero_delega; flow = m.flow; total = m.total }
next_money m Domicile x = m
next_money m (Line s) x =
    record {
      delega = record { sections = added_at m.delega.sections s x; all = added m.delega.all x };
      flow = added_at m.flow s x;
      total = m.total;
    }
next_money m (Balance s) x = m
next_money m Payment x = record { delega = zero_delega; flow = m.flow; total = m.total + final_of m.delega.all }
next_money m Receipt x = m
next_money m Addressee x = m
next_money m Tail x = m
next_money m Unknown x = m

-- the amounts of a line; a record that is none has none
abbrev pub line_sums : Kind → List ℕ → Sums
line_sums k r = of_line no_sums (λ s. record { debit = value_of r (amount_at (section_at s).debit); credit = value_of r (amount_at (section_at s).credit) }) k

-- the step over a record of a kind with these amounts
abbrev pub next_of : State → Kind → Sums → State
next_of st k x =
    record {
      stage = next_stage st.stage k;
      deleghe = next_deleghe st.deleghe k;
      money = next_money st.money k x;
      seen = st.seen + 1;
      others = next_others st.others k;
    }

-- the state after a record
unfoldable pub next : State → List ℕ → State
next st r = next_of st (kind_in r) (line_sums (kind_in r) r)
