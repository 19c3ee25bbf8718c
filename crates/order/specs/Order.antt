-- Believed; `section_stands` and `fitting` serve inner functions. "Order of the records": what may stand where, and how many lines a section has.
use Rattle.std.specs.Prelude.{ℕ, ◌+◌, Bool, true, false, cond, List, [], ◌∷◌, eqb, ltb, leb}
use Rattle.text.specs.Among.{among}
use Rattle.layout.specs.declared.Kind.{Kind}
use Rattle.layout.specs.declared.Kind.TheVariants.{Head, Taxpayer, Domicile, Line, Balance, Payment, Receipt, Addressee, Tail, Unknown}
use Rattle.layout.specs.declared.RecordType.{RecordType}
use Rattle.layout.specs.declared.RecordType.TheVariants.{F4, T10, T20, T40, T50, EF, NoType}
use Rattle.layout.specs.Sections.{section_at}
use Rattle.layout.specs.Kinds.{of_line}
use Rattle.order.specs.declared.Stage.{Stage}
use Rattle.refusal.specs.Outcomes.{Outcome, Pass, Fails}
use Rattle.order.specs.Stages.{stage_at, at_start, after_head, after_taxpayer, after_domicile, after_line, after_balance, after_payment, after_receipt, after_addressee, after_tail}

-- "A delega is one record 10, one record 20, one or more sections, one record 50-01, then at most one 50-02 and, after a 50-02 only, at most one 50-03";
-- "Sections stand in the order of the table, each at most once. A delega has section 17 alone or any of the other four"
unfoldable pub stands : Stage → Kind → Bool
stands p Head = eqb p.phase at_start
stands p Taxpayer = among p.phase (after_head ∷ after_payment ∷ after_receipt ∷ after_addressee ∷ [])
stands p Domicile = eqb p.phase after_taxpayer
stands p (Line s) =
    cond (eqb p.phase after_domicile) true
    (cond (eqb p.phase after_line) (eqb s p.section)
    (cond (eqb p.phase after_balance) (cond (ltb p.section s) (ltb s 4) false) false))
stands p (Balance s) = cond (eqb p.phase after_line) (eqb s p.section) false
stands p Payment = eqb p.phase after_balance
stands p Receipt = eqb p.phase after_payment
stands p Addressee = eqb p.phase after_receipt
stands p Tail = among p.phase (after_payment ∷ after_receipt ∷ after_addressee ∷ [])
stands p Unknown = false

-- the kinds that a type has
abbrev pub kinds_of : RecordType → List Kind
kinds_of F4 = Head ∷ []
kinds_of T10 = Taxpayer ∷ []
kinds_of T20 = Domicile ∷ []
kinds_of T40 = Line 0 ∷ Balance 0 ∷ Line 1 ∷ Balance 1 ∷ Line 2 ∷ Balance 2 ∷ Line 3 ∷ Balance 3 ∷ Line 4 ∷ Balance 4 ∷ []
kinds_of T50 = Payment ∷ Receipt ∷ Addressee ∷ []
kinds_of EF = Tail ∷ []
kinds_of NoType = []

abbrev pub any_stands : Stage → List Kind → Bool
any_stands p [] = false
any_stands p (k ∷ ks) = cond (stands p k) true (any_stands p ks)

-- a record that may stand here has this type
unfoldable pub type_stands : Stage → RecordType → Bool
type_stands p t = any_stands p (kinds_of t)

-- a line or the balance of section s may stand here
unfoldable pub section_stands : Stage → ℕ → Bool
section_stands p s = cond (stands p (Line s)) true (stands p (Balance s))

-- 6, "line beyond the section's most"
unfoldable pub full : Stage → Kind → Bool
full p k = of_line false (λ s. leb (section_at s).most_lines p.lines) k

-- a record of kind k passes 4 and 6 here
unfoldable pub fitting : Stage → Kind → Bool
fitting p k = cond (stands p k) (cond (full p k) false true) false

-- 4, "record may not stand here": position "2 if no record that may stand here has its type, else 11"; then 6 at 11
unfoldable pub standing : Stage → RecordType → Kind → Outcome
standing p t k =
    cond (stands p k) (cond (full p k) (Fails 6 11) Pass) (cond (type_stands p t) (Fails 4 11) (Fails 4 2))

-- the stage after a record
abbrev pub next_stage : Stage → Kind → Stage
next_stage p Head = stage_at after_head 0 0
next_stage p Taxpayer = stage_at after_taxpayer 0 0
next_stage p Domicile = stage_at after_domicile 0 0
next_stage p (Line s) = stage_at after_line s (p.lines + 1)
next_stage p (Balance s) = stage_at after_balance s 0
next_stage p Payment = stage_at after_payment 0 0
next_stage p Receipt = stage_at after_receipt 0 0
next_stage p Addressee = stage_at after_addressee 0 0
next_stage p Tail = stage_at after_tail 0 0
next_stage p Unknown = p
