use mathlib.Core.Path.{sym, ◌∙◌}
use mathlib.Core.Logic.{inl, inr}
use Rattle.portion.proofs.Ways.{impossible, by-course}
use Rattle.portion.proofs.judge_portion.Goals as goal

pub returns-then-not-is_possible : goal.returns-then-not-is_possible
returns-then-not-is_possible c = c.foreign_to.ensures ∙ sym (impossible _ _ _ (sym c.is_possible.ensures ∙ c.if-not-is_possible.true))

pub judge_going-requires : goal.judge_going-requires
judge_going-requires c = let e = c in sym e.is_possible.ensures ∙ e.if-not-is_possible.false

pub returns-in-Going : goal.returns-in-Going
returns-in-Going c = let e = c in c.judge_going.ensures ∙ sym (by-course _ _ _ _ (sym e.is_possible.ensures ∙ e.if-not-is_possible.false) c.in-Going.is)

pub returns-in-Accepted : goal.returns-in-Accepted
returns-in-Accepted c =
    let e = c in
    c.told_by.ensures
    ∙ (elim c.in-Accepted.is [
      | inl i ↦ sym (by-course _ _ _ _ (sym e.is_possible.ensures ∙ e.if-not-is_possible.false) i)
      | inr r ↦ sym (by-course _ _ _ _ (sym e.is_possible.ensures ∙ e.if-not-is_possible.false) r.3)
    ])

pub returns-in-Foreign : goal.returns-in-Foreign
returns-in-Foreign c = let e = c in c.foreign_to-in-Foreign.ensures ∙ sym (by-course _ _ _ _ (sym e.is_possible.ensures ∙ e.if-not-is_possible.false) c.in-Foreign.is)
