use mathlib.Core.Path.{sym, ap, ◌∙◌}
use Rattle.state.specs.Numbers.{state_of}
use Rattle.portion.specs.Portion.{told}
use Rattle.portion.proofs.Sound.{sound-goes}
use Rattle.portion.proofs.Ways.{too_long, empty, ragged, more_left, none_left}
use Rattle.portion.proofs.judge_going.Goals as goal
use Rattle.portion.proofs.judge_going.Goals.{then-n-eq0-via-then-n-eq0, then-n-eq0-via-else-n-eq0+then-n-ne0}

pub returns-then-n-gt-MOST_BYTES : goal.returns-then-n-gt-MOST_BYTES
returns-then-n-gt-MOST_BYTES c = c.refuse.ensures ∙ sym (too_long _ _ _ c.if-n-gt-MOST_BYTES.true)

pub returns-then-n-eq0 : goal.returns-then-n-eq0
returns-then-n-eq0 c =
    c.refuse-then-n-eq0.ensures
    ∙ (elim c.then-n-eq0.branch [
      | then-n-eq0-via-then-n-eq0 w ↦ sym (empty _ _ _ c.if-n-gt-MOST_BYTES.false w.if-n-eq0.true)
      | then-n-eq0-via-else-n-eq0+then-n-ne0 w ↦ sym (ragged _ _ _ c.if-n-gt-MOST_BYTES.false w.if-n-eq0.false w.if-n-ne0.true)
    ])

pub go_on-requires : goal.go_on-requires
unfolding state_of
go_on-requires c = let e = c in sound-goes _ _ e.requires e.if-n-gt-MOST_BYTES.false e.if-n-eq0.false e.if-n-ne0.false c.if-x-n.true

pub returns-then-x-n : goal.returns-then-x-n
unfolding state_of
returns-then-x-n c = let f = c in let e = f in c.told_by.ensures ∙ (ap told c.go_on.ensures ∙ sym (more_left _ _ _ e.if-n-gt-MOST_BYTES.false e.if-n-eq0.false e.if-n-ne0.false f.if-x-n.true))

pub returns : goal.returns
unfolding state_of
returns c = let f = c in let e = f in c.foreign_to.ensures ∙ sym (none_left _ _ _ e.if-n-gt-MOST_BYTES.false e.if-n-eq0.false e.if-n-ne0.false f.if-x-n.false)
