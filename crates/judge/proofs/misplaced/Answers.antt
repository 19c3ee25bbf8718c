use mathlib.Core.Path.{◌≡◌, sym, ap, ◌∙◌}
use Prim.Native.Nat.{◌+◌}
use Rattle.refusal.specs.Outcomes.{Outcome}
use Rattle.judge.specs.Flow.{refused_with, after}
use Rattle.order.specs.Order.{standing}
use Rattle.layout.specs.Kinds.{type_in}
use Rattle.judge.proofs.misplaced.Goals as goal
use Rattle.judge.proofs.misplaced.Goals.{After-standing_of}

told : (n : After-standing_of) → standing n.args.stage (type_in n.args.rec.now) n.args.kind ≡ n.standing_of.result
told n = rw (← n.type_in.ensures) (sym n.standing_of.ensures)

pub returns-in-Err : goal.returns-in-Err
returns-in-Err c = c.refused.ensures ∙ sym (ap (λ (o : Outcome). after o c.args.k (refused_with 4 (c.args.k + 1) 2)) (told (goal.at.returns-in-Err c).After-standing_of ∙ c.in-Err.is))

pub returns-in-Ok : goal.returns-in-Ok
returns-in-Ok c = c.refused-in-Ok.ensures ∙ sym (ap (λ (o : Outcome). after o c.args.k (refused_with 4 (c.args.k + 1) 2)) (told (goal.at.returns-in-Ok c).After-standing_of ∙ c.in-Ok.is))
