-- after check 3: there is a record, and the ending is what the check says of it
use mathlib.Core.Path.{◌≡◌, sym, ap, ◌∙◌}
use Prim.Native.Nat.{ℕ, ◌+◌, ◌/◌}
use native.Mathlib.Omega.{arith}
use mathlib.Core.List.{List}
use lib.ListN.{length}
use borrow.Author.Tests.{eq-eqb, ne_eqb}
use Rattle.refusal.specs.Outcomes.{Outcome}
use Rattle.text.specs.Characters.{first_bad}
use Rattle.rules.specs.Checks.{char_fault}
use Rattle.judge.specs.Flow.{refused_with, after}
use Rattle.judge.specs.declared.Judgement.{Judgement}
use Rattle.judge.specs.Ending.{ending}
use Rattle.rules.specs.declared.State.{State}
use Rattle.judge.proofs.ended.Goals as goal
use Rattle.judge.proofs.ended.Goals.{After-char_fault}

abbrev AtCheck : Type 0
AtCheck = After-char_fault

abbrev st : AtCheck → State
st c = c.args.st

abbrev flow : AtCheck → List ℕ
flow c = c.args.flow.now

abbrev said : AtCheck → Outcome → Judgement
said c o = after o (st c).seen (refused_with 5 ((st c).seen + 1) 0)

ended_by : (c : AtCheck) → ending (flow c) (st c) ≡ said c c.char_fault.result
ended_by c =
    let p = c.requires.0 in
    let n = c.if-k-count.false in
    rw (ne_eqb (st c).seen (length (flow c) / 120) (λ e. n (e ∙ sym p))) (ap (said c) (sym (c.char_fault.ensures ∙ ap (λ (r : List ℕ). char_fault (first_bad r)) c.record_at.ensures)))

pub returns-then-k-count : goal.returns-then-k-count
returns-then-k-count c = rw (eq-eqb c.args.st.seen (length c.args.flow.now / 120) (let e = c.requires.0 in let t = c.if-k-count.true in omega arith)) c.closing_of.ensures

pub returns-in-Err : goal.returns-in-Err
returns-in-Err c = c.refused.ensures ∙ sym (ended_by (goal.at.returns-in-Err c).After-char_fault ∙ ap (said (goal.at.returns-in-Err c).After-char_fault) c.in-Err.is)

pub returns-in-Ok : goal.returns-in-Ok
returns-in-Ok c = c.refused-in-Ok.ensures ∙ sym (ended_by (goal.at.returns-in-Ok c).After-char_fault ∙ ap (said (goal.at.returns-in-Ok c).After-char_fault) c.in-Ok.is)
