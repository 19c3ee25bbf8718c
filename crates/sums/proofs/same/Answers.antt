use borrow.Author.Rules.{rules}
use Rattle.rules.proofs.Arrays.{struct-array}
use Rattle.std.proofs.lemmas.Slice.Zip.{Zip-more, either_empty_from_Zip}
use Rattle.sums.proofs.Comparing.{comparing-start, debit-differs, credit-differs, comparing-on, comparing-end}
use Rattle.sums.proofs.same.Goals as goal
use Rattle.sums.proofs.same.Goals.{then-x-y-via-then-x-y, then-x-y-via-else-x-y+then-x-y-2}

pub loop-x-init : goal.loop-x-init
loop-x-init c = comparing-start _ _ _ _ (search (rules, struct-array)) (search (rules, struct-array)) (search rules) (search rules)

pub returns-then-x-y : goal.returns-then-x-y
returns-then-x-y c =
    let e = Zip-more c.loop-x.x-iterator c.next.new.self _ _ c.in-Some.is c.next.ensures.steps in
    elim c.then-x-y.branch [
      | then-x-y-via-then-x-y w ↦ debit-differs _ _ _ _ c.loop-x.invariant _ _ _ _ e w.if-x-y.true
      | then-x-y-via-else-x-y+then-x-y-2 w ↦ credit-differs _ _ _ _ c.loop-x.invariant _ _ _ _ e w.if-x-y.false w.if-x-y-2.true
    ]

pub loop-x-preserved : goal.loop-x-preserved
loop-x-preserved c = comparing-on _ _ _ _ c.loop-x.invariant _ _ _ _ (Zip-more c.loop-x.x-iterator c.next.new.self _ _ c.in-Some.is c.next.ensures.steps) c.if-x-y.false c.if-x-y-2.false

pub returns : goal.returns
returns c = comparing-end _ _ _ _ c.loop-x.invariant (either_empty_from_Zip c.loop-x.x-iterator c.next.new.self _ c.in-None.is c.next.ensures.steps)
