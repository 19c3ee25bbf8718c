use Rattle.std.proofs.Common.{eqb, arith, rules, tests, ◌∙◌}
use Rattle.std.proofs.lemmas.Iterator.{YieldsList-from_slice}
use Rattle.std.proofs.lemmas.Iterator.Search.{all_from_yields_List}
use Rattle.taxcode.proofs.FirmTurns.{spaces-behind}
use Rattle.taxcode.proofs.firms.spaces_only.Goals as goal

pub returns : goal.returns
returns c =
    let behind = c.args.behind.now in
    all_from_yields_List (λ b. eqb b 32) _ _ _ c.all.ensures.ran (YieldsList-from_slice behind cc) (λ x b q k. search (rules, tests))
    ∙ spaces-behind 12 behind (omega arith)
