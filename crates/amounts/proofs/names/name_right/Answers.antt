use Rattle.std.proofs.Common.{rules, tests, ◌∙◌}
use Rattle.std.proofs.lemmas.Iterator.{YieldsList-from_slice}
use Rattle.std.proofs.lemmas.Iterator.Search.{all_from_yields_List}
use Rattle.amounts.proofs.Spelling.{byte_right, name-all}
use Rattle.amounts.proofs.names.name_right.Goals as goal

pub returns : goal.returns
returns c =
    let name = c.args.name.now in
    all_from_yields_List byte_right _ _ _ c.all.ensures.ran (YieldsList-from_slice name cc) (λ x b q k. search (rules, tests)) ∙ name-all name
