use Rattle.std.proofs.Common.{refl, rules, tests, ◌∙◌}
use Rattle.std.proofs.lemmas.Iterator.{YieldsList-from_range}
use Rattle.std.proofs.lemmas.Iterator.Search.{any_from_yields_List}
use Rattle.order.specs.Order.{section_stands}
use Rattle.order.proofs.Standing.{forty}
use Rattle.order.proofs.forty_stands.Goals as goal

pub returns : goal.returns
returns c =
    any_from_yields_List (section_stands c.args.p) _ _ _ c.any.ensures.ran (YieldsList-from_range 0 5 5 refl refl) (λ x b q k. search (rules, tests))
    ∙ forty c.args.p
