-- `close::close_up` meets its contract.
use Rattle.close.proofs.Spaces.{spaces-behind}
use Rattle.close.proofs.close_up.Goals as goal

pub returns : goal.returns
returns c =
    let e = c.move_up-n.ensures in
    (e.0, e.1, spaces-behind _ c.args.flow.now _ _ _ e.0 e.1 e.2 (c.fill.ensures.after (λ y h. h)))
