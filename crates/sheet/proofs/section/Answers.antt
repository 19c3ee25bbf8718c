-- `sheet::section` meets its contract: its count, its lines and, where there are some, the balance record that is made.
-- After `lines`: the start, the count, and the lines as they are read behind it.
use Prim.Native.Nat.{ℕ, ◌+◌}
use mathlib.Core.Path.{◌≡◌, refl, ap}
use borrow.Author.Rules.{rules}
use lib.Dec.{lit≤}
use lib.ListN.{drop}
use Rattle.sheet.specs.Sheet.{Reading, lines_from, one_section}
use Rattle.sheet.specs.Walk.{count_at, beyond_by, Here, Follows}
use Rattle.sheet.proofs.Steps.{counts-none, here-counted, end-slack, section-stops, section-empty, section-made}
use Rattle.std.specs.Result.{is_err}
use Rattle.sheet.proofs.section.Goals as goal
use Rattle.sheet.proofs.section.Goals.{After-lines}

abbrev n : After-lines → ℕ
n c = c.in-Ok.n

abbrev all_lines : After-lines → Reading
all_lines c = lines_from c.args.x c.args.d (n c) (drop (c.args.spot.at + 2) c.args.source.sheet.now)

said : (c : After-lines) → c.count_at.result ≡ count_at 2 (drop c.args.spot.at c.args.source.sheet.now)
said c = c.count_at.ensures

walked : (c : After-lines) → Follows c.args.source.sheet.now c.args.source.name.now (beyond_by c.args.spot 2) c.args.flow.now (all_lines c) c.lines.result c.lines.new.flow
walked c = rw c.beyond-behind.ensures at c.lines.ensures

-- Behind the count the sheet goes on.
behind-count : (c : After-lines) → Here c.args.source.sheet.now (beyond_by c.args.spot 2) c.args.flow.now
behind-count c = here-counted _ c.args.source.name.now _ _ c.requires.0 2 _ _ _ (said c) c.in-Ok.is refl

pub returns-in_default : goal.returns-in_default
returns-in_default c =
    let s = c in
    counts-none s.args.source.sheet.now s.args.source.name.now s.args.spot s.args.flow.now 2 (one_section s.args.x s.args.d) c.count_at.result c.count_at.ensures (ap is_err c.in_default.is)

pub lines-requires : goal.lines-requires
lines-requires c =
    let s = c in
    (here-counted _ s.args.source.name.now _ _ s.requires.0 2 _ _ _ c.count_at.ensures c.in-Ok.is c.beyond-behind.ensures, s.requires.1)

pub returns-in_err-end : goal.returns-in_err-end
returns-in_err-end c =
    let q = (goal.at.returns-in_err-end c).After-lines in
    let a = q.args in
    rw c.from_residual.ensures (section-stops a.source.sheet.now a.source.name.now a.spot a.flow.now a.x a.d _ _ (said q) q.in-Ok.is _ _ (walked q) c.in_err-end.was)

pub returns-then-n-eq0 : goal.returns-then-n-eq0
returns-then-n-eq0 c =
    let q = (goal.at.returns-then-n-eq0 c).After-lines in
    let a = q.args in
    section-empty a.source.sheet.now a.source.name.now a.spot a.flow.now a.x a.d _ _ (said q) q.in-Ok.is _ _ _ (walked q) c.in_ok-end.was (behind-count q) c.if-n-eq0.true

pub enter-requires : goal.enter-requires
enter-requires c =
    let q = (goal.at.enter-requires c).After-lines in
    let t = end-slack q.args.source.sheet.now q.args.source.name.now q.args.spot q.args.flow.now q.requires.0 2 (all_lines q) _ _ _ (lit≤ tt) (walked q) c.in_ok-end.was in
    record { flow_len = (t.1, search rules); d_bound = (q.requires.1, t.0) }

pub returns : goal.returns
returns c =
    let q = (goal.at.returns c).After-lines in
    let a = q.args in
    section-made a.source.sheet.now a.source.name.now a.spot a.flow.now a.x a.d _ _ (said q) q.in-Ok.is _ _ _ (walked q) c.in_ok-end.was _ _ _ c.if-n-eq0.false c.made_balance-made.ensures c.enter.ensures
