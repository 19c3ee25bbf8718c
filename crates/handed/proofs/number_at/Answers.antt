use Prim.Native.Nat.{ℕ}
use mathlib.Core.Path.{◌≡◌, sym, ap, ◌∙◌}
use mathlib.Core.List.{List}
use lib.ListN.{length, get_or}
use Rattle.rules.proofs.Arrays.{struct-array}
use Rattle.handed.proofs.Back.{numbers-stand, numbers-kept, numbers-name}
use borrow.Author.Rules.{rules}
use Rattle.handed.proofs.number_at.Goals as goal

pub returns-then-i-lt4 : goal.returns-then-i-lt4
returns-then-i-lt4 c = ap (λ (l : List ℕ). get_or l c.args.i 0) c.course_numbers-stands.ensures ∙ sym (numbers-stand c.args.x _ c.if-i-lt4.true)

pub returns-then-i-lt33 : goal.returns-then-i-lt33
returns-then-i-lt33 c = let e = c in let l : length e.args.x.kept ≡ 29 = search (rules, struct-array) in sym (numbers-kept e.args.x l _ e.if-i-lt4.false c.if-i-lt33.true)

pub returns : goal.returns
returns c = let e = c in let l : length e.args.x.kept ≡ 29 = search (rules, struct-array) in c.from.ensures ∙ sym (numbers-name e.args.x l _ c.if-i-lt33.false)
