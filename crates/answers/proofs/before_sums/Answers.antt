-- `answers::before_sums` meets its contract: the four numbers stand at the front, and the ten fill the room behind them.
use Prim.Native.Nat.{ℕ}
use mathlib.Core.Path.{◌≡◌, refl, ap, ◌∙◌}
use mathlib.Core.List.{List, [], ◌++◌, append-nil}
use native.Mathlib.Omega.{arith}
use borrow.Author.Rules.{rules}
use borrow.Rule.Slice.PartMut.{put_mid, post_of}
use lib.ListN.{length, drop, drop_of_length-le}
use lib.Seq.{take_at, drop_at}
use Rattle.rules.proofs.Arrays.{struct-array}
use Rattle.answers.proofs.before_sums.Goals as goal

-- Ten numbers written behind four fill a room of fourteen.
ten-behind : (four rest ten : List ℕ) → length four ≡ 4 → length rest ≡ 10 → put_mid 4 10 (four ++ rest) ten ≡ four ++ ten
ten-behind four rest ten h k =
    let e : post_of 4 10 (four ++ rest) ≡ [] = ap (drop 10) (drop_at four rest 4 h) ∙ drop_of_length-le rest {i = 10} (omega arith) in
    rw (take_at four rest 4 h, e, append-nil)

pub returns : goal.returns
returns c =
    let four : length c.args.four ≡ 4 = search (rules, struct-array) in
    rw (c.copy_from_slice.ensures.after, c.copy_from_slice-2.ensures.after, c.sums_numbers.ensures) (ten-behind c.args.four _ _ four refl)
