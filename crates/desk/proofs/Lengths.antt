-- Laws of the length that a header says, by whether the header has room for it.
use Prim.Native.Nat.{ℕ, ◌+◌, ◌-◌, ◌<◌, ◌≤◌}
use mathlib.Core.Path.{◌≡◌}
use mathlib.Core.List.{List}
use native.Mathlib.Omega.{arith}
use borrow.Author.Tests.{lt-ltb, le-ltb}
use lib.ListN.{length, take, drop}
use Rattle.desk.specs.Header.{size_of, length_in}

module _ (head : List ℕ) where
  pub length-missing : length head < 7 → length_in head ≡ 99999
  unfolding length_in
  length-missing h = rw (lt-ltb (length head) 7 h)

  -- the six digits as the code takes them: from an index to six behind it
  pub length-read : 7 ≤ length head → length_in head ≡ size_of (take ((length head - 7 + 6) - (length head - 7)) (drop (length head - 7) head))
  unfolding length_in
  length-read h =
      let six : (length head - 7 + 6) - (length head - 7) ≡ 6 = omega arith in
      rw (le-ltb (length head) 7 h, six)
