-- Serves inner functions. One step of printing, which puts a text behind what is printed already.
use Rattle.std.specs.Prelude.{ℕ, ◌+◌, ◌≤◌, ◌≡◌, List, length}
use Rattle.text.specs.Placing.{put_at}

-- "One space stands between fields": one step of printing puts t, of at most m bytes, at s of the room r, up to e, and leaves r'
pub record Appended (s : ℕ) (t : List ℕ) (m : ℕ) (r r' : List ℕ) (e : ℕ) : Type 0 where
  pub bytes : r' ≡ put_at s t r
  pub next : e ≡ s + length t
  pub short : length t ≤ m
  pub fits : e ≤ length r
  pub same : length r' ≡ length r
