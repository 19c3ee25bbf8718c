-- Laws of a whole text in a room: a step of printing from the start of a long room is a print, and a short room stays.
use Prim.Native.Nat.{ℕ, ◌≤◌, ◌<◌}
use mathlib.Core.Path.{◌≡◌, refl, sym}
use mathlib.Core.List.{List}
use native.Mathlib.Omega.{arith}
use borrow.Author.Tests.{le-leb, lt-leb}
use lib.ListN.{length, take}
use lib.Seq.{length-take-le}
use Rattle.text.specs.Placing.{put_at}
use Rattle.text.proofs.Puts.{put-here}
use Rattle.judge.specs.Refusal.{Verdict, Accepted, Refused, judged_first}
use Rattle.report.specs.Printed.{refused_text, printed_bytes, printed_size, Printed}
use Rattle.report.specs.Appended.{Appended}

-- A step of at most 512 bytes from the start of a room of 512 bytes or more is a print.
pub printed-all : {t : List ℕ} {m : ℕ} {r r' : List ℕ} {e : ℕ} → 512 ≤ length r → m ≤ 512 → Appended 0 t m r r' e → Printed t r r' e
unfolding printed_bytes printed_size
printed-all {r = r} {r'} {e} h l a =
    let w : e ≤ length r' = omega arith in
    record {
      bytes = rw (le-leb 512 (length r) h) a.bytes;
      size = rw (le-leb 512 (length r) h) (omega arith);
      short = omega arith;
      within = w;
      counts = sym (length-take-le e r' w);
    }

-- A room of fewer than 512 bytes is left as it came.
pub printed-none : {t r : List ℕ} → length r < 512 → Printed t r r 0
unfolding printed_bytes printed_size
printed-none {r = r} h =
    record {
      bytes = rw (lt-leb 512 (length r) h);
      size = rw (lt-leb 512 (length r) h);
      short = omega arith;
      within = omega arith;
      counts = refl;
    }

-- What stands at the start of a room of 512 bytes or more, as far as the answer says, is the text.
pub printed-shows : {t r r' : List ℕ} {n : ℕ} → 512 ≤ length r → Printed t r r' n → take n r' ≡ t
unfolding printed_bytes printed_size
printed-shows {t} {r} {r'} {n} h p =
    let b : r' ≡ put_at 0 t r = rw (le-leb 512 (length r) h) at p.bytes in
    let s : n ≡ length t = rw (le-leb 512 (length r) h) at p.size in
    rw b (put-here 0 t r (omega arith) n s)

module _ (v : Verdict) (t : List ℕ) where
  -- An answer that is no refusal prints its own text.
  pub accepted-text : v ≡ Accepted → judged_first refused_text v t ≡ t
  accepted-text e = rw e

  -- A refusal prints its own.
  pub refused-text : {n r p : ℕ} → v ≡ Refused n r p → judged_first refused_text v t ≡ refused_text n r p
  refused-text e = rw e
