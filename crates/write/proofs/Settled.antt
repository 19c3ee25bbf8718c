-- What becomes of records that were put together: the refusal of the first fault, 23, or the flow in the room.
use Rattle.std.specs.Prelude.{Option}
use Prim.Native.Nat.{ℕ, ◌+◌, ◌≤◌}
use mathlib.Core.Path.{◌≡◌, ap, ◌∙◌}
use mathlib.Core.Bool.{Bool, true, false}
use mathlib.Core.List.{List, ◌++◌}
use native.Mathlib.Omega.{arith}
use lib.ListN.{length, drop}
use Rattle.text.specs.Placing.{put_at, part_bytes}
use Rattle.text.proofs.Fits.{part-fits, part-written}
use Rattle.rules.specs.State.{start_state}
use Rattle.judge.specs.Flow.{records_of, head_name_of}
use Rattle.judge.specs.Plain.{Whole}
use Rattle.rebalance.specs.Rebalance.{rebalanced, all_fit, flat}
use Rattle.rebalance.proofs.Judged.{length-mended}
use Rattle.lenient.specs.Answers.{Lenient}
use Rattle.lenient.specs.Answers as Kept
use Rattle.lenient.specs.declared.Misfit.{Misfit}
use Rattle.lenient.specs.Lenient.{lenient_from}
use Rattle.write.specs.Answers.{Written, Refused}
use Rattle.write.specs.Settling.{settled_of}

-- A part put at the front of a room.
put_front : (bs r l : List ℕ) → length bs ≤ length r → l ≡ part_bytes 0 bs r → l ≡ bs ++ drop (length bs) r
unfolding put_at
put_front bs r l h e =
    let z : 0 + length bs ≡ length bs = omega arith in
    e ∙ ((part-written 0 bs r (part-fits 0 (length bs) (length r) (omega arith))).1 ∙ ap (λ (n : ℕ). bs ++ drop n r) z)

module _ (flow : List ℕ) (m : Option Misfit) (x : Lenient) (told : x ≡ lenient_from (head_name_of flow) m start_state (records_of flow)) where
  -- A fault is told.
  pub settled-refused : (n r p : ℕ) → x ≡ Kept.Refused n r p → Refused n r p ≡ settled_of flow m
  unfolding settled_of
  settled-refused n r p e = rw (← told, e)

  module _ (e : x ≡ Kept.Passed) (fits : Bool) (weighed : fits ≡ all_fit start_state (records_of flow)) where
    -- Something does not fit.
    pub settled-unfit : fits ≡ false → Refused 23 0 0 ≡ settled_of flow m
    unfolding settled_of
    settled-unfit f = rw (← told, e, ← weighed, f)

    -- All fits, and the flow is written.
    pub settled-written : Whole flow → fits ≡ true → (g : List ℕ) → g ≡ flat (rebalanced start_state (records_of flow)) → Written (length g) ≡ settled_of flow m
    unfolding settled_of
    settled-written w f g i = ap Written (ap length i ∙ length-mended flow w.even start_state) ∙ rw (← told, e, ← weighed, f)

-- It stands at the front of the room, and behind it what was there.
pub settled-room : (flow room g l : List ℕ) → Whole flow → length flow ≤ length room → g ≡ flat (rebalanced start_state (records_of flow)) → l ≡ part_bytes 0 g room → l ≡ flat (rebalanced start_state (records_of flow)) ++ drop (length g) room
settled-room flow room g l w h i e =
    let n : length g ≡ length flow = ap length i ∙ length-mended flow w.even start_state in
    put_front g room l (omega arith) e ∙ ap (λ (x : List ℕ). x ++ drop (length g) room) i
