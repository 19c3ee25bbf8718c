-- What becomes of a flow whose stored values all fit, and of the list: 27, or the flow rebalanced and its changed fields listed.
use Prim.Native.Nat.{ℕ, ◌/◌, ◌<◌, ◌≤◌}
use mathlib.Core.Path.{◌≡◌, refl, ap, ◌∙◌}
use mathlib.Core.Bool.{Bool, true, false}
use mathlib.Core.List.{List}
use native.Mathlib.Omega.{arith}
use borrow.Author.Tests.{lt-ltb, le-ltb}
use lib.ListN.{length, take}
use lib.Seq.{take_at}
use Rattle.text.specs.Placing.{put_at, part_bytes}
use Rattle.text.proofs.Fits.{part-fits, part-written}
use Rattle.text.proofs.Puts.{put_whole}
use Rattle.rules.specs.State.{start_state}
use Rattle.judge.specs.Flow.{records_of}
use Rattle.judge.specs.Plain.{Whole}
use Rattle.rebalance.specs.Rebalance.{rebalanced, all_fit, flat, refreshed}
use Rattle.rebalance.proofs.Judged.{length-mended}
use Rattle.changes.specs.Changes.{Place, changed_from, changes_of}
use Rattle.changes.specs.Inner.{put_places, Beside}
use Rattle.changes.proofs.Placed.{places-listed}
use Rattle.mend.specs.Answers.{Mending, Mended, Refused}
use Rattle.mend.specs.Mending.{listed_in, weighed, flow_by, list_by}
use Rattle.mend.specs.Inner.{Copied}

-- The answer for a flow whose values fit, the flow and the list afterwards.
abbrev pub Replacing : List ℕ → List ℕ → Mending → List ℕ → List ℕ → Type 0
Replacing flow list m out l = (m ≡ listed_in (length list) (length (changes_of flow))) × (out ≡ flow_by m (refreshed flow) flow) × (l ≡ list_by m (changes_of flow) list)

-- A flow, its copy, and what the copy is once it is rebalanced.
module _ (flow copy : List ℕ) (w : Copied flow copy) (new : List ℕ) (en : new ≡ flat (rebalanced start_state (records_of copy))) where
  new_is : new ≡ refreshed flow
  unfolding refreshed
  new_is = en ∙ ap (λ (s : List ℕ). flat (rebalanced start_state (records_of s))) w.same

  long : length new ≡ length flow
  unfolding refreshed
  long = ap length new_is ∙ length-mended flow w.whole.even start_state

  -- It has the length of the flow.
  pub beside : Beside flow new
  beside = record { whole = w.whole; as_long = long }

  changes-are : changed_from 0 (records_of flow) (records_of new) ≡ changes_of flow
  unfolding changes_of
  changes-are = ap (λ (s : List ℕ). changed_from 0 (records_of flow) (records_of s)) new_is

  -- The fields that changed are counted.
  module _ (list : List ℕ) (count : ℕ) (ec : count ≡ length (changed_from 0 (records_of flow) (records_of new))) where
    counted : count ≡ length (changes_of flow)
    counted = ec ∙ ap length changes-are

    -- The list is too short.
    pub list-short : length list / 2 < count → Replacing flow list (Refused 27 0 0) flow list
    list-short h = (rw (← counted, lt-ltb _ _ h), refl, refl)

    -- It is long enough: the list and the flow are written.
    pub list-long : count ≤ length list / 2 → (out l : List ℕ) → l ≡ put_places 0 (changed_from 0 (records_of flow) (records_of new)) list → out ≡ part_bytes 0 new flow → Replacing flow list (Mended count) out l
    list-long h out l el eo =
        let f = (part-written 0 new flow (part-fits 0 (length new) (length flow) (omega (arith, long)))).1 in
        (rw (← counted, le-ltb _ _ h), eo ∙ (f ∙ (put_whole new flow long ∙ new_is)), el ∙ (ap (λ (ps : List Place). put_places 0 ps list) changes-are ∙ places-listed (changes_of flow) list (omega (arith, counted))))

-- 23 comes before it.
module _ (flow : List ℕ) (fits : Bool) (ef : fits ≡ all_fit start_state (records_of flow)) (list : List ℕ) where
  -- The answer for a flow of whole records.
  abbrev pub Weighing : Mending → List ℕ → List ℕ → Type 0
  Weighing m out l = (m ≡ weighed (length list) flow) × (out ≡ flow_by m (refreshed flow) flow) × (l ≡ list_by m (changes_of flow) list)

  pub weigh-unfit : fits ≡ false → Weighing (Refused 23 0 0) flow list
  unfolding weighed
  weigh-unfit e = (rw (← ef, e), refl, refl)

  pub weigh-fits : fits ≡ true → (m : Mending) (out l : List ℕ) → Replacing flow list m out l → Weighing m out l
  unfolding weighed
  weigh-fits e m out l r = (rw (← ef, e) r.0, r.1, r.2)

-- The copy that is rebalanced is the flow's.
pub copied : (flow : List ℕ) (fits : Bool) → fits ≡ all_fit start_state (records_of flow) → Whole flow → fits ≡ true → (copy : List ℕ) → copy ≡ flow → Copied flow copy
copied flow fits ef w e copy c = record { whole = w; fits = rw (← ef) e; same = c }

-- A flow that is copied into longer room is there at its front.
pub copy_is : (flow room l : List ℕ) → Whole flow → l ≡ part_bytes 0 flow room → 65520 ≤ length room → take (length flow) l ≡ flow
unfolding put_at
copy_is flow room l w e h = ap (take (length flow)) (e ∙ (part-written 0 flow room (part-fits 0 (length flow) (length room) (omega (arith, w.short)))).1) ∙ take_at flow _ (length flow) refl
