-- Walks over the parts of a sheet, one behind the other: where the first ends the second begins, and what both write stands together.
use Prim.Native.Nat.{ℕ, suc, ◌+◌, ◌*◌, ◌≤◌, ◌<◌}
use mathlib.Core.Path.{◌≡◌, refl, sym, ap, subst, ◌∙◌}
use mathlib.Core.List.{List, [], ◌∷◌, ◌++◌, append_assoc, append-nil, map-append}
use native.Mathlib.Omega.{arith}
use lib.ListN.{length, take, drop, length-append}
use Rattle.rebalance.specs.Rebalance.{flat}
use Rattle.rebalance.proofs.Flat.{flat_append}
use Rattle.std.specs.Prelude.{Option}
use Rattle.lenient.specs.declared.Misfit.{Misfit}
use Rattle.sheet.specs.declared.Spot.{Spot}
use Rattle.sheet.specs.Answers.{Walked}
use Rattle.sheet.specs.Answers as Way
use Rattle.sheet.specs.Slots.{slot_fault}
use Rattle.sheet.specs.Sheet.{Entry, Reading, NoSheet, Read, before, and_then}
use Rattle.sheet.specs.Filled.{filled, filled_all}
use Rattle.sheet.specs.Walk.{or_misfit, misfit_from, beyond_by, Here, Enters, Reaches, Follows}

-- The first misfit of more records, behind those of which it is known.
pub misfit-append : (name : List ℕ) (n : ℕ) (es fs : List Entry) (m : Option Misfit) → misfit_from name n (es ++ fs) m ≡ misfit_from name (n + length es) fs (misfit_from name n es m)
unfolding misfit_from
misfit-append name n [] fs m = ap (λ (k : ℕ). misfit_from name k fs m) (let e : n ≡ n + 0 = omega arith in e)
misfit-append name n (e ∷ es) fs m =
    misfit-append name (n + 1) es fs (or_misfit m (n + 1) (slot_fault e.slot (filled name e)))
    ∙ ap (λ (k : ℕ). misfit_from name k fs (misfit_from name (n + 1) es (or_misfit m (n + 1) (slot_fault e.slot (filled name e))))) (let q : n + 1 + length es ≡ n + suc (length es) = omega arith in q)

-- The bytes of more records, behind those of the first.
pub filled-append : (name : List ℕ) (es fs : List Entry) → flat (filled_all name (es ++ fs)) ≡ flat (filled_all name es) ++ flat (filled_all name fs)
unfolding filled_all
filled-append name es fs = rw map-append (flat_append (filled_all name es) (filled_all name fs))

module _ (sheet name : List ℕ) where
  -- At the spot itself nothing lies between.
  pub reaches-none : (a : Spot) (flow : List ℕ) → a.at ≤ length sheet → Reaches sheet name a flow [] (drop a.at sheet) a flow
  unfolding misfit_from flat filled_all
  reaches-none a flow h =
      record {
        within = h;
        left = refl;
        counts = omega arith;
        few = omega arith;
        misfits = refl;
        room = refl;
        written = λ k. sym (append-nil (take (a.count * 120) flow));
      }

  -- One walk and then another.
  pub reaches_then : (a : Spot) (f : List ℕ) (es : List Entry) (r : List ℕ) (b : Spot) (g : List ℕ) (fs : List Entry) (q : List ℕ) (c : Spot) (h : List ℕ) → Reaches sheet name a f es r b g → Reaches sheet name b g fs q c h → Reaches sheet name a f (es ++ fs) q c h
  reaches_then a f es r b g fs q c h x y =
      let n : c.count ≡ b.count + length fs = y.counts in
      let m : b.count ≡ a.count + length es = x.counts in
      let v : b.count + a.at ≤ a.count + b.at = x.few in
      let w : c.count + b.at ≤ b.count + c.at = y.few in
      record {
        within = y.within;
        left = y.left;
        counts = n ∙ rw (m, length-append es fs) (omega arith);
        few = omega arith;
        misfits = y.misfits ∙ (rw (x.misfits, m) (sym (misfit-append name a.count es fs a.misfit)));
        room = y.room ∙ x.room;
        written = λ k. y.written k ∙ (ap (λ (l : List ℕ). l ++ flat (filled_all name fs)) (x.written (omega arith)) ∙ (append_assoc (take (a.count * 120) f) (flat (filled_all name es)) (flat (filled_all name fs)) ∙ ap (λ (l : List ℕ). take (a.count * 120) f ++ l) (sym (filled-append name es fs))));
      }

  -- A walk that began some bytes further on, and then one record that is entered.
  pub reaches-entered : (a : Spot) (n : ℕ) (f : List ℕ) (es : List Entry) (r : List ℕ) (b : Spot) (g : List ℕ) (e : Entry) (c : Spot) (h : List ℕ) → 0 < n → Reaches sheet name (beyond_by a n) f es r b g → Enters name b g e c h → Reaches sheet name a f (es ++ (e ∷ [])) r c h
  unfolding misfit_from flat filled_all
  reaches-entered a n f es r b g e c h p x y =
      let m : b.count ≡ a.count + length es = x.counts in
      let k : c.count ≡ b.count + 1 = y.counts in
      let s : c.at ≡ b.at = y.stays in
      let v : b.count + (a.at + n) ≤ a.count + b.at = x.few in
      record {
        within = rw s x.within;
        left = ap (λ (i : ℕ). drop i sheet) s ∙ x.left;
        counts = k ∙ rw (m, length-append es (e ∷ [])) (omega arith);
        few = omega arith;
        misfits = y.misfits ∙ (rw (x.misfits, m) (sym (misfit-append name a.count es (e ∷ []) a.misfit)));
        room = y.room ∙ x.room;
        written = λ i. y.written i ∙ (ap (λ (l : List ℕ). l ++ filled name e) (x.written (omega arith)) ∙ (append_assoc (take (a.count * 120) f) (flat (filled_all name es)) (filled name e) ∙ ap (λ (l : List ℕ). take (a.count * 120) f ++ l) (ap (λ (l : List ℕ). flat (filled_all name es) ++ l) (sym (append-nil (filled name e))) ∙ sym (filled-append name es (e ∷ [])))));
      }

  -- A walk from a spot that lies some bytes further on.
  reaches-moved : (a : Spot) (n : ℕ) (f : List ℕ) (es : List Entry) (r : List ℕ) (b : Spot) (g : List ℕ) → Reaches sheet name (beyond_by a n) f es r b g → Reaches sheet name a f es r b g
  reaches-moved a n f es r b g x =
      let v : b.count + (a.at + n) ≤ a.count + b.at = x.few in
      record { within = x.within; left = x.left; counts = x.counts; few = omega arith; misfits = x.misfits; room = x.room; written = x.written }

  pub follows-moved : (a : Spot) (n : ℕ) (f : List ℕ) (R : Reading) (w : Walked) (g : List ℕ) → Follows sheet name (beyond_by a n) f R w g → Follows sheet name a f R w g
  follows-moved a n f NoSheet Way.NoSheet g x = x
  follows-moved a n f NoSheet (Way.To b) g x = x
  follows-moved a n f (Read es r) Way.NoSheet g x = x
  follows-moved a n f (Read es r) (Way.To b) g x = reaches-moved a n f es r b g x

  -- What follows behind some records follows from before them.
  follows-behind : (a : Spot) (f : List ℕ) (es : List Entry) (r : List ℕ) (b : Spot) (g : List ℕ) → Reaches sheet name a f es r b g → (S : Reading) (w : Walked) (h : List ℕ) → Follows sheet name b g S w h → Follows sheet name a f (before es S) w h
  follows-behind a f es r b g x NoSheet Way.NoSheet h y = y ∙ x.room
  follows-behind a f es r b g x NoSheet (Way.To c) h y = y
  follows-behind a f es r b g x (Read fs q) Way.NoSheet h y = y
  follows-behind a f es r b g x (Read fs q) (Way.To c) h y = reaches_then a f es r b g fs q c h x y

  -- One part and then another.
  pub follows_then : (a : Spot) (f : List ℕ) (R : Reading) (b : Spot) (g : List ℕ) (S : List ℕ → Reading) (w : Walked) (h : List ℕ) → Follows sheet name a f R (Way.To b) g → Follows sheet name b g (S (drop b.at sheet)) w h → Follows sheet name a f (and_then R S) w h
  follows_then a f NoSheet b g S w h x y = absurd x
  follows_then a f (Read es r) b g S w h x y = follows-behind a f es r b g x (S r) w h (subst (λ (l : List ℕ). Follows sheet name b g (S l) w h) x.left y)

  -- No sheet in a part is no sheet in the whole.
  pub follows-stop : (a : Spot) (f : List ℕ) (R : Reading) (g : List ℕ) (S : List ℕ → Reading) → Follows sheet name a f R Way.NoSheet g → Follows sheet name a f (and_then R S) Way.NoSheet g
  follows-stop a f NoSheet g S x = x
  follows-stop a f (Read es r) g S x = absurd x

  -- Whatever follows from one spot with what is left to be read follows from another with the whole.
  abbrev pub Leads : Spot → List ℕ → Reading → Spot → List ℕ → Reading → Type 0
  Leads a f R b g S = (w : Walked) (h : List ℕ) → Follows sheet name b g S w h → Follows sheet name a f R w h

  pub leads-then : (a : Spot) (f : List ℕ) (R : Reading) (b : Spot) (g : List ℕ) (S : Reading) (T : List ℕ → Reading) (c : Spot) (h : List ℕ) → Leads a f R b g (and_then S T) → Follows sheet name b g S (Way.To c) h → Leads a f R c h (T (drop c.at sheet))
  leads-then a f R b g S T c h x y w i z = x w i (follows_then b g S c h T w i y z)

  pub leads-stop : (a : Spot) (f : List ℕ) (R : Reading) (b : Spot) (g : List ℕ) (S : Reading) (T : List ℕ → Reading) (h : List ℕ) → Leads a f R b g (and_then S T) → Follows sheet name b g S Way.NoSheet h → Follows sheet name a f R Way.NoSheet h
  leads-stop a f R b g S T h x y = x Way.NoSheet h (follows-stop b g S h T y)

  -- The spot behind a part lies within the sheet too, and the flow keeps its room.
  pub here-after : (a : Spot) (f : List ℕ) (R : Reading) (b : Spot) (g : List ℕ) → Here sheet a f → Follows sheet name a f R (Way.To b) g → Here sheet b g
  here-after a f NoSheet b g h x = absurd x
  here-after a f (Read es r) b g h x =
      let v : b.count + a.at ≤ a.count + b.at = x.few in
      let u : a.count ≤ a.at = h.few in
      record { within = x.within; few = omega arith; room = x.room ∙ h.room }

-- Whatever a walk answers, the flow keeps its room.
follows-room : (sheet name : List ℕ) (a : Spot) (f : List ℕ) (R : Reading) (w : Walked) (g : List ℕ) → Follows sheet name a f R w g → length g ≡ length f
follows-room sheet name a f NoSheet Way.NoSheet g x = x
follows-room sheet name a f NoSheet (Way.To b) g x = absurd x
follows-room sheet name a f (Read es r) Way.NoSheet g x = absurd x
follows-room sheet name a f (Read es r) (Way.To b) g x = x.room

-- A walk is under way: at a spot within the sheet, from which what is left to be read gives what the whole does.
pub record Going (sheet name : List ℕ) (a : Spot) (f : List ℕ) (R : Reading) (b : Spot) (g : List ℕ) (S : Reading) : Type 0 where
  pub here : Here sheet b g
  pub leads : Leads sheet name a f R b g S

module _ (sheet name : List ℕ) (a : Spot) (f : List ℕ) (R : Reading) where
  -- At its start all is left.
  pub going_start : Here sheet a f → Going sheet name a f R a f R
  going_start h = record { here = h; leads = λ w i z. z }

  module _ (b : Spot) (g : List ℕ) where
    -- What is left may be said otherwise.
    pub going-by : (S T : Reading) → S ≡ T → Going sheet name a f R b g S → Going sheet name a f R b g T
    going-by S T e x = subst (λ (U : Reading). Going sheet name a f R b g U) e x

    -- A part is read, and the walk goes on behind it.
    pub going-then : (S : Reading) (T : List ℕ → Reading) (w : Walked) (c : Spot) (h : List ℕ) → Going sheet name a f R b g (and_then S T) → Follows sheet name b g S w h → w ≡ Way.To c → Going sheet name a f R c h (T (drop c.at sheet))
    going-then S T w c h x y e =
        let z : Follows sheet name b g S (Way.To c) h = subst (λ (v : Walked). Follows sheet name b g S v h) e y in
        record { here = here-after sheet name b g S c h x.here z; leads = leads-then sheet name a f R b g S T c h x.leads z }

    -- A part cannot be read.
    pub going-stop : (S : Reading) (T : List ℕ → Reading) (w : Walked) (h : List ℕ) → Going sheet name a f R b g (and_then S T) → Follows sheet name b g S w h → w ≡ Way.NoSheet → Follows sheet name a f R Way.NoSheet h
    going-stop S T w h x y e = leads-stop sheet name a f R b g S T h x.leads (subst (λ (v : Walked). Follows sheet name b g S v h) e y)

    -- Nothing is left to be read.
    pub going_end : Going sheet name a f R b g (Read [] (drop b.at sheet)) → Follows sheet name a f R (Way.To b) g
    going_end x = x.leads (Way.To b) g (reaches-none sheet name b g x.here.within)

    -- Whatever the last part gives, the flow keeps its room.
    pub going-room : (S : Reading) (w : Walked) (h : List ℕ) → Going sheet name a f R b g S → Follows sheet name b g S w h → length h ≡ length f
    going-room S w h x y = follows-room sheet name a f R w h (x.leads w h y)
