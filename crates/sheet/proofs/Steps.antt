-- What each part of a sheet comes to: a record, a count with what it counts, the lines of a section with the balance record behind them.
use Prim.Native.Nat.{ℕ, suc, ◌+◌, ◌-◌, ◌^◌, ◌≤◌, ◌<◌}
use mathlib.Core.Path.{◌≡◌, refl, sym, ap, subst, ◌∙◌}
use mathlib.Core.Bool.{Bool, true, false, cond, false≢true}
use mathlib.Core.List.{List, [], ◌∷◌}
use native.Mathlib.Omega.{arith}
use borrow.Author.Tests.{lt-ltb, le-ltb, ltb-false, eq-eqb, ne_eqb}
use lib.Dec.{ltb, lit≤}
use Rattle.std.specs.Result.{IsErr}
use lib.ListN.{length, take, drop, length-drop}
use lib.Seq.{drop-drop, length-take-le}
use Rattle.text.proofs.Numerals.{number-below}
use Rattle.text.specs.Answers.{Digits, Number, NonDigit, TooLong}
use Rattle.text.specs.Numbers.{number_of, amount_of}
use Rattle.layout.specs.declared.Kind.{Kind}
use Rattle.layout.specs.declared.Kind.TheVariants.{Head, Taxpayer, Domicile, Line, Balance, Payment, Tail}
use Rattle.sheet.specs.declared.Spot.{Spot}
use Rattle.sheet.specs.Answers.{Walked}
use Rattle.sheet.specs.Answers as Way
use Rattle.sheet.specs.Slots.{made_balance}
use Rattle.sheet.specs.Sheet.{Entry, entry, Reading, NoSheet, Read, and_then, of_count, one_record, counted, lines_from, one_section, sections_from, one_delega, deleghe_from, at_end, sheet_of}
use Rattle.sheet.specs.Walk.{count_at, start_spot, beyond_by, Here, Enters, Reaches, Follows}
use Rattle.sheet.proofs.Walks.{Going, reaches-none, reaches-entered, follows-moved, follows_then, follows-stop, here-after}

-- A count and what it counts, by what the count says.
counted-by : (w : ℕ) (s : List ℕ) (R : ℕ → List ℕ → Reading) → counted w s R ≡ of_count (count_at w s) (λ n. R n (drop w s))
unfolding count_at counted
counted-by w s R = go (ltb (length s) w)
  where
    go : (t : Bool) → cond t NoSheet (of_count (number_of (take w s)) (λ n. R n (drop w s))) ≡ of_count (cond t TooLong (number_of (take w s))) (λ n. R n (drop w s))
    go true = refl
    go false = refl

no-count : (q : Digits) → IsErr q → (R : ℕ → Reading) → of_count q R ≡ NoSheet
no-count (Number n) t R = absurd (false≢true t)
no-count (NonDigit i) t R = refl
no-count TooLong t R = refl

module _ (sheet name : List ℕ) (a : Spot) (f : List ℕ) where
  -- Fewer than 120 bytes are left.
  pub record-missing : (k : Kind) (d : ℕ) → length sheet - a.at < 120 → Follows sheet name a f (one_record k d (drop a.at sheet)) Way.NoSheet f
  unfolding one_record
  record-missing k d h = rw (lt-ltb (length (drop a.at sheet)) 120 (rw length-drop h)) refl

  -- A record of 120 bytes is entered.
  pub record-entered : (k : Kind) (d : ℕ) (r : List ℕ) (b : Spot) (g : List ℕ) → a.at + 120 ≤ length sheet → r ≡ take 120 (drop a.at sheet) → Enters name (beyond_by a 120) f (entry k d r) b g → Follows sheet name a f (one_record k d (drop a.at sheet)) (Way.To b) g
  unfolding one_record
  record-entered k d r b g h e x =
      rw (le-ltb (length (drop a.at sheet)) 120 (rw length-drop (omega arith)), ← e, drop-drop 120 a.at sheet)
      (reaches-entered sheet name a 120 f [] (drop (a.at + 120) sheet) (beyond_by a 120) f (entry k d r) b g (lit≤ tt) (reaches-none sheet name (beyond_by a 120) f h) x)

  -- A count that is a number is followed by what it counts.
  pub counts : (w n : ℕ) (R : ℕ → List ℕ → Reading) (q : Digits) (x : Walked) (g : List ℕ) → q ≡ count_at w (drop a.at sheet) → q ≡ Number n → Follows sheet name (beyond_by a w) f (R n (drop (a.at + w) sheet)) x g → Follows sheet name a f (counted w (drop a.at sheet) R) x g
  counts w n R q x g e i y = rw (counted-by w (drop a.at sheet) R, ← e, i, drop-drop w a.at sheet) (follows-moved sheet name a w f (R n (drop (a.at + w) sheet)) x g y)

  -- Anything else is no sheet.
  pub counts-none : (w : ℕ) (R : ℕ → List ℕ → Reading) (q : Digits) → q ≡ count_at w (drop a.at sheet) → IsErr q → Follows sheet name a f (counted w (drop a.at sheet) R) Way.NoSheet f
  counts-none w R q e t = rw (counted-by w (drop a.at sheet) R, ← e, no-count q t (λ n. R n (drop w (drop a.at sheet)))) refl

-- The lines that are left are the next one and those behind it.
pub lines-on : (x d n k : ℕ) (s : List ℕ) → k < n → lines_from x d (n - k) s ≡ and_then (one_record (Line x) d s) (lines_from x d (n - (k + 1)))
unfolding lines_from
lines-on x d n k s h = let e : n - k ≡ suc (n - (k + 1)) = omega arith in rw e

pub lines_end : (x d n k : ℕ) (s : List ℕ) → n ≤ k → lines_from x d (n - k) s ≡ Read [] s
unfolding lines_from
lines_end x d n k s h = let e : n - k ≡ 0 = omega arith in rw e

-- So with the sections,
pub sections-on : (d n x : ℕ) (s : List ℕ) → x < n → sections_from d (n - x) x s ≡ and_then (counted 2 s (one_section x d)) (sections_from d (n - (x + 1)) (x + 1))
unfolding sections_from
sections-on d n x s h = let e : n - x ≡ suc (n - (x + 1)) = omega arith in rw e

pub sections-end : (d n x : ℕ) (s : List ℕ) → n ≤ x → sections_from d (n - x) x s ≡ Read [] s
unfolding sections_from
sections-end d n x s h = let e : n - x ≡ 0 = omega arith in rw e

-- and with the deleghe.
pub deleghe-on : (n d : ℕ) (s : List ℕ) → d < n → deleghe_from (n - d) (d + 1) s ≡ and_then (one_delega (d + 1) s) (deleghe_from (n - (d + 1)) (d + 1 + 1))
unfolding deleghe_from
deleghe-on n d s h = let e : n - d ≡ suc (n - (d + 1)) = omega arith in rw e

pub deleghe-end : (n d : ℕ) (s : List ℕ) → n ≤ d → deleghe_from (n - d) (d + 1) s ≡ Read [] s
unfolding deleghe_from
deleghe-end n d s h = let e : n - d ≡ 0 = omega arith in rw e

abbrev is_number : Digits → Bool
is_number (Number n) = true
is_number (NonDigit i) = false
is_number TooLong = false

-- A count that is a number lies within the sheet.
count-within : (w n : ℕ) (s : List ℕ) → Number n ≡ count_at w s → w ≤ length s
unfolding count_at
count-within w n s e = go (ltb (length s) w) refl e
  where
    go : (t : Bool) → ltb (length s) w ≡ t → Number n ≡ cond t TooLong (number_of (take w s)) → w ≤ length s
    go true p q = absurd (false≢true (sym (ap is_number q)))
    go false p q = ltb-false (length s) w p

-- It has no more digits than it is wide.
pub count_small : (w n : ℕ) (s : List ℕ) (q : Digits) → q ≡ count_at w s → q ≡ Number n → n < 10 ^ w
unfolding count_at
count_small w n s q e i = go (ltb (length s) w) refl (sym i ∙ e)
  where
    go : (t : Bool) → ltb (length s) w ≡ t → Number n ≡ cond t TooLong (number_of (take w s)) → n < 10 ^ w
    go true p j = absurd (false≢true (sym (ap is_number j)))
    go false p j = subst (λ (d : Digits). amount_of d < 10 ^ w) (sym j) (number-below w (take w s) (length-take-le w s (ltb-false (length s) w p)))

module _ (sheet name : List ℕ) (a : Spot) (f : List ℕ) (h : Here sheet a f) where
  -- Behind a count the sheet goes on.
  pub here-counted : (w n : ℕ) (b : Spot) (q : Digits) → q ≡ count_at w (drop a.at sheet) → q ≡ Number n → b ≡ beyond_by a w → Here sheet b f
  here-counted w n b q e i j =
      let u : a.count ≤ a.at = h.few in
      let v : a.at ≤ length sheet = h.within in
      let k : w ≤ length sheet - a.at = rw length-drop at (count-within w n (drop a.at sheet) (sym i ∙ e)) in
      rw j (record { within = omega arith; few = omega arith; room = h.room })

  -- Behind the lines of a section there is room for one record more.
  slack : (n : ℕ) (R : Reading) (b : Spot) (g : List ℕ) → 0 < n → Follows sheet name (beyond_by a n) f R (Way.To b) g → (b.count < b.at) × (length g ≡ 65520)
  slack n NoSheet b g p x = absurd x
  slack n (Read es r) b g p x =
      let u : a.count ≤ a.at = h.few in
      let v : b.count + (a.at + n) ≤ a.count + b.at = x.few in
      (omega arith, x.room ∙ h.room)

  pub end-slack : (n : ℕ) (R : Reading) (w : Walked) (b : Spot) (g : List ℕ) → 0 < n → Follows sheet name (beyond_by a n) f R w g → w ≡ Way.To b → (b.count < b.at) × (length g ≡ 65520)
  end-slack n R w b g p x e = slack n R b g p (subst (λ (v : Walked). Follows sheet name (beyond_by a n) f R v g) e x)

module _ (sheet name : List ℕ) (a : Spot) (f : List ℕ) where
  -- A record that is made stands behind those that were read, some bytes further on.
  made-behind : (n : ℕ) (R : Reading) (b : Spot) (g : List ℕ) (e : Entry) (c : Spot) (h : List ℕ) → 0 < n → Follows sheet name (beyond_by a n) f R (Way.To b) g → Enters name b g e c h → Follows sheet name a f (and_then R (Read (e ∷ []))) (Way.To c) h
  made-behind n NoSheet b g e c h p x y = absurd x
  made-behind n (Read es r) b g e c h p x y = reaches-entered sheet name a n f es r b g e c h p x y

  module _ (x d n : ℕ) (q : Digits) (e : q ≡ count_at 2 (drop a.at sheet)) (i : q ≡ Number n) where
    -- The lines of a section cannot be read.
    pub section-stops : (w : Walked) (g : List ℕ) → Follows sheet name (beyond_by a 2) f (lines_from x d n (drop (a.at + 2) sheet)) w g → w ≡ Way.NoSheet → Follows sheet name a f (counted 2 (drop a.at sheet) (one_section x d)) Way.NoSheet g
    unfolding one_section
    section-stops w g y j = counts sheet name a f 2 n (one_section x d) q Way.NoSheet g e i (follows-stop sheet name (beyond_by a 2) f (lines_from x d n (drop (a.at + 2) sheet)) g _ (subst (λ (v : Walked). Follows sheet name (beyond_by a 2) f (lines_from x d n (drop (a.at + 2) sheet)) v g) j y))

    module _ (w : Walked) (b : Spot) (g : List ℕ) (y : Follows sheet name (beyond_by a 2) f (lines_from x d n (drop (a.at + 2) sheet)) w g) (j : w ≡ Way.To b) where
      told : Follows sheet name (beyond_by a 2) f (lines_from x d n (drop (a.at + 2) sheet)) (Way.To b) g
      told = subst (λ (v : Walked). Follows sheet name (beyond_by a 2) f (lines_from x d n (drop (a.at + 2) sheet)) v g) j y

      -- A section without lines has no balance record.
      pub section-empty : Here sheet (beyond_by a 2) f → n ≡ 0 → Follows sheet name a f (counted 2 (drop a.at sheet) (one_section x d)) (Way.To b) g
      unfolding one_section
      section-empty h z =
          counts sheet name a f 2 n (one_section x d) q (Way.To b) g e i
          (follows_then sheet name (beyond_by a 2) f (lines_from x d n (drop (a.at + 2) sheet)) b g _ (Way.To b) g told
          (rw (eq-eqb n 0 z) (reaches-none sheet name b g (here-after sheet name (beyond_by a 2) f (lines_from x d n (drop (a.at + 2) sheet)) b g h told).within)))

      -- Behind the lines of any other stands the balance record that is made.
      pub section-made : (r : List ℕ) (c : Spot) (h : List ℕ) → (n ≡ 0 → ⊥) → r ≡ made_balance x → Enters name b g (entry (Balance x) d r) c h → Follows sheet name a f (counted 2 (drop a.at sheet) (one_section x d)) (Way.To c) h
      unfolding one_section
      section-made r c h z k y =
          rw (counted-by 2 (drop a.at sheet) (one_section x d), ← e, i, drop-drop 2 a.at sheet, ne_eqb n 0 z)
          (made-behind 2 (lines_from x d n (drop (a.at + 2) sheet)) b g (entry (Balance x) d (made_balance x)) c h (lit≤ tt) told (rw k at y))

-- What stands in a delega behind its record 10, and behind its record 20.
abbrev pub after_twenty : ℕ → List ℕ → Reading
after_twenty d s = and_then (sections_from d 5 0 s) (one_record Payment d)

abbrev pub after_ten : ℕ → List ℕ → Reading
after_ten d s = and_then (one_record Domicile d s) (after_twenty d)

pub delega-parts : (d : ℕ) (s : List ℕ) → one_delega d s ≡ and_then (one_record Taxpayer d s) (after_ten d)
unfolding one_delega
delega-parts d s = refl

-- What stands in a sheet behind its head, and behind its deleghe.
abbrev pub after_deleghe : List ℕ → Reading
after_deleghe s = and_then (one_record Tail 0 s) at_end

abbrev pub after_head : List ℕ → Reading
after_head s = and_then (counted 3 s (λ n. deleghe_from n 1)) after_deleghe

pub sheet-parts : (s : List ℕ) → sheet_of s ≡ and_then (one_record Head 0 s) after_head
unfolding sheet_of
sheet-parts s = refl

module _ (sheet name : List ℕ) (a : Spot) (f : List ℕ) (R : Reading) (b : Spot) (g : List ℕ) (x : Going sheet name a f R b g (at_end (drop b.at sheet))) where
  -- Nothing is left of the sheet behind EF,
  pub sheet-ends : b.at ≡ length sheet → Follows sheet name a f R (Way.To b) g
  unfolding at_end
  sheet-ends e =
      let n : length (drop b.at sheet) ≡ 0 = rw length-drop (omega arith) in
      x.leads (Way.To b) g (rw (eq-eqb _ 0 n) (subst (λ (l : List ℕ). Reaches sheet name b g [] l b g) (no_bytes (drop b.at sheet) n) (reaches-none sheet name b g x.here.within)))
    where
      no_bytes : (l : List ℕ) → length l ≡ 0 → l ≡ []
      no_bytes [] h = refl
      no_bytes (y ∷ l) h = absurd (omega arith)

  -- or something is.
  pub sheet-goes-on : (b.at ≡ length sheet → ⊥) → Follows sheet name a f R Way.NoSheet g
  unfolding at_end
  sheet-goes-on e =
      let v : b.at ≤ length sheet = x.here.within in
      x.leads Way.NoSheet g (rw (ne_eqb (length (drop b.at sheet)) 0 (λ z. e (let m : length sheet - b.at ≡ 0 = rw length-drop at z in omega arith))) refl)

-- The start lies within every sheet.
pub here-start : (sheet f : List ℕ) (b : Spot) → length f ≡ 65520 → b ≡ start_spot → Here sheet b f
here-start sheet f b h e = rw e (record { within = omega arith; few = omega arith; room = h })
