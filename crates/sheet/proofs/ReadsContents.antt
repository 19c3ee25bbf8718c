-- Bytes that say contents are read: 24 is refused exactly where they say none.
use Prim.Native.Nat.{ℕ, ◌+◌, ◌^◌, ◌<◌}
use mathlib.Core.Path.{◌≡◌, refl, sym, ap, ◌∙◌}
use mathlib.Core.Bool.{cond}
use mathlib.Core.List.{List, [], ◌∷◌, ◌++◌, map, append_assoc, append-nil}
use mathlib.Core.Logic.{◌↔◌}
use native.Mathlib.Omega.{arith}
use borrow.Author.Tests.{le-ltb}
use lib.Dec.{eqb}
use lib.ListN.{length, length-append}
use lib.Seq.{take_at, drop_at}
use Rattle.text.specs.Numbers.{digits_of}
use Rattle.text.proofs.Numerals.{number_digits, length_digits}
use Rattle.layout.specs.declared.Kind.{Kind}
use Rattle.layout.specs.declared.Kind.TheVariants.{Head, Taxpayer, Domicile, Line, Balance, Payment, Tail}
use Rattle.rebalance.specs.Rebalance.{flat, Sized}
use Rattle.sheet.specs.Slots.{made_balance}
use Rattle.sheet.specs.Sheet.{Entry, entry, Reading, NoSheet, Read, and_then, one_record, counted, lines_from, one_section, sections_from, one_delega, deleghe_from, at_end, sheet_of}
use Rattle.sheet.specs.Contents.{Delega, Contents, sections_text, delega_text, deleghe_text, sheet_text, sections_entries, delega_entries, deleghe_entries, entries_of, All, SectionKeyed, DelegaKeyed, Keyed, IsSheet}
use Rattle.sheet.proofs.SaidBySheet.{sheet-said}

-- A part that is read, and one behind it.
then-reads : {f : Reading} (g : List ℕ → Reading) {xs ys : List Entry} {m rest : List ℕ} → f ≡ Read xs m → g m ≡ Read ys rest → and_then f g ≡ Read (xs ++ ys) rest
then-reads g p q = rw (p, q)

-- A record of 120 bytes is read.
record-reads : (k : Kind) (d : ℕ) (r t : List ℕ) → length r ≡ 120 → one_record k d (r ++ t) ≡ Read (entry k d r ∷ []) t
unfolding one_record
record-reads k d r t l = rw (le-ltb (length (r ++ t)) 120 (rw length-append (omega arith)), take_at r t 120 l, drop_at r t 120 l)

-- A count in digits is read.
count-reads : (w n : ℕ) (t : List ℕ) (f : ℕ → List ℕ → Reading) → n < 10 ^ w → counted w (digits_of w n ++ t) f ≡ f n t
unfolding counted
count-reads w n t f h =
    let l = length_digits w n in
    rw (le-ltb (length (digits_of w n ++ t)) w (rw length-append (omega arith)), take_at (digits_of w n) t w l, drop_at (digits_of w n) t w l, number_digits w n h)

-- Lines are read.
lines-read : (x d : ℕ) (rs : List (List ℕ)) (t : List ℕ) → Sized rs → lines_from x d (length rs) (flat rs ++ t) ≡ Read (map (entry (Line x) d) rs) t
unfolding lines_from flat
lines-read x d [] t z = refl
lines-read x d (r ∷ rs) t z = rw append_assoc (then-reads (lines_from x d (length rs)) (record-reads (Line x) d r (flat rs ++ t) z.0) (lines-read x d rs t z.1))

-- Sections are read.
sections-read : (d x : ℕ) (rss : List (List (List ℕ))) (t : List ℕ) → All SectionKeyed rss → sections_from d (length rss) x (sections_text rss ++ t) ≡ Read (sections_entries d x rss) t
unfolding sections_from sections_text sections_entries one_section
sections-read d x [] t k = refl
sections-read d x (rs ∷ rss) t k =
    let tail = sections_text rss ++ t in
    let made : ℕ → List Entry = λ n. cond (eqb n 0) [] (entry (Balance x) d (made_balance x) ∷ []) in
    rw (append_assoc (digits_of 2 (length rs)) (flat rs ++ sections_text rss) t, append_assoc (flat rs) (sections_text rss) t)
    (then-reads (sections_from d (length rss) (x + 1)) (count-reads 2 (length rs) (flat rs ++ tail) (one_section x d) k.0.0 ∙ then-reads (Read (made (length rs))) (lines-read x d rs tail k.0.1) refl) (sections-read d (x + 1) rss t k.1))

-- A delega is read.
delega-reads : (d : ℕ) (g : Delega) (t : List ℕ) → DelegaKeyed g → one_delega d (delega_text g ++ t) ≡ Read (delega_entries d g) t
unfolding one_delega
delega-reads d g t k =
    rw (append_assoc g.ten (g.twenty ++ (sections_text g.sections ++ g.fifty)) t, append_assoc g.twenty (sections_text g.sections ++ g.fifty) t, append_assoc (sections_text g.sections) g.fifty t)
    (then-reads (λ v. and_then (one_record Domicile d v) (λ u. and_then (sections_from d 5 0 u) (one_record Payment d))) (record-reads Taxpayer d g.ten _ k.ten-sized)
    (then-reads (λ u. and_then (sections_from d 5 0 u) (one_record Payment d)) (record-reads Domicile d g.twenty _ k.twenty-sized)
    (then-reads (one_record Payment d) (ap (λ (n : ℕ). sections_from d n 0 (sections_text g.sections ++ (g.fifty ++ t))) (sym k.five) ∙ sections-read d 0 g.sections _ k.each) (record-reads Payment d g.fifty t k.fifty-sized))))

-- Deleghe are read.
deleghe-read : (d : ℕ) (gs : List Delega) (t : List ℕ) → All DelegaKeyed gs → deleghe_from (length gs) d (deleghe_text gs ++ t) ≡ Read (deleghe_entries d gs) t
unfolding deleghe_from deleghe_text deleghe_entries
deleghe-read d [] t k = refl
deleghe-read d (g ∷ gs) t k = rw (append_assoc (delega_text g) (deleghe_text gs) t) (then-reads (deleghe_from (length gs) (d + 1)) (delega-reads d g (deleghe_text gs ++ t) k.0) (deleghe-read (d + 1) gs t k.1))

-- What says contents is read, and gives the records of the contents.
pub contents-read : (c : Contents) → Keyed c → sheet_of (sheet_text c) ≡ Read (entries_of c) []
unfolding sheet_of at_end
contents-read c k =
    then-reads (λ t. and_then (counted 3 t (λ n. deleghe_from n 1)) (λ u. and_then (one_record Tail 0 u) at_end)) (record-reads Head 0 c.first _ k.first-sized)
    (then-reads (λ u. and_then (one_record Tail 0 u) at_end) (count-reads 3 (length c.deleghe) _ (λ n. deleghe_from n 1) k.few ∙ deleghe-read 1 c.deleghe c.last k.all) (then-reads at_end (ap (one_record Tail 0) (sym (append-nil c.last)) ∙ record-reads Tail 0 c.last [] k.last-sized) refl))

-- Bytes are refused as no sheet exactly where they are none.
pub no-sheet-exactly : (s : List ℕ) → (sheet_of s ≡ NoSheet) ↔ (IsSheet s → ⊥)
no-sheet-exactly s = (λ e i. apart (sym e ∙ (ap sheet_of i.text ∙ contents-read i.contents i.keyed)), λ h. go (sheet_of s) refl h)
  where
    apart : {es : List Entry} {rest : List ℕ} → NoSheet ≡ Read es rest → ⊥
    apart e = let z : ◌≡◌ {A = ℕ} 0 1 = cc in omega arith

    go : (r : Reading) → sheet_of s ≡ r → (IsSheet s → ⊥) → sheet_of s ≡ NoSheet
    go NoSheet e h = e
    go (Read es rest) e h = absurd (h (sheet-said s es rest e).0)
