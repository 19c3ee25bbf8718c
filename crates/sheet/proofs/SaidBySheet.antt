-- What is read in a sheet is what is keyed in it: the bytes say contents, and the records to be written are those of the contents.
use Prim.Native.Nat.{ℕ, zero, suc, ◌+◌, ◌^◌, ◌<◌}
use mathlib.Core.Path.{◌≡◌, refl, sym, ap, ap₂, ◌∙◌}
use mathlib.Core.Bool.{Bool, true, false, cond}
use mathlib.Core.List.{List, [], ◌∷◌, ◌++◌, map, append_assoc, append-nil}
use native.Mathlib.Omega.{arith}
use borrow.Author.Tests.{ltb-false, eqb-true}
use lib.Dec.{eqb, ltb}
use lib.ListN.{length, take, drop, take-append-drop}
use lib.Seq.{length-take-le}
use Rattle.text.specs.Answers.{Digits, Number, NonDigit, TooLong}
use Rattle.text.specs.Numbers.{number_of, amount_of, digits_of}
use Rattle.text.proofs.Numerals.{number-below, digits-of-number}
use Rattle.layout.specs.declared.Kind.{Kind}
use Rattle.layout.specs.declared.Kind.TheVariants.{Head, Taxpayer, Domicile, Line, Balance, Payment, Tail}
use Rattle.rebalance.specs.Rebalance.{flat, Sized}
use Rattle.sheet.specs.Slots.{made_balance}
use Rattle.sheet.specs.Sheet.{Entry, entry, Reading, NoSheet, Read, before, and_then, one_record, of_count, counted, lines_from, one_section, sections_from, one_delega, deleghe_from, at_end, sheet_of}
use Rattle.sheet.specs.Contents.{sections_text, delega_text, deleghe_text, sheet_text, section_entries, sections_entries, delega_entries, deleghe_entries, entries_of, All, SectionKeyed, DelegaKeyed, Keyed, IsSheet}

-- What is read once is read alike.
same_entries : {xs ys : List Entry} {s t : List ℕ} → Read xs s ≡ Read ys t → xs ≡ ys
same_entries e = cc

same_rest : {xs ys : List Entry} {s t : List ℕ} → Read xs s ≡ Read ys t → s ≡ t
same_rest e = cc

-- A part of a sheet and one behind it are both read.
record Both (f : Reading) (g : List ℕ → Reading) (es : List Entry) (rest : List ℕ) : Type 0 where
  xs : List Entry
  ys : List Entry
  between : List ℕ
  one : f ≡ Read xs between
  other : g between ≡ Read ys rest
  all : es ≡ xs ++ ys

both : (f : Reading) (g : List ℕ → Reading) (es : List Entry) (rest : List ℕ) → and_then f g ≡ Read es rest → Both f g es rest
both NoSheet g es rest e = let z : ◌≡◌ {A = ℕ} 0 1 = cc in absurd (omega arith)
both (Read xs s) g es rest e = go (g s) refl e
  where
    go : (h : Reading) → g s ≡ h → before xs h ≡ Read es rest → Both (Read xs s) g es rest
    go NoSheet p q = let z : ◌≡◌ {A = ℕ} 0 1 = cc in absurd (omega arith)
    go (Read ys t) p q = record { xs = xs; ys = ys; between = s; one = refl; other = p ∙ cc; all = cc }

-- The front of some bytes says something, for which these records are to be written.
record Says {A : Type 0} (Fine : A → Type 0) (text : A → List ℕ) (entries : A → List Entry) (s : List ℕ) (es : List Entry) (rest : List ℕ) : Type 0 where
  what : A
  fine : Fine what
  said : s ≡ text what ++ rest
  written : es ≡ entries what

-- One record.
record-said : (k : Kind) (d : ℕ) (s : List ℕ) (es : List Entry) (rest : List ℕ) → one_record k d s ≡ Read es rest → Says (λ r. length r ≡ 120) (λ r. r) (λ r. entry k d r ∷ []) s es rest
unfolding one_record
record-said k d s es rest e = go (ltb (length s) 120) refl e
  where
    go : (t : Bool) → ltb (length s) 120 ≡ t → cond t NoSheet (Read (entry k d (take 120 s) ∷ []) (drop 120 s)) ≡ Read es rest → Says (λ r. length r ≡ 120) (λ r. r) (λ r. entry k d r ∷ []) s es rest
    go true p q = let z : ◌≡◌ {A = ℕ} 0 1 = cc in absurd (omega arith)
    go false p q =
        let left : drop 120 s ≡ rest = cc in
        record { what = take 120 s; fine = length-take-le 120 s (ltb-false _ _ p); said = sym (take-append-drop 120 s) ∙ ap (λ (l : List ℕ). take 120 s ++ l) left; written = cc }

-- A count in digits, and what it counts.
count-said : {A : Type 0} {F : A → Type 0} {t : A → List ℕ} {v : A → List Entry} (w : ℕ) (size : A → ℕ) (s : List ℕ) (f : ℕ → List ℕ → Reading) (es : List Entry) (rest : List ℕ) →
    ((n : ℕ) (m : List ℕ) → f n m ≡ Read es rest → Says (λ a. (size a ≡ n) × F a) t v m es rest) → counted w s f ≡ Read es rest →
    Says (λ a. (size a < 10 ^ w) × F a) (λ a. digits_of w (size a) ++ t a) v s es rest
unfolding counted
count-said {F = F} {t = t} {v = v} w size s f es rest h e = go (ltb (length s) w) (number_of (take w s)) refl refl e
  where
    go : (u : Bool) (d : Digits) → ltb (length s) w ≡ u → number_of (take w s) ≡ d → cond u NoSheet (of_count d (λ n. f n (drop w s))) ≡ Read es rest → Says (λ a. (size a < 10 ^ w) × F a) (λ a. digits_of w (size a) ++ t a) v s es rest
    go true d p q r = let z : ◌≡◌ {A = ℕ} 0 1 = cc in absurd (omega arith)
    go false (NonDigit i) p q r = let z : ◌≡◌ {A = ℕ} 0 1 = cc in absurd (omega arith)
    go false TooLong p q r = let z : ◌≡◌ {A = ℕ} 0 1 = cc in absurd (omega arith)
    go false (Number n) p q r =
        let l = length-take-le w s (ltb-false _ _ p) in
        let b : amount_of (number_of (take w s)) < 10 ^ w = number-below w (take w s) l in
        let a = h n (drop w s) r in
        let k = a.fine.0 in
        record {
          what = a.what;
          fine = (rw (k, ← (ap amount_of q)) b, a.fine.1);
          said =
              sym (take-append-drop w s)
              ∙ (ap₂ ◌++◌ (sym (digits-of-number w n (take w s) l q) ∙ ap (digits_of w) (sym k)) a.said ∙ sym (append_assoc (digits_of w (size a.what)) (t a.what) rest));
          written = a.written;
        }

-- What a part and one behind it say, is said together.
then-said : {A B : Type 0} {F : A → Type 0} {t : A → List ℕ} {v : A → List Entry} {G : B → Type 0} {u : B → List ℕ} {w : B → List Entry} (f : Reading) (g : List ℕ → Reading) (s : List ℕ) (es : List Entry) (rest : List ℕ) →
    ((xs : List Entry) (m : List ℕ) → f ≡ Read xs m → Says F t v s xs m) → ((m : List ℕ) (ys : List Entry) → g m ≡ Read ys rest → Says G u w m ys rest) → and_then f g ≡ Read es rest →
    Says {A = A × B} (λ p. F p.0 × G p.1) (λ p. t p.0 ++ u p.1) (λ p. v p.0 ++ w p.1) s es rest
then-said {t = t} {u = u} f g s es rest h i e =
    let b = both f g es rest e in
    let l = h b.xs b.between b.one in
    let r = i b.between b.ys b.other in
    record {
      what = (l.what, r.what);
      fine = (l.fine, r.fine);
      said = l.said ∙ (ap (λ (z : List ℕ). t l.what ++ z) r.said ∙ sym (append_assoc (t l.what) (u r.what) rest));
      written = b.all ∙ ap₂ ◌++◌ l.written r.written;
    }

-- The same, put in other words.
worded : {A B : Type 0} {F : A → Type 0} {t : A → List ℕ} {v : A → List Entry} {G : B → Type 0} {u : B → List ℕ} {w : B → List Entry} {s : List ℕ} {es : List Entry} {rest : List ℕ} →
    (φ : A → B) → ((a : A) → F a → G (φ a)) → ((a : A) → t a ≡ u (φ a)) → ((a : A) → v a ≡ w (φ a)) → Says F t v s es rest → Says G u w s es rest
worded {rest = rest} φ h i j a =
    record { what = φ a.what; fine = h a.what a.fine; said = a.said ∙ ap (λ (z : List ℕ). z ++ rest) (i a.what); written = a.written ∙ j a.what }

-- The lines of a section.
lines-said : (x d n : ℕ) (s : List ℕ) (es : List Entry) (rest : List ℕ) → lines_from x d n s ≡ Read es rest → Says (λ rs. (length rs ≡ n) × Sized rs) flat (map (entry (Line x) d)) s es rest
unfolding lines_from flat
lines-said x d zero s es rest e = record { what = []; fine = (refl, tt); said = cc; written = cc }
lines-said x d (suc n) s es rest e =
    worded (λ p. p.0 ∷ p.1) (λ p h. (ap suc h.1.0, (h.0, h.1.1))) (λ p. refl) (λ p. refl)
    (then-said (one_record (Line x) d s) (lines_from x d n) s es rest (record-said (Line x) d s) (λ m ys. lines-said x d n m ys rest) e)

-- A section: its lines, and the balance record that is made.
section-said : (x d n : ℕ) (s : List ℕ) (es : List Entry) (rest : List ℕ) → one_section x d n s ≡ Read es rest → Says (λ rs. (length rs ≡ n) × Sized rs) flat (section_entries d x) s es rest
unfolding one_section
section-said x d n s es rest e =
    let made : ℕ → List Entry = λ m. cond (eqb m 0) [] (entry (Balance x) d (made_balance x) ∷ []) in
    let b = both (lines_from x d n s) (Read (made n)) es rest e in
    let l = lines-said x d n s b.xs b.between b.one in
    record {
      what = l.what;
      fine = l.fine;
      said = l.said ∙ ap (λ (t : List ℕ). flat l.what ++ t) (same_rest b.other);
      written = b.all ∙ ap₂ ◌++◌ l.written (sym (same_entries b.other) ∙ ap made (sym l.fine.0));
    }

-- Sections, from section x on.
sections-said : (d n x : ℕ) (s : List ℕ) (es : List Entry) (rest : List ℕ) → sections_from d n x s ≡ Read es rest → Says (λ rss. (length rss ≡ n) × All SectionKeyed rss) sections_text (sections_entries d x) s es rest
unfolding sections_from sections_text sections_entries
sections-said d zero x s es rest e = record { what = []; fine = (refl, tt); said = cc; written = cc }
sections-said d (suc n) x s es rest e =
    worded (λ p. p.0 ∷ p.1) (λ p h. (ap suc h.1.0, (h.0, h.1.1))) (λ p. append_assoc (digits_of 2 (length p.0)) (flat p.0) (sections_text p.1)) (λ p. refl)
    (then-said (counted 2 s (one_section x d)) (sections_from d n (x + 1)) s es rest (λ xs m. count-said 2 length s (one_section x d) xs m (λ k t. section-said x d k t xs m)) (λ m ys. sections-said d n (x + 1) m ys rest) e)

-- A delega.
delega-said : (d : ℕ) (s : List ℕ) (es : List Entry) (rest : List ℕ) → one_delega d s ≡ Read es rest → Says DelegaKeyed delega_text (delega_entries d) s es rest
unfolding one_delega
delega-said d s es rest e =
    worded (λ p. record { ten = p.0; twenty = p.1.0; sections = p.1.1.0; fifty = p.1.1.1 })
    (λ p h. record { ten-sized = h.0; twenty-sized = h.1.0; five = h.1.1.0.0; each = h.1.1.0.1; fifty-sized = h.1.1.1 }) (λ p. refl) (λ p. refl)
    (then-said (one_record Taxpayer d s) _ s es rest (record-said Taxpayer d s)
    (λ m ys. then-said (one_record Domicile d m) _ m ys rest (record-said Domicile d m)
    (λ m' zs. then-said (sections_from d 5 0 m') (one_record Payment d) m' zs rest (sections-said d 5 0 m') (λ t us. record-said Payment d t us rest))) e)

-- Deleghe, of which the first is number d.
deleghe-said : (n d : ℕ) (s : List ℕ) (es : List Entry) (rest : List ℕ) → deleghe_from n d s ≡ Read es rest → Says (λ gs. (length gs ≡ n) × All DelegaKeyed gs) deleghe_text (deleghe_entries d) s es rest
unfolding deleghe_from deleghe_text deleghe_entries
deleghe-said zero d s es rest e = record { what = []; fine = (refl, tt); said = cc; written = cc }
deleghe-said (suc n) d s es rest e =
    worded (λ p. p.0 ∷ p.1) (λ p h. (ap suc h.1.0, (h.0, h.1.1))) (λ p. refl) (λ p. refl)
    (then-said (one_delega d s) (deleghe_from n (d + 1)) s es rest (delega-said d s) (λ m ys. deleghe-said n (d + 1) m ys rest) e)

-- The end of a sheet says nothing more.
end-said : (s : List ℕ) (es : List Entry) (rest : List ℕ) → at_end s ≡ Read es rest → Says (λ (z : Unit {0}). rest ≡ []) (λ z. []) (λ z. []) s es rest
unfolding at_end
end-said s es rest e = go (eqb (length s) 0) refl e
  where
    none : (s : List ℕ) → length s ≡ 0 → s ≡ []
    none [] h = refl
    none (b ∷ s) h = absurd (omega arith)

    go : (t : Bool) → eqb (length s) 0 ≡ t → cond t (Read [] []) NoSheet ≡ Read es rest → Says (λ (z : Unit {0}). rest ≡ []) (λ z. []) (λ z. []) s es rest
    go true p q = record { what = tt; fine = cc; said = none s (eqb-true _ _ p) ∙ cc; written = cc }
    go false p q = let z : ◌≡◌ {A = ℕ} 0 1 = cc in absurd (omega arith)

-- A whole sheet.
whole-said : (s : List ℕ) (es : List Entry) (rest : List ℕ) → sheet_of s ≡ Read es rest → Says (λ c. Keyed c × (rest ≡ [])) sheet_text entries_of s es rest
unfolding sheet_of
whole-said s es rest e =
    worded (λ p. record { first = p.0; deleghe = p.1.0; last = p.1.1.0 })
    (λ p h. (record { first-sized = h.0; few = h.1.0.0; all = h.1.0.1; last-sized = h.1.1.0 }, h.1.1.1))
    (λ p. ap (λ (t : List ℕ). p.0 ++ t) (ap (λ (t : List ℕ). digits_of 3 (length p.1.0) ++ deleghe_text p.1.0 ++ t) (append-nil p.1.1.0) ∙ append_assoc (digits_of 3 (length p.1.0)) (deleghe_text p.1.0) p.1.1.0))
    (λ p. refl)
    (then-said (one_record Head 0 s) _ s es rest (record-said Head 0 s)
    (λ m ys. then-said (counted 3 m (λ n. deleghe_from n 1)) _ m ys rest (λ us t. count-said 3 length m (λ n. deleghe_from n 1) us t (λ n u. deleghe-said n 1 u us t))
    (λ m' zs. then-said (one_record Tail 0 m') at_end m' zs rest (record-said Tail 0 m') (λ t us. end-said t us rest))) e)

-- A sheet that is read says contents, and the records to be written are those of the contents.
pub sheet-said : (s : List ℕ) (es : List Entry) (rest : List ℕ) → sheet_of s ≡ Read es rest → (i : IsSheet s) × (es ≡ entries_of i.contents)
sheet-said s es rest e =
    let a = whole-said s es rest e in
    (record { contents = a.what; keyed = a.fine.0; text = a.said ∙ (ap (λ (t : List ℕ). sheet_text a.what ++ t) a.fine.1 ∙ append-nil (sheet_text a.what)) }, a.written)
