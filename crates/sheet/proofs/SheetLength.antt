-- A sheet of more than 67,213 bytes gives more than 546 records.
use Prim.Native.Nat.{ℕ, zero, suc, ◌+◌, ◌*◌, ◌≤◌, ◌<◌}
use mathlib.Core.Path.{◌≡◌, refl, ap, ◌∙◌}
use mathlib.Core.Bool.{Bool, true, false, cond}
use mathlib.Core.List.{List, [], ◌∷◌, ◌++◌, map}
use native.Mathlib.Omega.{arith}
use native.Mathlib.Decide.{dec_lt}
use borrow.Author.Tests.{eqb-true}
use lib.Dec.{eqb}
use lib.ListN.{length, length-append, length-map}
use Rattle.text.specs.Numbers.{digits_of}
use Rattle.text.proofs.Numerals.{length_digits}
use Rattle.layout.specs.declared.Kind.TheVariants.{Line, Balance, Payment, Tail}
use Rattle.rebalance.specs.Rebalance.{flat}
use Rattle.rebalance.proofs.Flat.{length-flat}
use Rattle.sheet.specs.Slots.{made_balance}
use Rattle.sheet.specs.Sheet.{Entry, entry}
use Rattle.sheet.specs.Contents.{Delega, sections_text, delega_text, deleghe_text, section_entries, sections_entries, delega_entries, deleghe_entries, entries_of, All, SectionKeyed, DelegaKeyed, IsSheet}

-- Bytes with so many beside the lines, and records with so many beside lines and made ones; where lines stand, a record is made.
record Size (t : List ℕ) (es : List Entry) (beside others : ℕ) : Type 0 where
  lines : ℕ
  made : ℕ
  bytes : length t ≡ beside + lines * 120
  records : length es ≡ others + lines + made
  some : lines ≤ made * 99

-- A section.
section-size : (d x : ℕ) (rs : List (List ℕ)) → SectionKeyed rs → Size (digits_of 2 (length rs) ++ flat rs) (section_entries d x rs) 2 0
section-size d x rs k = go (eqb (length rs) 0) refl
  where
    text : length (digits_of 2 (length rs) ++ flat rs) ≡ 2 + length rs * 120
    text = rw (length-append, length_digits 2 (length rs), length-flat rs k.1)

    go : (t : Bool) → eqb (length rs) 0 ≡ t → Size (digits_of 2 (length rs) ++ flat rs) (map (entry (Line x) d) rs ++ cond t [] (entry (Balance x) d (made_balance x) ∷ [])) 2 0
    go true e =
        let z : length rs ≡ 0 = eqb-true _ _ e in
        record { lines = length rs; made = 0; bytes = text; records = rw (length-append, length-map rs (entry (Line x) d)) (omega arith); some = omega arith }
    go false e = record { lines = length rs; made = 1; bytes = text; records = rw (length-append, length-map rs (entry (Line x) d)) (omega arith); some = omega (arith, k.0) }

-- The sections of a delega.
sections-size : (d x : ℕ) (rss : List (List (List ℕ))) → All SectionKeyed rss → Size (sections_text rss) (sections_entries d x rss) (length rss * 2) 0
unfolding sections_text sections_entries
sections-size d x [] k = record { lines = 0; made = 0; bytes = refl; records = refl; some = omega arith }
sections-size d x (rs ∷ rss) k =
    let a = section-size d x rs k.0 in
    let b = sections-size d (x + 1) rss k.1 in
    let p : length (digits_of 2 (length rs)) + length (flat rs) ≡ 2 + a.lines * 120 = rw (← (length-append (digits_of 2 (length rs)) (flat rs))) a.bytes in
    record {
      lines = a.lines + b.lines;
      made = a.made + b.made;
      bytes = rw (length-append, length-append) (omega (arith, p, b.bytes));
      records = rw (length-append (section_entries d x rs) (sections_entries d (x + 1) rss)) (omega (arith, a.records, b.records));
      some = omega (arith, a.some, b.some);
    }

-- A delega.
delega-size : (d : ℕ) (g : Delega) → DelegaKeyed g → Size (delega_text g) (delega_entries d g) 370 3
delega-size d g k =
    let a = sections-size d 0 g.sections k.each in
    let p : length (sections_text g.sections) ≡ length g.sections * 2 + a.lines * 120 = a.bytes in
    let q : length (sections_entries d 0 g.sections) ≡ 0 + a.lines + a.made = a.records in
    record {
      lines = a.lines;
      made = a.made;
      bytes = rw (length-append g.ten, length-append g.twenty, length-append (sections_text g.sections), k.ten-sized, k.twenty-sized, k.fifty-sized, p, k.five) (omega arith);
      records = rw (length-append (sections_entries d 0 g.sections) (entry Payment d g.fifty ∷ []), q) (omega arith);
      some = a.some;
    }

-- Deleghe.
deleghe-size : (d : ℕ) (gs : List Delega) → All DelegaKeyed gs → Size (deleghe_text gs) (deleghe_entries d gs) (length gs * 370) (length gs * 3)
unfolding deleghe_text deleghe_entries
deleghe-size d [] k = record { lines = 0; made = 0; bytes = refl; records = refl; some = omega arith }
deleghe-size d (g ∷ gs) k =
    let a = delega-size d g k.0 in
    let b = deleghe-size (d + 1) gs k.1 in
    record {
      lines = a.lines + b.lines;
      made = a.made + b.made;
      bytes = length-append (delega_text g) (deleghe_text gs) ∙ (omega (arith, a.bytes, b.bytes));
      records = length-append (delega_entries d g) (deleghe_entries (d + 1) gs) ∙ (omega (arith, a.records, b.records));
      some = omega (arith, a.some, b.some);
    }

-- "A sheet of more than 67,213 bytes can't be cut into 546 records": where they are at most 546, it has no more bytes.
pub short-sheet : (s : List ℕ) (i : IsSheet s) → length (entries_of i.contents) ≤ 546 → length s ≤ 67213
short-sheet s i h =
    let c = i.contents in
    let k = i.keyed in
    let a = deleghe-size 1 c.deleghe k.all in
    let n = length c.deleghe in
    let t : length s ≡ 243 + n * 370 + a.lines * 120 =
    ap length i.text ∙ rw (length-append c.first, length-append (digits_of 3 n), length-append (deleghe_text c.deleghe), k.first-sized, length_digits 3 n, k.last-sized, a.bytes) (omega arith) in
    let r : length (entries_of c) ≡ 2 + n * 3 + a.lines + a.made = rw (length-append (deleghe_entries 1 c.deleghe) (entry Tail 0 c.last ∷ []), a.records) (omega arith) in
    few n a.lines a.made (length s) t (omega arith) a.some
  where
    few : (n l m s : ℕ) → s ≡ 243 + n * 370 + l * 120 → 2 + n * 3 + l + m ≤ 546 → l ≤ m * 99 → s ≤ 67213
    few n l zero s e h g = go (dec_lt n 182)
      where
        go : Dec (n < 182) → s ≤ 67213
        go (yes k) = omega arith
        go (no k) = absurd (omega arith)
    few n l (suc m) s e h g = omega arith
