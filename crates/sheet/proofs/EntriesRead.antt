-- The records to be written from a sheet: each is in one of the slots and has 120 bytes, the first is in the slot of F4, the last in that of EF, and the deleghe between are numbered up to the sheet's count.
use Prim.Native.Nat.{ℕ, suc, ◌+◌, ◌≤◌, ◌<◌}
use mathlib.Core.Path.{◌≡◌, refl, ap, ◌∙◌}
use mathlib.Core.Bool.{Bool, true, false, cond, false≢true}
use mathlib.Core.List.{List, [], ◌∷◌, ◌++◌, map}
use native.Mathlib.Omega.{arith}
use lib.Dec.{eqb}
use lib.ListN.{length, take, length-append, replicate}
use lib.Seq.{take_at, drop_at}
use Rattle.text.specs.Numbers.{digits_of}
use Rattle.text.proofs.Numerals.{number_digits, length_digits}
use Rattle.text.proofs.Puts.{length-put}
use Rattle.layout.specs.declared.Kind.TheVariants.{Head, Line, Balance, Payment, Tail}
use Rattle.layout.specs.Sections.{section_at}
use Rattle.layout.specs.Kinds.{numbered}
use Rattle.rules.specs.Step.{next_deleghe}
use Rattle.rebalance.specs.Rebalance.{Sized}
use Rattle.sheet.specs.Slots.{type_text, subtype_text, made_balance}
use Rattle.sheet.specs.Sheet.{Entry, entry, Read, sheet_of}
use Rattle.sheet.specs.Contents.{head, taxpayer, domicile, line, balance, payment, tail, Delega, Contents, sheet_text, deleghe_text, section_entries, sections_entries, deleghe_entries, entries_of, All, SectionKeyed, DelegaKeyed, Keyed, Entered, Numbering, count_in}
use Rattle.sheet.proofs.SaidBySheet.{sheet-said}

-- What holds of each of two lists holds of each of both.
all_append : {A : Type 0} (P : A → Type 0) (xs ys : List A) → All P xs → All P ys → All P (xs ++ ys)
all_append P [] ys h i = i
all_append P (x ∷ xs) ys h i = (h.0, all_append P xs ys h.1 i)

-- A made balance record has 120 bytes.
length-made : (x : ℕ) → length (made_balance x) ≡ 120
unfolding made_balance type_text subtype_text
length-made x =
    let blank : List ℕ = replicate 120 32 in
    let b : length blank ≡ 120 = refl in
    let t = length-put 1 (52 ∷ 48 ∷ []) blank (omega arith) ∙ b in
    length-put 10 (digits_of 2 (section_at x).balance_subtype) _ (rw (length_digits 2 (section_at x).balance_subtype, t) (omega arith)) ∙ t

-- The lines of a section.
lines-entered : (d x : ℕ) (rs : List (List ℕ)) → x < 5 → Sized rs → All Entered (map (entry (Line x) d) rs)
lines-entered d x [] h z = tt
lines-entered d x (r ∷ rs) h z = (record { in-slot = line x h; sized = z.0; made = λ y e. cc }, lines-entered d x rs h z.1)

-- The balance record of a section that has lines.
balance-entered : (d x : ℕ) (t : Bool) → x < 5 → All Entered (cond t [] (entry (Balance x) d (made_balance x) ∷ []))
balance-entered d x true h = tt
balance-entered d x false h = (record { in-slot = balance x h; sized = length-made x; made = λ y e. let i : x ≡ y = cc in ap made_balance i }, tt)

-- The sections of a delega.
sections-entered : (d x : ℕ) (rss : List (List (List ℕ))) → x + length rss ≤ 5 → All SectionKeyed rss → All Entered (sections_entries d x rss)
unfolding sections_entries
sections-entered d x [] h k = tt
sections-entered d x (rs ∷ rss) h k =
    all_append Entered (section_entries d x rs) (sections_entries d (x + 1) rss)
    (all_append Entered (map (entry (Line x) d) rs) _ (lines-entered d x rs (omega arith) k.0.1) (balance-entered d x (eqb (length rs) 0) (omega arith)))
    (sections-entered d (x + 1) rss (omega arith) k.1)

-- The deleghe.
deleghe-entered : (d : ℕ) (gs : List Delega) → All DelegaKeyed gs → All Entered (deleghe_entries d gs)
unfolding deleghe_entries
deleghe-entered d [] k = tt
deleghe-entered d (g ∷ gs) k = (
  record { in-slot = taxpayer; sized = k.0.ten-sized; made = λ y e. cc },
  (
    record { in-slot = domicile; sized = k.0.twenty-sized; made = λ y e. cc },
    all_append Entered (sections_entries d 0 g.sections ++ (entry Payment d g.fifty ∷ [])) (deleghe_entries (d + 1) gs)
        (all_append Entered (sections_entries d 0 g.sections) _ (sections-entered d 0 g.sections (omega (arith, k.0.five)) k.0.each) (record { in-slot = payment; sized = k.0.fifty-sized; made = λ y e. cc }, tt))
        (deleghe-entered (d + 1) gs k.1),
  ),
)

-- Every record to be written is in one of the slots, and has 120 bytes.
contents-entered : (c : Contents) → Keyed c → All Entered (entries_of c)
contents-entered c k = (
  record { in-slot = head; sized = k.first-sized; made = λ y e. cc },
  all_append Entered (deleghe_entries 1 c.deleghe) _ (deleghe-entered 1 c.deleghe k.all) (record { in-slot = tail; sized = k.last-sized; made = λ y e. cc }, tt),
)

-- The numbers of records behind others go on.
numbering-append : (d m n : ℕ) (xs ys : List Entry) → Numbering d xs m → Numbering m ys n → Numbering d (xs ++ ys) n
numbering-append d m n [] ys h i = let e : d ≡ m = h in rw e i
numbering-append d m n (x ∷ xs) ys h i = (h.0, numbering-append (next_deleghe d x.slot) m n xs ys h.1 i)

-- The sections of a delega carry its number.
lines-numbered : (d x : ℕ) (rs : List (List ℕ)) → Numbering d (map (entry (Line x) d) rs) d
lines-numbered d x [] = refl
lines-numbered d x (r ∷ rs) = (λ e. refl, lines-numbered d x rs)

balance-numbered : (d x : ℕ) (t : Bool) → Numbering d (cond t [] (entry (Balance x) d (made_balance x) ∷ [])) d
balance-numbered d x true = refl
balance-numbered d x false = (λ e. refl, refl)

sections-numbered : (d x : ℕ) (rss : List (List (List ℕ))) → Numbering d (sections_entries d x rss) d
unfolding sections_entries
sections-numbered d x [] = refl
sections-numbered d x (rs ∷ rss) =
    numbering-append d d d (section_entries d x rs) (sections_entries d (x + 1) rss)
    (numbering-append d d d (map (entry (Line x) d) rs) _ (lines-numbered d x rs) (balance-numbered d x (eqb (length rs) 0))) (sections-numbered d (x + 1) rss)

-- Behind n deleghe the next is number n + 1, and so on.
deleghe-numbered : (n : ℕ) (gs : List Delega) → Numbering n (deleghe_entries (n + 1) gs) (n + length gs)
unfolding deleghe_entries
deleghe-numbered n [] = omega arith
deleghe-numbered n (g ∷ gs) =
    let d = n + 1 in
    let e : d + length gs ≡ n + suc (length gs) = omega arith in (
      λ e. refl,
      (
        λ e. refl,
        rw (← e)
            (numbering-append d d (d + length gs) (sections_entries d 0 g.sections ++ (entry Payment d g.fifty ∷ [])) (deleghe_entries (d + 1) gs)
            (numbering-append d d d (sections_entries d 0 g.sections) _ (sections-numbered d 0 g.sections) (λ e. refl, refl)) (deleghe-numbered d gs)),
      ),
    )

-- The deleghe of a sheet are numbered from 1 up to their count.
contents-numbered : (c : Contents) → Numbering 0 (entries_of c) (length c.deleghe)
unfolding numbered
contents-numbered c =
    let n = length c.deleghe in
    let e : 0 + n ≡ n = omega arith in
    (λ e. absurd (false≢true e), numbering-append 0 n n (deleghe_entries 1 c.deleghe) _ (rw e at (deleghe-numbered 0 c.deleghe)) (λ e. absurd (false≢true e), refl))

-- The records to be written from a sheet.
pub record Entries (s : List ℕ) (es : List Entry) : Type 0 where
  pub long : 120 ≤ length s
  pub each : All Entered es
  pub behind : List Entry
  pub head_first : es ≡ entry Head 0 (take 120 s) ∷ behind
  pub front : List Entry
  pub last : List ℕ
  pub tail-last : es ≡ front ++ (entry Tail 0 last ∷ [])
  pub few : count_in s < 1000
  pub numbers : Numbering 0 es (count_in s)

-- Those of contents.
contents-entries : (c : Contents) → Keyed c → Entries (sheet_text c) (entries_of c)
contents-entries c k =
    let l = k.first-sized in
    let n = length c.deleghe in
    let behind = deleghe_text c.deleghe ++ c.last in
    let t : take 120 (sheet_text c) ≡ c.first = take_at c.first _ 120 l in
    let v : count_in (sheet_text c) ≡ n = rw (drop_at c.first (digits_of 3 n ++ behind) 120 l, take_at (digits_of 3 n) behind 3 (length_digits 3 n), number_digits 3 n k.few) in
    record {
      long = rw (length-append c.first (digits_of 3 n ++ behind)) (omega arith);
      each = contents-entered c k;
      behind = deleghe_entries 1 c.deleghe ++ (entry Tail 0 c.last ∷ []);
      head_first = rw t;
      front = entry Head 0 c.first ∷ deleghe_entries 1 c.deleghe;
      last = c.last;
      tail-last = refl;
      few = rw v k.few;
      numbers = rw v (contents-numbered c);
    }

-- Those of every sheet.
pub entries-read : (s : List ℕ) (es : List Entry) (rest : List ℕ) → sheet_of s ≡ Read es rest → Entries s es
entries-read s es rest e = let a = sheet-said s es rest e in let i = a.0 in said s es (sheet_text i.contents) (entries_of i.contents) i.text a.1 (contents-entries i.contents i.keyed)
  where
    said : (s : List ℕ) (es : List Entry) (t : List ℕ) (fs : List Entry) → s ≡ t → es ≡ fs → Entries t fs → Entries s es
    said s es t fs p q h = rw (p, q) h
