-- What the parts of a record are after they are written: the digits of a subtype, the type and subtype of a made record, the number of a delega.
use Prim.Native.Nat.{ℕ, zero, suc, ◌+◌, ◌*◌, ◌<◌, ◌≤◌}
use mathlib.Core.Path.{◌≡◌, refl, sym, ap, ◌∙◌}
use mathlib.Core.List.{List, [], ◌∷◌, ◌++◌, append_assoc}
use native.Mathlib.Omega.{arith}
use lib.Dec.{lit≤}
use mathlib.Core.Bool.{Bool, true, false}
use types.Run.{OneOf, miss}
use denote.Enum.Declared.{tag_of}
use Rattle.layout.specs.contracts.Kind.{the_type}
use Rattle.layout.proofs.Decision.{closing-balance}
use Rattle.layout.specs.declared.Kind.{Kind}
use Rattle.layout.specs.declared.Kind.TheVariants.{Head, Taxpayer, Domicile, Line, Balance, Payment, Receipt, Addressee, Tail, Unknown}
use Rattle.layout.specs.Decision.{balance_of}
use Rattle.layout.specs.Sections.{section_at}
use Rattle.rules.specs.declared.State.{State}
use Rattle.rules.specs.State.{no_sums, zero_sections, start_state}
use Rattle.rules.specs.Stored.{stored_of, stored_section}
use Rattle.amounts.specs.declared.Sums.{Sums}
use Rattle.amounts.specs.Names.{same_bytes}
use Rattle.amounts.specs.Amounts.{apart, final_of}
use Rattle.rebalance.specs.Rebalance.{put_all, fits_all}
use Rattle.layout.specs.declared.Section.{Section}
use Rattle.text.specs.Answers.{TooLong}
use Rattle.text.specs.Numbers.{read_number, digits_of}
use borrow.Author.Tests.{lt-ltb, le-ltb}
use Rattle.std.specs.Prelude.{Option}
use Rattle.lenient.specs.declared.Misfit.{Misfit}
use Rattle.sheet.specs.declared.Spot.{Spot}
use Rattle.sheet.specs.Slots.{type_text, subtype_text, slot_fault, made_balance}
use Rattle.sheet.specs.Walk.{count_at, or_misfit, Enters}
use Rattle.sheet.specs.Sheet.{Entry, entry}
use Rattle.rebalance.specs.Numbering.{with_number}
use Rattle.sheet.specs.Filled.{is_tail, with_name, filled}
use lib.ListN.{length, take, drop, replicate, length-append, get_or}
use lib.Seq.{take_at, length-take-le}
use Rattle.text.specs.Placing.{put_at, part_bytes, number_bytes}
use Rattle.text.proofs.Numerals.{length_digits}
use Rattle.text.proofs.Puts.{length-put, put_whole, put_is}
use Rattle.text.proofs.Fits.{part-put, number_put}

-- Two digits written into room for two.
pub two_digits : (n : ℕ) (l : List ℕ) → n < 100 → l ≡ number_bytes 0 2 n (replicate 2 0) → l ≡ digits_of 2 n
two_digits n l h e = number_put 0 2 n (replicate 2 0) l (omega arith) h e ∙ put_whole (digits_of 2 n) (replicate 2 0) (length_digits 2 n)

-- A record written behind k others.
pub put_next : (k : ℕ) (bs r l : List ℕ) → k * 120 + 120 ≤ length r → length bs ≡ 120 → l ≡ part_bytes (k * 120) bs r → (length l ≡ length r) × (take (k * 120 + 120) l ≡ take (k * 120) r ++ bs)
put_next k bs r l h b e =
    let g : k * 120 + length bs ≤ length r = omega arith in
    let p = part-put (k * 120) bs r l g e in
    let q : length (take (k * 120) r) ≡ k * 120 = length-take-le (k * 120) r (omega arith) in
    let m : length (take (k * 120) r ++ bs) ≡ k * 120 + 120 = length-append (take (k * 120) r) bs ∙ rw (q, b) in
    (ap length p ∙ length-put (k * 120) bs r g, ap (take (k * 120 + 120)) (p ∙ (put_is (k * 120) bs r ∙ sym (append_assoc (take (k * 120) r) bs (drop (k * 120 + length bs) r)))) ∙ take_at (take (k * 120) r ++ bs) (drop (k * 120 + length bs) r) (k * 120 + 120) m)

-- A record that is not in EF's slot, by the tags of the other kinds.
abbrev but-tail : List ℕ
but-tail = 0 ∷ 1 ∷ 2 ∷ 3 ∷ 4 ∷ 5 ∷ 6 ∷ 7 ∷ 9 ∷ []

pub no-tail : (k : Kind) → OneOf but-tail (tag_of the_type k) → is_tail k ≡ false
no-tail Head t = refl
no-tail Taxpayer t = refl
no-tail Domicile t = refl
no-tail (Line s) t = refl
no-tail (Balance s) t = refl
no-tail Payment t = refl
no-tail Receipt t = refl
no-tail Addressee t = refl
no-tail Tail t = absurd (miss but-tail 8 tt t)
no-tail Unknown t = refl

-- Before any line the sums of every section are zero.
no_lines : (s : ℕ) → get_or zero_sections s no_sums ≡ no_sums
no_lines zero = refl
no_lines (suc zero) = refl
no_lines (suc (suc zero)) = refl
no_lines (suc (suc (suc zero))) = refl
no_lines (suc (suc (suc (suc zero)))) = refl
no_lines (suc (suc (suc (suc (suc s))))) = refl

-- What is stored before any line fits its field.
zero-fits : (s : ℕ) → fits_all (stored_section s no_sums) ≡ true
unfolding fits_all apart section_at
zero-fits zero = refl
zero-fits (suc zero) = refl
zero-fits (suc (suc zero)) = refl
zero-fits (suc (suc (suc zero))) = refl
zero-fits (suc (suc (suc (suc zero)))) = refl
zero-fits (suc (suc (suc (suc (suc s))))) = refl

pub start_fits : (k : Kind) → fits_all (stored_of start_state k) ≡ true
unfolding fits_all start_state final_of
start_fits Head = refl
start_fits Taxpayer = refl
start_fits Domicile = refl
start_fits (Line s) = refl
start_fits (Balance s) = ap (λ (t : Sums). fits_all (stored_section s t)) (no_lines s) ∙ zero-fits s
start_fits Payment = refl
start_fits Receipt = refl
start_fits Addressee = refl
start_fits Tail = refl
start_fits Unknown = refl

-- Before any record none has been seen.
pub start-few : (st : State) → st ≡ start_state → st.seen < 1000
unfolding start_state
start-few st e = rw e (lit≤ tt)

-- The subtypes of the table have two digits.
pub subtypes-small : (s : ℕ) → ((section_at s).line_subtype < 100) × ((section_at s).balance_subtype < 100)
unfolding section_at
subtypes-small zero = (lit≤ tt, lit≤ tt)
subtypes-small (suc zero) = (lit≤ tt, lit≤ tt)
subtypes-small (suc (suc zero)) = (lit≤ tt, lit≤ tt)
subtypes-small (suc (suc (suc zero))) = (lit≤ tt, lit≤ tt)
subtypes-small (suc (suc (suc (suc zero)))) = (lit≤ tt, lit≤ tt)
subtypes-small (suc (suc (suc (suc (suc s))))) = (lit≤ tt, lit≤ tt)

-- A subtype of two digits is compared with as many bytes as it has.
pub subtype-by : (n : ℕ) (r : List ℕ) (x : Bool) → x ≡ same_bytes (take 2 (drop 10 r)) (digits_of 2 n) → x ≡ same_bytes (take (length (digits_of 2 n)) (drop 10 r)) (digits_of 2 n)
subtype-by n r x e = e ∙ rw (length_digits 2 n)

-- A record filled step by step.
pub filled-by : (name keyed a b c l : List ℕ) (slot : Kind) (d : ℕ) (st : State) → a ≡ keyed → b ≡ with_number slot d a → c ≡ with_name slot name b → st ≡ start_state → l ≡ put_all (stored_of st slot) c → l ≡ filled name (entry slot d keyed)
unfolding filled
filled-by name keyed a b c l slot d st e1 e2 e3 e4 e5 = e5 ∙ rw (e4, e3, e2, e1)

-- The balance record of section x made step by step, with the subtype of the balance that closes the section's lines.
pub made_by : (x : ℕ) (y : Section) (n : ℕ) (a b : List ℕ) → y ≡ section_at x → n ≡ balance_of y.line_subtype → a ≡ part_bytes 1 (52 ∷ 48 ∷ []) (replicate 120 32) → b ≡ number_bytes 10 2 n a → b ≡ made_balance x
unfolding made_balance type_text subtype_text
made_by x y n a b e1 e2 e3 e4 =
    let own : n ≡ (section_at x).balance_subtype = e2 ∙ (rw e1 (closing-balance x)) in
    let p : a ≡ put_at 1 (52 ∷ 48 ∷ []) (replicate 120 32) = part-put 1 (52 ∷ 48 ∷ []) (replicate 120 32) a (omega arith) e3 in
    let l : length a ≡ 120 = ap length p ∙ length-put 1 (52 ∷ 48 ∷ []) (replicate 120 32) (omega arith) in
    number_put 10 2 n a b (omega arith) (rw own (subtypes-small x).1) e4 ∙ rw (own, p)

-- A count in fewer bytes than it takes is none, and else what its digits say.
pub count-short : (w : ℕ) (s : List ℕ) → length s < w → TooLong ≡ count_at w s
unfolding count_at
count-short w s h = rw (lt-ltb _ _ h)

pub count-read : (w : ℕ) (s l : List ℕ) → w ≤ length s → w ≤ 15 → l ≡ take w s → read_number l ≡ count_at w s
unfolding count_at read_number
count-read w s l h k e =
    let n : length l ≡ w = ap length e ∙ length-take-le w s h in
    rw (le-ltb 15 (length l) (omega arith), le-ltb (length s) w h, e)

-- One more record in the flow.
pub entered : (name : List ℕ) (a : Spot) (flow r flow' : List ℕ) (e : Entry) (m : Option Misfit) → length flow ≡ 65520 → r ≡ filled name e → (length flow' ≡ 65520) × (a.count < 546 → take (a.count * 120 + 120) flow' ≡ take (a.count * 120) flow ++ r) → m ≡ or_misfit a.misfit (a.count + 1) (slot_fault e.slot r) → Enters name a flow e (record { at = a.at; count = a.count + 1; misfit = m }) flow'
entered name a flow r flow' e m l er w em =
    record {
      stays = refl;
      counts = refl;
      misfits = em ∙ ap (λ (x : List ℕ). or_misfit a.misfit (a.count + 1) (slot_fault e.slot x)) er;
      room = w.0 ∙ sym l;
      written = λ h. ap (λ (n : ℕ). take n flow') (let q : (a.count + 1) * 120 ≡ a.count * 120 + 120 = omega arith in q) ∙ (w.1 (omega arith) ∙ ap (λ (x : List ℕ). take (a.count * 120) flow ++ x) er);
    }
