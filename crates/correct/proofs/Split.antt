-- The records of a flow before and behind the line that is named, and the flow with that line's amounts replaced.
use Prim.Native.Nat.{ℕ, ◌+◌, ◌-◌, ◌*◌, ◌%◌, ◌≤◌, ◌<◌}
use mathlib.Core.Path.{◌≡◌, refl, sym, ap, ◌∙◌}
use mathlib.Core.Bool.{Bool, true, false, cond}
use mathlib.Core.List.{List, [], ◌∷◌, ◌++◌, append_assoc}
use native.Mathlib.Omega.{arith}
use borrow.Author.Tests.{eqb-true}
use lib.Dec.{eqb}
use lib.ListN.{length, get_or, length-append}
use lib.Seq.{get_or_at, take-append-le, drop-append-le, take-append-add, drop-append-add}
use Rattle.text.specs.Numbers.{digits_of}
use Rattle.text.specs.Placing.{put_at}
use Rattle.layout.specs.declared.Kind.{Kind}
use Rattle.layout.specs.declared.Kind.TheVariants.{Head, Taxpayer, Domicile, Line, Balance, Payment, Receipt, Addressee, Tail, Unknown}
use Rattle.layout.specs.Sections.{section_at}
use Rattle.layout.specs.Kinds.{of_line, section_kind, kind_in}
use Rattle.order.specs.declared.Stage.{Stage}
use Rattle.rules.specs.declared.State.{State}
use Rattle.rules.specs.State.{start_state}
use Rattle.order.specs.Order.{next_stage}
use Rattle.rules.specs.Step.{next_deleghe, next}
use Rattle.judge.specs.Refusal.{Accepted}
use Rattle.judge.specs.Flow.{records_of, judged}
use Rattle.judge.specs.Plain.{state_after}
use Rattle.rebalance.specs.Rebalance.{Sized, flat}
use Rattle.text.proofs.Tests.{both_true}
use Rattle.layout.proofs.InTable.{line-within}
use Rattle.rebalance.proofs.Flat.{length-flat, records-flat, flat_append}
use Rattle.rebalance.proofs.Judged.{sized-records, flat-records}
use Rattle.find.specs.Line.{is_line, line_from, line_of_kind, line_of}
use Rattle.find.proofs.NamedLine.{named-line, line-of-named}
use Rattle.correct.specs.Correction.{section_of, replaced}
use Rattle.correct.specs.Effect.{record_named}
use Rattle.correct.specs.Writing.{amounts_put, Room, KthLine}
use Rattle.correct.specs.WhenRefused.{HasLine}
use Rattle.correct.proofs.Putting.{line-room, length-amounts}
use Rattle.correct.proofs.Amended.{amended, credit-room, debit-room, length-amended}

-- The k-th record, counted from the j-th on, is a line of section s in delega d.
pub record Split (d s : ℕ) (st : State) (j k : ℕ) (rs : List (List ℕ)) : Type 0 where
  pub before : List (List ℕ)
  pub here : List ℕ
  pub behind : List (List ℕ)
  pub split : rs ≡ before ++ (here ∷ behind)
  pub counted : k ≡ j + length before + 1
  pub kind : kind_in here ≡ Line s
  pub number : (state_after st before).deleghe ≡ d

-- A record that is such a line is of the section, in the delega.
is-line : (d s n : ℕ) (p : Stage) (e : ℕ) (k : Kind) → is_line d s n p e k ≡ true → (k ≡ Line s) × (e ≡ d)
is-line d s n p e Head h = (cc, cc)
is-line d s n p e Taxpayer h = (cc, cc)
is-line d s n p e Domicile h = (cc, cc)
is-line d s n p e (Line t) h =
    let a = both_true (eqb t s) _ h in
    let b = both_true (eqb e d) _ a.1 in
    (ap Line (eqb-true t s a.0), eqb-true e d b.0)
is-line d s n p e (Balance t) h = (cc, cc)
is-line d s n p e Payment h = (cc, cc)
is-line d s n p e Receipt h = (cc, cc)
is-line d s n p e Addressee h = (cc, cc)
is-line d s n p e Tail h = (cc, cc)
is-line d s n p e Unknown h = (cc, cc)

-- A line that is found among records splits them.
split_from : (d s n : ℕ) (st : State) (j k : ℕ) (rs : List (List ℕ)) → line_from d s n st.stage st.deleghe j rs ≡ k → (k ≡ 0 → ⊥) → Split d s st j k rs
unfolding line_from next state_after
split_from d s n st j k [] e h = absurd (h (sym e))
split_from d s n st j k (r ∷ rs) e h = go (is_line d s n st.stage st.deleghe (kind_in r)) refl e (λ f. split_from d s n (next st r) (j + 1) k rs f h)
  where
    go : (t : Bool) → is_line d s n st.stage st.deleghe (kind_in r) ≡ t → cond t (j + 1) (line_from d s n (next_stage st.stage (kind_in r)) (next_deleghe st.deleghe (kind_in r)) (j + 1) rs) ≡ k →
        (line_from d s n (next_stage st.stage (kind_in r)) (next_deleghe st.deleghe (kind_in r)) (j + 1) rs ≡ k → Split d s (next st r) (j + 1) k rs) → Split d s st j k (r ∷ rs)
    go true t f on =
        let a = is-line d s n st.stage st.deleghe (kind_in r) t in
        record { before = []; here = r; behind = rs; split = refl; counted = omega arith; kind = a.0; number = a.1 }
    go false t f on =
        let p = on f in
        record { before = r ∷ p.before; here = p.here; behind = p.behind; split = ap (◌∷◌ r) p.split; counted = omega (arith, p.counted); kind = p.kind; number = p.number }

-- The line that is named splits the records of its flow.
pub line-splits : (f : List ℕ) (d subtype n : ℕ) → (line_of f d subtype n ≡ 0 → ⊥) → Split d (section_of subtype) start_state 0 (line_of f d subtype n) (records_of f)
unfolding line_of start_state
line-splits f d subtype n h = go (section_kind subtype) h
  where
    go : (k : Kind) → (line_of_kind d k n f ≡ 0 → ⊥) → Split d (of_line 5 (λ s. s) k) start_state 0 (line_of_kind d k n f) (records_of f)
    go Head h = absurd (h refl)
    go Taxpayer h = absurd (h refl)
    go Domicile h = absurd (h refl)
    go (Line s) h = split_from d s n start_state 0 _ (records_of f) refl h
    go (Balance s) h = absurd (h refl)
    go Payment h = absurd (h refl)
    go Receipt h = absurd (h refl)
    go Addressee h = absurd (h refl)
    go Tail h = absurd (h refl)
    go Unknown h = absurd (h refl)

-- The record that is named is the line.
pub named_here : (f : List ℕ) (d subtype n : ℕ) (h : line_of f d subtype n ≡ 0 → ⊥) → record_named f d subtype n ≡ (line-splits f d subtype n h).here
named_here f d subtype n h =
    let p = line-splits f d subtype n h in
    ap (λ (l : List (List ℕ)). get_or l (line_of f d subtype n - 1) []) p.split ∙ get_or_at p.before p.here p.behind [] (line_of f d subtype n - 1) (omega (arith, p.counted))

-- In an accepted flow it is the line that is named over the plain records.
pub line-found : (f : List ℕ) (d subtype n : ℕ) → (judged f).verdict ≡ Accepted → HasLine f d subtype n → line_of f d subtype n ≡ 0 → ⊥
line-found f d subtype n a h z = omega (arith, line-of-named f d subtype n h.0 a h.1, h.1.counted)

pub has-line : (f : List ℕ) (d subtype n : ℕ) → (judged f).verdict ≡ Accepted → (line_of f d subtype n ≡ 0 → ⊥) → HasLine f d subtype n
has-line f d subtype n a z = (line_of f d subtype n, named-line f d subtype n (line_of f d subtype n) a refl z)

-- Records of 120 bytes are so in each part.
sized-parts : (xs ys : List (List ℕ)) → Sized (xs ++ ys) → Sized xs × Sized ys
sized-parts [] ys z = (tt, z)
sized-parts (x ∷ xs) ys z = let p = sized-parts xs ys z.1 in ((z.0, p.0), p.1)

-- Parts of records of 120 bytes are so together.
sized-append : (xs ys : List (List ℕ)) → Sized xs → Sized ys → Sized (xs ++ ys)
sized-append [] ys z w = w
sized-append (x ∷ xs) ys z w = (z.0, sized-append xs ys z.1 w)

-- Bytes put into a part of a list.
put-within : (c : ℕ) (bs a r b : List ℕ) → c + length bs ≤ length r → put_at (length a + c) bs (a ++ (r ++ b)) ≡ a ++ (put_at c bs r ++ b)
unfolding put_at
put-within c bs a r b h =
    let e : length a + c + length bs ≡ length a + (c + length bs) = omega arith in
    rw (e, take-append-add a (r ++ b) c, drop-append-add a (r ++ b) (c + length bs), take-append-le c r b (omega arith), drop-append-le (c + length bs) r b h) (simp append_assoc)

-- A flow of whole records, split at a line.
module _ (f : List ℕ) (whole : length f % 120 ≡ 0) {d s k : ℕ} (p : Split d s start_state 0 k (records_of f)) where
  -- Its records have 120 bytes each.
  pub parts : Sized p.before × Sized (p.here ∷ p.behind)
  parts = sized-parts p.before (p.here ∷ p.behind) (rw p.split at (sized-records f whole))

  -- The line has 120 bytes.
  pub length-here : length p.here ≡ 120
  length-here = parts.1.0

  -- Its section is in the table.
  pub within-table : s < 5
  within-table = line-within p.here s p.kind

  -- It is a record of the flow, and its amounts lie within the flow.
  pub line_at : KthLine f k s
  line_at =
      let a = length-flat (records_of f) (sized-records f whole) in
      let b = ap length (flat-records f whole) in
      let e = simp length-append at (ap length p.split) in
      record { counted = omega (arith, p.counted); within = omega (arith, p.counted); section = within-table }

  pub amounts-room : Room f ((k - 1) * 120 + (section_at s).debit) ((k - 1) * 120 + (section_at s).credit)
  amounts-room = line-room f k s line_at

  -- The flow is the bytes of the records before it, of the line and of those behind it.
  whole-flow : f ≡ flat p.before ++ (p.here ++ flat p.behind)
  unfolding flat
  whole-flow = sym (flat-records f whole) ∙ (ap flat p.split ∙ flat_append p.before (p.here ∷ p.behind))

  module _ (x y : ℕ) where
    -- With other amounts it is the bytes of the same records but for the line's.
    pub replaced-flat : replaced k s x y f ≡ flat (p.before ++ (amended s x y p.here ∷ p.behind))
    unfolding replaced amended amounts_put flat
    replaced-flat =
        let e : (k - 1) * 120 ≡ length (flat p.before) = omega (arith, p.counted, length-flat p.before parts.0) in
        ap (λ (l : List ℕ). put_at ((k - 1) * 120 + (section_at s).debit) (digits_of 15 x) (put_at ((k - 1) * 120 + (section_at s).credit) (digits_of 15 y) l)) whole-flow
        ∙ (rw (
          e,
          put-within (section_at s).credit (digits_of 15 y) (flat p.before) p.here (flat p.behind) (credit-room s within-table p.here length-here y),
          put-within (section_at s).debit (digits_of 15 x) (flat p.before) (put_at (section_at s).credit (digits_of 15 y) p.here) (flat p.behind) (debit-room s within-table p.here length-here x y),
        ) (sym (flat_append p.before (amended s x y p.here ∷ p.behind))))

    -- The records of the flow with other amounts are the same but for the line.
    pub records-replaced : records_of (replaced k s x y f) ≡ p.before ++ (amended s x y p.here ∷ p.behind)
    records-replaced =
        ap records_of replaced-flat
        ∙ records-flat _ (sized-append p.before _ parts.0 (length-amended s within-table p.here length-here x y, parts.1.1))

    -- It has as many bytes.
    pub length-replaced : length (replaced k s x y f) ≡ length f
    unfolding replaced amounts_put
    length-replaced = length-amounts f _ _ amounts-room x y
