-- Records that are alike outside some columns: once these are written they are equal, whatever stood there.
use Prim.Native.Nat.{ℕ, ◌+◌, ◌-◌, ◌≤◌, ◌<◌}
use mathlib.Core.Path.{◌≡◌, refl, sym, ap, ◌∙◌}
use mathlib.Core.Bool.{true, false}
use mathlib.Core.List.{List, [], ◌∷◌}
use mathlib.Core.Logic.{inl, inr}
use native.Mathlib.Omega.{arith}
use native.Mathlib.Decide.{dec_lt}
use borrow.Author.Tests.{leb-true}
use lib.Dec.{leb}
use lib.ListN.{length, get_or, drop}
use lib.Seq.{ext_get_or, get_or-take, get_or-drop}
use Rattle.text.specs.Placing.{put_at}
use Rattle.text.proofs.Puts.{length-put, put-here}
use Rattle.layout.specs.declared.Field.{Field}
use Rattle.layout.specs.Fields.{in_columns}
use Rattle.rules.specs.Stored.{Stored}
use Rattle.rebalance.specs.Rebalance.{put_all, clear, start_of, width_of, text_of}
use Rattle.text.proofs.Tests.{both_true}
use Rattle.rebalance.proofs.Written.{byte_of, laid, length-text, length-put_all, put_all-clear}
use Rattle.rebalance.proofs.Outside.{Beside, off-all, put-off, Covers, covers-clear}

-- Two records of 120 bytes are alike outside these columns.
pub record Alike (fs : List Field) (r q : List ℕ) : Type 0 where
  pub one : length r ≡ 120
  pub other : length q ≡ 120
  pub same : (i : ℕ) → in_columns i fs ≡ false → get_or r i 0 ≡ get_or q i 0

-- A byte within a place is the one that is put there.
put-within : (s : ℕ) (bs r : List ℕ) → s + length bs ≤ length r → (j : ℕ) → j < length bs → get_or (put_at s bs r) (s + j) 0 ≡ get_or bs j 0
put-within s bs r h j k =
    sym (get_or-drop s (put_at s bs r) j 0) ∙ (sym (get_or-take (length bs) (drop s (put_at s bs r)) j 0 k) ∙ ap (λ (l : List ℕ). get_or l j 0) (put-here s bs r h (length bs) refl))

-- Records that are alike outside a field and others are alike outside the others, once the field is written.
pub alike-put : (f : Field) (fs : List Field) (bs : List ℕ) {r q : List ℕ} → f.start + length bs ≡ f.end → f.end ≤ 120 → Alike (f ∷ fs) r q → Alike fs (put_at f.start bs r) (put_at f.start bs q)
alike-put f fs bs {r} {q} e h a =
    let l : length r ≡ 120 = a.one in
    let m : length q ≡ 120 = a.other in
    let u : f.start + length bs ≤ length r = omega arith in
    let v : f.start + length bs ≤ length q = omega arith in
    record { one = length-put f.start bs r u ∙ l; other = length-put f.start bs q v ∙ m; same = λ i z. go l m u v i z (dec_lt i f.start) (dec_lt i f.end) }
  where
    off : length r ≡ 120 → length q ≡ 120 → (i : ℕ) → in_columns i fs ≡ false → Beside i f → get_or (put_at f.start bs r) i 0 ≡ get_or (put_at f.start bs q) i 0
    off l m i z o = put-off f bs r e (omega arith) i o ∙ (a.same i (off-all i f fs o z) ∙ sym (put-off f bs q e (omega arith) i o))

    go : length r ≡ 120 → length q ≡ 120 → f.start + length bs ≤ length r → f.start + length bs ≤ length q → (i : ℕ) → in_columns i fs ≡ false → Dec (i < f.start) → Dec (i < f.end) → get_or (put_at f.start bs r) i 0 ≡ get_or (put_at f.start bs q) i 0
    go l m u v i z (yes p) t = off l m i z (inl p)
    go l m u v i z (no p) (no t) = off l m i z (inr (omega arith))
    go l m u v i z (no p) (yes t) =
        let j : f.start + (i - f.start) ≡ i = omega arith in
        rw (← j) (put-within f.start bs r u (i - f.start) (omega arith) ∙ sym (put-within f.start bs q v (i - f.start) (omega arith)))

-- Records that are alike everywhere are equal.
pub alike-equal : {r q : List ℕ} → Alike [] r q → r ≡ q
unfolding in_columns
alike-equal {r} {q} a = ext_get_or 0 r q (a.one ∙ sym a.other) (λ i h. a.same i refl)

-- Records that are alike outside stored fields are equal, once these are written.
pub alike-stored : (fs : List Field) (xs : List Stored) (r q : List ℕ) → Covers fs xs → laid xs ≡ true → Alike fs r q → put_all xs r ≡ put_all xs q
unfolding put_all laid
alike-stored [] [] r q v h a = alike-equal a
alike-stored [] (x ∷ xs) r q v h a = absurd v
alike-stored (f ∷ fs) [] r q v h a = absurd v
alike-stored (f ∷ fs) (x ∷ xs) r q v h a =
    let p = both_true (leb (start_of x + width_of x) 120) _ h in
    let c = both_true (clear (start_of x) (width_of x) xs) (laid xs) p.1 in
    let w : f.start + length (text_of x) ≡ f.end = omega (arith, v.0, v.1, length-text x) in
    let b : f.end ≤ 120 = omega (arith, v.1, leb-true (start_of x + width_of x) 120 p.0) in
    alike-stored fs xs _ _ v.2 c.1 (rw v.0 at (alike-put f fs (text_of x) w b a))

-- Of stored fields that are written twice, what is written last stays.
pub stored-over : (fs : List Field) (xs ys : List Stored) (r : List ℕ) → Covers fs xs → Covers fs ys → laid xs ≡ true → laid ys ≡ true → length r ≡ 120 → put_all ys (put_all xs r) ≡ put_all ys r
stored-over fs xs ys r v w h i l =
    alike-stored fs ys (put_all xs r) r w i
    (record {
      one = length-put_all xs r h l;
      other = l;
      same = λ c e. byte_of (put_all xs r) c ∙ (ap (λ (b : List ℕ). get_or b 0 0) (put_all-clear xs r h l c 1 (covers-clear c fs xs v e)) ∙ sym (byte_of r c));
    })
