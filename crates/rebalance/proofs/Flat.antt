-- The bytes of a flow and its records.
use Prim.Native.Nat.{ℕ, zero, suc, ◌+◌, ◌-◌, ◌*◌, ◌/◌, ◌%◌, ◌<◌, ◌≤◌}
use mathlib.Core.Path.{◌≡◌, refl, sym, ap, ap₂, ◌∙◌}
use mathlib.Core.List.{List, [], ◌∷◌, ◌++◌, append_assoc}
use native.Mathlib.Omega.{arith}
use native.Mathlib.Decide.{dec_lt}
use lib.ListN.{length, take, drop, get_or, length-append, length-drop, take-append-drop, get_or-append}
use lib.Seq.{take_at, drop_at, length-take-le, drop-append-le, take-append-le, get_or-append-add}
use Rattle.judge.specs.Flow.{chunks, records_of, head_name_of}
use Rattle.rebalance.specs.Rebalance.{Sized, flat}

-- The bytes of records one after the other are theirs.
pub flat_append : (xs ys : List (List ℕ)) → flat (xs ++ ys) ≡ flat xs ++ flat ys
unfolding flat
flat_append [] ys = refl
flat_append (x ∷ xs) ys = rw (flat_append xs ys) (sym (append_assoc x (flat xs) (flat ys)))

-- Records of 120 bytes have as many bytes together as 120 times their number.
pub length-flat : (rs : List (List ℕ)) → Sized rs → length (flat rs) ≡ length rs * 120
unfolding flat
length-flat [] s = refl
length-flat (r ∷ rs) s = let e = s.0 in let h = length-flat rs s.1 in rw length-append (omega arith)

-- Records of 120 bytes are the records of their bytes.
pub chunks-flat : (rs : List (List ℕ)) → Sized rs → chunks (length rs) (flat rs) ≡ rs
unfolding chunks flat
chunks-flat [] s = refl
chunks-flat (r ∷ rs) s = ap₂ ◌∷◌ (take_at r (flat rs) 120 s.0) (ap (chunks (length rs)) (drop_at r (flat rs) 120 s.0) ∙ chunks-flat rs s.1)

-- Records of 120 bytes are the records of the flow that they make.
pub records-flat : (rs : List (List ℕ)) → Sized rs → records_of (flat rs) ≡ rs
records-flat rs s = let e : length (flat rs) / 120 ≡ length rs = omega (arith, length-flat rs s) in ap (λ (n : ℕ). chunks n (flat rs)) e ∙ chunks-flat rs s

-- A flow of whole records is the bytes of its records.
pub flat-chunks : (n : ℕ) (s : List ℕ) → length s ≡ n * 120 → flat (chunks n s) ≡ s
unfolding chunks flat
flat-chunks zero [] e = refl
flat-chunks zero (b ∷ s) e = absurd (omega arith)
flat-chunks (suc n) s e = ap (λ (l : List ℕ). take 120 s ++ l) (flat-chunks n (drop 120 s) (rw length-drop (omega arith))) ∙ take-append-drop 120 s

-- The records of a flow have 120 bytes each.
pub sized-chunks : (n : ℕ) (s : List ℕ) → n * 120 ≤ length s → Sized (chunks n s)
unfolding chunks
sized-chunks zero s h = tt
sized-chunks (suc n) s h = (length-take-le 120 s (omega arith), sized-chunks n (drop 120 s) (rw length-drop (omega arith)))

-- The head's name does not depend on what follows the head.
pub name-in-front : (r ys : List ℕ) → length r ≡ 120 → head_name_of (r ++ ys) ≡ head_name_of r
name-in-front r ys l = rw (drop-append-le 19 r ys (omega arith)) (take-append-le 20 (drop 19 r) ys (rw length-drop (omega arith)))

-- The byte of records at an index is that of a record at a column.
pub flat-byte : (rs : List (List ℕ)) → Sized rs → (i : ℕ) → get_or (flat rs) i 0 ≡ get_or (get_or rs (i / 120) []) (i % 120) 0
unfolding flat
flat-byte [] z i = refl
flat-byte (r ∷ rs) z i = go (dec_lt i 120) (flat-byte rs z.1 (i - 120))
  where
    go : Dec (i < 120) → get_or (flat rs) (i - 120) 0 ≡ get_or (get_or rs ((i - 120) / 120) []) ((i - 120) % 120) 0 → get_or (r ++ flat rs) i 0 ≡ get_or (get_or (r ∷ rs) (i / 120) []) (i % 120) 0
    go (yes h) ih =
        let q : i / 120 ≡ 0 = omega arith in
        let c : i % 120 ≡ i = omega arith in
        rw (q, c) (get_or-append r (flat rs) 0 i (omega (arith, z.0)))
    go (no h) ih =
        let e : i ≡ length r + (i - 120) = omega (arith, z.0) in
        let q : i / 120 ≡ suc ((i - 120) / 120) = omega arith in
        let c : i % 120 ≡ (i - 120) % 120 = omega arith in
        rw (q, c) (ap (λ (j : ℕ). get_or (r ++ flat rs) j 0) e ∙ (get_or-append-add r (flat rs) (i - 120) 0 ∙ ih))
