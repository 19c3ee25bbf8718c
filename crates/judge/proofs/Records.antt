-- The records of a flow: as many as it has 120 bytes, and the k-th of them its 120 bytes from (k - 1) * 120 on.
use Prim.Native.Nat.{ℕ, zero, suc, ◌+◌, ◌-◌, ◌*◌, ◌/◌, ◌<◌, ◌≤◌}
use mathlib.Core.Path.{◌≡◌, refl, ap, ◌∙◌}
use mathlib.Core.List.{List, [], ◌∷◌}
use native.Mathlib.Omega.{arith}
use borrow.Author.Tests.{lt-ltb, le-ltb, eq-eqb, ne_eqb}
use lib.ListN.{length, take, drop, get_or, get_or-eq_default}
use lib.Seq.{drop-drop}
use Rattle.text.proofs.Bytes.{part_length}
use Rattle.judge.specs.Flow.{chunks, records_of}
use Rattle.judge.specs.Part.{record_at, record_start}

-- n records are n
pub length-chunks : (n : ℕ) (s : List ℕ) → length (chunks n s) ≡ n
unfolding chunks
length-chunks zero s = refl
length-chunks (suc n) s = ap suc (length-chunks n (drop 120 s))

-- where one is left behind k records, it is the next 120 bytes
pub chunks-on : (m n k : ℕ) (s : List ℕ) → m ≡ suc n → chunks m (drop (k * 120) s) ≡ take 120 (drop (k * 120) s) ∷ chunks n (drop ((k + 1) * 120) s)
unfolding chunks
chunks-on m n k s e = rw (e, drop-drop 120 (k * 120) s) (ap (λ (j : ℕ). take 120 (drop (k * 120) s) ∷ chunks n (drop j s)) (let h : k * 120 + 120 ≡ (k + 1) * 120 = omega arith in h))

-- the i-th, counted from 0, starts behind i records
pub chunk-at : (n i : ℕ) (s : List ℕ) → i < n → get_or (chunks n s) i [] ≡ take 120 (drop (i * 120) s)
unfolding chunks
chunk-at zero i s h = absurd (omega arith)
chunk-at (suc n) zero s h = refl
chunk-at (suc n) (suc i) s h =
    let e : 120 + i * 120 ≡ suc i * 120 = omega arith in
    chunk-at n i (drop 120 s) (omega arith) ∙ ap (take 120) (drop-drop (i * 120) 120 s ∙ ap (λ (m : ℕ). drop m s) e)

-- no record has the number 0
pub none_first : (f : List ℕ) (k : ℕ) → k ≡ 0 → (record_at f k ≡ []) × (record_start f k ≡ 0)
unfolding record_at record_start
none_first f k e = (rw e, rw (eq-eqb k 0 e))

-- nor a number above that of the records
pub none-beyond : (f : List ℕ) (k : ℕ) → length f / 120 < k → (record_at f k ≡ []) × (record_start f k ≡ 0)
unfolding record_at record_start
none-beyond f k h =
    (get_or-eq_default ([] ∷ records_of f) [] {n = k} (omega (arith, length-chunks (length f / 120) f)), rw (ne_eqb k 0 (omega arith), lt-ltb _ _ h))

-- the records are counted from 1
pub record-there : (f : List ℕ) (k : ℕ) → (k ≡ 0 → ⊥) → k ≤ length f / 120 → (record_at f k ≡ take 120 (drop (k * 120 - 120) f)) × (record_start f k ≡ k * 120 - 120)
unfolding record_at record_start
record-there f zero n h = absurd (n refl)
record-there f (suc i) n h =
    let e : i * 120 ≡ suc i * 120 - 120 = omega arith in
    (chunk-at (length f / 120) i f (omega arith) ∙ ap (λ (m : ℕ). take 120 (drop m f)) e, rw (ne_eqb (suc i) 0 n, le-ltb _ _ h))

-- and each is whole
pub record-whole : (f : List ℕ) (k : ℕ) → (k ≡ 0 → ⊥) → k ≤ length f / 120 → length (record_at f k) ≡ 120
record-whole f k n h =
    ap length (record-there f k n h).0 ∙ part_length 120 (k * 120 - 120) f (omega arith)

pub record-number : (f : List ℕ) (k : ℕ) → 0 < k → record_at f k ≡ get_or (records_of f) (k - 1) []
unfolding record_at
record-number f zero h = absurd (omega arith)
record-number f (suc i) h =
    let e : i ≡ suc i - 1 = omega arith in
    ap (λ (m : ℕ). get_or (records_of f) m []) e
