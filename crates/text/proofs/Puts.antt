-- Laws of bytes put at a place: what stands there, what stands elsewhere, and how two puts go together.
use Prim.Native.Nat.{ℕ, ◌+◌, ◌-◌, ◌<◌, ◌≤◌}
use mathlib.Core.Path.{◌≡◌, refl, sym, ap, ◌∙◌}
use mathlib.Core.List.{List, ◌++◌, append_assoc}
use native.Mathlib.Omega.{arith}
use borrow.Rule.Slice.PartMut.{put_mid}
use lib.ListN.{length, take, drop, get_or, length-append, length-drop, take-append-drop, get_or-append}
use lib.Seq.{take_all, length-take-le, drop-append-le, take-append-le, take_at, drop_at, get_or-take, get_or-drop, drop-drop}
use Rattle.text.specs.Answers.{Allowed}
use Rattle.text.specs.Characters.{first_bad}
use Rattle.text.specs.Placing.{put_at}
use Rattle.text.proofs.Allowed.{allowed-append, allowed-take, allowed-drop}

module _ (s : ℕ) (bs r : List ℕ) (h : s + length bs ≤ length r) where
  -- As many bytes stand before the place as its number says.
  short : length (take s r) ≡ s
  short = length-take-le s r (omega arith)

  -- A put leaves the number of bytes.
  pub length-put : length (put_at s bs r) ≡ length r
  unfolding put_at
  length-put = rw (length-append, length-append, short, length-drop) (omega arith)

  -- The bytes that were put stand at their place.
  pub put-here : (n : ℕ) → n ≡ length bs → take n (drop s (put_at s bs r)) ≡ bs
  unfolding put_at
  put-here n e = rw (drop_at (take s r) (bs ++ drop (s + length bs) r) s short) (take_at bs (drop (s + length bs) r) n (sym e))

  -- What stands right after the place stays.
  put_rest : drop (s + length bs) (put_at s bs r) ≡ drop (s + length bs) r
  unfolding put_at
  put_rest = rw (← (append_assoc (take s r) bs (drop (s + length bs) r))) (drop_at (take s r ++ bs) (drop (s + length bs) r) (s + length bs) (rw (length-append, short)))

  -- What stands after the place stays.
  pub put-after : (m : ℕ) → s + length bs ≤ m → drop m (put_at s bs r) ≡ drop m r
  put-after m k =
      let e : s + length bs + (m - (s + length bs)) ≡ m = omega arith in
      rw (← e, ← (drop-drop (m - (s + length bs)) (s + length bs) (put_at s bs r)), ← (drop-drop (m - (s + length bs)) (s + length bs) r), put_rest)

  -- A part that ends before the place does not depend on what follows.
  put_front : (n m : ℕ) (ys : List ℕ) → m + n ≤ s → take n (drop m (take s r ++ ys)) ≡ take n (drop m (take s r))
  put_front n m ys k =
      let l : length (take s r) ≡ s = short in
      rw (drop-append-le m (take s r) ys (omega arith)) (take-append-le n (drop m (take s r)) ys (rw length-drop (omega arith)))

  -- A part that ends before the place stays.
  pub put-before : (n m : ℕ) → m + n ≤ s → take n (drop m (put_at s bs r)) ≡ take n (drop m r)
  unfolding put_at
  put-before n m k = put_front n m _ k ∙ (sym (put_front n m (drop s r) k) ∙ ap (λ (l : List ℕ). take n (drop m l)) (take-append-drop s r))

  -- A byte before the place stays.
  pub put-byte-before : (i d : ℕ) → i < s → get_or (put_at s bs r) i d ≡ get_or r i d
  unfolding put_at
  put-byte-before i d k = get_or-append (take s r) (bs ++ drop (s + length bs) r) d i (rw short k) ∙ get_or-take s r i d k

  -- A byte after the place stays.
  pub put-byte-after : (i d : ℕ) → s + length bs ≤ i → get_or (put_at s bs r) i d ≡ get_or r i d
  put-byte-after i d k =
      let e : i + 0 ≡ i = omega arith in
      sym (ap (λ (n : ℕ). get_or (put_at s bs r) n d) e) ∙ (sym (get_or-drop i (put_at s bs r) 0 d) ∙ (ap (λ (l : List ℕ). get_or l 0 d) (put-after i k) ∙ (get_or-drop i r 0 d ∙ ap (λ (n : ℕ). get_or r n d) e)))

  -- Putting what stands there already changes nothing.
  pub put_same : take (length bs) (drop s r) ≡ bs → put_at s bs r ≡ r
  unfolding put_at
  put_same e =
      ap (λ (l : List ℕ). take s r ++ l) (ap (λ (l : List ℕ). l ++ drop (s + length bs) r) (sym e) ∙ (ap (λ (l : List ℕ). take (length bs) (drop s r) ++ l) (sym (drop-drop (length bs) s r)) ∙ take-append-drop (length bs) (drop s r)))
      ∙ take-append-drop s r

  -- Allowed bytes put into an allowed part leave it allowed.
  pub put-allowed : first_bad bs ≡ Allowed → first_bad r ≡ Allowed → first_bad (put_at s bs r) ≡ Allowed
  unfolding put_at
  put-allowed p q = allowed-append (take s r) _ 0 0 (allowed-take s r 0 q) (allowed-append bs _ 0 0 p (allowed-drop (s + length bs) r 0 q))

  -- A put over another of the same length leaves nothing of it.
  pub put-over : (cs : List ℕ) → length cs ≡ length bs → put_at s cs (put_at s bs r) ≡ put_at s cs r
  unfolding put_at
  put-over cs e = rw (put-before s 0 (omega arith), put-after (s + length cs) (omega arith))

-- Putting back what stood there restores every byte.
pub put_back : (s : ℕ) (bs r : List ℕ) → s + length bs ≤ length r → put_at s (take (length bs) (drop s r)) (put_at s bs r) ≡ r
put_back s bs r h =
    let l : length (take (length bs) (drop s r)) ≡ length bs = length-take-le (length bs) (drop s r) (rw length-drop (omega arith)) in
    put-over s bs r h _ l ∙ put_same s _ r (omega arith) (ap (λ (n : ℕ). take n (drop s r)) l)

-- A put into the front of a list leaves what follows.
put-left : (s : ℕ) (bs x y : List ℕ) → s + length bs ≤ length x → put_at s bs (x ++ y) ≡ put_at s bs x ++ y
unfolding put_at
put-left s bs x y h = rw (take-append-le s x y (omega arith), drop-append-le (s + length bs) x y h) (simp append_assoc)

-- The parts of which a put is made.
pub put_is : (s : ℕ) (bs r : List ℕ) → put_at s bs r ≡ take s r ++ (bs ++ drop (s + length bs) r)
unfolding put_at
put_is s bs r = refl

-- Bytes put over all of a room are those bytes.
pub put_whole : (bs r : List ℕ) → length bs ≡ length r → put_at 0 bs r ≡ bs
put_whole bs r e =
    let g : 0 + length bs ≤ length r = omega arith in
    let n = length-put 0 bs r g in
    sym (take_all (length bs) (put_at 0 bs r) (omega arith)) ∙ put-here 0 bs r g (length bs) refl

-- Puts at places that do not overlap may go in either order.
pub puts-commute : (s : ℕ) (bs : List ℕ) (t : ℕ) (cs r : List ℕ) → s + length bs ≤ t → t + length cs ≤ length r → put_at s bs (put_at t cs r) ≡ put_at t cs (put_at s bs r)
puts-commute s bs t cs r h k =
    let l : length (take t r) ≡ t = length-take-le t r (omega arith) in
    let m : length (put_at s bs (take t r)) ≡ t = length-put s bs (take t r) (omega arith) ∙ l in
    let e : put_at s bs r ≡ put_at s bs (take t r) ++ drop t r = ap (put_at s bs) (sym (take-append-drop t r)) ∙ put-left s bs (take t r) (drop t r) (omega arith) in
    rw (put_is t cs r, put-left s bs (take t r) _ (omega arith), put_is t cs (put_at s bs r), put-after s bs r (omega arith) (t + length cs) (omega arith), e, take_at (put_at s bs (take t r)) (drop t r) t m)

-- A part of a room that is written over is a put at its place.
pub put_mid-put : (s n : ℕ) (bs r : List ℕ) → n ≡ length bs → put_mid s n r bs ≡ put_at s bs r
unfolding put_at
put_mid-put s n bs r e = rw (e, drop-drop (length bs) s r)
