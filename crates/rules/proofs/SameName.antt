-- The twenty bytes of a support name by three words of eight, the last of which begins within the second.
use Prim.Native.Nat.{ℕ, ◌+◌, ◌-◌, ◌<◌, ◌≤◌}
use mathlib.Core.Path.{◌≡◌, sym, ap, ◌∙◌}
use mathlib.Core.Bool.{false, true}
use mathlib.Core.List.{List}
use native.Mathlib.Omega.{arith}
use native.Mathlib.Decide.{dec_lt}
use lib.ListN.{length, take, drop, get_or}
use lib.Seq.{ext_get_or, get_or-take, get_or-drop}
use Rattle.text.proofs.Bytes.{part_length}
use Rattle.text.proofs.Tests.{untrue}
use Rattle.words.specs.Words.{word, AtMost}
use Rattle.words.proofs.Fields.{at-most-part, word-inj}
use Rattle.layout.specs.Fields.{support_name, bytes_of}
use Rattle.amounts.specs.Names.{same_bytes}
use Rattle.amounts.proofs.Spelling.{same_bytes_lem, same-itself}

module _ (r name : List ℕ) (l : length r ≡ 120) (n : length name ≡ 20) where
  -- the name in the record, byte by byte
  named : (i : ℕ) → i < 20 → get_or (bytes_of r support_name) i 0 ≡ get_or r (19 + i) 0
  named i h = get_or-take 20 (drop 19 r) i 0 h ∙ get_or-drop 19 r i 0

  sized : length (bytes_of r support_name) ≡ 20
  sized = part_length 20 19 r (omega arith)

  -- the name is the one given, so that every word of it is
  pub words_same : same_bytes (bytes_of r support_name) name ≡ true → (i : ℕ) → i + 8 ≤ 20 → word (take 8 (drop (19 + i) r)) ≡ word (take 8 (drop i name))
  words_same e i h = ap word (ext_get_or 0 _ _ (part_length 8 (19 + i) r (omega arith) ∙ sym (part_length 8 i name (omega arith))) (λ j k. each j (rw (part_length 8 (19 + i) r (omega arith)) at k)))
    where
      each : (j : ℕ) → j < 8 → get_or (take 8 (drop (19 + i) r)) j 0 ≡ get_or (take 8 (drop i name)) j 0
      each j k =
          get_or-take 8 (drop (19 + i) r) j 0 k
          ∙ (get_or-drop (19 + i) r j 0
          ∙ (ap (λ (m : ℕ). get_or r m 0) (let q : 19 + i + j ≡ 19 + (i + j) = omega arith in q)
          ∙ (sym (named (i + j) (omega arith))
          ∙ (ap (λ (x : List ℕ). get_or x (i + j) 0) (same_bytes_lem _ _ e)
          ∙ sym (get_or-take 8 (drop i name) j 0 k ∙ get_or-drop i name j 0)))))

  module _ (fr : AtMost 255 r) (fn : AtMost 255 name) where
    -- a word that is the same has the same bytes
    in-word : (i j : ℕ) → i + 8 ≤ 20 → i ≤ j → j < i + 8 → word (take 8 (drop (19 + i) r)) ≡ word (take 8 (drop i name)) → get_or (bytes_of r support_name) j 0 ≡ get_or name j 0
    in-word i j h a b e =
        let s = word-inj (omega arith) (take 8 (drop (19 + i) r)) (take 8 (drop i name)) (at-most-part 255 8 (19 + i) r fr) (at-most-part 255 8 i name fn) (part_length 8 (19 + i) r (omega arith) ∙ sym (part_length 8 i name (omega arith))) e in
        named j (omega arith)
        ∙ (ap (λ (m : ℕ). get_or r m 0) (let q : 19 + j ≡ 19 + i + (j - i) = omega arith in q)
        ∙ (sym (get_or-take 8 (drop (19 + i) r) (j - i) 0 (omega arith) ∙ get_or-drop (19 + i) r (j - i) 0)
        ∙ (ap (λ (x : List ℕ). get_or x (j - i) 0) s
        ∙ (get_or-take 8 (drop i name) (j - i) 0 (omega arith)
        ∙ (get_or-drop i name (j - i) 0
        ∙ ap (λ (m : ℕ). get_or name m 0) (let q : i + (j - i) ≡ j = omega arith in q))))))

    -- three words that are the same make the name the same
    pub name-same : word (take 8 (drop 19 r)) ≡ word (take 8 (drop 0 name)) → word (take 8 (drop 27 r)) ≡ word (take 8 (drop 8 name)) → word (take 8 (drop 31 r)) ≡ word (take 8 (drop 12 name)) → same_bytes (bytes_of r support_name) name ≡ true
    name-same a b c = rw (ext_get_or 0 (bytes_of r support_name) name (sized ∙ sym n) (λ j h. each j (rw sized at h) (dec_lt j 8) (dec_lt j 16))) (same-itself name)
      where
        each : (j : ℕ) → j < 20 → Dec (j < 8) → Dec (j < 16) → get_or (bytes_of r support_name) j 0 ≡ get_or name j 0
        each j h (yes p) q = in-word 0 j (omega arith) (omega arith) (omega arith) a
        each j h (no p) (yes q) = in-word 8 j (omega arith) (omega arith) (omega arith) b
        each j h (no p) (no q) = in-word 12 j (omega arith) (omega arith) (omega arith) c

  -- a word that is another one makes the name another
  pub name-other : (i : ℕ) → i + 8 ≤ 20 → (word (take 8 (drop (19 + i) r)) ≡ word (take 8 (drop i name)) → ⊥) → same_bytes (bytes_of r support_name) name ≡ false
  name-other i h d = untrue _ (λ e. d (words_same e i h))
