-- One mistyped character of a code is found, whichever kind of code it is; and of all last characters behind fifteen exactly one makes a code.
use Prim.Native.Nat.{ℕ, zero, suc, ◌+◌, ◌<◌, ◌≤◌, ◌%◌}
use mathlib.Core.Path.{◌≡◌, refl, sym, ap, ◌∙◌}
use mathlib.Core.Bool.{Bool, true, false, cond}
use mathlib.Core.List.{List, [], ◌∷◌, ◌++◌}
use native.Mathlib.Nat.{add-zero}
use native.Mathlib.Omega.{arith}
use lib.Dec.{eqb, leb}
use lib.ListN.{length, get_or, take, set, length-append, get_or-append}
use lib.Seq.{get_or-set_same, get_or-set_other, take-set-le, take-set-lt, get_or-take, length-take-le, take_at, get_or_at}
use borrow.Author.Tests.{eqb-true, eqb-false, eq-eqb, leb-true, leb-false}
use Rattle.text.specs.Numbers.{digit}
use Rattle.text.proofs.Bytes.{between, within}
use Rattle.text.proofs.Tests.{untrue, both_true}
use Rattle.taxcode.specs.Places.{every_from, sum_from}
use Rattle.taxcode.specs.Persons.{capital, place_right, value_at, last_letter, person_right}
use Rattle.taxcode.specs.Firms.{count_at, digit_or_space, firm_right}
use Rattle.taxcode.specs.TaxCodes.{code_right}
use Rattle.taxcode.proofs.Computed.{Tells}
use Rattle.taxcode.proofs.Characters.{letter-place, values-tell}
use Rattle.taxcode.proofs.Digits.{counts-tell}
use Rattle.taxcode.proofs.PersonTurns.{person-is}
use Rattle.taxcode.proofs.FirmTurns.{digit-place, space-place}

-- where all characters pass, each does
every-at : (p : ℕ → ℕ → Bool) (k : ℕ) (l : List ℕ) (i : ℕ) → i < length l → every_from p k l ≡ true → p (k + i) (get_or l i 0) ≡ true
unfolding every_from
every-at p k [] i h e = absurd (omega arith)
every-at p k (b ∷ bs) zero h e = rw (add-zero k) (both_true (p k b) _ e).0
every-at p k (b ∷ bs) (suc i) h e =
    let s : k + suc i ≡ k + 1 + i = omega arith in
    rw s (every-at p (k + 1) bs i (omega arith) (both_true (p k b) _ e).1)

-- another character in place changes a sum by what it counts there
sum-set : (v : ℕ → ℕ → ℕ) (k : ℕ) (l : List ℕ) (i b : ℕ) → i < length l → sum_from v k (set l i b) + v (k + i) (get_or l i 0) ≡ sum_from v k l + v (k + i) b
unfolding sum_from
sum-set v k [] i b h = absurd (omega arith)
sum-set v k (x ∷ xs) zero b h = rw (add-zero k) (omega arith)
sum-set v k (x ∷ xs) (suc i) b h =
    let s : k + suc i ≡ k + 1 + i = omega arith in
    let t = sum-set v (k + 1) xs i b (omega arith) in
    rw s (omega arith)

-- two characters in one place of which neither spoils the test of the sum are the same, where the test tells what counts differently
module _ (r : ℕ → ℕ → Bool) (v : ℕ → ℕ → ℕ) (m : ℕ) (f : ℕ → Bool)
    (told : (k : ℕ) → Tells (r k) (v k) m) (one : (s t a b : ℕ) → t + a ≡ s + b → a < m → b < m → f s ≡ true → f t ≡ true → a ≡ b) where
  same-there : (l : List ℕ) (i b : ℕ) → i < length l → r (i + 1) (get_or l i 0) ≡ true → r (i + 1) b ≡ true →
      f (sum_from v 1 l) ≡ true → f (sum_from v 1 (set l i b)) ≡ true → b ≡ get_or l i 0
  same-there l i b h x y p q =
      let t = told (i + 1) in
      let s : i + 1 ≡ 1 + i = omega arith in
      sym (t.apart _ b x y (one _ _ _ _ (rw s (sum-set v 1 l i b h)) (t.small _ x) (t.small b y) p q))

-- what the definitions say of a code
record Person (code : List ℕ) : Type 0 where
  long : length code ≡ 16
  places : (i : ℕ) → i < 15 → place_right (i + 1) (get_or code i 0) ≡ true
  last : get_or code 15 0 ≡ 65 + sum_from value_at 1 (take 15 code) % 26

record Firm (code : List ℕ) : Type 0 where
  long : length code ≡ 16
  places : (i : ℕ) → i < 16 → digit_or_space (i + 1) (get_or code i 0) ≡ true
  sums : sum_from count_at 1 (take 11 code) % 10 ≡ 0

person-of : (code : List ℕ) → person_right code ≡ true → Person code
unfolding person_right last_letter
person-of code e =
    let a = both_true (eqb (length code) 16) _ e in
    let b = both_true (every_from place_right 1 (take 15 code)) _ a.1 in
    let l : length code ≡ 16 = eqb-true _ _ a.0 in
    let f : length (take 15 code) ≡ 15 = length-take-le 15 code (omega arith) in
    record {
      long = l;
      places = λ i h. let s : i + 1 ≡ 1 + i = omega arith in rw (s, ← (get_or-take 15 code i 0 h)) (every-at place_right 1 (take 15 code) i (omega arith) b.0);
      last = eqb-true _ _ b.1;
    }

firm-of : (code : List ℕ) → firm_right code ≡ true → Firm code
unfolding firm_right
firm-of code e =
    let a = both_true (eqb (length code) 16) _ e in
    let b = both_true (every_from digit_or_space 1 code) _ a.1 in
    let l : length code ≡ 16 = eqb-true _ _ a.0 in
    record {
      long = l;
      places = λ i h. let s : i + 1 ≡ 1 + i = omega arith in rw s (every-at digit_or_space 1 code i (omega arith) b.0);
      sums = eqb-true _ _ b.1;
    }

-- a person's code begins with two letters, and a firm's with two digits
kinds-apart : (a b : List ℕ) → Person a → Firm b → (i : ℕ) → i < 2 → get_or a i 0 ≡ get_or b i 0 → ⊥
kinds-apart a b p f i h e =
    let x : place_right (i + 1) (get_or b i 0) ≡ true = rw (← e) (p.places i (omega arith)) in
    let y : digit (get_or b i 0) ≡ true = sym (digit-place (i + 1) _ (omega arith)) ∙ f.places i (omega arith) in
    let l = letter-place (i + 1) (get_or b i 0) (omega arith) x in
    let d = between 48 57 (get_or b i 0) y in
    omega arith

module _ (code : List ℕ) (i b : ℕ) (inside : i < 16) (other : b ≡ get_or code i 0 → ⊥) where
  -- one of the first two characters stays
  one-stays : (j : ℕ) × (j < 2) × (get_or code j 0 ≡ get_or (set code i b) j 0)
  one-stays = go (eqb i 0) refl
    where
      go : (t : Bool) → eqb i 0 ≡ t → (j : ℕ) × (j < 2) × (get_or code j 0 ≡ get_or (set code i b) j 0)
      go true q = let z : i ≡ 0 = eqb-true i 0 q in (1, omega arith, sym (get_or-set_other code i 1 b 0 (λ e. omega arith)))
      go false q = let z = eqb-false i 0 q in (0, omega arith, sym (get_or-set_other code i 0 b 0 (λ e. z (sym e))))

  persons-apart : Person code → Person (set code i b) → ⊥
  persons-apart p q = go (leb 15 i) refl
    where
      l : length code ≡ 16
      l = p.long

      same-last : 15 ≤ i → b ≡ get_or code i 0
      same-last h =
          let z : i ≡ 15 = omega arith in
          sym (get_or-set_same code i b 0 (omega arith)) ∙ ap (λ (n : ℕ). get_or (set code i b) n 0) z ∙ q.last
          ∙ ap (λ (t : List ℕ). 65 + sum_from value_at 1 t % 26) (take-set-le 15 code i b h) ∙ sym p.last ∙ ap (λ (n : ℕ). get_or code n 0) (sym z)

      same_first : i < 15 → b ≡ get_or code i 0
      same_first h =
          let f : length (take 15 code) ≡ 15 = length-take-le 15 code (omega arith) in
          let g = get_or-take 15 code i 0 h in
          let o : get_or (set code i b) 15 0 ≡ get_or code 15 0 = get_or-set_other code i 15 b 0 (λ e. omega arith) in
          let y : place_right (i + 1) b ≡ true = rw (get_or-set_same code i b 0 (omega arith)) at (q.places i h) in
          rw (← g) (same-there place_right value_at 26 (λ s. eqb (get_or code 15 0) (65 + s % 26)) values-tell
          (λ s t c d e u w x z. let m : get_or code 15 0 ≡ 65 + s % 26 = eqb-true _ _ x in let n : get_or code 15 0 ≡ 65 + t % 26 = eqb-true _ _ z in omega arith)
          (take 15 code) i b (omega arith) (rw g (p.places i h)) y (eq-eqb _ _ p.last)
          (rw (← (take-set-lt 15 code i b h)) (eq-eqb _ _ (sym o ∙ q.last))))

      go : (t : Bool) → leb 15 i ≡ t → ⊥
      go true e = other (same-last (leb-true 15 i e))
      go false e = other (same_first (leb-false 15 i e))

  firms-apart : Firm code → Firm (set code i b) → ⊥
  firms-apart p q = go (leb 11 i) refl
    where
      l : length code ≡ 16
      l = p.long

      here : digit_or_space (i + 1) b ≡ true
      here = rw (get_or-set_same code i b 0 (omega arith)) at (q.places i inside)

      same-space : 11 ≤ i → b ≡ get_or code i 0
      same-space h =
          let s = space-place (i + 1) in
          eqb-true b 32 (sym (s b (omega arith)) ∙ here) ∙ sym (eqb-true (get_or code i 0) 32 (sym (s _ (omega arith)) ∙ p.places i inside))

      same-digit : i < 11 → b ≡ get_or code i 0
      same-digit h =
          let f : length (take 11 code) ≡ 11 = length-take-le 11 code (omega arith) in
          let g = get_or-take 11 code i 0 h in
          let d = digit-place (i + 1) in
          rw (← g) (same-there (λ k b. digit b) count_at 10 (λ s. eqb (s % 10) 0) counts-tell
          (λ s t c d e u w x z. let m : s % 10 ≡ 0 = eqb-true _ _ x in let n : t % 10 ≡ 0 = eqb-true _ _ z in omega arith)
          (take 11 code) i b (omega arith) (rw g (sym (d _ (omega arith)) ∙ p.places i inside)) (sym (d b (omega arith)) ∙ here) (eq-eqb _ _ p.sums)
          (rw (← (take-set-lt 11 code i b h)) (eq-eqb _ _ q.sums)))

      go : (t : Bool) → leb 11 i ≡ t → ⊥
      go true e = other (same-space (leb-true 11 i e))
      go false e = other (same-digit (leb-false 11 i e))

-- which kind of code it is
data KindOf (code : List ℕ) : Type 0 where
  person : Person code → KindOf code
  firm : Firm code → KindOf code

kind-of : (code : List ℕ) → code_right code ≡ true → KindOf code
unfolding code_right
kind-of code e = go (person_right code) refl e
  where
    go : (t : Bool) → person_right code ≡ t → cond t true (firm_right code) ≡ true → KindOf code
    go true p e = person (person-of code p)
    go false p e = firm (firm-of code e)

-- a code that passes, with any one of its characters mistyped, passes no more
pub one-slip-found : (code : List ℕ) → code_right code ≡ true → (i b : ℕ) → i < 16 → (b ≡ get_or code i 0 → ⊥) → code_right (set code i b) ≡ false
one-slip-found code e i b h n = untrue _ (λ f. apart (kind-of code e) (kind-of (set code i b) f))
  where
    apart : KindOf code → KindOf (set code i b) → ⊥
    apart (person p) (person q) = persons-apart code i b h n p q
    apart (firm p) (firm q) = firms-apart code i b h n p q
    apart (person p) (firm q) = let s = one-stays code i b h n in kinds-apart _ _ p q s.0 s.1 s.2
    apart (firm p) (person q) = let s = one-stays code i b h n in kinds-apart _ _ q p s.0 s.1 (sym s.2)

-- of all characters behind fifteen that may stand in their places exactly one makes a code: the letter that they give
pub one-last-letter : (first : List ℕ) → length first ≡ 15 → every_from place_right 1 first ≡ true → (b : ℕ) → code_right (first ++ (b ∷ [])) ≡ eqb b (last_letter first)
unfolding code_right
one-last-letter first l e b =
    let x = first ++ (b ∷ []) in
    let n : length x ≡ 16 = length-append first (b ∷ []) ∙ ap (λ (k : ℕ). k + 1) l in
    let t = take_at first (b ∷ []) 15 l in
    let p : person_right x ≡ eqb b (last_letter first) = rw (t, get_or_at first b [] 0 15 l) at (person-is x n (rw t e)) in
    let h : 65 ≤ get_or first 0 0 = letter-place 1 (get_or first 0 0) (omega arith) (every-at place_right 1 first 0 (omega arith) e) in
    rw (p, untrue (firm_right x) (λ f. no_digit x (firm-of x f) (rw (get_or-append first (b ∷ []) 0 0 (omega arith)) h))) (either (eqb b (last_letter first)))
  where
    no_digit : (c : List ℕ) → Firm c → 65 ≤ get_or c 0 0 → ⊥
    no_digit c f h = let d = between 48 57 (get_or c 0 0) (sym (digit-place 1 _ (omega arith)) ∙ f.places 0 (omega arith)) in omega arith

    either : (t : Bool) → cond t true false ≡ t
    either true = refl
    either false = refl

-- it is a capital letter
pub last-is-capital : (first : List ℕ) → capital (last_letter first) ≡ true
unfolding capital last_letter
last-is-capital first = within 65 90 (65 + sum_from value_at 1 first % 26) (omega arith) (omega arith)
