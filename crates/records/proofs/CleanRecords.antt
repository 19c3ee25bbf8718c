-- Laws of the records whose bytes are all characters: each of them is allowed, and there is one answer to how far they go.
use Prim.Native.Nat.{ℕ, ◌+◌, ◌-◌, ◌*◌, ◌<◌, ◌≤◌}
use mathlib.Core.Path.{◌≡◌, ap, sym, ◌∙◌}
use mathlib.Core.Bool.{true, false≢true}
use mathlib.Core.List.{List}
use native.Mathlib.Omega.{arith}
use native.Mathlib.Decide.{dec_lt}
use lib.ListN.{take, drop}
use lib.Seq.{drop-drop}
use Rattle.text.specs.Answers.{Allowed}
use Rattle.text.specs.Characters.{first_bad, is_allowed, all_allowed}
use Rattle.text.proofs.Allowed.{allowed-part}
use Rattle.records.specs.Reading.{Clean}

-- a clean record is allowed
pub clean-record : (s : List ℕ) (m n k : ℕ) → Clean s m n → m ≤ k → k < n → first_bad (take 120 (drop (k * 120) s)) ≡ Allowed
clean-record s m n k c b w =
    let e : m * 120 + (k - m) * 120 ≡ k * 120 = omega arith in
    let d : drop ((k - m) * 120) (drop (m * 120) s) ≡ drop (k * 120) s = drop-drop ((k - m) * 120) (m * 120) s ∙ ap (λ (i : ℕ). drop i s) e in
    rw (← d) (allowed-part (drop (m * 120) s) ((n - m) * 120) ((k - m) * 120) 120 c.clean (omega arith))

-- no answer is below another
no_less : (s : List ℕ) (m a b : ℕ) → Clean s m a → Clean s m b → a < b → ⊥
unfolding all_allowed
no_less s m a b p q h =
    let f : all_allowed (take 120 (drop (a * 120) s)) ≡ true = ap is_allowed (clean-record s m b a q p.behind h) in
    let l = q.ahead in
    false≢true (sym (p.spoilt (omega arith)) ∙ f)

-- `clean_records`: two allowed answers are equal
pub one-clean-records : (s : List ℕ) (m a b : ℕ) → Clean s m a → Clean s m b → a ≡ b
one-clean-records s m a b p q = go (dec_lt a b) (dec_lt b a)
  where
    go : Dec (a < b) → Dec (b < a) → a ≡ b
    go (yes h) d = absurd (no_less s m a b p q h)
    go (no h) (yes i) = absurd (no_less s m b a q p i)
    go (no h) (no i) = omega arith
