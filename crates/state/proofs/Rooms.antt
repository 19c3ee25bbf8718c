-- What stands in a room once numbers are written, and the numbers of a state one by one.
use Prim.Native.Nat.{ℕ, ◌+◌, ◌<◌, ◌≤◌}
use mathlib.Core.Path.{◌≡◌, refl, ap₂}
use mathlib.Core.List.{List, [], ◌∷◌, append-nil}
use native.Mathlib.Nat.{zero-add}
use native.Mathlib.Omega.{arith}
use lib.ListN.{length, drop, get_or, set, drop_of_length-le}
use Rattle.text.specs.Placing.{put_at}
use Rattle.text.proofs.Writing.{part-on, part_end}
use Rattle.amounts.specs.declared.Sums.{Sums}
use Rattle.rules.specs.declared.State.{State}
use Rattle.rules.specs.State.{no_sums, start_state}
use Rattle.state.specs.Numbers.{overlay, sums_numbers, state_numbers, sums_at, state_of, state_in, kept_after}

-- To overlay is to put at the start.
pub overlay-put : (xs room : List ℕ) → overlay xs room ≡ put_at 0 xs room
unfolding overlay put_at
overlay-put xs room = rw zero-add

-- A turn of the writing loop stores the first number that is left.
pub put_on : (i : ℕ) (xs room : List ℕ) → i < length xs → i < length room → put_at i (drop i xs) room ≡ put_at (i + 1) (drop (i + 1) xs) (set room i (get_or xs i 0))
put_on i xs room h k = simp zero-add at (part-on 0 i xs room h (omega arith))

-- Where no number is left, nothing is written any more.
pub put-end : (i : ℕ) (xs room : List ℕ) → length xs ≤ i → put_at i (drop i xs) room ≡ room
put-end i xs room h = simp zero-add at (part_end 0 i xs room h)

-- As many numbers as a room has fill it.
pub overlay-all : (xs room : List ℕ) → length room ≤ length xs → overlay xs room ≡ xs
unfolding overlay
overlay-all xs room h = rw (drop_of_length-le room h) (append-nil xs)

-- The sums of five sections are ten numbers.
pub five-sums : (ss : List Sums) → length ss ≡ 5 → sums_numbers ss
    ≡ (get_or ss 0 no_sums).debit ∷ (get_or ss 0 no_sums).credit ∷ (get_or ss 1 no_sums).debit ∷ (get_or ss 1 no_sums).credit
    ∷ (get_or ss 2 no_sums).debit ∷ (get_or ss 2 no_sums).credit ∷ (get_or ss 3 no_sums).debit ∷ (get_or ss 3 no_sums).credit
    ∷ (get_or ss 4 no_sums).debit ∷ (get_or ss 4 no_sums).credit ∷ []
unfolding sums_numbers
five-sums (a ∷ b ∷ c ∷ d ∷ e ∷ []) h = refl
five-sums (a ∷ b ∷ c ∷ d ∷ e ∷ f ∷ s) h = absurd (omega arith)
five-sums [] h = absurd (omega arith)
five-sums (a ∷ []) h = absurd (omega arith)
five-sums (a ∷ b ∷ []) h = absurd (omega arith)
five-sums (a ∷ b ∷ c ∷ []) h = absurd (omega arith)
five-sums (a ∷ b ∷ c ∷ d ∷ []) h = absurd (omega arith)

-- Numbers or none: what a room says, and what it holds afterwards.
pub none_in : (l : List ℕ) → length l ≡ 0 → state_in l ≡ start_state
unfolding state_in
none_in [] h = refl
none_in (n ∷ l) h = absurd (omega arith)

pub some_in : (l : List ℕ) → 0 < length l → state_in l ≡ state_of l
unfolding state_in
some_in [] h = absurd (omega arith)
some_in (n ∷ l) h = refl

pub none_after : (l : List ℕ) (st : State) → length l ≡ 0 → kept_after l st ≡ l
unfolding kept_after
none_after [] st h = refl
none_after (n ∷ l) st h = absurd (omega arith)

pub some_after : (l : List ℕ) (st : State) → 0 < length l → kept_after l st ≡ state_numbers st
unfolding kept_after
some_after [] st h = absurd (omega arith)
some_after (n ∷ l) st h = refl

-- Five sums are those at their places.
pub five-of : (ss : List Sums) → length ss ≡ 5 → get_or ss 0 no_sums ∷ get_or ss 1 no_sums ∷ get_or ss 2 no_sums ∷ get_or ss 3 no_sums ∷ get_or ss 4 no_sums ∷ [] ≡ ss
five-of (a ∷ b ∷ c ∷ d ∷ e ∷ []) h = refl
five-of (a ∷ b ∷ c ∷ d ∷ e ∷ f ∷ s) h = absurd (omega arith)
five-of [] h = absurd (omega arith)
five-of (a ∷ []) h = absurd (omega arith)
five-of (a ∷ b ∷ []) h = absurd (omega arith)
five-of (a ∷ b ∷ c ∷ []) h = absurd (omega arith)
five-of (a ∷ b ∷ c ∷ d ∷ []) h = absurd (omega arith)

-- What is kept of a state is that state again.
pub kept_back : (st : State) → length st.money.delega.sections ≡ 5 → length st.money.flow ≡ 5 → state_of (state_numbers st) ≡ st
unfolding state_of state_numbers sums_at
kept_back st h k =
    rw (five-sums st.money.delega.sections h, five-sums st.money.flow k)
    (ap₂
    (λ (a b : List Sums). record { stage = st.stage; deleghe = st.deleghe; money = record { delega = record { sections = a; all = st.money.delega.all }; flow = b; total = st.money.total }; seen = st.seen; others = st.others })
    (five-of st.money.delega.sections h)
    (five-of st.money.flow k))
