-- What the call for the F24 EP form returns and leaves in the room that it is lent: the answer in its first two numbers, what stands behind them as it came, and all of one that is too short.
use Rattle.std.specs.Prelude.{Ok, Err}
use Prim.Native.Nat.{ℕ, ◌<◌, ◌≤◌}
use mathlib.Core.Path.{◌≡◌, refl, sym, ap, ◌∙◌}
use mathlib.Core.List.{List, [], ◌∷◌}
use lib.ListN.{length, take, drop}
use Rattle.state.specs.Numbers.{overlay}
use Rattle.ep.specs.Answers.{EpAnswer, Accepted, Refused}
use Rattle.ep.specs.Payments.{judged}
use Rattle.f24.specs.LinkedEp.{ep_number, ep_numbers, ep_code, ep_room}
use Rattle.f24.proofs.Rooms.{short-code, long-code, short-room, long-room}

-- two numbers are laid over a room whatever is answered
behind : (a : EpAnswer) (room : List ℕ) → drop 2 (overlay (ep_numbers a) room) ≡ drop 2 room
unfolding overlay
behind (Ok why) room = refl
behind (Err why) room = refl

first : (a : EpAnswer) (room : List ℕ) → take 2 (overlay (ep_numbers a) room) ≡ ep_numbers a
unfolding overlay
first (Ok why) room = refl
first (Err why) room = refl

module _ (records room : List ℕ) where
  -- Too short, it returns 100, and the room stays.
  pub ep-short : length room < 2 → (ep_code records room ≡ 100) × (ep_room records room ≡ room)
  unfolding ep_code ep_room
  ep-short h = (sym (short-code room _ h), sym (short-room room _ h))

  -- Long enough, what stands behind its first two numbers stays.
  pub ep-behind : 2 ≤ length room → drop 2 (ep_room records room) ≡ drop 2 room
  unfolding ep_room
  ep-behind h = ap (λ (l : List ℕ). drop 2 l) (sym (long-room room (ep_numbers (judged records)) h refl)) ∙ behind (judged records) room

  module _ (h : 2 ≤ length room) where
    answer-first : (a : EpAnswer) → judged records ≡ a → take 2 (ep_room records room) ≡ ep_numbers a
    unfolding ep_room
    answer-first a e =
        ap (λ (l : List ℕ). take 2 l) (sym (long-room room (ep_numbers (judged records)) h refl)) ∙ (ap (λ (b : EpAnswer). take 2 (overlay (ep_numbers b) room)) e ∙ first a room)

    answer-code : (a : EpAnswer) → judged records ≡ a → ep_code records room ≡ ep_number a
    unfolding ep_code
    answer-code a e = sym (long-code room h refl) ∙ ap ep_number e

    -- Of an acceptance it returns 0, and the room begins with the number of M and the sum of their totals.
    pub ep-accepted : (c n : ℕ) → judged records ≡ Accepted c n → (ep_code records room ≡ 0) × (take 2 (ep_room records room) ≡ c ∷ n ∷ [])
    ep-accepted c n e = (answer-code (Accepted c n) e, answer-first (Accepted c n) e)

    -- Of a refusal it returns the number, and the room begins with record and position.
    pub ep-refused : (e k p : ℕ) → judged records ≡ Refused e k p → (ep_code records room ≡ e) × (take 2 (ep_room records room) ≡ k ∷ p ∷ [])
    ep-refused e k p q = (answer-code (Refused e k p) q, answer-first (Refused e k p) q)
