-- Any number of clerks: corrections of different lines, all made, leave the same flow in every order in which they are all made.
use Prim.Native.Nat.{ℕ, ◌%◌}
use mathlib.Core.Path.{◌≡◌, refl, sym, ap, ◌∙◌}
use mathlib.Core.List.{List, [], ◌∷◌}
use lib.ListN.{length}
use Rattle.judge.specs.Refusal.{Accepted}
use Rattle.judge.specs.Flow.{judged}
use Rattle.rebalance.specs.Rebalance.{refreshed}
use Rattle.correct.specs.Effect.{Call, after, AllMade, Different, EachOne, EachTwo, Reordered, None, Keep, Swap, Then}
use Rattle.correct.proofs.StaysAccepted.{accepted-whole}
use Rattle.correct.proofs.Calls.{with_call, line_for, call-whole, call_line, calls-commute, names_apart, with_calls, There, each_map, series-end}

-- What holds of each call holds of each in another order.
each-reordered : (P : Call → Type 0) {cs ds : List Call} → Reordered cs ds → EachOne P cs → EachOne P ds
each-reordered P None h = tt
each-reordered P (Keep c r) h = (h.0, each-reordered P r h.1)
each-reordered P (Swap a b cs) h = (h.1.0, (h.0, h.1.1))
each-reordered P (Then r s) h = each-reordered P s (each-reordered P r h)

-- So it is with what holds of each two, either way round.
two-reordered : (R : Call → Call → Type 0) {cs ds : List Call} → ((a b : Call) → R a b → R b a) → Reordered cs ds → EachTwo R cs → EachTwo R ds
two-reordered R turn None h = tt
two-reordered R turn (Keep c r) h = (each-reordered (R c) r h.0, two-reordered R turn r h.1)
two-reordered R turn (Swap a b cs) h = ((turn a b h.0.0, h.1.0), (h.0.1, h.1.1))
two-reordered R turn (Then r s) h = two-reordered R turn s (two-reordered R turn r h)

-- What holds of each two follows where it follows of any two.
two-map : {R S : Call → Call → Type 0} → ((a b : Call) → R a b → S a b) → (cs : List Call) → EachTwo R cs → EachTwo S cs
two-map f [] h = tt
two-map f (c ∷ cs) h = (each_map (f c) cs h.0, two-map f cs h.1)

-- The lines of two calls, where they are in a flow, are two.
abbrev Apart : List ℕ → Call → Call → Type 0
Apart t a b = There t b → line_for t a ≡ line_for t b → ⊥

-- That goes either way round.
apart-turned : (t : List ℕ) (a b : Call) → Apart t a b → Apart t b a
apart-turned t a b h i e = h (λ z. i (sym e ∙ z)) (sym e)

-- The amounts of different lines may be replaced in any order.
amounts-reordered : {cs ds : List Call} → Reordered cs ds → (t : List ℕ) → length t % 120 ≡ 0 → EachOne (There t) cs → EachTwo (Apart t) cs → with_calls t cs ≡ with_calls t ds
unfolding with_calls
amounts-reordered None t w h p = refl
amounts-reordered (Keep c {cs} r) t w h p =
    amounts-reordered r (with_call t c) (call-whole t w c h.0) (each_map (λ b g z. g (sym (call_line t w c h.0 b) ∙ z)) cs h.1)
    (two-map (λ a b g i e. g (λ z. i (call_line t w c h.0 b ∙ z)) (sym (call_line t w c h.0 a) ∙ (e ∙ call_line t w c h.0 b))) cs p.1)
amounts-reordered (Swap a b cs) t w h p = ap (λ (l : List ℕ). with_calls l cs) (calls-commute t w a b h.0 h.1.0 (p.0.0 h.1.0))
amounts-reordered (Then r s) t w h p = amounts-reordered r t w h p ∙ amounts-reordered s t w (each-reordered (There t) r h) (two-reordered (Apart t) (apart-turned t) r p)

-- Corrections of different lines of an accepted flow, made one after the other in two orders: the ends agree byte for byte.
pub any_order : (f : List ℕ) → (judged f).verdict ≡ Accepted → (cs ds : List Call) → Reordered cs ds → EachTwo Different cs → AllMade f cs → AllMade f ds → after cs f ≡ after ds f
any_order f acc cs ds r d made turned =
    let h = series-end cs f acc made in
    let p : EachTwo (Apart f) cs = two-map (λ a b g i. names_apart f acc a b i g) cs d in
    h.1 ∙ (ap refreshed (amounts-reordered r f (accepted-whole f acc).even h.0 p) ∙ sym (series-end ds f acc turned).1)
