-- Calls one after the other: the amounts of each line replaced, and the flow refreshed once, make the end of all.
use Prim.Native.Nat.{ℕ, ◌%◌}
use mathlib.Core.Path.{◌≡◌, refl, sym, ap, ap₂, ◌∙◌}
use mathlib.Core.List.{List, [], ◌∷◌}
use lib.ListN.{length}
use Rattle.judge.specs.Refusal.{Accepted}
use Rattle.judge.specs.Flow.{judged}
use Rattle.rebalance.specs.Rebalance.{refreshed}
use Rattle.rebalance.proofs.Judged.{accepted-untouched}
use Rattle.find.specs.Line.{line_of}
use Rattle.find.proofs.NamedLine.{named-line, one_name}
use Rattle.correct.specs.Answers.{Made}
use Rattle.correct.specs.Correction.{outcome_of, weighed}
use Rattle.correct.specs.Effect.{with_amounts, Call, answer_to, after, AllMade, Different, EachOne}
use Rattle.correct.proofs.Split.{line-splits, length-replaced}
use Rattle.correct.proofs.Answered.{Passed}
use Rattle.correct.proofs.Conditions.{made-passed, made_bytes}
use Rattle.correct.proofs.StaysAccepted.{accepted-whole}
use Rattle.correct.proofs.LikeFlows.{refreshed-line, refreshed-again, refreshed-negative, refreshed-fits}
use Rattle.correct.proofs.TwoLines.{amounts-line, amounts-commute}

-- The flow with the amounts of a call's line replaced, the record of that line, that it is there, and that the call may be made.
abbrev pub with_call : List ℕ → Call → List ℕ
with_call f c = with_amounts f c.delega c.subtype c.nth c.debit c.credit

abbrev pub line_for : List ℕ → Call → ℕ
line_for f c = line_of f c.delega c.subtype c.nth

abbrev pub There : List ℕ → Call → Type 0
There t c = line_for t c ≡ 0 → ⊥

abbrev pub Passes : List ℕ → Call → Type 0
Passes f c = Passed f c.delega c.subtype c.nth c.debit c.credit

-- A call that is made may be made, and leaves the flow with its line's amounts replaced and refreshed.
pub call_passes : (f : List ℕ) (c : Call) → answer_to f c ≡ Made → Passes f c
call_passes f c = (made-passed f c.delega c.subtype c.nth c.debit c.credit).0

pub call-end : (f : List ℕ) (c : Call) → answer_to f c ≡ Made → after (c ∷ []) f ≡ refreshed (with_call f c)
unfolding after
call-end f c = made_bytes f c.delega c.subtype c.nth c.debit c.credit

-- A flow of whole records.
module _ (t : List ℕ) (w : length t % 120 ≡ 0) where
  -- Refreshed it has each line where it was.
  pub call-found : (c : Call) → line_for (refreshed t) c ≡ line_for t c
  call-found c = refreshed-line t w c.delega c.subtype c.nth

  -- A call whose line is there.
  module _ (c : Call) (there : There t c) where
    -- With its amounts the flow is of whole records, and has each line where it was.
    pub call-whole : length (with_call t c) % 120 ≡ 0
    call-whole = rw (length-replaced t w (line-splits t c.delega c.subtype c.nth there) c.debit c.credit) w

    pub call_line : (b : Call) → line_for (with_call t c) b ≡ line_for t b
    call_line b = amounts-line t w c.delega c.subtype c.nth there c.debit c.credit b.delega b.subtype b.nth

    -- Whether the flow was refreshed before does not matter for the end, nor for 14 and 23.
    pub call-again : refreshed (with_call (refreshed t) c) ≡ refreshed (with_call t c)
    call-again = refreshed-again t w c.delega c.subtype c.nth there c.debit c.credit

    pub call-weighed : weighed (with_call (refreshed t) c) ≡ weighed (with_call t c)
    unfolding weighed
    call-weighed =
        ap₂ outcome_of (refreshed-negative t w c.delega c.subtype c.nth there c.debit c.credit) (refreshed-fits t w c.delega c.subtype c.nth there c.debit c.credit)

-- The amounts of two lines may be replaced in either order.
pub calls-commute : (t : List ℕ) → length t % 120 ≡ 0 → (a b : Call) → There t a → There t b → (line_for t a ≡ line_for t b → ⊥) → with_call (with_call t a) b ≡ with_call (with_call t b) a
calls-commute t w a b i j apart = amounts-commute t w a.delega a.subtype a.nth i b.delega b.subtype b.nth j apart a.debit a.credit b.debit b.credit

-- In an accepted flow lines of different names are two records.
pub names_apart : (f : List ℕ) → (judged f).verdict ≡ Accepted → (a b : Call) → There f b → Different a b → line_for f a ≡ line_for f b → ⊥
names_apart f acc a b there different e =
    let i = named-line f a.delega a.subtype a.nth (line_for f b) acc e there in
    let j = named-line f b.delega b.subtype b.nth (line_for f b) acc refl there in
    let s = one_name f a.delega a.subtype a.nth b.delega b.subtype b.nth (line_for f b) i j in
    different s.0 s.1 s.2

-- Calls whose lines are two records name different lines.
pub apart-different : (f : List ℕ) (a b : Call) → (line_for f a ≡ line_for f b → ⊥) → Different a b
apart-different f a b apart d s n = apart (rw (d, s, n))

-- The amounts of several calls' lines replaced one after the other, and nothing refreshed.
unfoldable pub with_calls : List ℕ → List Call → List ℕ
with_calls t [] = t
with_calls t (c ∷ cs) = with_calls (with_call t c) cs

-- What holds of each call holds of each where the one follows from the other.
pub each_map : {P Q : Call → Type 0} → ((c : Call) → P c → Q c) → (cs : List Call) → EachOne P cs → EachOne Q cs
each_map f [] h = tt
each_map f (c ∷ cs) h = (f c h.0, each_map f cs h.1)

-- Calls that are made on a refreshed flow, one after the other: their lines are there, and the end is the flow with the amounts of all, refreshed.
refreshed-end : (cs : List Call) (t : List ℕ) → length t % 120 ≡ 0 → AllMade (refreshed t) cs → EachOne (There t) cs × (after cs (refreshed t) ≡ refreshed (with_calls t cs))
unfolding after with_calls
refreshed-end [] t w made = (tt, refl)
refreshed-end (c ∷ cs) t w made =
    let i : There t c = λ z. (call_passes (refreshed t) c made.0).found (call-found t w c ∙ z) in
    let e = call-end (refreshed t) c made.0 ∙ call-again t w c i in
    let h = refreshed-end cs (with_call t c) (call-whole t w c i) (rw e at made.1) in
    ((i, each_map (λ b g z. g (call_line t w c i b ∙ z)) cs h.0), ap (after cs) e ∙ h.1)

-- So it is with calls on an accepted flow.
pub series-end : (cs : List Call) (f : List ℕ) → (judged f).verdict ≡ Accepted → AllMade f cs → EachOne (There f) cs × (after cs f ≡ refreshed (with_calls f cs))
unfolding refreshed
series-end cs f a made =
    let u : refreshed f ≡ f = accepted-untouched f a in
    let h = refreshed-end cs f (accepted-whole f a).even (rw u made) in
    (h.0, ap (after cs) (sym u) ∙ h.1)
