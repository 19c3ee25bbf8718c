-- Two clerks who keep the sums (02, ask 13): corrections with the flow's own record are the plain ones, and where both orders are made the ends agree, the flow and the record.
use Prim.Native.Nat.{ℕ}
use mathlib.Core.Path.{◌≡◌, refl, sym, ap, ap₂, ◌∙◌}
use mathlib.Core.List.{List, [], ◌∷◌, map}
use Rattle.judge.specs.Refusal.{Accepted}
use Rattle.judge.specs.Flow.{judged}
use Rattle.correct.specs.Effect.{Call, answer_to, after, AllMade, Different}
use Rattle.correct.proofs.Calls.{call_passes}
use Rattle.correct.proofs.EitherOrder.{either_order}
use Rattle.sums.specs.declared.KeptSums.{KeptSums}
use Rattle.sums.specs.LineSums.{kept_of}
use Rattle.kept.specs.Keeping.{correction_with}
use Rattle.kept.specs.Series.{Beside, Correct, after_calls, with_kept}
use Rattle.kept.proofs.HandedBack.{kept-made, correction-plain}
use Rattle.kept.proofs.AnySeries.{call-owns}

-- A flow and its own record.
abbrev own : List ℕ → Beside
own f = record { flow = f; kept = kept_of f }

-- Corrections one after the other, each with the record that the one before it handed back, made or refused: the flow is that of the plain calls, and the record is the flow's own.
corrections-own : (cs : List Call) (f : List ℕ) → after_calls (map Correct cs) (own f) ≡ own (after cs f)
unfolding after_calls after
corrections-own [] f = refl
corrections-own (c ∷ cs) f =
    let e = (correction-plain (kept_of f) f c.delega c.subtype c.nth c.debit c.credit refl).1 in
    let r = call-owns (Correct c) (own f) refl ∙ ap kept_of e in
    ap (after_calls (map Correct cs)) (ap₂ (λ (g : List ℕ) (k : KeptSums). record { flow = g; kept = k }) e r) ∙ corrections-own cs _

-- So it is from an accepted flow and the record made of it.
pub corrections-plain : (cs : List Call) (f : List ℕ) → (judged f).verdict ≡ Accepted → ((after_calls (map Correct cs) (with_kept f)).flow ≡ after cs f) × ((after_calls (map Correct cs) (with_kept f)).kept ≡ kept_of (after cs f))
corrections-plain cs f a =
    let e : with_kept f ≡ own f = ap (λ (k : KeptSums). record { flow = f; kept = k }) (kept-made f a) in
    let h = ap (after_calls (map Correct cs)) e ∙ corrections-own cs f in
    (ap (λ (b : Beside). b.flow) h, ap (λ (b : Beside). b.kept) h)

-- Behind them the next one is answered as the plain one is.
pub corrections-answered : (cs : List Call) (c : Call) (f : List ℕ) → (judged f).verdict ≡ Accepted →
    let b = after_calls (map Correct cs) (with_kept f) in
    correction_with b.kept b.flow c.delega c.subtype c.nth c.debit c.credit ≡ answer_to (after cs f) c
corrections-answered cs c f a =
    let h = corrections-plain cs f a in
    (correction-plain _ _ c.delega c.subtype c.nth c.debit c.credit (h.1 ∙ ap kept_of (sym h.0))).0 ∙ ap (λ (g : List ℕ). answer_to g c) h.0

-- "and the kept sums agree": where both corrections are made in either order, flow and record are the same in the end.
pub either-order-kept : (f : List ℕ) (a b : Call) → Different a b → AllMade f (a ∷ b ∷ []) → AllMade f (b ∷ a ∷ []) → after_calls (Correct a ∷ Correct b ∷ []) (with_kept f) ≡ after_calls (Correct b ∷ Correct a ∷ []) (with_kept f)
either-order-kept f a b d made turned =
    let acc = (call_passes f a made.0).accepted in
    let g = corrections-plain (a ∷ b ∷ []) f acc in
    let h = corrections-plain (b ∷ a ∷ []) f acc in
    let e = either_order f a b d made.0 made.1.0 turned.0 turned.1.0 in
    ap₂ (λ (s : List ℕ) (k : KeptSums). record { flow = s; kept = k }) (g.0 ∙ (e ∙ sym h.0)) (g.1 ∙ (ap kept_of e ∙ sym h.1))
