-- Refusal 7: of a rebalancing it names the very character, and in a field that is rewritten it does not stop it.
use Prim.Native.Nat.{ℕ, ◌+◌, ◌-◌, ◌*◌, ◌/◌, ◌%◌, ◌<◌}
use mathlib.Core.Path.{◌≡◌, refl, sym, ap, ap₂, ◌∙◌}
use mathlib.Core.Bool.{true, true≢false}
use mathlib.Core.List.{List, []}
use native.Mathlib.Omega.{arith}
use native.Mathlib.Decide.{dec_lt}
use lib.ListN.{length, get_or, get_or-eq_default}
use lib.Seq.{get_or-append_seam}
use Rattle.text.specs.Characters.{first_bad}
use Rattle.text.specs.Numbers.{digit}
use Rattle.layout.specs.Kinds.{type_in, kind_in}
use Rattle.layout.specs.Fields.{delega_number, fields_of, value_of}
use Rattle.layout.proofs.InOrder.{fields-in-order}
use Rattle.refusal.specs.Outcomes.{Fails}
use Rattle.amounts.proofs.Outcomes.{five-pass}
use Rattle.order.specs.Order.{standing}
use Rattle.rules.specs.State.{start_state}
use Rattle.rules.specs.Checks.{char_fault, bad_fields, number_fault, fault}
use Rattle.rules.specs.NonDigits.{FirstNonDigit}
use Rattle.rules.proofs.NonDigits.{pass-exactly}
use Rattle.judge.specs.Refusal as Judged
use Rattle.judge.specs.Refusal.{refusal_of}
use Rattle.judge.specs.Part.{record_at}
use Rattle.judge.specs.Flow.{records_of, head_name_of, judged}
use Rattle.judge.specs.Plain.{Whole, state_after}
use Rattle.judge.proofs.Records.{record-number}
use Rattle.judge.proofs.VeryCharacter.{seven-names-character}
use Rattle.rebalance.specs.Rebalance.{emit, refreshed, kept_fields}
use Rattle.rebalance.proofs.Emit.{emit-length, emit-kind, emit-passes}
use Rattle.rebalance.proofs.Judged.{sized-records}
use Rattle.lenient.proofs.VeryCharacter.{kept-seven-at}
use Rattle.changes.specs.Changes.{changes_of}
use Rattle.changes.specs.Listed.{record_behind}
use Rattle.changes.proofs.Listed.{refreshed-length}
use Rattle.mend.specs.Answers.{Mending, Mended, Refused}
use Rattle.mend.specs.Mending.{refusal_mended, mending_of}
use Rattle.mend.specs.WhenRefused.{FirstRemaining, Answers, TooLong, NotWhole, FaultAt, NoTail, NoFit, ShortList, IsRebalanced}
use Rattle.mend.specs.Effect.{InListed}
use Rattle.mend.proofs.Answered.{answered-exactly}
use Rattle.mend.proofs.MendedFlow.{flow-by}
use Rattle.mend.proofs.WhatChanges.{flow-byte, changed-is-listed}
use Rattle.mend.proofs.JudgedFirst.{sized-at, Met, met}

-- In a rebalanced record every character of a numeric field is a digit.
digits-after : {f : List ℕ} {n k p : ℕ} (t : Met f n k p) (i : ℕ) → FirstNonDigit (fields_of (kind_in t.one)) t.one i → digit (get_or (emit t.after t.one) i 0) ≡ true
unfolding fault
digits-after {f} t i d =
    let out = emit t.after t.one in
    let e : kind_in out ≡ kind_in t.one = emit-kind t.after t.one t.sized in
    let a = five-pass (char_fault (first_bad out)) (standing t.after.stage (type_in out) (kind_in out)) (bad_fields (fields_of (kind_in out)) out) (number_fault t.after.deleghe (kind_in out) (value_of out delega_number)) _ (emit-passes t.after t.one t.sized (head_name_of f) t.kept t.fits) in
    (pass-exactly out (emit-length t.after t.one t.sized) 0 (fields_of (kind_in out)) (fields-in-order out)).0 a.2 i (rw e d.inside)

-- So the character for which the judge refuses the flow with 7 is another then.
changes : {f : List ℕ} {n k p : ℕ} (t : Met f n k p) (i : ℕ) → FirstNonDigit (fields_of (kind_in t.one)) t.one i → get_or (emit t.after t.one) i 0 ≡ get_or t.one i 0 → ⊥
changes t i d e = true≢false (sym (digits-after t i d) ∙ (ap digit e ∙ d.wrong))

-- "7 .. in those fields" doesn't stop it: the very character that the judge names lies in a field that is listed.
pub seven-is-listed : (f list : List ℕ) {k p m : ℕ} → (judged f).verdict ≡ Judged.Refused 7 k p → mending_of f list ≡ Mended m → InListed f (changes_of f) ((k - 1) * 120 + (p - 1))
seven-is-listed f list {k} {p} j e = go (dec_lt i 120)
  where
    t : Met f 7 k p
    t = met f list j (omega arith) e

    named : (i : ℕ) × (p ≡ i + 1) × FirstNonDigit (fields_of (kind_in (record_at f k))) (record_at f k) i
    named = seven-names-character f k p (ap refusal_of j)

    i : ℕ
    i = named.0

    here : record_at f k ≡ t.one
    here = record-number f k (omega (arith, t.counted)) ∙ (ap (record_behind f) (let z : k - 1 ≡ t.before = omega (arith, t.counted) in z) ∙ t.old)

    wrong : FirstNonDigit (fields_of (kind_in t.one)) t.one i
    wrong = rw here at named.2

    x : ℕ
    x = (k - 1) * 120 + (p - 1)

    go : Dec (i < 120) → InListed f (changes_of f) x
    go (yes h) =
        let q : x / 120 ≡ t.before = omega (arith, t.counted, named.1) in
        let c : x % 120 ≡ i = omega (arith, t.counted, named.1) in
        let w = t.whole in
        let even : length (refreshed f) % 120 ≡ 0 = ap (λ (n : ℕ). n % 120) (refreshed-length f w) ∙ w.even in
        let at : (s : List ℕ) → length s % 120 ≡ 0 → get_or s x 0 ≡ get_or (record_behind s t.before) i 0 = λ s v. flow-byte s v x ∙ ap₂ (λ (a b : ℕ). get_or (record_behind s a) b 0) q c in
        changed-is-listed f list x (λ y. changes t i wrong (ap (λ (r : List ℕ). get_or r i 0) (sym t.new) ∙ (sym (at (refreshed f) even) ∙ (ap (λ (s : List ℕ). get_or s x 0) (sym (flow-by f list e)) ∙ (y ∙ (at f w.even ∙ ap (λ (r : List ℕ). get_or r i 0) t.old))))))
    go (no h) =
        let out = emit t.after t.one in
        absurd (changes t i wrong (get_or-eq_default out 0 (omega (arith, emit-length t.after t.one t.sized)) ∙ sym (get_or-eq_default t.one 0 (omega (arith, t.sized)))))

-- A rebalancing that is refused with 7 names the first character, of the record told, that stands in a numeric field which is not rewritten and is no digit.
pub mending-names-character : (f list : List ℕ) {k p : ℕ} → mending_of f list ≡ Refused 7 k p → (i : ℕ) × (p ≡ i + 1) × FirstNonDigit (kept_fields (kind_in (record_behind f (k - 1)))) (record_behind f (k - 1)) i
mending-names-character f list {k} {p} e = way ((answered-exactly f list (Refused 7 k p)).0 e) refl
  where
    number : {m r q : ℕ} → Refused m r q ≡ Refused 7 k p → m ≡ 7
    number c = ap (λ (y : Mending). (refusal_mended y).number) c

    named : {m r q : ℕ} → Whole f → FirstRemaining (head_name_of f) start_state (records_of f) m r q → Refused m r q ≡ Refused 7 k p → (i : ℕ) × (p ≡ i + 1) × FirstNonDigit (kept_fields (kind_in (record_behind f (k - 1)))) (record_behind f (k - 1)) i
    named {m} {r} {q} w t c =
        let a : r ≡ k = ap (λ (y : Mending). (refusal_mended y).«record») c in
        let b : q ≡ p = ap (λ (y : Mending). (refusal_mended y).position) c in
        let l = sized-at t.before t.here t.behind t.before (rw t.split at (sized-records f w.even)) in
        let h : record_behind f (k - 1) ≡ t.here =
        ap (record_behind f) (let z : k - 1 ≡ length t.before = omega (arith, t.counted) in z) ∙ (ap (λ (rs : List (List ℕ)). get_or rs (length t.before) []) t.split ∙ get_or-append_seam t.before t.here t.behind []) in
        let x = kept-seven-at (head_name_of f) (state_after start_state t.before) t.here l (t.fails ∙ ap₂ Fails (number c) b) in
        (x.0, x.1, rw h x.2)

    way : {x : Mending} → Answers f list x → x ≡ Refused 7 k p → (i : ℕ) × (p ≡ i + 1) × FirstNonDigit (kept_fields (kind_in (record_behind f (k - 1)))) (record_behind f (k - 1)) i
    way (TooLong g) c = absurd (omega (arith, number c))
    way (NotWhole g d) c = absurd (omega (arith, number c))
    way (FaultAt w t) c = named w t c
    way (NoTail w g d) c = absurd (omega (arith, number c))
    way (NoFit m g) c = absurd (omega (arith, number c))
    way (ShortList m g d) c = absurd (omega (arith, number c))
    way (IsRebalanced m g d) c = let z : ◌≡◌ {A = ℕ} 0 1 = cc in absurd (omega arith)
