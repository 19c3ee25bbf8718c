-- Two faults that are one have one number and one position, and so have two refusals, with the record.
use Rattle.std.specs.Prelude.{ℕ, ◌≡◌, Result, Err}
use mathlib.Core.Path.{ap}
use Rattle.refusal.specs.declared.Fault.{Fault}
use Rattle.refusal.specs.declared.Refusal.{Refusal}
use Rattle.refusal.specs.Refusals.{refusal}
use Rattle.refusal.specs.Outcomes.{Fails}

pub fails-parts : {n p m q : ℕ} → Fails n p ≡ Fails m q → (n ≡ m) × (p ≡ q)
fails-parts {n} {p} {m} {q} e =
    let same : ◌≡◌ {A = Fault} (record { number = n; position = p }) (record { number = m; position = q }) = cc in
    (ap (λ (f : Fault). f.number) same, ap (λ (f : Fault). f.position) same)

pub refused-parts : {A : Type 0} {n r p m s q : ℕ} → ◌≡◌ {A = Result A Refusal} (Err (refusal n r p)) (Err (refusal m s q)) → (n ≡ m) × (r ≡ s) × (p ≡ q)
refused-parts {A} {n} {r} {p} {m} {s} {q} e =
    let same : ◌≡◌ {A = Refusal} (refusal n r p) (refusal m s q) = cc in
    (ap (λ (x : Refusal). x.number) same, ap (λ (x : Refusal). x.«record») same, ap (λ (x : Refusal). x.position) same)
