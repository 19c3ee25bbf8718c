-- A flow gone through by `chunks_exact`: before each record the iterator has the flow from that record on, and what it gives next is the record.
use Prim.Native.Nat.{ℕ, ◌+◌, ◌*◌, ◌/◌, ◌<◌, ◌≤◌}
use mathlib.Core.Path.{◌≡◌, sym, ap, subst, ◌∙◌}
use mathlib.Core.List.{List, ◌++◌}
use native.Mathlib.Omega.{arith}
use denote.Ref.{Bor}
use lib.ListN.{length, take, drop, length-drop}
use lib.Seq.{drop-drop, take-append_seam, drop-append_seam}
use Rattle.std.proofs.Common.{length-append}
use Rattle.std.specs.Prelude.{Option, Some, None}
use Rattle.std.specs.declared.slice.ChunksExact.{ChunksExact}
use Rattle.std.specs.Slice.Iter.{chunks_exact_rest, chunks_exact_size, chunks_exact_steps}

-- n records have been given.
pub record Chunked (flow : List ℕ) (n : ℕ) (it : ChunksExact ℕ) : Type 0 where
  pub rest : chunks_exact_rest it ≡ drop (n * 120) flow
  pub size : chunks_exact_size it ≡ 120

-- What is given next: the record, as many bytes as one has, and the iterator behind it.
pub record Given (flow : List ℕ) (n : ℕ) (r : List ℕ) (it : ChunksExact ℕ) : Type 0 where
  pub more : n < length flow / 120
  pub here : r ≡ take 120 (drop (n * 120) flow)
  pub sized : length r ≡ 120
  pub on : Chunked flow (n + 1) it

-- A list is its first bytes and the rest.
parted : (s x t : List ℕ) → s ≡ x ++ t → length x ≡ 120 → (x ≡ take 120 s) × (t ≡ drop 120 s)
parted s x t e l = (rw (e, ← l) (sym (take-append_seam x t)), rw (e, ← l) (sym (drop-append_seam x t)))

-- At the start none has been given.
pub chunked-start : (flow : List ℕ) (made it : ChunksExact ℕ) → it ≡ made → chunks_exact_rest made ≡ flow → chunks_exact_size made ≡ 120 → Chunked flow 0 it
chunked-start flow made it i e z = record { rest = ap (λ (m : ChunksExact ℕ). chunks_exact_rest m) i ∙ e; size = ap (λ (m : ChunksExact ℕ). chunks_exact_size m) i ∙ z }

module _ (flow : List ℕ) (n : ℕ) (it jt : ChunksExact ℕ) (w : Chunked flow n it) (q : Option (Bor (List ℕ))) (steps : chunks_exact_steps it q jt) where
  pub chunk-given : (x : Bor (List ℕ)) → q ≡ Some x → Given flow n x.now jt
  chunk-given x some =
      let s : chunks_exact_steps it (Some x) jt = subst (λ (r : Option (Bor (List ℕ))). chunks_exact_steps it r jt) some steps in
      let l : length x.now ≡ 120 = s.1.1 ∙ w.size in
      let e : drop (n * 120) flow ≡ x.now ++ chunks_exact_rest jt = sym w.rest ∙ s.1.0 in
      let p = parted (drop (n * 120) flow) x.now (chunks_exact_rest jt) e l in
      let d : chunks_exact_rest jt ≡ drop ((n + 1) * 120) flow = p.1 ∙ drop-drop 120 (n * 120) flow ∙ ap (λ (i : ℕ). drop i flow) (let h : n * 120 + 120 ≡ (n + 1) * 120 = omega arith in h) in
      let m : n < length flow / 120 = omega (arith, length-drop (n * 120) flow, ap length e, length-append x.now (chunks_exact_rest jt)) in
      record { more = m; here = p.0; sized = l; on = record { rest = d; size = s.0 ∙ w.size } }

  pub chunk-none : q ≡ None → length flow / 120 ≤ n
  chunk-none none =
      let s : chunks_exact_steps it None jt = subst (λ (r : Option (Bor (List ℕ))). chunks_exact_steps it r jt) none steps in
      let e : length (drop (n * 120) flow) < 120 = rw (← w.rest, ← w.size) s.1.0 in
      omega (arith, length-drop (n * 120) flow)
