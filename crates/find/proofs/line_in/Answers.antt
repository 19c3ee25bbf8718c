use Prim.Native.Nat.{ℕ, ◌+◌}
use mathlib.Core.List.{List}
use mathlib.Core.Path.{◌≡◌, refl, sym, ap, subst, ◌∙◌}
use denote.Ref.{Bor}
use native.Mathlib.Omega.{arith}
use borrow.Author.Tests.{ne_eqb}
use Rattle.find.specs.Line.{numbered}
use Rattle.std.specs.Prelude.{Option, Some, None}
use Rattle.std.specs.declared.iter.Enumerate.{Enumerate}
use Rattle.std.specs.declared.slice.ChunksExact.{ChunksExact}
use Rattle.std.specs.Iterator.Adapters.{enumerate_source, enumerate_count, enumerate_steps}
use Rattle.std.specs.Slice.Iter.{chunks_exact_steps}
use Rattle.judge.proofs.Chunked.{Given, chunk-given, chunk-none}
use Rattle.find.proofs.Search.{search-ends, search-finds, search-on}
use Rattle.find.proofs.line_in.Goals as goal
use Rattle.find.proofs.line_in.Goals.{After-kind_in-kind}

-- What one step of the counted iterator says: the chunk, its number, and the count behind it.
counted : (it jt : Enumerate (ChunksExact ℕ)) (q : Option (ℕ × Bor (List ℕ))) → enumerate_steps chunks_exact_steps it q jt → (p : ℕ × Bor (List ℕ)) → q ≡ Some p →
    chunks_exact_steps (enumerate_source it) (Some p.1) (enumerate_source jt) × (p.0 ≡ enumerate_count it) × (enumerate_count jt ≡ enumerate_count it + 1)
counted it jt q s p e = let r : enumerate_steps chunks_exact_steps it (Some p) jt = subst (λ (o : Option (ℕ × Bor (List ℕ))). enumerate_steps chunks_exact_steps it o jt) e s in (r.0, r.1, r.2)

ended : (it jt : Enumerate (ChunksExact ℕ)) (q : Option (ℕ × Bor (List ℕ))) → enumerate_steps chunks_exact_steps it q jt → q ≡ None → chunks_exact_steps (enumerate_source it) None (enumerate_source jt)
ended it jt q s e = let r : enumerate_steps chunks_exact_steps it None jt = subst (λ (o : Option (ℕ × Bor (List ℕ))). enumerate_steps chunks_exact_steps it o jt) e s in r.0

given : (c : After-kind_in-kind) → Given c.args.flow.now (enumerate_count c.loop-k.k-iterator) c.in-Some.rec.now (enumerate_source c.next.new.self)
given c = chunk-given _ _ _ _ c.loop-k.invariant.chunked _ (counted c.loop-k.k-iterator c.next.new.self _ c.next.ensures.steps _ c.in-Some.is).0 c.in-Some.rec refl

pub returns-then-is_line : goal.returns-then-is_line
returns-then-is_line c =
    let q = (goal.at.returns-then-is_line c).After-kind_in-kind in
    let g = given q in
    let m = counted c.loop-k.k-iterator c.next.new.self _ c.next.ensures.steps _ c.in-Some.is in
    let e = ap (λ (n : ℕ). n + 1) m.1 ∙ sym (search-finds _ _ _ _ _ _ _ c.loop-k.invariant.searching g.more _ g.here _ c.kind_in-kind.ensures (sym c.is_line.ensures ∙ c.if-is_line.true)) in
    sym (ap numbered (sym e) ∙ rw (ne_eqb (c.in-Some.k + 1) 0 (λ z. omega arith)))

pub loop-k-preserved : goal.loop-k-preserved
loop-k-preserved c =
    let q = (goal.at.loop-k-preserved c).After-kind_in-kind in
    let g = given q in
    let m = counted c.loop-k.k-iterator c.next.new.self _ c.next.ensures.steps _ c.in-Some.is in
    rw (c.next_deleghe-opened.ensures, c.next_stage-at.ensures, m.2) record { searching = search-on _ _ _ _ _ _ _ c.loop-k.invariant.searching g.more _ g.here _ c.kind_in-kind.ensures (sym c.is_line.ensures ∙ c.if-is_line.false); chunked = g.on }

pub returns : goal.returns
returns c = sym (ap numbered (search-ends _ _ _ _ _ _ _ c.loop-k.invariant.searching (chunk-none _ _ _ _ c.loop-k.invariant.chunked _ (ended c.loop-k.k-iterator c.next.new.self _ c.next.ensures.steps c.in-None.is) refl)))
