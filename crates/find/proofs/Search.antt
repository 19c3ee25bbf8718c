-- The search for a line: how far it has come, what each of its steps says of the line, and what the answer is.
use Prim.Native.Nat.{ℕ, ◌+◌, ◌-◌, ◌*◌, ◌/◌, ◌<◌, ◌≤◌}
use mathlib.Core.Path.{◌≡◌, sym, ap, ◌∙◌}
use mathlib.Core.Bool.{true, false, cond}
use mathlib.Core.List.{List}
use native.Mathlib.Omega.{arith}
use native.Mathlib.Nat.{sub-zero}
use lib.ListN.{length, take, drop}
use Rattle.layout.proofs.OtherKinds.{no_line}
use Rattle.layout.specs.declared.Kind.{Kind}
use Rattle.layout.specs.declared.Kind.TheVariants.{Head, Taxpayer, Domicile, Line, Balance, Payment, Receipt, Addressee, Tail, Unknown}
use Rattle.layout.specs.Kinds.{section_kind, kind_in}
use Rattle.order.specs.declared.Stage.{Stage}
use Rattle.order.specs.Stages.{stage_at, at_start}
use Rattle.order.specs.Order.{next_stage}
use Rattle.rules.specs.Step.{next_deleghe}
use Rattle.judge.specs.Refusal.{Accepted, Refused}
use Rattle.judge.specs.Flow.{chunks, records_of, rest_of, judged}
use Rattle.judge.proofs.Records.{chunks-on}
use Rattle.find.specs.Answers as Answer
use Rattle.find.specs.Line.{is_line, line_from, line_of, or_absent, found_in}
use Rattle.find.proofs.Subtypes.{Other}

-- a record adds at most one line to a section, and opens at most one delega
lines-on : (n : ℕ) (p : Stage) (k : Kind) → p.lines ≤ n → (next_stage p k).lines ≤ n + 1
lines-on n p Head h = omega arith
lines-on n p Taxpayer h = omega arith
lines-on n p Domicile h = omega arith
lines-on n p (Line s) h = omega arith
lines-on n p (Balance s) h = omega arith
lines-on n p Payment h = omega arith
lines-on n p Receipt h = omega arith
lines-on n p Addressee h = omega arith
lines-on n p Tail h = omega arith
lines-on n p Unknown h = omega arith

deleghe-on : (n d : ℕ) (k : Kind) → d ≤ n → next_deleghe d k ≤ n + 1
deleghe-on n d Head h = omega arith
deleghe-on n d Taxpayer h = omega arith
deleghe-on n d Domicile h = omega arith
deleghe-on n d (Line s) h = omega arith
deleghe-on n d (Balance s) h = omega arith
deleghe-on n d Payment h = omega arith
deleghe-on n d Receipt h = omega arith
deleghe-on n d Addressee h = omega arith
deleghe-on n d Tail h = omega arith
deleghe-on n d Unknown h = omega arith

-- the number of the line's record, where the whole flow is searched
abbrev pub sought : List ℕ → ℕ → ℕ → ℕ → ℕ
sought f d s n = line_from d s n (stage_at at_start 0 0) 0 0 (records_of f)

-- the search has come to stage p of delega e behind k records: what is sought, the rest gives from there
pub record Searching (f : List ℕ) (d s n : ℕ) (p : Stage) (e k : ℕ) : Type 0 where
  pub ahead : k ≤ length f / 120
  pub rest : sought f d s n ≡ line_from d s n p e k (rest_of f k)
  pub lines-below : p.lines ≤ k
  pub deleghe-below : e ≤ k

pub search-starts : (f : List ℕ) (d s n : ℕ) → Searching f d s n (stage_at at_start 0 0) 0 0
search-starts f d s n = record { ahead = omega arith; rest = rw sub-zero; lines-below = omega arith; deleghe-below = omega arith }

module _ (f : List ℕ) (d s n : ℕ) (p : Stage) (e k : ℕ) (g : Searching f d s n p e k) where
  -- no record is left
  pub search-ends : length f / 120 ≤ k → sought f d s n ≡ 0
  unfolding line_from chunks
  search-ends h = g.rest ∙ ap (λ (m : ℕ). line_from d s n p e k (chunks m (drop (k * 120) f))) (let z : length f / 120 - k ≡ 0 = omega arith in z)

  module _ (more : k < length f / 120) (r : List ℕ) (er : r ≡ take 120 (drop (k * 120) f)) (kd : Kind) (ek : kd ≡ kind_in r) where
    opened : sought f d s n ≡ cond (is_line d s n p e kd) (k + 1) (line_from d s n (next_stage p kd) (next_deleghe e kd) (k + 1) (rest_of f (k + 1)))
    unfolding line_from
    opened =
        g.rest
        ∙ (ap (line_from d s n p e k) (chunks-on (length f / 120 - k) (length f / 120 - (k + 1)) k f (omega arith))
        ∙ ap (λ (x : Kind). cond (is_line d s n p e x) (k + 1) (line_from d s n (next_stage p x) (next_deleghe e x) (k + 1) (rest_of f (k + 1)))) (ap kind_in (sym er) ∙ sym ek))

    -- the record is the line
    pub search-finds : is_line d s n p e kd ≡ true → sought f d s n ≡ k + 1
    search-finds t = rw t at opened

    -- the record is another
    pub search-on : is_line d s n p e kd ≡ false → Searching f d s n (next_stage p kd) (next_deleghe e kd) (k + 1)
    search-on t = record { ahead = omega arith; rest = rw t at opened; lines-below = lines-on k p kd g.lines-below; deleghe-below = deleghe-on k e kd g.deleghe-below }

-- the answer by how far the judgement and the look-up of the subtype have come
module _ (f : List ℕ) (d t n : ℕ) where
  pub found-refused : {e r p : ℕ} → (judged f).verdict ≡ Refused e r p → found_in f d t n ≡ Answer.Refused e r p
  unfolding found_in
  found-refused h = rw h

  module _ (h : (judged f).verdict ≡ Accepted) where
    pub found-no-section : (k : Kind) → k ≡ section_kind t → Other k → found_in f d t n ≡ Answer.Refused 21 0 0
    unfolding found_in line_of
    found-no-section k e o = rw (h, ← e, no_line 0 (λ s. sought f d s n) k o)

    pub found-sought : (s : ℕ) → section_kind t ≡ Line s → found_in f d t n ≡ or_absent (sought f d s n)
    unfolding found_in line_of
    found-sought s e = rw (h, e)
