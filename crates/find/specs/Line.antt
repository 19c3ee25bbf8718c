-- Believed. "A line is named by delega number, line subtype and its place in the section, counted from 1."
use Rattle.std.specs.Prelude.{ℕ, ◌+◌, Bool, false, cond, List, [], ◌∷◌, eqb, Err, Option, None, Some}
use Rattle.layout.specs.declared.Kind.{Kind}
use Rattle.layout.specs.Kinds.{of_line, section_kind, kind_in}
use Rattle.order.specs.declared.Stage.{Stage}
use Rattle.order.specs.Stages.{stage_at, at_start}
use Rattle.order.specs.Order.{next_stage}
use Rattle.rules.specs.Step.{next_deleghe}
use Rattle.refusal.specs.declared.Refusal.{Refusal}
use Rattle.refusal.specs.Refusals.{refusal, no_refusal}
use Rattle.judge.specs.Refusal.{judged_first}
use Rattle.judge.specs.Flow.{records_of, judged}
use Rattle.find.specs.Answers.{Found}
use Rattle.find.specs.Answers as Answer

-- the refusal of an answer; a line that is found has none
abbrev pub refusal_found : Found → Refusal
refusal_found (Answer.At k) = no_refusal
refusal_found (Err why) = why

-- a record of this kind, at this stage of delega e, is the n-th line of section s in delega d
abbrev pub is_line : ℕ → ℕ → ℕ → Stage → ℕ → Kind → Bool
is_line d s n p e k = of_line false (λ t. cond (eqb t s) (cond (eqb e d) (eqb (p.lines + 1) n) false) false) k

-- the number of the first such record among those that are left, after k records that led to stage p of delega e; 0 where there is none
unfoldable pub line_from : ℕ → ℕ → ℕ → Stage → ℕ → ℕ → List (List ℕ) → ℕ
line_from d s n p e k [] = 0
line_from d s n p e k (r ∷ rs) =
    cond (is_line d s n p e (kind_in r)) (k + 1) (line_from d s n (next_stage p (kind_in r)) (next_deleghe e (kind_in r)) (k + 1) rs)

-- that number, where there is such a record; serves inner functions
abbrev pub numbered : ℕ → Option ℕ
numbered k = cond (eqb k 0) None (Some k)

-- the line of a section, where the subtype is that of a section's lines
abbrev pub line_of_kind : ℕ → Kind → ℕ → List ℕ → ℕ
line_of_kind d k n f = of_line 0 (λ s. line_from d s n (stage_at at_start 0 0) 0 0 (records_of f)) k

-- the number of the record that is the line; 0 where there is none
unfoldable pub line_of : List ℕ → ℕ → ℕ → ℕ → ℕ
line_of f d subtype n = line_of_kind d (section_kind subtype) n f

-- 21, "no such delega, section or line"
abbrev pub or_absent : ℕ → Found
or_absent k = cond (eqb k 0) (Answer.Refused 21 0 0) (Answer.At k)

-- "Every call on a flow judges it first": the line that is named, or the refusal
unfoldable pub found_in : List ℕ → ℕ → ℕ → ℕ → Found
found_in f d subtype n = judged_first Answer.Refused (judged f).verdict (or_absent (line_of f d subtype n))
