-- Serves inner functions. The records as they are read, piece by piece, and the answer at the end: the theorem `streamed` says that it is that of all the bytes read.
use Rattle.std.specs.Prelude.{ℕ, ◌+◌, ◌<◌, ◌≤◌, Bool, true, false, cond, List, [], ◌∷◌, ◌++◌, ◌≡◌, eqb, ltb, length, Err}
use Rattle.ep.specs.Answers.{Outcome, Pass, Fault, EpAnswer, Refused}
use Rattle.ep.specs.declared.Tally.{Tally}
use Rattle.ep.specs.declared.Course.{Course}
use Rattle.ep.specs.Payments.{no_tally, fault, next, unless, ended}

-- before the first piece
abbrev pub start_course : Course
start_course = record { fits = true; records = 0; tally = no_tally; outcome = Pass }

-- after a piece that is no record, or one record too many
unfoldable pub unfit : Course → Course
unfit c = record { fits = false; records = c.records; tally = c.tally; outcome = c.outcome }

-- behind a fault a record is only counted
abbrev pub tally_by : Outcome → Tally → List ℕ → Tally
tally_by Pass t r = next t r
tally_by (Err why) t r = t

abbrev pub outcome_by : Outcome → Tally → List ℕ → Outcome
outcome_by Pass t r = fault t r
outcome_by (Err why) t r = Err why

-- after one record more
unfoldable pub counted : Course → List ℕ → Course
counted c r = record { fits = true; records = c.records + 1; tally = tally_by c.outcome c.tally r; outcome = outcome_by c.outcome c.tally r }

-- whether a piece is one record more, and not too many
abbrev pub one_more : Course → List ℕ → Bool
one_more c p = cond c.fits (cond (eqb (length p) 1900) (ltb c.records 10000) false) false

-- after one piece more
unfoldable pub took : Course → List ℕ → Course
took c p = cond (one_more c p) (counted c p) (unfit c)

-- a fault, as it is told "with the record's number and position 0"
abbrev pub told : Outcome → Outcome
told Pass = Pass
told (Err why) = Fault why.number why.«record»

-- the answer where no piece is left
unfoldable pub answered : Course → EpAnswer
answered c = cond c.fits (cond (eqb c.records 0) (Refused 30 0 0) (unless (told c.outcome) (ended c.tally))) (Refused 30 0 0)

-- pieces one after the other
unfoldable pub took_all : Course → List (List ℕ) → Course
took_all c [] = c
took_all c (p ∷ ps) = took_all (took c p) ps

-- the bytes of pieces, one behind the other
unfoldable pub joined : List (List ℕ) → List ℕ
joined [] = []
joined (p ∷ ps) = p ++ joined ps

-- how bytes are cut into pieces as they are read: each piece is a record, but for the last, which may be cut short
abbrev pub Cut : List (List ℕ) → Type 0
Cut [] = Unit {0}
Cut (p ∷ []) = (0 < length p) × (length p ≤ 1900)
Cut (p ∷ q ∷ ps) = (length p ≡ 1900) × Cut (q ∷ ps)
