-- Serves inner functions. What the judgement comes to behind the records whose bytes are all characters.
use Rattle.std.specs.Prelude.{ℕ, ◌+◌, ◌*◌, ◌/◌, cond, List, eqb, length, take, drop}
use Rattle.text.specs.Characters.{first_bad}
use Rattle.rules.specs.declared.State.{State}
use Rattle.rules.specs.Checks.{char_fault}
use Rattle.judge.specs.declared.Judgement.{Judgement}
use Rattle.judge.specs.Flow.{refused_with, closing, after}

-- behind the clean records: the closing where no record is left, else what check 3 says of the next one
abbrev pub ending : List ℕ → State → Judgement
ending s st =
    cond (eqb st.seen (length s / 120)) (closing st)
    (after (char_fault (first_bad (take 120 (drop (st.seen * 120) s)))) st.seen (refused_with 5 (st.seen + 1) 0))
