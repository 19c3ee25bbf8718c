-- `words::any_amount_at` meets its contract: a byte with its top bit set is no digit.
-- The bytes of a part are bytes.
use mathlib.Core.Path.{sym, ap, ◌∙◌}
use native.Mathlib.Omega.{arith}
use Rattle.words.specs.Words.{AtMost, Halves}
use Rattle.words.proofs.Fields.{at-most-each}
use Rattle.words.proofs.WholeTests.{tops_of}
use Rattle.words.proofs.FifteenDigits.{halves-at, clear-fifteen, set_front, set_back}
use Rattle.words.proofs.any_amount_at.Goals as goal
use Rattle.words.proofs.any_amount_at.Goals.{After-word_at-back, Else-back-ne0}

bytes : (c : After-word_at-back) → AtMost 255 c.args.part.now
bytes c = at-most-each 255 _ (λ i h. omega (arith, c.shared_slice_known-1.given i))

pub returns-then-front-ne0 : goal.returns-then-front-ne0
returns-then-front-ne0 c =
    let s = c in
    set_front s.args.part.now s.args.at s.requires (bytes (goal.at.returns-then-front-ne0 c).After-word_at-back) (λ e. c.if-front-ne0.true (ap tops_of c.word_at-front.ensures ∙ e))

pub returns-then-back-ne0 : goal.returns-then-back-ne0
returns-then-back-ne0 c =
    let s = c in
    set_back s.args.part.now s.args.at s.requires (bytes (goal.at.returns-then-back-ne0 c).After-word_at-back) (λ e. c.if-back-ne0.true (ap tops_of c.word_at-back.ensures ∙ e))

-- Both words have their top bits clear.
abbrev halves : (c : Else-back-ne0) → Halves c.word_at-front.result c.word_at-back.result
halves c =
    let s = c in
    halves-at s.args.part.now s.args.at s.requires _ _ c.word_at-front.ensures c.word_at-back.ensures
    (clear-fifteen s.args.part.now s.args.at s.requires (bytes (goal.at.fifteen_in-requires c).After-word_at-back) (sym (ap tops_of c.word_at-front.ensures) ∙ c.if-front-ne0.false) (sym (ap tops_of c.word_at-back.ensures) ∙ c.if-back-ne0.false))

pub fifteen_in-requires : goal.fifteen_in-requires
fifteen_in-requires c = halves c

pub returns : goal.returns
returns c = c.fifteen_in.ensures (halves (goal.at.returns c).Else-back-ne0)
