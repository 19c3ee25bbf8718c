-- the words of the first two places are the same, or one of them is not
use mathlib.Core.Path.{◌≡◌, sym, ◌∙◌}
use native.Mathlib.Omega.{arith}
use native.Mathlib.Decide.{ℕ_discrete}
use lib.Dec.{eqb}
use lib.ListN.{take, drop}
use borrow.Author.Tests.{eq-eqb, ne_eqb, eqb-true, eqb-false}
use Rattle.words.specs.Words.{word}
use Rattle.words.proofs.Fields.{at-most-each}
use Rattle.layout.specs.Fields.{support_name, bytes_of}
use Rattle.amounts.specs.Names.{same_bytes}
use Rattle.rules.proofs.SameName.{name-same, name-other}
use Rattle.rules.proofs.values.same_name.Goals as goal
use Rattle.rules.proofs.values.same_name.Goals.{After-word_at-then-word_at-2-3, then-word_at, else-word_at}

first-two : (c : After-word_at-then-word_at-2-3) →
    (word (take 8 (drop 19 c.args.rec.now)) ≡ word (take 8 (drop 0 c.args.name.now))) × (word (take 8 (drop 27 c.args.rec.now)) ≡ word (take 8 (drop 8 c.args.name.now)))
first-two c =
    elim c.if-word_at.branch [
      | then-word_at w ↦ (
        sym c.word_at.ensures ∙ (w.if-word_at.true ∙ c.word_at-2.ensures),
        sym w.word_at-then-word_at.ensures ∙ (eqb-true _ _ (sym w.value-is ∙ c.if-word_at-2.true) ∙ w.word_at-then-word_at-2.ensures),
      )
      | else-word_at w ↦ absurd (w.if-word_at.false (eqb-true _ _ (sym w.value-is ∙ c.if-word_at-2.true)))
    ]

pub returns-then-word_at-2 : goal.returns-then-word_at-2
returns-then-word_at-2 c = go (ℕ_discrete c.word_at-then-word_at-2-2.result c.word_at-then-word_at-2-3.result)
  where
    go : Dec (c.word_at-then-word_at-2-2.result ≡ c.word_at-then-word_at-2-3.result) →
        eqb c.word_at-then-word_at-2-2.result c.word_at-then-word_at-2-3.result ≡ same_bytes (bytes_of c.args.rec.now support_name) c.args.name.now
    go (yes e) =
        let a = at-most-each 255 c.args.rec.now (λ i h. omega (arith, c.type_inv.rec i)) in
        let b = at-most-each 255 c.args.name.now (λ i h. omega (arith, c.type_inv.name i)) in
        let f = first-two c in
        eq-eqb _ _ e
        ∙ sym (name-same _ _ c.requires.0 c.requires.1 a b f.0 f.1 (sym c.word_at-then-word_at-2-2.ensures ∙ (e ∙ c.word_at-then-word_at-2-3.ensures)))
    go (no d) =
        ne_eqb _ _ d
        ∙ sym (name-other _ _ c.requires.0 c.requires.1 12 (omega arith) (λ e. d (c.word_at-then-word_at-2-2.ensures ∙ (e ∙ sym c.word_at-then-word_at-2-3.ensures))))

pub returns-else-word_at-2 : goal.returns-else-word_at-2
returns-else-word_at-2 c =
    c.if-word_at-2.false
    ∙ sym (elim c.if-word_at.branch [
      | then-word_at w ↦ name-other _ _ c.requires.0 c.requires.1 8 (omega arith) (λ e. eqb-false _ _ (sym w.value-is ∙ c.if-word_at-2.false) (w.word_at-then-word_at.ensures ∙ (e ∙ sym w.word_at-then-word_at-2.ensures)))
      | else-word_at w ↦ name-other _ _ c.requires.0 c.requires.1 0 (omega arith) (λ e. w.if-word_at.false (c.word_at.ensures ∙ (e ∙ sym c.word_at-2.ensures)))
    ])
