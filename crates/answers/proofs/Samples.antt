-- Document 01's printed case, by computing: the numbers that are written for a flow and for a delega, each in its place.
use mathlib.Core.Path.{◌≡◌, refl}
use mathlib.Core.List.{[], ◌∷◌}
use Rattle.delega.proofs.Samples.{one_delega, printed_delega}
use Rattle.state.specs.Numbers.{sums_numbers}
use Rattle.answers.specs.Numbers.{summary_numbers, delega_numbers}

-- deleghe, records, sum, lines; then the five sections, of which Regioni is the third
pub summary-places : summary_numbers one_delega.summary ≡ 1 ∷ 8 ∷ 7500 ∷ 2 ∷ 0 ∷ 0 ∷ 0 ∷ 0 ∷ 10000 ∷ 2500 ∷ 0 ∷ 0 ∷ 0 ∷ 0 ∷ []
unfolding summary_numbers sums_numbers
summary-places = refl

-- balance, lines, set, size; then the five sections
pub delega-places : delega_numbers printed_delega ≡ 7500 ∷ 2 ∷ 4 ∷ 1 ∷ 0 ∷ 0 ∷ 0 ∷ 0 ∷ 10000 ∷ 2500 ∷ 0 ∷ 0 ∷ 0 ∷ 0 ∷ []
unfolding delega_numbers sums_numbers
delega-places = refl
