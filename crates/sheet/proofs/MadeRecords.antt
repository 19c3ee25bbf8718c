-- A balance record that is made, before anything is filled: of its slot's kind, and made of characters.
use Prim.Native.Nat.{ℕ, ◌<◌}
use mathlib.Core.Path.{◌≡◌, refl}
use Rattle.text.specs.Answers.{Allowed}
use Rattle.text.specs.Characters.{first_bad, first_bad_from}
use Rattle.text.specs.Numbers.{number_from, digits_of}
use Rattle.text.specs.Placing.{put_at}
use Rattle.layout.specs.declared.Kind.TheVariants.{Balance}
use Rattle.layout.specs.Sections.{section_at}
use Rattle.layout.specs.Kinds.{same, type_of, section_kind_from, kind_in}
use Rattle.sheet.specs.Slots.{type_text, subtype_text, made_balance}
use Rattle.sheet.proofs.SlotPassed.{each-section}

-- "The writer makes the balance records": that of section x is one of section x, which says nothing of how it is made.
pub made-kind : (x : ℕ) → x < 5 → (kind_in (made_balance x) ≡ Balance x) × (first_bad (made_balance x) ≡ Allowed)
unfolding made_balance type_text subtype_text put_at digits_of section_at kind_in type_of same number_from section_kind_from first_bad_from
made-kind = each-section (λ x. (kind_in (made_balance x) ≡ Balance x) × (first_bad (made_balance x) ≡ Allowed)) (refl, refl) (refl, refl) (refl, refl) (refl, refl) (refl, refl)
