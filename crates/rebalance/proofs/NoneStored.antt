-- A record that is no balance, no 50-01 and no tail stores nothing.
use Prim.Native.Nat.{ℕ}
use mathlib.Core.Path.{◌≡◌, refl}
use mathlib.Core.List.{[]}
use Rattle.layout.specs.declared.Kind.{Kind}
use Rattle.layout.specs.declared.Kind.TheVariants.{Head, Taxpayer, Domicile, Line, Balance, Payment, Receipt, Addressee, Tail, Unknown}
use Rattle.rules.specs.declared.State.{State}
use Rattle.rules.specs.Stored.{stored_of}

pub none_stored : (st : State) (k : Kind) → ((x : ℕ) → k ≡ Balance x → ⊥) → (k ≡ Payment → ⊥) → (k ≡ Tail → ⊥) → stored_of st k ≡ []
none_stored st Head b p t = refl
none_stored st Taxpayer b p t = refl
none_stored st Domicile b p t = refl
none_stored st (Line s) b p t = refl
none_stored st (Balance s) b p t = absurd (b s refl)
none_stored st Payment b p t = absurd (p refl)
none_stored st Receipt b p t = refl
none_stored st Addressee b p t = refl
none_stored st Tail b p t = absurd (t refl)
none_stored st Unknown b p t = refl
