-- `delega::used::Used::after` meets its contract: a record that is neither a record 10 nor a line leaves what is used as it was.
use Prim.Native.Nat.{ℕ}
use mathlib.Core.Path.{◌≡◌, refl}
use Rattle.layout.specs.declared.Kind.{Kind}
use Rattle.layout.specs.declared.Kind.TheVariants.{Head, Taxpayer, Domicile, Line, Balance, Payment, Receipt, Addressee, Tail, Unknown}
use Rattle.delega.specs.declared.used.Used.{Used}
use Rattle.delega.specs.Used.{next_used}
use Rattle.delega.proofs.used.Used.after.Goals as goal

stays : (u : Used) (k : Kind) → (k ≡ Taxpayer → ⊥) → ((s : ℕ) → k ≡ Line s → ⊥) → u ≡ next_used u k
stays u Head t l = refl
stays u Taxpayer t l = absurd (t refl)
stays u Domicile t l = refl
stays u (Line s) t l = absurd (l s refl)
stays u (Balance s) t l = refl
stays u Payment t l = refl
stays u Receipt t l = refl
stays u Addressee t l = refl
stays u Tail t l = refl
stays u Unknown t l = refl

pub returns-in_default : goal.returns-in_default
returns-in_default c = stays c.args.self c.args.k c.in_default.not-Taxpayer c.in_default.not-Line

pub returns-in-Taxpayer : goal.returns-in-Taxpayer
returns-in-Taxpayer c = rw c.in-Taxpayer.is c.none.ensures

pub returns-in-Line : goal.returns-in-Line
returns-in-Line c = rw c.in-Line.is c.with_line.ensures
