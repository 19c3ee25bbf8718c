-- What is used of one record: what it stores and checks, its number, whether it stays, and that none stands after EF.
use Prim.Native.Nat.{ℕ}
use mathlib.Core.Path.{◌≡◌, refl, sym, ◌∙◌}
use mathlib.Core.Bool.{true, false, false≢true}
use mathlib.Core.List.{List, [], ◌∷◌}
use Rattle.text.specs.Among.{among}
use Rattle.layout.specs.declared.Kind.{Kind}
use Rattle.layout.specs.declared.Kind.TheVariants.{Head, Taxpayer, Domicile, Line, Balance, Payment, Receipt, Addressee, Tail, Unknown}
use Rattle.layout.specs.Kinds.{kind_in, numbered}
use Rattle.layout.specs.Fields.{delega_number, value_of}
use Rattle.refusal.specs.Outcomes.{Pass}
use Rattle.order.specs.declared.Stage.{Stage}
use Rattle.order.specs.Stages.{after_tail}
use Rattle.order.specs.Order.{stands}
use Rattle.rules.specs.declared.State.{State}
use Rattle.rules.specs.Stored.{stored_of}
use Rattle.rules.specs.Checks.{own_fault, fault}
use Rattle.rules.specs.Step.{next_deleghe, next}
use Rattle.rules.proofs.Numbers.{numbered-fault}
use Rattle.judge.specs.Plain.{NoFault}
use Rattle.judge.proofs.Accepted.{right_of, carried-number}
use Rattle.rebalance.specs.Numbering.{with_number}
use Rattle.close.specs.Closing.{stays}
use Rattle.dropping.specs.Effect.{renewed}

-- After EF no record may stand.
nothing-stands : (p : Stage) (k : Kind) → p.phase ≡ after_tail → stands p k ≡ true → ⊥
unfolding stands among
nothing-stands p Head z e = false≢true (rw z at e)
nothing-stands p Taxpayer z e = false≢true (rw z at e)
nothing-stands p Domicile z e = false≢true (rw z at e)
nothing-stands p (Line s) z e = false≢true (rw z at e)
nothing-stands p (Balance s) z e = false≢true (rw z at e)
nothing-stands p Payment z e = false≢true (rw z at e)
nothing-stands p Receipt z e = false≢true (rw z at e)
nothing-stands p Addressee z e = false≢true (rw z at e)
nothing-stands p Tail z e = false≢true (rw z at e)
nothing-stands p Unknown z e = false≢true e

pub none-after-tail : (name : List ℕ) (st : State) (rs : List (List ℕ)) → st.stage.phase ≡ after_tail → NoFault name st rs → rs ≡ []
none-after-tail name st [] z h = refl
none-after-tail name st (r ∷ rs) z h = absurd (nothing-stands st.stage (kind_in r) z (right_of name st r h.0).ordered)

-- What a record of a delega stores, and what is its own to check, follow from the sums of the open delega.
pub stored-by : (st on : State) (k : Kind) → on.money.delega ≡ st.money.delega → numbered k ≡ true → stored_of on k ≡ stored_of st k
unfolding numbered
stored-by st on Head e n = refl
stored-by st on Taxpayer e n = refl
stored-by st on Domicile e n = refl
stored-by st on (Line s) e n = refl
stored-by st on (Balance s) e n = rw e
stored-by st on Payment e n = rw e
stored-by st on Receipt e n = refl
stored-by st on Addressee e n = refl
stored-by st on Tail e n = absurd (false≢true n)
stored-by st on Unknown e n = refl

pub own-by : (name : List ℕ) (st on : State) (k : Kind) (r : List ℕ) → on.money.delega ≡ st.money.delega → own_fault name on k r ≡ own_fault name st k r
own-by name st on Head r e = refl
own-by name st on Taxpayer r e = refl
own-by name st on Domicile r e = refl
own-by name st on (Line s) r e = refl
own-by name st on (Balance s) r e = refl
own-by name st on Payment r e = rw e
own-by name st on Receipt r e = refl
own-by name st on Addressee r e = refl
own-by name st on Tail r e = refl
own-by name st on Unknown r e = refl

-- A record that carries a number may differ there.
pub renewed-number : (k : Kind) → numbered k ≡ true → renewed k ≡ delega_number ∷ []
unfolding numbered
renewed-number Head n = absurd (false≢true n)
renewed-number Taxpayer n = refl
renewed-number Domicile n = refl
renewed-number (Line s) n = refl
renewed-number (Balance s) n = refl
renewed-number Payment n = refl
renewed-number Receipt n = refl
renewed-number Addressee n = refl
renewed-number Tail n = absurd (false≢true n)
renewed-number Unknown n = absurd (false≢true n)

-- A record that passes carries the number of its delega.
pub carries-number : (name : List ℕ) (st : State) (r : List ℕ) → fault name st r ≡ Pass → numbered (kind_in r) ≡ true → value_of r delega_number ≡ next_deleghe st.deleghe (kind_in r)
carries-number name st r p n = carried-number _ _ (sym (numbered-fault st.deleghe (kind_in r) (value_of r delega_number) n) ∙ (right_of name st r p).numbered)

-- The deleghe after a record.
pub next-deleghe : (st : State) (r : List ℕ) → (next st r).deleghe ≡ next_deleghe st.deleghe (kind_in r)
unfolding next
next-deleghe st r = refl

-- After EF the phase is that after the tail.
pub tail-phase : (st : State) (r : List ℕ) → kind_in r ≡ Tail → (next st r).stage.phase ≡ after_tail
unfolding next
tail-phase st r e = rw e

-- A record that carries no number stays, and as it is.
module _ (r : List ℕ) (n : numbered (kind_in r) ≡ false) where
  pub unnumbered-stays : (numbers : List ℕ) → stays numbers r ≡ true
  unfolding stays
  unnumbered-stays numbers = rw n

  pub unnumbered-same : (d : ℕ) → with_number (kind_in r) d r ≡ r
  unfolding with_number
  unnumbered-same d = rw n
