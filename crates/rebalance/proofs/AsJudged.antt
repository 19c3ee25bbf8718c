-- What all checks say of a rebalanced record: what those that rebalancing leaves alone say of it as it was, and behind them what its stored fields do.
use Rattle.std.specs.Prelude.{Err}
use Prim.Native.Nat.{ℕ}
use mathlib.Core.Path.{◌≡◌, refl, ap, ◌∙◌}
use mathlib.Core.List.{List}
use lib.ListN.{length}
use Rattle.text.specs.Answers.{Allowed, Digits, Number, NonDigit, TooLong}
use Rattle.text.specs.Characters.{first_bad}
use Rattle.text.specs.Numbers.{number_of}
use Rattle.layout.specs.declared.Field.{Field}
use Rattle.layout.specs.declared.Kind.{Kind}
use Rattle.layout.specs.Kinds.{type_in, kind_in}
use Rattle.layout.specs.Fields.{delega_number, fields_of, bytes_of, value_of}
use Rattle.refusal.specs.Outcomes.{Outcome, Pass}
use Rattle.amounts.specs.Outcomes.{first}
use Rattle.order.specs.Order.{standing}
use Rattle.rules.specs.declared.State.{State}
use Rattle.rules.specs.Stored.{stored_of, wrong}
use Rattle.rules.specs.Checks.{or_bad, bad_fields, number_fault, own_fault, fault}
use Rattle.rebalance.specs.Rebalance.{emit, kept_fields, kept_fault}
use Rattle.rebalance.proofs.Written.{Holds, value_fields, put_all-holds, holds-numbers, put_all-allowed}
use Rattle.rebalance.proofs.Columns.{Storing, plain, balance, payment, tail, storing, columns, printable-stored, fields-same}
use Rattle.rebalance.proofs.Emit.{emit-type, emit-kind, emit-number, emit-kept}

-- A non-digit in the delega number is told first; else the other fields decide.
by_number : (d : Digits) (o : Outcome) → (or_bad d delega_number Pass ≡ Pass → or_bad d delega_number o ≡ Pass) → or_bad d delega_number o ≡ or_bad d delega_number Pass
by_number (Number v) o f = f refl
by_number (NonDigit i) o f = refl
by_number TooLong o f = refl

-- Where the stored fields are of digits, the first bad field is the first bad one of those that are not stored.
kept-digits : {st : State} {k : Kind} → Storing st k → (r : List ℕ) → bad_fields (value_fields (stored_of st k)) r ≡ Pass → bad_fields (fields_of k) r ≡ bad_fields (kept_fields k) r
unfolding bad_fields
kept-digits (plain e f) r h = ap (λ (fs : List Field). bad_fields fs r) f
kept-digits {st} (balance x g) r h = by_number (number_of (bytes_of r delega_number)) _ (λ p. (fields-same {st = st} (balance x g) r).1 (rw p h))
kept-digits {st} payment r h = by_number (number_of (bytes_of r delega_number)) _ (λ p. (fields-same {st = st} payment r).1 (rw p h))
kept-digits {st} tail r h = (fields-same {st = st} tail r).1 h

-- Checks behind which another comes.
four-first : (a b c d e : Outcome) → first a (first b (first c (first d e))) ≡ first (first a (first b (first c d))) e
four-first (Err why) b c d e = refl
four-first Pass (Err why) c d e = refl
four-first Pass Pass (Err why) d e = refl
four-first Pass Pass Pass d e = refl

-- A record of 120 characters.
module _ (name : List ℕ) (st : State) (r : List ℕ) (l : length r ≡ 120) (c : first_bad r ≡ Allowed) where
  -- It holds what is written, once it is rebalanced.
  holds : Holds (stored_of st (kind_in r)) (emit st r)
  unfolding emit
  holds = put_all-holds (stored_of st (kind_in r)) r (columns (storing st r)).laid_out l

  -- It is still made of characters.
  characters : first_bad (emit st r) ≡ Allowed
  unfolding emit
  characters = put_all-allowed (stored_of st (kind_in r)) r (columns (storing st r)).laid_out l (printable-stored (storing st r)) c

  -- Of the rebalanced record all checks say what those that rebalancing leaves alone say of it, and behind them what its stored fields do.
  pub kept-then-stored : fault name st (emit st r) ≡ first (kept_fault name st r) (wrong (stored_of st (kind_in r)) (emit st r))
  unfolding kept_fault fault
  kept-then-stored =
      let k = emit-kept st r l name st in
      let d = kept-digits (storing st r) (emit st r) (holds-numbers (stored_of st (kind_in r)) (emit st r) holds) ∙ k.fields in
      rw (emit-type st r l, emit-kind st r l, emit-number st r l, characters, c, d, k.own) (four-first (standing st.stage (type_in r) (kind_in r)) (bad_fields (kept_fields (kind_in r)) r) (number_fault st.deleghe (kind_in r) (value_of r delega_number)) (own_fault name st (kind_in r) r) (wrong (stored_of st (kind_in r)) (emit st r)))
