-- Each first fault is what is told: with `refused-first`, a refusal behind a right length is exactly where the first fault stands.
use Prim.Native.Nat.{ℕ, ◌+◌, ◌<◌}
use mathlib.Core.Path.{◌≡◌, refl, ap, ◌∙◌}
use mathlib.Core.List.{List, [], ◌∷◌, ◌++◌}
use native.Mathlib.Omega.{arith}
use lib.ListN.{length}
use Rattle.ep_total.specs.Answers.{Total, Cents, NoTotal}
use Rattle.text.specs.Numbers.{amount_of}
use Rattle.ep_accounts.specs.Answers.{Accounts, Sum, NonDigit, Unequal}
use Rattle.ep_accounts.specs.Accounts.{is_number, accounts_in}
use Rattle.ep_accounts.specs.Printed.{printed_rows, printed_debits, printed_balance, amount_at, used_debits, DigitsAt, UsedDigits}
use Rattle.ep_accounts.proofs.Exactly.{accounts-balanced, accounts-no-digits, accounts-no-sum}
use Rattle.ep.specs.declared.Kind.{Kind}
use Rattle.ep.specs.declared.Kind.TheVariants.{RecordM, RecordV, OtherRecord}
use Rattle.ep.specs.Answers.{Outcome, Pass, Fault, Refused}
use Rattle.ep.specs.declared.Tally.{Tally}
use Rattle.ep.specs.Payments.{total_in, no_tally, here, closing, accounts_fault, fault_by, fault, with_payment, next_by, next, unless, ended, judged_from, kind_of, judged}
use Rattle.ep.specs.Plain.{first_of, used_in, AllV, States, Paid, NoV, Stops, early, unknown, alone, no-digits, no-sum, no-total, records_of, Sized}
use Rattle.ep.proofs.Closes.{none_open, left_alone, unread, misstated}
use Rattle.ep.proofs.Records.{sized-size, judged-start}
use Rattle.ep.proofs.Counts.{Begins, with-m, with-v, otherwise, begins, is-v, total-states}
use Rattle.ep.proofs.Told.{v-open, v-early}
use Rattle.ep.proofs.Beyond.{over-m, Over, over-vs, Beyond, beyond}

-- Where no V comes next, a fault of the M that is open is told.
told-closing : (t : Tally) (rs : List (List ℕ)) (e k : ℕ) → NoV rs → closing t (here t) ≡ Fault e k → judged_from t rs ≡ Refused e k 0
unfolding judged_from ended fault next
told-closing t [] e k n c = rw c
told-closing t (r ∷ rs) e k n c = go (kind_of r) (begins r)
  where
    go : (q : Kind) → Begins r q → unless (fault_by q t r) (judged_from (next_by q t r) rs) ≡ Refused e k 0
    go RecordM (with-m b) = rw c
    go RecordV (with-v b) = absurd (n b)
    go OtherRecord (otherwise a b) = rw c

-- A V that is wrong is told behind an M.
told-v : (t : Tally) (v : List ℕ) (rs : List (List ℕ)) (a : Accounts) (e : ℕ) → first_of v ≡ 86 → 0 < t.count → accounts_in v ≡ a → accounts_fault (here t) a ≡ Fault e (here t) → judged_from t (v ∷ rs) ≡ Refused e (here t) 0
unfolding judged_from fault next
told-v t v rs a e b s i f =
    ap (λ (k : Kind). unless (fault_by k t v) (judged_from (next_by k t v) rs)) (is-v v b)
    ∙ ap (λ (o : Outcome). unless o (judged_from (next_by RecordV t v) rs)) (v-open t s (accounts_in v) ∙ (ap (accounts_fault (here t)) i ∙ f))

-- Accounts by what stands at the printed positions.
no-digits-are : (v : List ℕ) → (UsedDigits v printed_rows printed_debits → DigitsAt v printed_balance → ⊥) → (a : Accounts) → accounts_in v ≡ a → accounts_in v ≡ NonDigit
no-digits-are v n (Sum s) e = let b = accounts-balanced v s e in absurd (n b.0.debits (ap is_number b.0.balance))
no-digits-are v n NonDigit e = e
no-digits-are v n Unequal e = let b = accounts-no-sum v e in absurd (n b.0 b.1)

no-sum-is : (v : List ℕ) → UsedDigits v printed_rows printed_debits × DigitsAt v printed_balance × (amount_at v printed_balance ≡ used_debits v → ⊥) → (a : Accounts) → accounts_in v ≡ a → accounts_in v ≡ Unequal
no-sum-is v n (Sum s) e = absurd (n.2 (ap amount_of (accounts-balanced v s e).0.balance))
no-sum-is v n NonDigit e = absurd (accounts-no-digits v e n.0 n.1)
no-sum-is v n Unequal e = e

-- Behind payments that are right, at the start of all.
start : (ps rest : List (List ℕ)) → Paid ps → Beyond no_tally ps rest
start ps rest p = beyond ps rest no_tally p (λ n. none_open no_tally n refl)

told-unknown : (t : Tally) (r : List ℕ) (rs : List (List ℕ)) → (first_of r ≡ 77 → ⊥) → (first_of r ≡ 86 → ⊥) → closing t (here t) ≡ Pass → judged_from t (r ∷ rs) ≡ Refused 31 (here t) 0
unfolding judged_from fault next
told-unknown t r rs n m c = go (kind_of r) (begins r)
  where
    go : (q : Kind) → Begins r q → unless (fault_by q t r) (judged_from (next_by q t r) rs) ≡ Refused 31 (here t) 0
    go RecordM (with-m b) = absurd (n b)
    go RecordV (with-v b) = absurd (m b)
    go OtherRecord (otherwise a b) = rw c

told-early : (v : List ℕ) (rs : List (List ℕ)) → first_of v ≡ 86 → judged_from no_tally (v ∷ rs) ≡ Refused 31 1 0
unfolding judged_from fault next
told-early v rs b =
    ap (λ (k : Kind). unless (fault_by k no_tally v) (judged_from (next_by k no_tally v) rs)) (is-v v b)
    ∙ ap (λ (o : Outcome). unless o (judged_from (next_by RecordV no_tally v) rs)) (v-early no_tally refl (accounts_in v))

-- An M is open behind payments that are right.
module _ (ps : List (List ℕ)) (m : List ℕ) (rest : List (List ℕ)) (p : Paid ps) (f : first_of m ≡ 77) where
  b : Beyond no_tally ps (m ∷ rest)
  b = start ps (m ∷ rest) p

  opened : Tally
  opened = with_payment b.then (total_in m)

  to-m : judged_from no_tally (ps ++ (m ∷ rest)) ≡ judged_from opened rest
  unfolding opened
  to-m = b.on ∙ over-m b.then m rest f (b.closed (here b.then))

  told-alone : NoV rest → judged_from no_tally (ps ++ (m ∷ rest)) ≡ Refused 31 (length ps + 2) 0
  unfolding opened with_payment
  told-alone n =
      let k : here opened ≡ length ps + 2 = omega (arith, b.sees) in
      to-m ∙ told-closing opened rest 31 (length ps + 2) n (left_alone opened (here opened) (λ e. absurd (omega arith)) refl ∙ ap (Fault 31) k)

-- Its V's that are right are behind it.
module _ (ps : List (List ℕ)) (m : List ℕ) (vs rest : List (List ℕ)) (p : Paid ps) (f : first_of m ≡ 77) (a : AllV vs) where
  t : Tally
  t = opened ps m (vs ++ rest) p f

  o : Over t vs rest
  unfolding t opened with_payment
  o = over-vs t vs rest a (omega arith)

  to-vs : judged_from no_tally (ps ++ (m ∷ (vs ++ rest))) ≡ judged_from o.then rest
  unfolding t
  to-vs = to-m ps m (vs ++ rest) p f ∙ o.on

  after-vs : here o.then ≡ length ps + length vs + 2
  unfolding t opened with_payment
  after-vs = omega (arith, o.seen_more, (b ps m (vs ++ rest) p f).sees)

  some-count : 0 < o.then.count
  unfolding t opened with_payment
  some-count = omega (arith, o.count_same)

  told-no-total : 0 < length vs → NoV rest → (States m (used_in vs) → ⊥) → judged_from no_tally (ps ++ (m ∷ (vs ++ rest))) ≡ Refused 33 (length ps + 1) 0
  unfolding t opened with_payment
  told-no-total s n w = to-vs ∙ told-closing o.then rest 33 (length ps + 1) n (go (total_in m) refl ∙ ap (Fault 33) (o.at_same ∙ at))
    where
      at : here (b ps m (vs ++ rest) p f).then ≡ length ps + 1
      at = omega (arith, (b ps m (vs ++ rest) p f).sees)

      go : (q : Total) → total_in m ≡ q → closing o.then (here o.then) ≡ Fault 33 o.then.at
      go NoTotal e = unread o.then (here o.then) (λ z. absurd (omega (arith, some-count))) (o.follows.1 s) (o.total-same ∙ e)
      go (Cents v) e =
          misstated o.then (here o.then) (λ z. absurd (omega (arith, some-count))) (o.follows.1 s) v (o.total-same ∙ e)
          (λ z. w (total-states m (used_in vs) (e ∙ ap Cents (let q : v ≡ used_in vs = omega (arith, o.own-more) in q))))

told-wrong-v : (ps : List (List ℕ)) (m : List ℕ) (vs : List (List ℕ)) (v : List ℕ) (rest : List (List ℕ)) → Paid ps → first_of m ≡ 77 → AllV vs → first_of v ≡ 86 → (a : Accounts) (e : ℕ) → accounts_in v ≡ a → ((n : ℕ) → accounts_fault n a ≡ Fault e n) →
    judged_from no_tally (ps ++ (m ∷ (vs ++ (v ∷ rest)))) ≡ Refused e (length ps + length vs + 2) 0
told-wrong-v ps m vs v rest p f a i c e q w =
    to-vs ps m vs (v ∷ rest) p f a
    ∙ (told-v (o ps m vs (v ∷ rest) p f a).then v rest c e i (some-count ps m vs (v ∷ rest) p f a) q (w (here (o ps m vs (v ∷ rest) p f a).then)) ∙ ap (λ (k : ℕ). Refused e k 0) (after-vs ps m vs (v ∷ rest) p f a))

-- Wherever the first fault stands, it is told.
stops-told : (rs : List (List ℕ)) (e k : ℕ) → Stops rs e k → judged_from no_tally rs ≡ Refused e k 0
stops-told rs e k (early v rest q b i j) = rw (q, i, j) (told-early v rest b)
stops-told rs e k (unknown ps r rest q p n m i j) =
    let b = start ps (r ∷ rest) p in
    let h : here b.then ≡ length ps + 1 = omega (arith, b.sees) in
    rw (q, i, j) (b.on ∙ (told-unknown b.then r rest n m (b.closed (here b.then)) ∙ ap (λ (l : ℕ). Refused 31 l 0) h))
stops-told rs e k (alone ps m rest q p f n i j) = rw (q, i, j) (told-alone ps m rest p f n)
stops-told rs e k (no-digits ps m vs v rest q p f a b n i j) = rw (q, i, j) (told-wrong-v ps m vs v rest p f a b NonDigit 32 (no-digits-are v n (accounts_in v) refl) (λ l. refl))
stops-told rs e k (no-sum ps m vs v rest q p f a b n i j) = rw (q, i, j) (told-wrong-v ps m vs v rest p f a b Unequal 33 (no-sum-is v n (accounts_in v) refl) (λ l. refl))
stops-told rs e k (no-total ps m vs rest q p f s a n w i j) = rw (q, i, j) (told-no-total ps m vs rest p f a s n w)

-- The converse of `refused-first`.
pub stops-refused : (s : List ℕ) → Sized (length s) → (e k : ℕ) → Stops (records_of s) e k → judged s ≡ Refused e k 0
stops-refused s z e k w = judged-start s (sized-size (length s) z) ∙ stops-told (records_of s) e k w
