-- The judgement goes on over records that are right: over an M, over its V's, and over whole payments.
use Prim.Native.Nat.{ℕ, ◌+◌, ◌<◌}
use mathlib.Core.Path.{◌≡◌, refl, ap, ◌∙◌}
use mathlib.Core.Bool.{true}
use mathlib.Core.List.{List, [], ◌∷◌, ◌++◌, append_assoc}
use native.Mathlib.Omega.{arith}
use lib.ListN.{length, length-append}
use Rattle.ep_accounts.specs.Answers.{Sum}
use Rattle.ep_accounts.specs.Printed.{used_debits}
use Rattle.ep_accounts.specs.Accounts.{accounts_in}
use Rattle.ep_accounts.proofs.Exactly.{balanced-accounts}
use Rattle.ep.specs.declared.Kind.{Kind}
use Rattle.ep.specs.Answers.{Outcome, Pass}
use Rattle.ep.specs.declared.Tally.{Tally}
use Rattle.ep.specs.Payments.{total_in, here, closing, fault_by, fault, with_accounts, with_payment, next_by, next, unless, judged_from}
use Rattle.ep.specs.Plain.{first_of, count_m, used_in, RightV, AllV, States, Paid, none, paid}
use Rattle.ep.proofs.Closes.{stated}
use Rattle.ep.proofs.Counts.{is_m, is-v, count-m, used-m, count-vs, used-vs, used_v, states-total}
use Rattle.ep.proofs.Told.{v-open}

-- The judgement goes on over an M behind which all is closed, and over a right V behind an M.
pub over-m : (t : Tally) (m : List ℕ) (rs : List (List ℕ)) → first_of m ≡ 77 → closing t (here t) ≡ Pass → judged_from t (m ∷ rs) ≡ judged_from (with_payment t (total_in m)) rs
unfolding judged_from fault next
over-m t m rs f c =
    ap (λ (k : Kind). unless (fault_by k t m) (judged_from (next_by k t m) rs)) (is_m m f) ∙ ap (λ (o : Outcome). unless o (judged_from (with_payment t (total_in m)) rs)) c

pub over-v : (t : Tally) (v : List ℕ) (rs : List (List ℕ)) → RightV v → 0 < t.count → judged_from t (v ∷ rs) ≡ judged_from (with_accounts t (Sum (used_debits v))) rs
unfolding judged_from fault next
over-v t v rs r s =
    ap (λ (k : Kind). unless (fault_by k t v) (judged_from (next_by k t v) rs)) (is-v v r.is-v)
    ∙ (ap (λ (o : Outcome). unless o (judged_from (with_accounts t (accounts_in v)) rs)) (v-open t s (accounts_in v)) ∙ rw (balanced-accounts v r.balanced))

-- Behind right V's the tally has their sum.
pub record Over (t : Tally) (vs rest : List (List ℕ)) : Type 0 where
  pub then : Tally
  pub on : judged_from t (vs ++ rest) ≡ judged_from then rest
  pub count_same : then.count ≡ t.count
  pub sum_more : then.sum ≡ t.sum + used_in vs
  pub own-more : then.own ≡ t.own + used_in vs
  pub total-same : then.total ≡ t.total
  pub at_same : then.at ≡ t.at
  pub seen_more : then.seen ≡ t.seen + length vs
  pub follows : (t.followed ≡ true → then.followed ≡ true) × (0 < length vs → then.followed ≡ true)

pub over-vs : (t : Tally) (vs rest : List (List ℕ)) → AllV vs → 0 < t.count → Over t vs rest
unfolding used_in with_accounts
over-vs t [] rest a s =
    record { then = t; on = refl; count_same = refl; sum_more = omega arith; own-more = omega arith; total-same = refl; at_same = refl; seen_more = omega arith; follows = (λ e. e, λ l. absurd (omega arith)) }
over-vs t (v ∷ vs) rest a s =
    let o = over-vs (with_accounts t (Sum (used_debits v))) vs rest a.1 s in
    let u = used_v v vs a.0.is-v in
    record {
      then = o.then;
      on = over-v t v (vs ++ rest) a.0 s ∙ o.on;
      count_same = o.count_same;
      sum_more = omega (arith, o.sum_more, u);
      own-more = omega (arith, o.own-more, u);
      total-same = o.total-same;
      at_same = o.at_same;
      seen_more = omega (arith, o.seen_more);
      follows = (λ e. o.follows.0 refl, λ l. o.follows.0 refl);
    }

-- Behind payments that are right the tally has their count and their sum, and all is closed.
pub record Beyond (t : Tally) (ps rest : List (List ℕ)) : Type 0 where
  pub then : Tally
  pub on : judged_from t (ps ++ rest) ≡ judged_from then rest
  pub counts : then.count ≡ t.count + count_m ps
  pub adds : then.sum ≡ t.sum + used_in ps
  pub sees : then.seen ≡ t.seen + length ps
  pub closed : (n : ℕ) → closing then n ≡ Pass

-- Over an M and its V's the M is closed.
closed-over : (t : Tally) (m : List ℕ) (vs rest : List (List ℕ)) → 0 < length vs → States m (used_in vs) → (o : Over (with_payment t (total_in m)) vs rest) → (n : ℕ) → closing o.then n ≡ Pass
unfolding with_payment
closed-over t m vs rest s u o n =
    stated o.then n (λ e. absurd (omega (arith, o.count_same))) (o.follows.1 s) (used_in vs) (o.total-same ∙ states-total m (used_in vs) u) (omega (arith, o.own-more))

pub beyond : (ps rest : List (List ℕ)) (t : Tally) → Paid ps → ((n : ℕ) → closing t n ≡ Pass) → Beyond t ps rest
unfolding count_m used_in with_payment
beyond ps rest t (none e) c =
    record {
      then = t;
      on = ap (λ (l : List (List ℕ)). judged_from t (l ++ rest)) e;
      counts = rw e (omega arith);
      adds = rw e (omega arith);
      sees = rw e (omega arith);
      closed = c;
    }
beyond ps rest t (paid m vs more e f s a u p) c =
    let o = over-vs (with_payment t (total_in m)) vs (more ++ rest) a (omega arith) in
    let b = beyond more rest o.then p (closed-over t m vs (more ++ rest) s u o) in
    let q : ps ++ rest ≡ m ∷ (vs ++ (more ++ rest)) = ap (λ (l : List (List ℕ)). l ++ rest) e ∙ ap (λ (l : List (List ℕ)). m ∷ l) (append_assoc vs more rest) in
    record {
      then = b.then;
      on = ap (judged_from t) q ∙ (over-m t m (vs ++ (more ++ rest)) f (c (here t)) ∙ (o.on ∙ b.on));
      counts = rw e (omega (arith, b.counts, o.count_same, count-m m (vs ++ more) f, count-vs vs more a));
      adds = rw e (omega (arith, b.adds, o.sum_more, used-m m (vs ++ more) f, used-vs vs more a));
      sees = rw e (omega (arith, b.sees, o.seen_more, length-append vs more));
      closed = b.closed;
    }
