-- What is answered of records: payments that are all right are accepted with their count and their sum, and else the first fault is told.
use Rattle.std.specs.Prelude.{Err}
use Prim.Native.Nat.{ℕ, suc, ◌+◌, ◌<◌}
use mathlib.Core.Path.{◌≡◌, refl, sym, ap, ◌∙◌}
use mathlib.Core.Bool.{Bool, true, false}
use mathlib.Core.List.{List, [], ◌∷◌, ◌++◌, append_assoc, append-nil}
use native.Mathlib.Omega.{arith}
use borrow.Author.Tests.{eqb-true, eqb-false, ltb-true, ltb-false, lt-ltb, eq-eqb, ne_eqb}
use lib.Dec.{eqb, ltb}
use lib.ListN.{length, length-append}
use Rattle.ep_total.specs.Answers.{Total, Cents, NoTotal}
use Rattle.ep_accounts.specs.Answers.{Accounts, Sum, NonDigit, Unequal}
use Rattle.ep_accounts.specs.Accounts.{accounts_in}
use Rattle.ep_accounts.specs.Printed.{used_debits}
use Rattle.ep_accounts.proofs.Exactly.{accounts-balanced, accounts-no-digits, accounts-no-sum}
use Rattle.ep.specs.declared.Kind.{Kind}
use Rattle.ep.specs.declared.Kind.TheVariants.{RecordM, RecordV, OtherRecord}
use Rattle.ep.specs.Answers.{Outcome, Pass, Fault, EpAnswer, Accepted, Refused}
use Rattle.ep.specs.declared.Tally.{Tally}
use Rattle.ep.specs.Payments.{total_in, no_tally, here, closing, accounts_fault, v_fault, after_other, fault_by, fault, with_accounts, with_payment, next_by, next, unless, ended, judged_from, kind_of}
use Rattle.ep.specs.Plain.{first_of, count_m, used_in, RightV, AllV, Paid, none, NoV, Stops, early, unknown, alone, no-digits, no-sum, no-total}
use Rattle.ep.proofs.Closes.{none_open, left_alone, unread, stated, misstated}
use Rattle.ep.proofs.Counts.{Begins, with-m, with-v, otherwise, begins, count-m, used-m, count-v, used_v, count-last, used-last, all-v-last, paid-more, total-states, states-total}

-- What an answer says of the records.
pub data Told (rs : List (List ℕ)) : EpAnswer → Type 0 where
  accepted : Paid rs → Told rs (Accepted (count_m rs) (used_in rs))
  refused : {e k : ℕ} → Stops rs e k → Told rs (Refused e k 0)

-- What a tally says of the records before it, once an M is open: payments that are right, the M, and right V's.
record Reached (t : Tally) (done : List (List ℕ)) : Type 0 where
  ps : List (List ℕ)
  m : List ℕ
  vs : List (List ℕ)
  parts : done ≡ ps ++ (m ∷ vs)
  before : Paid ps
  begins-m : first_of m ≡ 77
  all-v : AllV vs
  some : 0 < t.count
  counts : t.count ≡ count_m done
  adds : t.sum ≡ used_in done
  owns : t.own ≡ used_in vs
  stands : t.at ≡ length ps + 1
  sees : t.seen ≡ length done
  states : t.total ≡ total_in m
  follows : t.followed ≡ ltb 0 (length vs)

-- How an M that is open is closed.
data Closed (t : Tally) (n : ℕ) : Outcome → Type 0 where
  closes : t.followed ≡ true → t.total ≡ Cents t.own → Closed t n Pass
  bare : t.followed ≡ false → Closed t n (Fault 31 n)
  off : t.followed ≡ true → (t.total ≡ Cents t.own → ⊥) → Closed t n (Fault 33 t.at)

closed_of : (t : Tally) (n : ℕ) → 0 < t.count → Closed t n (closing t n)
closed_of t n s = go t.followed refl t.total refl
  where
    one : t.count ≡ 0 → ⊥
    one e = absurd (omega arith)

    by : t.followed ≡ true → (v : ℕ) → t.total ≡ Cents v → (b : Bool) → eqb v t.own ≡ b → Closed t n (closing t n)
    by f v e true q = rw (stated t n one f v e (eqb-true _ _ q)) (closes f (e ∙ ap Cents (eqb-true _ _ q)))
    by f v e false q = rw (misstated t n one f v e (eqb-false _ _ q)) (off f (λ p. eqb-false _ _ q (let z : v ≡ t.own = cc in z)))

    go : (f : Bool) → t.followed ≡ f → (o : Total) → t.total ≡ o → Closed t n (closing t n)
    go false f o e = rw (left_alone t n one f) (bare f)
    go true f NoTotal e = rw (unread t n one f e) (off f (λ p. let z : ◌≡◌ {A = ℕ} 0 1 = cc in absurd (omega arith)))
    go true f (Cents v) e = by f v e (eqb v t.own) refl

no-vs : (vs : List (List ℕ)) → ltb 0 (length vs) ≡ false → vs ≡ []
no-vs [] e = refl
no-vs (v ∷ vs) e = absurd (omega (arith, ltb-false 0 (suc (length vs)) e))

module _ (t : Tally) (done : List (List ℕ)) (g : Reached t done) where
  -- The payment that is open is right.
  paid-done : t.followed ≡ true → t.total ≡ Cents t.own → Paid done
  paid-done f e =
      let s : 0 < length g.vs = ltb-true 0 _ (sym g.follows ∙ f) in
      rw g.parts (paid-more g.ps g.m g.vs g.before g.begins-m s g.all-v (total-states g.m (used_in g.vs) (sym g.states ∙ (e ∙ ap Cents g.owns))))

  -- The rest of the records behind it, as one list.
  regroup : (rs : List (List ℕ)) → done ++ rs ≡ g.ps ++ (g.m ∷ (g.vs ++ rs))
  regroup rs = ap (λ (l : List (List ℕ)). l ++ rs) g.parts ∙ append_assoc g.ps (g.m ∷ g.vs) rs

  -- A right V more.
  reached-v : (r : List ℕ) → first_of r ≡ 86 → (s : ℕ) → accounts_in r ≡ Sum s → Reached (with_accounts t (Sum s)) (done ++ (r ∷ []))
  unfolding with_accounts count_m used_in
  reached-v r b s e =
      let a = accounts-balanced r s e in
      let u : s ≡ used_debits r = a.1 in
      let right : RightV r = record { is-v = b; balanced = a.0 } in
      record {
        ps = g.ps;
        m = g.m;
        vs = g.vs ++ (r ∷ []);
        parts = regroup (r ∷ []);
        before = g.before;
        begins-m = g.begins-m;
        all-v = all-v-last g.vs r g.all-v right;
        some = g.some;
        counts = omega (arith, g.counts, count-last done r, count-v r [] b);
        adds = omega (arith, g.adds, u, used-last done r, used_v r [] b);
        owns = omega (arith, g.owns, u, used-last g.vs r, used_v r [] b);
        stands = g.stands;
        sees = rw length-append (omega (arith, g.sees));
        states = g.states;
        follows = sym (lt-ltb 0 (length (g.vs ++ (r ∷ []))) (rw length-append (omega arith)));
      }

  -- An M more.
  reached-m : (r : List ℕ) → first_of r ≡ 77 → Paid done → Reached (with_payment t (total_in r)) (done ++ (r ∷ []))
  unfolding with_payment count_m used_in
  reached-m r b p =
      record {
        ps = done;
        m = r;
        vs = [];
        parts = refl;
        before = p;
        begins-m = b;
        all-v = tt;
        some = omega arith;
        counts = omega (arith, g.counts, count-last done r, count-m r [] b);
        adds = omega (arith, g.adds, used-last done r, used-m r [] b);
        owns = refl;
        stands = omega (arith, g.sees);
        sees = rw length-append (omega (arith, g.sees));
        states = refl;
        follows = refl;
      }

  -- An M that is open is closed where no V comes next: it is right, or the fault is its own.
  close-or : (rs all : List (List ℕ)) → all ≡ done ++ rs → NoV rs → {o : Outcome} → Closed t (here t) o → (a : EpAnswer) → (Paid done → Told all a) → Told all (unless o a)
  close-or rs all q n (closes f e) a on = on (paid-done f e)
  close-or rs all q n (bare f) a on =
      let v : g.vs ≡ [] = no-vs g.vs (sym g.follows ∙ f) in
      let l : length (g.ps ++ (g.m ∷ g.vs)) ≡ length g.ps + 1 = length-append g.ps (g.m ∷ g.vs) ∙ ap (λ (w : List (List ℕ)). length g.ps + suc (length w)) v in
      refused {k = here t} (alone g.ps g.m rs (q ∙ (regroup rs ∙ ap (λ (w : List (List ℕ)). g.ps ++ (g.m ∷ (w ++ rs))) v)) g.before g.begins-m n refl (omega (arith, g.sees, ap length g.parts)))
  close-or rs all q n (off f w) a on =
      refused
      (no-total g.ps g.m g.vs rs (q ∙ regroup rs) g.before g.begins-m (ltb-true 0 (length g.vs) (sym g.follows ∙ f)) g.all-v n (λ e. w (g.states ∙ (states-total g.m (used_in g.vs) e ∙ ap Cents (sym g.owns)))) refl g.stands)

-- A V is judged by its accounts where an M is open, and else stands too early.
pub v-open : (t : Tally) → 0 < t.count → (a : Accounts) → v_fault t a ≡ accounts_fault (here t) a
unfolding v_fault
v-open t s a = rw (ne_eqb t.count 0 (λ e. absurd (omega arith)))

pub v-early : (t : Tally) → t.count ≡ 0 → (a : Accounts) → v_fault t a ≡ Fault 31 (here t)
unfolding v_fault
v-early t e a = rw (eq-eqb t.count 0 e)

-- The first record, where it is an M.
first : (r : List ℕ) → first_of r ≡ 77 → Reached (with_payment no_tally (total_in r)) (r ∷ [])
unfolding with_payment count_m used_in
first r b =
    record {
      ps = [];
      m = r;
      vs = [];
      parts = refl;
      before = none refl;
      begins-m = b;
      all-v = tt;
      some = omega arith;
      counts = sym (count-m r [] b);
      adds = sym (used-m r [] b);
      owns = refl;
      stands = refl;
      sees = refl;
      states = refl;
      follows = refl;
    }

-- A record that is neither M nor V is told where nothing before it is.
other-unless : (n : ℕ) (o : Outcome) (a : EpAnswer) → unless (after_other n o) a ≡ unless o (Refused 31 n 0)
other-unless n Pass a = refl
other-unless n (Err why) a = refl

told-from : (rs : List (List ℕ)) (t : Tally) (done all : List (List ℕ)) → Reached t done → all ≡ done ++ rs → Told all (judged_from t rs)
unfolding judged_from ended fault next
told-from [] t done all g q = close-or t done g [] all q tt (closed_of t (here t) g.some) (Accepted t.count t.sum) end
  where
    whole : all ≡ done
    whole = q ∙ append-nil done

    end : Paid done → Told all (Accepted t.count t.sum)
    end p = rw (whole, g.counts, g.adds) (accepted p)
told-from (r ∷ rs) t done all g q = go (kind_of r) (begins r) (λ u d h e. told-from rs u d all h e)
  where
    behind : all ≡ (done ++ (r ∷ [])) ++ rs
    behind = q ∙ sym (append_assoc done (r ∷ []) rs)

    v-by : first_of r ≡ 86 → (a : Accounts) → accounts_in r ≡ a → ((u : Tally) (d : List (List ℕ)) → Reached u d → all ≡ d ++ rs → Told all (judged_from u rs)) → Told all (unless (accounts_fault (here t) a) (judged_from (with_accounts t a) rs))
    v-by b (Sum s) e on = on (with_accounts t (Sum s)) (done ++ (r ∷ [])) (reached-v t done g r b s e) behind
    v-by b NonDigit e on =
        let l : length (g.ps ++ (g.m ∷ g.vs)) ≡ length g.ps + suc (length g.vs) = length-append g.ps (g.m ∷ g.vs) in
        refused {k = here t} (no-digits g.ps g.m g.vs r rs (q ∙ regroup t done g (r ∷ rs)) g.before g.begins-m g.all-v b (accounts-no-digits r e) refl (omega (arith, g.sees, ap length g.parts)))
    v-by b Unequal e on =
        let l : length (g.ps ++ (g.m ∷ g.vs)) ≡ length g.ps + suc (length g.vs) = length-append g.ps (g.m ∷ g.vs) in
        refused {k = here t} (no-sum g.ps g.m g.vs r rs (q ∙ regroup t done g (r ∷ rs)) g.before g.begins-m g.all-v b (accounts-no-sum r e) refl (omega (arith, g.sees, ap length g.parts)))

    v-fault : v_fault t (accounts_in r) ≡ accounts_fault (here t) (accounts_in r)
    v-fault = v-open t g.some (accounts_in r)

    go : (k : Kind) → Begins r k → ((u : Tally) (d : List (List ℕ)) → Reached u d → all ≡ d ++ rs → Told all (judged_from u rs)) → Told all (unless (fault_by k t r) (judged_from (next_by k t r) rs))
    go RecordM (with-m b) on =
        close-or t done g (r ∷ rs) all q (λ v. absurd (omega arith)) (closed_of t (here t) g.some) (judged_from (with_payment t (total_in r)) rs) (λ p. on (with_payment t (total_in r)) (done ++ (r ∷ [])) (reached-m t done g r b p) behind)
    go RecordV (with-v b) on = rw v-fault (v-by b (accounts_in r) refl on)
    go OtherRecord (otherwise n m) on =
        rw (other-unless (here t) (closing t (here t)) (judged_from (next_by OtherRecord t r) rs))
        (close-or t done g (r ∷ rs) all q m (closed_of t (here t) g.some) (Refused 31 (here t) 0) (λ p. refused {k = here t} (unknown done r rs q p n m refl (omega (arith, g.sees)))))

-- What is answered of any records.
pub told : (r : List ℕ) (rs : List (List ℕ)) → Told (r ∷ rs) (judged_from no_tally (r ∷ rs))
unfolding judged_from fault next
told r rs = go (kind_of r) (begins r)
  where
    go : (k : Kind) → Begins r k → Told (r ∷ rs) (unless (fault_by k no_tally r) (judged_from (next_by k no_tally r) rs))
    go RecordM (with-m b) = rw (none_open no_tally 1 refl) (told-from rs (with_payment no_tally (total_in r)) (r ∷ []) (r ∷ rs) (first r b) refl)
    go RecordV (with-v b) = rw (v-early no_tally refl (accounts_in r)) (refused (early r rs refl b refl refl))
    go OtherRecord (otherwise n m) = rw (none_open no_tally 1 refl) (refused (unknown [] r rs refl (none refl) n m refl refl))
