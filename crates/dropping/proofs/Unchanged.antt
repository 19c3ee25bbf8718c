-- "An empty list changes nothing": an accepted flow has a delega at least, and carries its own numbers.
use Prim.Native.Nat.{ℕ, ◌≤◌}
use mathlib.Core.Path.{◌≡◌, refl, sym, ap, ap₂, ◌∙◌}
use mathlib.Core.Bool.{Bool, true, false, cond, false≢true}
use mathlib.Core.List.{List, [], ◌∷◌}
use native.Mathlib.Omega.{arith}
use borrow.Author.Tests.{eqb-true, ne_eqb}
use lib.Dec.{eqb, ltb}
use lib.ListN.{length}
use lib.Seq.{take_all}
use Rattle.text.specs.Among.{among}
use Rattle.layout.specs.declared.Kind.{Kind}
use Rattle.layout.specs.declared.Kind.TheVariants.{Head, Taxpayer, Domicile, Line, Balance, Payment, Receipt, Addressee, Tail, Unknown}
use Rattle.layout.specs.Kinds.{kind_in, numbered}
use Rattle.order.specs.declared.Stage.{Stage}
use Rattle.order.specs.Stages.{after_taxpayer, after_domicile, after_line, after_balance, after_payment, after_receipt, after_addressee}
use Rattle.order.specs.Order.{stands, next_stage}
use Rattle.rules.specs.declared.State.{State}
use Rattle.rules.specs.State.{start_state}
use Rattle.rules.specs.Step.{next_deleghe, next}
use Rattle.judge.specs.Refusal.{Accepted}
use Rattle.judge.specs.declared.Judgement.{Judgement}
use Rattle.judge.specs.Flow.{records_of, head_name_of, judged}
use Rattle.judge.specs.Plain.{state_after, NoFault}
use Rattle.judge.proofs.Accepted.{right_of, accepted-means-no-fault, sound-phase, sound-judged}
use Rattle.rebalance.specs.Rebalance.{flat, refreshed, Sized}
use Rattle.rebalance.proofs.Emit.{kept-each, fault-kept}
use Rattle.rebalance.proofs.Numbered.{number_same, number-held}
use Rattle.rebalance.proofs.Judged.{sized-records, flat-records, accepted-untouched}
use Rattle.close.specs.Closing.{stays, kept_of, renumbered, closed_up, each_once, left_of}
use Rattle.close.proofs.Counted.{left-all}
use Rattle.dropping.specs.Answers.{Dropped}
use Rattle.dropping.specs.Dropping.{shortened, weighed, dropping_of, dropped_flow}
use Rattle.dropping.proofs.Dropped.{dropped-room}
use Rattle.dropping.proofs.OneRecord.{next-deleghe}

-- A phase among three that are 2 or more is 2 or more.
one_of_three : (p a b c : ℕ) → 2 ≤ a → 2 ≤ b → 2 ≤ c → among p (a ∷ b ∷ c ∷ []) ≡ true → 2 ≤ p
unfolding among
one_of_three p a b c x y z e = go (eqb p a) (eqb p b) (eqb p c) refl refl refl e
  where
    go : (s t u : Bool) → eqb p a ≡ s → eqb p b ≡ t → eqb p c ≡ u → cond s true (cond t true (cond u true false)) ≡ true → 2 ≤ p
    go true t u i j k f = omega (arith, eqb-true p a i)
    go false true u i j k f = omega (arith, eqb-true p b j)
    go false false true i j k f = omega (arith, eqb-true p c k)
    go false false false i j k f = absurd (false≢true f)

-- A delega has begun where the phase is behind that of a record 10, and so it is after every record.
begun-on : (p : Stage) (d : ℕ) (k : Kind) → (2 ≤ p.phase → 1 ≤ d) → stands p k ≡ true → 2 ≤ (next_stage p k).phase → 1 ≤ next_deleghe d k
unfolding stands
begun-on p d Head h s l = absurd (omega arith)
begun-on p d Taxpayer h s l = omega arith
begun-on p d Domicile h s l = h (omega (arith, eqb-true p.phase after_taxpayer s))
begun-on p d (Line x) h s l = go (eqb p.phase after_domicile) (eqb p.phase after_line) (eqb p.phase after_balance) refl refl refl s
  where
    go : (a b c : Bool) → eqb p.phase after_domicile ≡ a → eqb p.phase after_line ≡ b → eqb p.phase after_balance ≡ c → cond a true (cond b (eqb x p.section) (cond c (cond (ltb p.section x) (ltb x 4) false) false)) ≡ true → 1 ≤ d
    go true b c i j k f = h (omega (arith, eqb-true p.phase after_domicile i))
    go false true c i j k f = h (omega (arith, eqb-true p.phase after_line j))
    go false false true i j k f = h (omega (arith, eqb-true p.phase after_balance k))
    go false false false i j k f = absurd (false≢true f)
begun-on p d (Balance x) h s l = go (eqb p.phase after_line) refl s
  where
    go : (a : Bool) → eqb p.phase after_line ≡ a → cond a (eqb x p.section) false ≡ true → 1 ≤ d
    go true i f = h (omega (arith, eqb-true p.phase after_line i))
    go false i f = absurd (false≢true f)
begun-on p d Payment h s l = h (omega (arith, eqb-true p.phase after_balance s))
begun-on p d Receipt h s l = h (omega (arith, eqb-true p.phase after_payment s))
begun-on p d Addressee h s l = h (omega (arith, eqb-true p.phase after_receipt s))
begun-on p d Tail h s l = h (one_of_three p.phase after_payment after_receipt after_addressee (omega arith) (omega arith) (omega arith) s)
begun-on p d Unknown h s l = absurd (false≢true s)

some-begun : (name : List ℕ) (st : State) (rs : List (List ℕ)) → NoFault name st rs → (2 ≤ st.stage.phase → 1 ≤ st.deleghe) → 2 ≤ (state_after st rs).stage.phase → 1 ≤ (state_after st rs).deleghe
unfolding state_after next
some-begun name st [] h b l = b l
some-begun name st (r ∷ rs) h b l = some-begun name (next st r) rs h.1 (λ m. begun-on st.stage st.deleghe (kind_in r) b (right_of name st r h.0).ordered m) l

-- Nothing goes where nothing is named.
all-kept : (rs : List (List ℕ)) → kept_of [] rs ≡ rs
unfolding kept_of stays among
all-kept [] = refl
all-kept (r ∷ rs) = go (numbered (kind_in r)) (all-kept rs)
  where
    go : (b : Bool) → kept_of [] rs ≡ rs → cond (cond b true true) (r ∷ kept_of [] rs) (kept_of [] rs) ≡ r ∷ rs
    go true e = ap (λ (l : List (List ℕ)). r ∷ l) e
    go false e = ap (λ (l : List (List ℕ)). r ∷ l) e

-- Records without a fault have their numbers.
own-numbers : (name : List ℕ) (st : State) (rs : List (List ℕ)) → Sized rs → NoFault name st rs → renumbered st.deleghe rs ≡ rs
unfolding renumbered
own-numbers name st [] z h = refl
own-numbers name st (r ∷ rs) z h =
    let k = kept-each name st r (fault-kept st r z.0 name h.0) in
    let d = next_deleghe st.deleghe (kind_in r) in
    ap₂ ◌∷◌ (number_same (kind_in r) d r z.0 (λ n. number-held (kind_in r) st.deleghe r z.0 k.digits k.number n))
    (ap (λ (n : ℕ). renumbered n rs) (sym (next-deleghe st r)) ∙ own-numbers name (next st r) rs z.1 h.1)

-- An accepted flow.
module _ (f : List ℕ) (a : (judged f).verdict ≡ Accepted) where
  pub some-deleghe : 1 ≤ (judged f).summary.deleghe
  unfolding start_state
  some-deleghe =
      let h = accepted-means-no-fault f a in
      let e = ap (λ (j : Judgement). j.summary.deleghe) (sound-judged f h) in
      omega (arith, some-begun (head_name_of f) start_state (records_of f) h.passes (λ m. absurd (omega arith)) (omega (arith, sound-phase f h)))

  -- With no delega named it is what is left.
  pub shortened-none : shortened f [] ≡ f
  unfolding shortened refreshed closed_up start_state
  shortened-none =
      let h = accepted-means-no-fault f a in
      let e = ap (renumbered 0) (all-kept (records_of f)) ∙ own-numbers (head_name_of f) start_state (records_of f) (sized-records f h.whole.even) h.passes in
      ap (λ (rs : List (List ℕ)). refreshed (flat rs)) e ∙ (ap refreshed (flat-records f h.whole.even) ∙ accepted-untouched f a)

  -- Its length is answered.
  none_named : dropping_of f [] ≡ Dropped (length f)
  unfolding dropping_of weighed each_once
  none_named = rw (a, ne_eqb (left_of [] (judged f).summary.deleghe) 0 (λ z. omega (arith, left-all (judged f).summary.deleghe, some-deleghe))) (ap (λ (g : List ℕ). Dropped (length g)) shortened-none)

  -- "An empty list changes nothing."
  pub empty-list : (dropping_of f [] ≡ Dropped (length f)) × (dropped_flow f [] ≡ f)
  empty-list =
      let r = dropped-room f [] none_named in
      (none_named, sym (take_all (length f) (dropped_flow f []) (omega (arith, r.3))) ∙ (r.0 ∙ shortened-none))
