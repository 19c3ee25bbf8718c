-- Records of which one line gets other amounts: what the checks that rebalancing leaves alone say of them.
use Prim.Native.Nat.{ℕ, ◌+◌, ◌^◌, ◌<◌}
use mathlib.Core.Path.{◌≡◌, refl, ap}
use mathlib.Core.Bool.{Bool, true, false, cond}
use mathlib.Core.List.{List, [], ◌∷◌, ◌++◌}
use lib.Dec.{eqb, lit≤}
use lib.ListN.{length}
use Rattle.text.specs.Answers.{Number}
use Rattle.text.specs.Characters.{first_bad}
use Rattle.text.specs.Numbers.{number_of}
use Rattle.layout.specs.declared.Kind.{Kind}
use Rattle.layout.specs.declared.Kind.TheVariants.{Head, Taxpayer, Domicile, Line, Balance, Payment, Receipt, Addressee, Tail, Unknown}
use Rattle.layout.specs.Sections.{section_at}
use Rattle.layout.specs.Kinds.{kind_in}
use Rattle.layout.specs.Fields.{amount_at, delega_number, bytes_of, value_of}
use Rattle.amounts.specs.declared.Sums.{Sums}
use Rattle.rules.specs.declared.State.{State}
use Rattle.refusal.specs.Outcomes.{Pass, Fails}
use Rattle.amounts.specs.Amounts.{line_right, line_fault}
use Rattle.rules.specs.Stored.{stored_of}
use Rattle.rules.specs.Checks.{char_fault, bad_fields, negative_fault, own_fault}
use Rattle.order.specs.Order.{next_stage}
use Rattle.rules.specs.Step.{next_deleghe, next_of, next}
use Rattle.rebalance.specs.Rebalance.{fits_all, all_fit, kept_fault, Mendable}
use Rattle.text.proofs.Tests.{both_true}
use Rattle.rebalance.proofs.Written.{digits-pass}
use Rattle.layout.proofs.InTable.{line-within}
use Rattle.judge.proofs.ChecksInOrder.{allowed_of}
use Rattle.rebalance.proofs.Emit.{kept-each, kept-all}
use Rattle.rebalance.proofs.Weighed.{neither}
use Rattle.rebalance.specs.Weigh.{negative_at, any_negative}
use Rattle.correct.proofs.Amended.{amended, length-amended, amended-part, type-amended, kind-amended, allowed-amended, debit-amended, credit-amended, line-amended}

-- Two states that differ in money only.
pub record Near (a b : State) : Type 0 where
  pub stages : a.stage ≡ b.stage
  pub numbers : a.deleghe ≡ b.deleghe
  pub counts : a.seen ≡ b.seen

-- So do those after a record of the same kind, whatever its amounts.
pub near_on : (a b : State) (k : Kind) (x y : Sums) → Near a b → Near (next_of a k x) (next_of b k y)
near_on a b k x y n =
    record { stages = ap (λ p. next_stage p k) n.stages; numbers = ap (λ m. next_deleghe m k) n.numbers; counts = ap (λ (m : ℕ). m + 1) n.counts }

-- Of a record's own rules only that on the delega looks at money.
own-near : (name : List ℕ) (a b : State) (k : Kind) (r : List ℕ) → negative_at b k ≡ false → own_fault name a k r ≡ Pass → own_fault name b k r ≡ Pass
unfolding negative_fault
own-near name a b Head r h e = e
own-near name a b Taxpayer r h e = e
own-near name a b Domicile r h e = e
own-near name a b (Line s) r h e = e
own-near name a b (Balance s) r h e = e
own-near name a b Payment r h e = rw h
own-near name a b Receipt r h e = e
own-near name a b Addressee r h e = e
own-near name a b Tail r h e = e
own-near name a b Unknown r h e = e

-- Records that rebalancing mends after one state, it mends after another that differs in money only, where no delega is negative and all fits.
mended-near : (name : List ℕ) (a b : State) (rs : List (List ℕ)) → Near a b → Mendable name a rs → any_negative b rs ≡ false → all_fit b rs ≡ true → Mendable name b rs
unfolding any_negative all_fit next
mended-near name a b [] n m p f = rw n.stages at m
mended-near name a b (r ∷ rs) n m p f =
    let u = neither (negative_at b (kind_in r)) _ p in
    let v = both_true (fits_all (stored_of b (kind_in r))) _ f in
    let k = kept-each name a r m.1 in (
      m.0,
      kept-all name b r (record { characters = k.characters; order = rw n.stages at k.order; digits = k.digits; number = rw n.numbers at k.number; own = own-near name a b (kind_in r) r u.0 k.own }),
      v.0,
      mended-near name (next a r) (next b r) rs (near_on a b (kind_in r) _ _ n) m.3 u.1 v.1,
    )

-- A line that has no fault of amounts keeps the line rule.
right_of : (s x y : ℕ) → line_fault s x y ≡ Pass → line_right s x y ≡ true
unfolding line_fault
right_of s x y e = go (line_right s x y) (eqb x 0) (eqb y 0) e
  where
    go : (t u v : Bool) → cond t Pass (cond u (cond v (Fails 9 ((section_at s).debit + 1)) (Fails 9 ((section_at s).credit + 1))) (Fails 9 ((section_at s).credit + 1))) ≡ Pass → t ≡ true
    go true u v e = refl
    go false true true e = cc
    go false true false e = cc
    go false false v e = cc

-- A line's number and amounts are of digits, and its amounts keep the line rule.
pub record Readable (s : ℕ) (r : List ℕ) : Type 0 where
  pub number : number_of (bytes_of r delega_number) ≡ Number (value_of r delega_number)
  pub debit : number_of (bytes_of r (amount_at (section_at s).debit)) ≡ Number (value_of r (amount_at (section_at s).debit))
  pub credit : number_of (bytes_of r (amount_at (section_at s).credit)) ≡ Number (value_of r (amount_at (section_at s).credit))
  pub right : line_right s (value_of r (amount_at (section_at s).debit)) (value_of r (amount_at (section_at s).credit)) ≡ true

-- A line of section s.
module _ (name : List ℕ) (st : State) (r : List ℕ) (l : length r ≡ 120) (s : ℕ) (e : kind_in r ≡ Line s) where
  -- It is readable, where it passes the checks that rebalancing leaves alone.
  pub kept-readable : kept_fault name st r ≡ Pass → Readable s r
  unfolding bad_fields
  kept-readable f =
      let k = kept-each name st r f in
      let a = digits-pass (number_of (bytes_of r delega_number)) delega_number _ (rw e at k.digits) in
      let b = digits-pass (number_of (bytes_of r (amount_at (section_at s).debit))) (amount_at (section_at s).debit) _ a.1 in
      let c = digits-pass (number_of (bytes_of r (amount_at (section_at s).credit))) (amount_at (section_at s).credit) Pass b.1 in
      record { number = a.0; debit = b.0; credit = c.0; right = right_of s _ _ (rw e at k.own) }

  -- Other amounts that have fifteen digits and keep the line rule.
  module _ (x y : ℕ) (h : x < 10 ^ 15) (i : y < 10 ^ 15) (t : line_right s x y ≡ true) where
    -- Its section is in the table.
    w : s < 5
    w = line-within r s e

    -- With them it passes the checks that it passed.
    kept-amended : kept_fault name st r ≡ Pass → kept_fault name st (amended s x y r) ≡ Pass
    unfolding bad_fields line_fault
    kept-amended f =
        let k = kept-each name st r f in
        let n = amended-part s w r l x y 7 3 (lit≤ tt) in
        let d = debit-amended s w r l x y h in
        let c = credit-amended s w r l x y i in
        kept-all name st (amended s x y r)
        (record {
          characters = ap char_fault (allowed-amended s w r l x y (allowed_of (first_bad r) k.characters));
          order = rw (type-amended s w r l x y, kind-amended s w r l x y) k.order;
          digits = rw (line-amended s r l e x y, n, d, c, (kept-readable f).number);
          number = rw (kind-amended s w r l x y, n) k.number;
          own = rw (line-amended s r l e x y, d, c, t);
        })

    -- Records with it so are mended, where those with it as it was are, no delega is negative and all fits.
    mended-here : (rs : List (List ℕ)) → Mendable name st (r ∷ rs) → any_negative st (amended s x y r ∷ rs) ≡ false → all_fit st (amended s x y r ∷ rs) ≡ true → Mendable name st (amended s x y r ∷ rs)
    unfolding any_negative all_fit next
    mended-here rs m p f =
        let n : Near (next st r) (next st (amended s x y r)) = rw (kind-amended s w r l x y) (near_on st st (kind_in r) _ _ (record { stages = refl; numbers = refl; counts = refl })) in
        let u = neither (negative_at st (kind_in (amended s x y r))) _ p in
        let v = both_true (fits_all (stored_of st (kind_in (amended s x y r)))) _ f in
        (length-amended s w r l x y, kept-amended m.1, v.0, mended-near name _ _ rs n m.3 u.1 v.1)

-- Records of which one line gets amounts that have fifteen digits and keep the line rule are mended, where they were before, no delega is negative and all fits.
pub mended-amended : (name : List ℕ) (st : State) (xs : List (List ℕ)) (r : List ℕ) (ys : List (List ℕ)) (s : ℕ) → kind_in r ≡ Line s → (x y : ℕ) → x < 10 ^ 15 → y < 10 ^ 15 → line_right s x y ≡ true →
    Mendable name st (xs ++ (r ∷ ys)) → any_negative st (xs ++ (amended s x y r ∷ ys)) ≡ false → all_fit st (xs ++ (amended s x y r ∷ ys)) ≡ true → Mendable name st (xs ++ (amended s x y r ∷ ys))
unfolding any_negative all_fit
mended-amended name st [] r ys s e x y h i t m p f = mended-here name st r m.0 s e x y h i t ys m p f
mended-amended name st (z ∷ xs) r ys s e x y h i t m p f =
    let u = neither (negative_at st (kind_in z)) _ p in
    let v = both_true (fits_all (stored_of st (kind_in z))) _ f in
    (m.0, m.1, m.2, mended-amended name (next st z) xs r ys s e x y h i t m.3 u.1 v.1)
