-- The promise of each call with a record settles what is returned, and every number and byte that it is lent.
use Prim.Native.Nat.{ℕ}
use mathlib.Core.Path.{◌≡◌, sym, ◌∙◌}
use mathlib.Core.List.{List}
use Rattle.f24.specs.LinkedKept.{kept_code, kept_record, kept_answer, correct_kept_code, correct_kept_flow, correct_kept_record, correct_kept_answer}
use Rattle.f24.specs.LinkedKept.{rebalance_kept_code, rebalance_kept_flow, rebalance_kept_list, rebalance_kept_record, rebalance_kept_answer, drop_kept_code, drop_kept_flow, drop_kept_record, drop_kept_answer}

-- `f24_kept`: the number returned, the record, and the answer
module _ (flow kept answer : List ℕ) where
  -- what its contract allows
  abbrev pub Keeps : ℕ → List ℕ → List ℕ → Type 0
  Keeps code k x = (code ≡ kept_code flow kept answer) × (k ≡ kept_record flow kept answer) × (x ≡ kept_answer flow kept answer)

  pub one_kept : (a b : ℕ) (k l x y : List ℕ) → Keeps a k x → Keeps b l y → (a ≡ b) × (k ≡ l) × (x ≡ y)
  one_kept a b k l x y p q = (p.0 ∙ sym q.0, p.1 ∙ sym q.1, p.2 ∙ sym q.2)

-- `f24_correct_kept`: the number returned, the flow, the record, and the answer
module _ (flow : List ℕ) (d subtype n debit credit : ℕ) (kept answer : List ℕ) where
  -- what its contract allows
  abbrev pub Corrects : ℕ → List ℕ → List ℕ → List ℕ → Type 0
  Corrects code f k x =
      (code ≡ correct_kept_code flow d subtype n debit credit kept answer)
      × (f ≡ correct_kept_flow flow d subtype n debit credit kept answer)
      × (k ≡ correct_kept_record flow d subtype n debit credit kept answer)
      × (x ≡ correct_kept_answer flow d subtype n debit credit kept answer)

  pub one-correct-kept : (a b : ℕ) (f g k l x y : List ℕ) → Corrects a f k x → Corrects b g l y → (a ≡ b) × (f ≡ g) × (k ≡ l) × (x ≡ y)
  one-correct-kept a b f g k l x y p q = (p.0 ∙ sym q.0, p.1 ∙ sym q.1, p.2 ∙ sym q.2, p.3 ∙ sym q.3)

-- `f24_rebalance_kept`: the number returned, the flow, the list, the record, and the answer
module _ (flow list kept answer : List ℕ) where
  -- what its contract allows
  abbrev pub Rebalances : ℕ → List ℕ → List ℕ → List ℕ → List ℕ → Type 0
  Rebalances code f c k x =
      (code ≡ rebalance_kept_code flow list kept answer)
      × (f ≡ rebalance_kept_flow flow list kept answer)
      × (c ≡ rebalance_kept_list flow list kept answer)
      × (k ≡ rebalance_kept_record flow list kept answer)
      × (x ≡ rebalance_kept_answer flow list kept answer)

  pub one-rebalance-kept : (a b : ℕ) (f g c e k l x y : List ℕ) → Rebalances a f c k x → Rebalances b g e l y → (a ≡ b) × (f ≡ g) × (c ≡ e) × (k ≡ l) × (x ≡ y)
  one-rebalance-kept a b f g c e k l x y p q = (p.0 ∙ sym q.0, p.1 ∙ sym q.1, p.2 ∙ sym q.2, p.3 ∙ sym q.3, p.4 ∙ sym q.4)

-- `f24_drop_kept`: the number returned, the flow, the record, and the answer
module _ (flow numbers kept answer : List ℕ) where
  -- what its contract allows
  abbrev pub Drops : ℕ → List ℕ → List ℕ → List ℕ → Type 0
  Drops code f k x =
      (code ≡ drop_kept_code flow numbers kept answer)
      × (f ≡ drop_kept_flow flow numbers kept answer)
      × (k ≡ drop_kept_record flow numbers kept answer)
      × (x ≡ drop_kept_answer flow numbers kept answer)

  pub one-drop-kept : (a b : ℕ) (f g k l x y : List ℕ) → Drops a f k x → Drops b g l y → (a ≡ b) × (f ≡ g) × (k ≡ l) × (x ≡ y)
  one-drop-kept a b f g k l x y p q = (p.0 ∙ sym q.0, p.1 ∙ sym q.1, p.2 ∙ sym q.2, p.3 ∙ sym q.3)
