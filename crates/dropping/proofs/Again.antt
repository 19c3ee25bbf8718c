-- Records that stayed are numbered and rebalanced to the same records as they would be had they never been numbered before.
use Prim.Native.Nat.{ℕ}
use mathlib.Core.Path.{◌≡◌, refl, ap, ap₂, ◌∙◌}
use mathlib.Core.Bool.{true, false}
use mathlib.Core.List.{List, [], ◌∷◌}
use lib.Dec.{lit≤}
use Rattle.text.specs.Numbers.{digits_of}
use Rattle.text.proofs.Numerals.{length_digits}
use Rattle.layout.specs.declared.Kind.{Kind}
use Rattle.layout.specs.declared.Kind.TheVariants.{Tail}
use Rattle.layout.specs.Kinds.{kind_in, numbered}
use Rattle.layout.specs.Fields.{delega_number, tail_deleghe, tail_sum, tail_records}
use Rattle.rules.specs.declared.State.{State}
use Rattle.rules.specs.Stored.{stored_of}
use Rattle.rules.specs.Step.{next_deleghe, next}
use Rattle.rebalance.specs.Numbering.{with_number}
use Rattle.rebalance.specs.Rebalance.{put_all, emit, rebalanced}
use Rattle.rebalance.proofs.Outside.{swapped}
use Rattle.rebalance.proofs.Columns.{storing, columns}
use Rattle.rebalance.proofs.Alike.{Alike, alike-put, alike-equal, alike-stored}
use Rattle.close.specs.Closing.{renumbered}
use Rattle.dropping.specs.Effect.{renewed, Stayed, EachStayed}
use Rattle.dropping.proofs.OneRecord.{renewed-number, unnumbered-same}
use Rattle.dropping.proofs.Following.{Sort, head, opening, inside, tail, none, sort}
use Rattle.dropping.proofs.Stayed.{stayed-kind}

-- A record that stayed, as it was and as it is, with a number and after a state.
module _ {numbers r q : List ℕ} (s : Stayed numbers r q) (st : State) (n : ℕ) where
  -- Both with the number of the delega that they are of.
  abbrev was : List ℕ
  was = with_number (kind_in r) (next_deleghe n (kind_in r)) r

  abbrev is : List ℕ
  is = with_number (kind_in q) (next_deleghe n (kind_in q)) q

  abbrev Alike-again : Type 0
  Alike-again = (emit st is ≡ emit st was) × (next st is ≡ next st was)

  -- They are alike outside the columns in which they may differ.
  alike : Alike (renewed (kind_in r)) q r
  alike = record { one = s.is; other = s.was; same = s.same }

  -- The kind is that of the record as it was.
  as-kind : is ≡ with_number (kind_in r) (next_deleghe n (kind_in r)) q
  as-kind = ap (λ (k : Kind). with_number k (next_deleghe n k) q) (stayed-kind s)

  equal-again : is ≡ was → Alike-again
  equal-again e = (ap (emit st) e, ap (next st) e)

  -- A record that carries a number.
  numbered-again : numbered (kind_in r) ≡ true → is ≡ was
  unfolding with_number
  numbered-again h =
      let d = digits_of 7 (next_deleghe n (kind_in r)) in
      let a = alike-put delega_number [] d (rw (length_digits 7 (next_deleghe n (kind_in r)))) (lit≤ tt) (rw (renewed-number (kind_in r) h) at alike) in
      as-kind ∙ rw h (alike-equal a)

  -- A record that is no part of a delega and may not differ.
  same-again : numbered (kind_in r) ≡ false → renewed (kind_in r) ≡ [] → is ≡ was
  same-again h e = as-kind ∙ ap (with_number (kind_in r) (next_deleghe n (kind_in r))) (alike-equal (rw e at alike))

  -- The tail, whose counts and sum are written.
  tail-again : kind_in r ≡ Tail → Alike-again
  unfolding emit next numbered
  tail-again e =
      let k : kind_in q ≡ Tail = stayed-kind s ∙ e in
      let i : is ≡ q = unnumbered-same q (rw k) _ in
      let w : was ≡ r = unnumbered-same r (rw e) _ in
      let a : Alike (tail_deleghe ∷ tail_sum ∷ tail_records ∷ []) q r = rw e at alike in
      let l = rw e at (columns (storing st r)).laid_out in
      let put : put_all (stored_of st Tail) q ≡ put_all (stored_of st Tail) r
      = alike-stored (tail_deleghe ∷ tail_records ∷ tail_sum ∷ []) (stored_of st Tail) q r (refl, refl, (refl, refl, (refl, refl, tt))) l (record { one = a.one; other = a.other; same = λ c z. a.same c (swapped c tail_deleghe tail_sum tail_records [] ∙ z) }) in
      (rw (i, w, k, e) put, rw (i, w, k, e))

  -- Both are rebalanced to the same record, and lead to the same state.
  pub stayed-again : (emit st (with_number (kind_in q) (next_deleghe n (kind_in q)) q) ≡ emit st (with_number (kind_in r) (next_deleghe n (kind_in r)) r)) × (next st (with_number (kind_in q) (next_deleghe n (kind_in q)) q) ≡ next st (with_number (kind_in r) (next_deleghe n (kind_in r)) r))
  unfolding numbered
  stayed-again = go (sort (kind_in r)) refl
    where
      go : {k : Kind} → Sort k → kind_in r ≡ k → Alike-again
      go head e = equal-again (same-again (rw e) (rw e))
      go opening e = equal-again (numbered-again (rw e))
      go (inside m d w) e = equal-again (numbered-again (ap numbered e ∙ m))
      go tail e = tail-again e
      go none e = equal-again (same-again (rw e) (rw e))

-- So it is with records one after the other.
pub all-again : (numbers : List ℕ) (st : State) (n : ℕ) (rs qs : List (List ℕ)) → EachStayed numbers rs qs → rebalanced st (renumbered n qs) ≡ rebalanced st (renumbered n rs)
unfolding rebalanced renumbered
all-again numbers st n [] [] s = refl
all-again numbers st n [] (q ∷ qs) s = absurd s
all-again numbers st n (r ∷ rs) [] s = absurd s
all-again numbers st n (r ∷ rs) (q ∷ qs) s =
    let a = stayed-again s.0 st n in
    let k = ap (next_deleghe n) (stayed-kind s.0) in
    ap₂ ◌∷◌ a.0 (ap₂ (λ (t : State) (m : ℕ). rebalanced t (renumbered m qs)) a.1 k ∙ all-again numbers (next st (with_number (kind_in r) (next_deleghe n (kind_in r)) r)) _ rs qs s.1)
