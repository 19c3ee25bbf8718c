-- The ways out of a turn of the judge: behind the clean records, at a record that may not stand there, at a field that is no number, at another number than the delega's.
use Rattle.std.specs.Prelude.{Err}
use Prim.Native.Nat.{ℕ, ◌+◌, ◌*◌, ◌/◌, ◌<◌}
use mathlib.Core.Path.{◌≡◌, refl, sym, ap}
use mathlib.Core.Bool.{false}
use mathlib.Core.List.{List}
use native.Mathlib.Omega.{arith}
use native.Mathlib.Decide.{ℕ_discrete}
use borrow.Author.Tests.{eq-eqb, ne_eqb}
use lib.ListN.{length, take, drop}
use Rattle.text.specs.Characters.{first_bad}
use Rattle.text.proofs.Allowed.{not-allowed}
use Rattle.layout.specs.Kinds.{type_in, kind_in}
use Rattle.layout.specs.Fields.{delega_number, fields_of, value_of}
use Rattle.refusal.specs.Outcomes.{Outcome, Pass, Fails}
use Rattle.order.specs.Order.{fitting, standing}
use Rattle.order.proofs.Fitting.{unfit-refused}
use Rattle.rules.specs.declared.State.{State}
use Rattle.rules.specs.Checks.{char_fault, bad_fields, number_fault, fault}
use Rattle.judge.specs.declared.Judgement.{Judgement}
use Rattle.judge.specs.Flow.{refused_with, closing, after}
use Rattle.judge.specs.Run.{Run, stands_at, answer_of}
use Rattle.records.specs.Reading.{Clean}
use Rattle.judge.specs.Ending.{ending}
use Rattle.judge.proofs.Turn.{Going, going_end, going-refuses, fault-chars, fault-standing, fault-fields, fault-number}

-- a way out: the judgement is that of the run, and the state is where the run stands
abbrev pub Out : Judgement → Run → State → Type 0
Out j x st = (j ≡ answer_of x) × (st ≡ x.state)

pub out_at : (o : Outcome) (x : Run) (st : State) → x ≡ stands_at o st → Out (after o st.seen (closing st)) x st
out_at o x st e = (ap answer_of (sym e), ap (λ (y : Run). y.state) (sym e))

module _ (flow name : List ℕ) (x : Run) (st : State) (g : Going flow name x st) where
  -- behind the clean records the flow ends, or a byte is bad
  pub out-ended : (m : ℕ) → Clean flow m st.seen → Out (ending flow st) x st
  out-ended m c = go (ℕ_discrete st.seen (length flow / 120))
    where
      go : Dec (st.seen ≡ length flow / 120) → Out (ending flow st) x st
      go (yes e) = rw (eq-eqb _ _ e) (out_at Pass x st (going_end flow name x st g e))
      go (no d) =
          let more : st.seen < length flow / 120 = let a = c.ahead in omega arith in
          let b = not-allowed _ (c.spoilt more) in
          let f : char_fault (first_bad (take 120 (drop (st.seen * 120) flow))) ≡ Fails 3 (b.place + 1) = ap char_fault b.there in
          rw (ne_eqb _ _ d, f) (out_at (Fails 3 (b.place + 1)) x st (going-refuses flow name x st g more _ refl (fault-chars name st _ f)))

  module _ (more : st.seen < length flow / 120) (r : List ℕ) (er : r ≡ take 120 (drop (st.seen * 120) flow)) where
    -- a check that fails
    pub out-fault : {e p : ℕ} → fault name st r ≡ Fails e p → Out (refused_with e (st.seen + 1) p) x st
    out-fault {e} {p} f = out_at (Fails e p) x st (going-refuses flow name x st g more r er f)

    module _ (a : char_fault (first_bad r) ≡ Pass) where
      -- a record that may not stand here
      pub out-misplaced : fitting st.stage (kind_in r) ≡ false → (o : Judgement) → Out (after (standing st.stage (type_in r) (kind_in r)) st.seen o) x st
      out-misplaced u o =
          let s = unfit-refused st.stage (type_in r) (kind_in r) u in
          rw s.2 (out-fault (fault-standing name st r (kind_in r) refl a s.2))

      module _ (b : standing st.stage (type_in r) (kind_in r) ≡ Pass) where
        -- a field that is no number
        pub out-bad : {e p : ℕ} → bad_fields (fields_of (kind_in r)) r ≡ Fails e p → Out (refused_with e (st.seen + 1) p) x st
        out-bad f = out-fault (fault-fields name st r (kind_in r) refl a b f)

        -- a field that is no number, or else another number than the delega's
        pub out-misread : (bad_fields (fields_of (kind_in r)) r ≡ Pass → number_fault st.deleghe (kind_in r) (value_of r delega_number) ≡ Fails 8 4) → Out (after (bad_fields (fields_of (kind_in r)) r) st.seen (refused_with 8 (st.seen + 1) 4)) x st
        out-misread w = go (bad_fields (fields_of (kind_in r)) r) refl
          where
            go : (o : Outcome) → bad_fields (fields_of (kind_in r)) r ≡ o → Out (after (bad_fields (fields_of (kind_in r)) r) st.seen (refused_with 8 (st.seen + 1) 4)) x st
            go Pass f = rw f (out-fault (fault-number name st r (kind_in r) refl a b f (w f)))
            go (Err why) f = rw f (out-bad f)
