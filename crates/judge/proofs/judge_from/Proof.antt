use Rattle.judge.proofs.Turn.{judged-ran, Going, going_on, fault-values}
use Rattle.records.proofs.Sizes.{record-sized, pair_small}
use Rattle.records.proofs.ValuesRead.{values-good, values-bad}
use Rattle.records.proofs.FieldByField.{bad-on, bad-end, read-on}
use Rattle.layout.proofs.Amounts.{behind, behind-length, behind-three, behind-first, behind-amount, behind-within, behind-next}
use Rattle.judge.proofs.NumberedTurn.{number-then, values-then, amount-none, amount-bad, number_same, number-other, unnumbered-next}
use Rattle.judge.proofs.WaysOut.{Out, out-ended, out-fault, out-misplaced, out-bad, out-misread}
use Rattle.judge.specs.declared.Judgement.{Judgement}
use Rattle.judge.specs.Flow.{refused_with, after, judged_from, rest_of, Ready}
use Rattle.state.specs.Numbers.{kept_after}
use Rattle.judge.specs.Run.{Run, ran}
use Rattle.records.specs.Reading.{Clean, values_read}
use Rattle.rules.proofs.Growth.{step_room, deleghe-on}
use Rattle.rules.specs.Values.{values_in, values_on}
use Rattle.rules.specs.Step.{next_deleghe, next_of}
use Rattle.rules.proofs.Reading.{pair_of}
use Rattle.rules.specs.Checks.{char_fault, bad_fields, number_fault, fault}
use Rattle.order.specs.Order.{standing}
use Rattle.order.proofs.Fitting.{fits-passes}
use Rattle.rules.specs.declared.State.{State}
use Rattle.refusal.specs.Outcomes.{Pass, Fails}
use Rattle.layout.specs.Fields.{nowhere, delega_number, fields_of, bytes_of, value_of}
use Rattle.layout.specs.Forms.{form_of}
use Rattle.layout.specs.Kinds.{numbered, type_in, kind_in}
use Rattle.layout.specs.declared.Field.{Field}
use Rattle.layout.specs.declared.Form.{Form}
use Rattle.layout.specs.declared.Kind.{Kind}
use Rattle.layout.proofs.OtherKinds.{no-taxpayer}
use Rattle.text.specs.Numbers.{number_of, amount_of, digits_of}
use Rattle.words.specs.Words.{word, fifteen_of}
use Rattle.text.specs.Characters.{first_bad}
use Rattle.text.specs.Answers.{Allowed, Number}
use Rattle.records.proofs.CleanRecords.{clean-record}
use Rattle.words.proofs.FifteenDigits.{amount-number}
use lib.ListN.{length, take, drop, get_or, set, replicate}
use lib.Seq.{take_all}
use borrow.Author.Rules.{rules}
use mathlib.Core.Bool.{Bool, true, false, not, false≢true}
use borrow.Author.Tests.{eq-eqb, eqb-true}
use lib.Dec.{eqb}
use mathlib.Core.List.{List, ◌∷◌, ◌++◌, map}
use mathlib.Core.Logic.{⊎_elim}
use Prim.Native.Nat.{ℕ, ◌+◌, ◌-◌, ◌/◌, ◌<◌, ◌≤◌}
use native.Mathlib.Numerals.{add-one}
use native.Mathlib.Omega.{arith}
use mathlib.Core.Path.{◌≡◌, refl, sym, ap, ◌∙◌}
use Rattle.judge.proofs.judge_from.Statement.{statement}
use Rattle.judge.proofs.judge_from.Tie as tie

abbrev invariant-loop : tie.invariant-loop-f
invariant-loop flow name kept count clean st own k rec kind values₀ d last at₀ f₀ values at f =
    (f ≤ length (behind (kind_in rec))) × (bad_fields (behind (kind_in rec)) rec ≡ bad_fields (drop f (behind (kind_in rec))) rec) × (values ≡ d ∷ (map (value_of rec) (take f (behind (kind_in rec))) ++ replicate (3 - f) 0)) × (f < length (behind (kind_in rec)) → at ≡ (get_or (behind (kind_in rec)) f nowhere).start)

abbrev decreases-loop : tie.decreases-loop-f
decreases-loop flow name kept count clean st own k rec kind values₀ d last at₀ f₀ values at f = last - f

abbrev invariant-records : tie.invariant-records
invariant-records flow name kept count clean st₀ own₀ st own =
    Going flow name (ran name st₀ (rest_of flow st₀.seen)) st × (st₀.seen ≤ st.seen) × (st.seen ≤ clean) × (own ≡ word (digits_of 8 st.deleghe))

abbrev decreases-records : tie.decreases-records
decreases-records flow name kept count clean st₀ own₀ st own = clean - st.seen

-- the place after `record_at`: the flow, the state before the record, the record, and the judgement that is to be
abbrev AtRec : Type 0
AtRec = tie.After-record_at-rec invariant-loop decreases-loop invariant-records decreases-records

-- where the function begins, and the state that it starts from
abbrev begun : tie.After-clean_records-clean invariant-loop decreases-loop invariant-records decreases-records → tie.Start invariant-loop decreases-loop invariant-records decreases-records
begun c = c.before.before.before.before.before

ready : (c : tie.After-state_in-start invariant-loop decreases-loop invariant-records decreases-records) → Ready c.args.flow.now c.state_in-start.result
ready c = rw c.state_in-start.ensures c.requires.1

abbrev first_of : AtRec → tie.After-clean_records-clean invariant-loop decreases-loop invariant-records decreases-records
first_of c = c.before.before.before.before

abbrev flow : AtRec → List ℕ
flow c = (begun (first_of c)).args.flow.now

abbrev name : AtRec → List ℕ
name c = (begun (first_of c)).args.name.now

abbrev start : AtRec → State
start c = (first_of c).state_in-start.result

-- the run over the records that are left
abbrev run : AtRec → Run
run c = ran (name c) (start c) (rest_of (flow c) (start c).seen)

abbrev st : AtRec → State
st c = c.records.st

abbrev r : AtRec → List ℕ
r c = c.record_at-rec.result.now

going : (c : AtRec) → Going (flow c) (name c) (run c) (st c)
going c = c.records.invariant.0

cleared : (c : AtRec) → Clean (flow c) (start c).seen (first_of c).clean_records-clean.result
cleared c = (first_of c).clean_records-clean.ensures

within-clean : (c : AtRec) → (st c).seen < (first_of c).clean_records-clean.result
within-clean c = let i = c.records.invariant.2 in let n = c.if-k-clean.false in omega arith

more : (c : AtRec) → (st c).seen < length (flow c) / 120
more c = let w = within-clean c in let a = (cleared c).ahead in omega arith

small : (c : AtRec) → (st c).seen < 546
small c = omega (arith, more c, (ready (first_of c).before).short)

whole : (c : AtRec) → length (r c) ≡ 120
whole c = rw c.record_at-rec.ensures (record-sized (flow c) (st c).seen (more c))

fine : (c : AtRec) → first_bad (r c) ≡ Allowed
fine c = rw c.record_at-rec.ensures (clean-record (flow c) (start c).seen _ (st c).seen (cleared c) c.records.invariant.1 (within-clean c))

printed : (c : AtRec) → char_fault (first_bad (r c)) ≡ Pass
printed c = ap char_fault (fine c)

-- the place where the record is known to stand rightly
abbrev AtNumbered : Type 0
AtNumbered = tie.After-is_numbered invariant-loop decreases-loop invariant-records decreases-records

abbrev formed : AtNumbered → tie.After-form_in-form invariant-loop decreases-loop invariant-records decreases-records
formed c = c.before.before.before.before

abbrev rec-of : AtNumbered → AtRec
rec-of c = (formed c).before

kind-is : (c : tie.After-form_in-form invariant-loop decreases-loop invariant-records decreases-records) → c.form_in-form.result.kind ≡ kind_in (r c.before)
unfolding form_of
kind-is c = ap (λ (x : Form). x.kind) c.form_in-form.ensures

turned : (b : Bool) → not b ≡ true → b ≡ false
turned true e = sym e
turned false e = refl

unturned : (b : Bool) → not b ≡ false → b ≡ true
unturned true e = refl
unturned false e = sym e

stood : (c : AtNumbered) → standing (st (rec-of c)).stage (type_in (r (rec-of c))) (kind_in (r (rec-of c))) ≡ Pass
stood c = fits-passes _ _ _ (rw (← (kind-is (formed c))) (sym c.fits.ensures ∙ c.if-not-fits.false))

-- the record carries the number of a delega: the expected one, and its word
abbrev AtNext : Type 0
AtNext = tie.After-next_deleghe-d invariant-loop decreases-loop invariant-records decreases-records

abbrev num_of : AtNext → AtNumbered
num_of c = c.before.before

abbrev d-of : AtNext → ℕ
d-of c = c.next_deleghe-d.result

is_number : (c : AtNext) → numbered (kind_in (r (rec-of (num_of c)))) ≡ true
is_number c = rw (← (kind-is (formed (num_of c)))) (sym (num_of c).is_numbered.ensures ∙ c.if-is_numbered.true)

d-is : (c : AtNext) → d-of c ≡ next_deleghe (st (rec-of (num_of c))).deleghe (kind_in (r (rec-of (num_of c))))
d-is c = c.next_deleghe-d.ensures ∙ ap (next_deleghe (st (rec-of (num_of c))).deleghe) (kind-is (formed (num_of c)))

d_small : (c : AtNext) → d-of c < 1000
d_small c =
    let q = rec-of (num_of c) in
    let b = (going q).below.deleghe-below in
    let e = d-is c in
    omega (arith, deleghe-on (st q).seen (st q).deleghe (kind_in (r q)) b, small q)

-- where its word is known, whether it was made anew or not
abbrev AtWord : Type 0
AtWord = tie.Joined-kind invariant-loop decreases-loop invariant-records decreases-records

word-is : (c : AtWord) → c.match-kind.own ≡ word (digits_of 8 (d-of c.before))
word-is c =
    ⊎_elim
    (λ w. w.own-is ∙ w.number_word-own-in-Taxpayer.ensures)
    (λ w. w.own-is ∙ ((rec-of (num_of c.before)).records.invariant.3 ∙ ap (λ (n : ℕ). word (digits_of 8 n)) (sym (c.next_deleghe-d.ensures ∙ no-taxpayer (st (rec-of (num_of c.before))).deleghe ((st (rec-of (num_of c.before))).deleghe + 1) (formed (num_of c.before)).form_in-form.result.kind w.in_default.in_default-own.keys2))))
    c.match-kind.branch-raw

-- within the loop over the amounts
abbrev AtLoop : Type 0
AtLoop = tie.At-loop-f invariant-loop decreases-loop invariant-records decreases-records

abbrev next-of : AtLoop → AtNext
next-of c = c.before.before

abbrev rl : AtLoop → List ℕ
rl c = r (rec-of (num_of (next-of c)))

last-is : (c : AtLoop) → (formed (num_of (next-of c))).form_in-form.result.amounts ≡ length (behind (kind_in (rl c)))
unfolding form_of
last-is c = ap (λ (x : Form). x.amounts) (formed (num_of (next-of c))).form_in-form.ensures ∙ sym (behind-length (kind_in (rl c)))

abbrev InLoop : Type 0
InLoop = tie.In-loop-f invariant-loop decreases-loop invariant-records decreases-records

abbrev f-of : InLoop → ℕ
f-of c = c.loop-f.f

ahead : (c : InLoop) → f-of c < length (behind (kind_in (rl c.before)))
ahead c = let l = last-is c.before in let t = c.loop-f-test.true in omega arith

three : (c : InLoop) → f-of c < 3
three c = omega (arith, ahead c, behind-three (kind_in (rl c.before)))

at-is : (c : InLoop) → c.loop-f.at ≡ (get_or (behind (kind_in (rl c.before))) (f-of c) nowhere).start
at-is c = c.loop-f.invariant.3 (ahead c)

at-within : (c : InLoop) → c.loop-f.at + 15 ≤ 120
at-within c = let e = at-is c in omega (arith, behind-within (rl c.before) (is_number (next-of c.before)) (f-of c) (ahead c))

-- after an amount is read
abbrev AtAmount : Type 0
AtAmount = tie.After-amount_at invariant-loop decreases-loop invariant-records decreases-records

said : (c : AtAmount) → c.amount_at.result ≡ fifteen_of (number_of (bytes_of (rl c.before.before) (get_or (behind (kind_in (rl c.before.before))) (f-of c.before) nowhere)))
said c =
    let l = c.before.before in
    let x = get_or (behind (kind_in (rl l))) (f-of c.before) nowhere in
    let w : x.start + 15 - x.start ≡ 15 = omega arith in
    c.amount_at.ensures
    ∙ (ap (λ (i : ℕ). fifteen_of (number_of (take 15 (drop i (rl l))))) (at-is c.before)
    ∙ (ap (λ (i : ℕ). fifteen_of (number_of (take i (drop x.start (rl l))))) (sym w)
    ∙ ap (λ (y : Field). fifteen_of (number_of (bytes_of (rl l) y))) (sym (behind-amount (rl l) (is_number (next-of l)) (f-of c.before) (ahead c.before)))))

-- all amounts are read
abbrev Past : Type 0
Past = tie.After-loop-f invariant-loop decreases-loop invariant-records decreases-records

all_read : (c : Past) → length (behind (kind_in (rl c.before))) ≡ c.loop-f.f
all_read c = let i = c.loop-f.invariant.0 in let l = last-is c.before in let t = c.loop-f-test.false in omega arith

numbers-behind : (c : Past) → bad_fields (behind (kind_in (rl c.before))) (rl c.before) ≡ Pass
numbers-behind c = let e = all_read c in c.loop-f.invariant.1 ∙ bad-end (behind (kind_in (rl c.before))) (rl c.before) c.loop-f.f (omega arith)

-- the number is compared
abbrev AtCompared : Type 0
AtCompared = tie.After-carries invariant-loop decreases-loop invariant-records decreases-records

abbrev past_of : AtCompared → AtNext
past_of c = next-of c.before.before

compared : (c : AtCompared) → c.carries.result ≡ eqb (word (take 8 (drop 2 (rl c.before.before)))) c.match-kind.own
compared c = c.carries.ensures

-- the number is the one expected
abbrev Quick : Type 0
Quick = tie.Else-not-carries invariant-loop decreases-loop invariant-records decreases-records

number-right : (c : Quick) → number_of (bytes_of (rl c.before.before.before) delega_number) ≡ Number (d-of (past_of c.before))
number-right c =
    let q = past_of c.before in
    let m = rec-of (num_of q) in
    number_same (r m) (is_number q) (whole m) (fine m) (d-of q) (d_small q) (eqb-true _ _ (sym (compared c.before) ∙ c.if-not-carries.false) ∙ word-is c.before.before.before.before)

quick-numbers : (c : Quick) → bad_fields (fields_of (kind_in (rl c.before.before.before))) (rl c.before.before.before) ≡ Pass
quick-numbers c = number-then (rl c.before.before.before) (is_number (past_of c.before)) ∙ rw (number-right c) (numbers-behind c.before.before)

quick-values : (c : Quick) → c.loop-f.values ≡ values_in (fields_of (kind_in (rl c.before.before.before))) (rl c.before.before.before)
quick-values c =
    let l = c.before.before.before in
    let fr = behind (kind_in (rl l)) in
    let e = all_read c.before.before in
    l.loop-f.invariant.2
    ∙ (ap (λ (m : ℕ). d-of (next-of l) ∷ (map (value_of (rl l)) (take m fr) ++ replicate (3 - m) 0)) (sym e)
    ∙ (ap (λ (t : List Field). d-of (next-of l) ∷ (map (value_of (rl l)) t ++ replicate (3 - length fr) 0)) (take_all (length fr) fr (omega arith))
    ∙ (ap (λ (m : ℕ). m ∷ (map (value_of (rl l)) fr ++ replicate (3 - length fr) 0)) (sym (ap amount_of (number-right c)))
    ∙ sym (values-then (rl l) (is_number (next-of l))))))

-- the fields of a record without a number
abbrev Plain : Type 0
Plain = tie.In-Ok invariant-loop decreases-loop invariant-records decreases-records

abbrev plain_of : Plain → AtNumbered
plain_of c = c.before.before.before

read-plainly : (c : tie.After-values_in invariant-loop decreases-loop invariant-records decreases-records) → c.values_in.result ≡ values_read (fields_of (kind_in (r (rec-of c.before.before)))) (r (rec-of c.before.before))
read-plainly c = c.values_in.ensures ∙ ap (λ (k : Kind). values_read (fields_of k) (r (rec-of c.before.before))) (kind-is (formed c.before.before))

plain-good : (c : Plain) → (bad_fields (fields_of (kind_in (r (rec-of (plain_of c))))) (r (rec-of (plain_of c))) ≡ Pass) × (c.in-Ok.read ≡ values_in (fields_of (kind_in (r (rec-of (plain_of c))))) (r (rec-of (plain_of c))))
plain-good c = values-good _ _ _ (sym (read-plainly c.before) ∙ c.in-Ok.is)

-- where both ways meet: every field is a number, the values are those of the fields, and the word is that of the number of deleghe after the record
abbrev Met : Type 0
Met = tie.Joined-is_numbered invariant-loop decreases-loop invariant-records decreases-records

abbrev rm : Met → List ℕ
rm c = r (rec-of c.before)

abbrev Told : Met → Type 0
Told c =
    (bad_fields (fields_of (kind_in (rm c))) (rm c) ≡ Pass) × (c.if-is_numbered.values ≡ values_in (fields_of (kind_in (rm c))) (rm c)) × (c.if-is_numbered.own ≡ word (digits_of 8 (next_deleghe (st (rec-of c.before)).deleghe (kind_in (rm c)))))

met : (c : Met) → Told c
met c =
    ⊎_elim
    (λ w.
    let q : Quick = record { before = record { before = record { before = record { before = record { before = record { before = record { before = c.before; if-is_numbered = w.if-is_numbered }; next_deleghe-d = w.next_deleghe-d }; match-kind = w.match-kind }; loop-f = w.loop-f }; loop-f-test = w.loop-f-test }; carries = w.carries }; if-not-carries = w.if-not-carries } in
    let n : AtNext = record { before = record { before = c.before; if-is_numbered = w.if-is_numbered }; next_deleghe-d = w.next_deleghe-d } in
    (quick-numbers q, w.values-is ∙ quick-values q, w.own-is ∙ (word-is q.before.before.before.before ∙ ap (λ (i : ℕ). word (digits_of 8 i)) (d-is n))))
    (λ w.
    let q : Plain = record { before = record { before = record { before = c.before; if-is_numbered = w.if-is_numbered }; values_in = w.values_in }; in-Ok = w.in-Ok } in
    let g = plain-good q in
    let u : numbered (kind_in (rm c)) ≡ false = rw (← (kind-is (formed c.before))) (sym c.is_numbered.ensures ∙ w.if-is_numbered.false) in
    (g.0, w.values-is ∙ g.1, w.own-is ∙ ((rec-of c.before).records.invariant.3 ∙ ap (λ (i : ℕ). word (digits_of 8 i)) (sym (unnumbered-next _ _ u)))))
    c.if-is_numbered.branch-raw

-- after `values_fault`: the fault of the record is its answer
abbrev AtValues : Type 0
AtValues = tie.After-values_fault invariant-loop decreases-loop invariant-records decreases-records

abbrev rv : AtValues → AtRec
rv c = rec-of c.before.before

judged-by : (c : AtValues) → fault (name (rv c)) (st (rv c)) (r (rv c)) ≡ c.values_fault.result
judged-by c =
    let m = met c.before in
    let q = c.before.before in
    fault-values (name (rv c)) (st (rv c)) (r (rv c)) (kind_in (r (rv c))) refl (printed (rv c)) (stood q) m.0
    (sym (c.values_fault.ensures
    ∙ (ap (λ (k : Kind). values_on (name (rv c)) (st (rv c)) k c.if-is_numbered.values (r (rv c))) (kind-is (formed q))
    ∙ ap (λ (vs : List ℕ). values_on (name (rv c)) (st (rv c)) (kind_in (r (rv c))) vs (r (rv c))) m.1)))

-- the judgement of a record that was misread
misread-out : (c : AtNumbered) → (bad_fields (fields_of (kind_in (r (rec-of c)))) (r (rec-of c)) ≡ Pass → number_fault (st (rec-of c)).deleghe (kind_in (r (rec-of c))) (value_of (r (rec-of c)) delega_number) ≡ Fails 8 4) → Out (after (bad_fields (fields_of (formed c).form_in-form.result.kind) (r (rec-of c))) (st (rec-of c)).seen (refused_with 8 ((st (rec-of c)).seen + 1) 4)) (run (rec-of c)) (st (rec-of c))
misread-out c w =
    let q = rec-of c in
    let o = out-misread (flow q) (name q) (run q) (st q) (going q) (more q) (r q) q.record_at-rec.ensures (printed q) (stood c) w in
    (ap (λ (k : Kind). after (bad_fields (fields_of k) (r q)) (st q).seen (refused_with 8 ((st q).seen + 1) 4)) (kind-is (formed c)) ∙ o.0, o.1)

next-is : (c : tie.After-next_state-st invariant-loop decreases-loop invariant-records decreases-records) → c.next_state-st.result ≡ next_of (st (rv c.before.before)) (kind_in (r (rv c.before.before))) (pair_of (values_in (fields_of (kind_in (r (rv c.before.before)))) (r (rv c.before.before))))
next-is c =
    let v = c.before.before in
    c.next_state-st.ensures
    ∙ (ap (λ (k : Kind). next_of (st (rv v)) k (pair_of v.if-is_numbered.values)) (kind-is (formed v.before.before))
    ∙ ap (λ (vs : List ℕ). next_of (st (rv v)) (kind_in (r (rv v))) (pair_of vs)) (met v.before).1)

state-in-requires : tie.Need-state_in-start-requires invariant-loop decreases-loop invariant-records decreases-records
state-in-requires c κs = c.requires.0

clean-records-requires : tie.Need-clean_records-clean-requires invariant-loop decreases-loop invariant-records decreases-records
clean-records-requires c κs = (ready c).ahead

number-word-requires : tie.Need-number_word-own-requires invariant-loop decreases-loop invariant-records decreases-records
number-word-requires c κs = let p = ready c.before in let b = p.below.deleghe-below in let a = p.ahead in omega (arith, p.short)

records-holds : tie.Need-records-init invariant-loop decreases-loop invariant-records decreases-records
records-holds c = (record { ahead = (ready c.before.before).ahead; rest = refl; below = (ready c.before.before).below }, omega arith, c.clean_records-clean.ensures.behind, c.number_word-own.ensures)

ended-requires : tie.Need-ended-judgement-requires invariant-loop decreases-loop invariant-records decreases-records
ended-requires c κs = (refl, let a = c.records.invariant.0.ahead in omega arith, let a = c.records.invariant.0.ahead in omega (arith, (ready c.before.before.before.before).short), c.records.invariant.0.below.others_below)

mul-record-at : tie.Need-overflow_mul-k invariant-loop decreases-loop invariant-records decreases-records
mul-record-at c = search rules

record-at-requires : tie.Need-record_at-rec-requires invariant-loop decreases-loop invariant-records decreases-records
record-at-requires c κs = search rules

form-in-requires : tie.Need-form_in-form-requires invariant-loop decreases-loop invariant-records decreases-records
form-in-requires c κs = whole c

fits-requires : tie.Need-fits-requires invariant-loop decreases-loop invariant-records decreases-records
fits-requires c κs = search rules

misplaced-requires : tie.Need-misplaced-judgement-requires invariant-loop decreases-loop invariant-records decreases-records
misplaced-requires c κs = (whole c.before.before.before.before, omega (arith, small c.before.before.before.before))

is-numbered-requires : tie.Need-is_numbered-requires invariant-loop decreases-loop invariant-records decreases-records
is-numbered-requires c κs = search rules

next-deleghe-requires : tie.Need-next_deleghe-d-requires invariant-loop decreases-loop invariant-records decreases-records
next-deleghe-requires c κs = let b = (going (rec-of c.before)).below.deleghe-below in omega (arith, small (rec-of c.before))

enum_told : tie.Need-enum_told-1 invariant-loop decreases-loop invariant-records decreases-records
enum_told c = search rules

number-word-requires-2 : tie.Need-number_word-own-requires-in-Taxpayer invariant-loop decreases-loop invariant-records decreases-records
number-word-requires-2 c κs = d_small c.before

array-write-values : tie.Need-bounds-values-0 invariant-loop decreases-loop invariant-records decreases-records
array-write-values c = search rules

at_first : (c : AtWord) → (formed (num_of c.before)).form_in-form.result.at ≡ (get_or (behind (kind_in (r (rec-of (num_of c.before))))) 0 nowhere).start
unfolding form_of
at_first c = ap (λ (x : Form). x.at) (formed (num_of c.before)).form_in-form.ensures ∙ sym (ap (λ (x : Field). x.start) (behind-first (kind_in (r (rec-of (num_of c.before))))))

loop-holds : tie.Need-loop-f-init invariant-loop decreases-loop invariant-records decreases-records
loop-holds c = (omega arith, refl, refl, λ h. at_first c)

amount-at-requires : tie.Need-amount_at-requires invariant-loop decreases-loop invariant-records decreases-records
amount-at-requires c κs = (let w = whole (rec-of (num_of (next-of c.before))) in omega (arith, at-within c), fine (rec-of (num_of (next-of c.before))))

enum-known-v : tie.Need-enum_known-v invariant-loop decreases-loop invariant-records decreases-records
enum-known-v c = search rules

enum-told-2 : tie.Need-enum_told-in_default-amount_at invariant-loop decreases-loop invariant-records decreases-records
enum-told-2 c = search rules

misread-requires : tie.Need-misread-judgement-requires invariant-loop decreases-loop invariant-records decreases-records
misread-requires c κs = (whole (rec-of (num_of (next-of c.before.before.before))), omega (arith, small (rec-of (num_of (next-of c.before.before.before)))))

add-values : tie.Need-overflow_add-values invariant-loop decreases-loop invariant-records decreases-records
add-values c = omega (arith, three c.before.before)

mul-values : tie.Need-offset_bounds-values-f invariant-loop decreases-loop invariant-records decreases-records
mul-values c = omega (arith, three c.before.before)

array-write-values-2 : tie.Need-bounds-values-f invariant-loop decreases-loop invariant-records decreases-records
array-write-values-2 c = omega (arith, three c.before.before)

add_at : tie.Need-overflow_add-at invariant-loop decreases-loop invariant-records decreases-records
add_at c = omega (arith, three c.before.before)

add-at-2 : tie.Need-overflow_add-at-in-loop-f invariant-loop decreases-loop invariant-records decreases-records
add-at-2 c = omega (arith, three c.before.before, at-within c.before.before)

add-f : tie.Need-overflow_add-f invariant-loop decreases-loop invariant-records decreases-records
add-f c = omega (arith, three c.before.before)

loop-less : tie.Need-loop-f-smaller invariant-loop decreases-loop invariant-records decreases-records
loop-less c = let t = c.loop-f-test.true in omega arith

loop-again : tie.Need-loop-f-preserved invariant-loop decreases-loop invariant-records decreases-records
loop-again c =
    let a = c.before in
    let i = a.before in
    let l = i.before in
    let n = is_number (next-of l) in
    let fr = behind (kind_in (rl l)) in
    let v = amount-number _ _ (sym c.in-Some.is ∙ said a) in
    let x = map (value_of (rl l)) (take (f-of i) fr) ++ replicate (3 - f-of i) 0 in (
      omega (arith, ahead i),
      l.loop-f.invariant.1 ∙ bad-on _ _ _ (ahead i) _ v,
      rw l.loop-f.invariant.2 (ap (λ (m : ℕ). set (d-of (next-of l) ∷ x) m c.in-Some.v) (add-one (f-of i)) ∙ ap (λ (t : List ℕ). d-of (next-of l) ∷ t) (rw (← (ap amount_of v)) (read-on fr (rl l) (f-of i) (ahead i) 3 (three i)))),
      λ g. let e = at-is i in sym (behind-next (rl l) n (f-of i) (ahead i) g ∙ ap (λ (m : ℕ). m + (15 + f-of i)) (sym e)),
    )

carries-requires : tie.Need-carries-requires invariant-loop decreases-loop invariant-records decreases-records
carries-requires c κs = whole (rec-of (num_of (next-of c.before)))

misread-requires-2 : tie.Need-misread-judgement-requires-then-not-carries invariant-loop decreases-loop invariant-records decreases-records
misread-requires-2 c κs = (whole (rec-of (num_of (next-of c.before.before.before))), omega (arith, small (rec-of (num_of (next-of c.before.before.before)))))

values-in-requires : tie.Need-values_in-requires invariant-loop decreases-loop invariant-records decreases-records
values-in-requires c κs = whole (rec-of c.before)

enum-known-read : tie.Need-enum_known-read invariant-loop decreases-loop invariant-records decreases-records
enum-known-read c = search rules

enum-known-position : tie.Need-enum_known-position invariant-loop decreases-loop invariant-records decreases-records
enum-known-position c = search rules

add-refused : tie.Need-overflow_add-k invariant-loop decreases-loop invariant-records decreases-records
add-refused c = omega (arith, small (rec-of c.before.before.before))

refused-requires : tie.Need-refused-judgement-requires invariant-loop decreases-loop invariant-records decreases-records
refused-requires c κs = search rules

values-fault-requires : tie.Need-values_fault-requires invariant-loop decreases-loop invariant-records decreases-records
values-fault-requires c κs = let q = rec-of c.before in let b = (going q).below.deleghe-below in let s = small q in (whole q, (begun (first_of q)).requires.2, omega arith, omega arith)

enum-known-fault : tie.Need-enum_known-fault invariant-loop decreases-loop invariant-records decreases-records
enum-known-fault c = search rules

add-refused-2 : tie.Need-overflow_add-k-in-Err-values_fault invariant-loop decreases-loop invariant-records decreases-records
add-refused-2 c = omega (arith, small (rv c.before))

refused-requires-2 : tie.Need-refused-judgement-requires-in-Err-values_fault invariant-loop decreases-loop invariant-records decreases-records
refused-requires-2 c κs = search rules

enum-told-3 : tie.Need-enum_told-in_default-values_fault invariant-loop decreases-loop invariant-records decreases-records
enum-told-3 c = search rules

array-read-t49 : tie.Need-bounds-values-1 invariant-loop decreases-loop invariant-records decreases-records
array-read-t49 c = search rules

array-read-t52 : tie.Need-bounds-values-2 invariant-loop decreases-loop invariant-records decreases-records
array-read-t52 c = search rules

next-state-requires : tie.Need-next_state-st-requires invariant-loop decreases-loop invariant-records decreases-records
next-state-requires c κs =
    let v = c.before in
    let q = rv v in
    let s = small q in
    step_room _ _ (going q).below (omega arith) (rw (met v.before).1 (pair_small (kind_in (r q)) (r q) (whole q)))

records-less : tie.Need-records-smaller invariant-loop decreases-loop invariant-records decreases-records
records-less c = rw c.next_state-st.ensures (omega (arith, within-clean (rv c.before.before)))

records-again : tie.Need-records-preserved invariant-loop decreases-loop invariant-records decreases-records
records-again c =
    let v = c.before.before in
    let q = rv v in
    let b = q.records.invariant in
    rw (next-is c) (going_on _ _ _ _ (going q) (more q) _ q.record_at-rec.ensures _ refl (whole q) (judged-by v ∙ c.in_default-values_fault.is), omega (arith, b.1), omega (arith, within-clean q), (met v.before).2)

-- the ways out of the loop
abbrev Leaves : (c : tie.At-records invariant-loop decreases-loop invariant-records decreases-records) → Judgement → Type 0
Leaves c j =
    let a = c.before.before in
    let f = (begun a).args.flow.now in
    let n = (begun a).args.name.now in
    Out j (ran n a.state_in-start.result (rest_of f a.state_in-start.result.seen)) c.records.st

leaves-ended : (c : tie.After-ended-judgement invariant-loop decreases-loop invariant-records decreases-records) → Leaves c.before.before c.ended-judgement.result
leaves-ended c =
    let a = c.before.before.before.before in
    let o = out-ended (begun a).args.flow.now (begun a).args.name.now _ _ c.records.invariant.0 a.state_in-start.result.seen (rw c.if-k-clean.true a.clean_records-clean.ensures) in
    (c.ended-judgement.ensures ∙ o.0, o.1)

leaves-misplaced : (c : tie.After-misplaced-judgement invariant-loop decreases-loop invariant-records decreases-records) → Leaves c.before.before.before.before.before.before.before c.misplaced-judgement.result
leaves-misplaced c =
    let n = c.before.before in
    let f = n.before.before in
    let q = f.before in
    let o = out-misplaced (flow q) (name q) (run q) (st q) (going q) (more q) (r q) q.record_at-rec.ensures (printed q) (rw (← (kind-is f)) (sym n.fits.ensures ∙ c.if-not-fits.true)) _ in
    (c.misplaced-judgement.ensures ∙ (ap (λ (k : Kind). after (standing (st q).stage (type_in (r q)) k) (st q).seen (refused_with 4 ((st q).seen + 1) 2)) (kind-is f) ∙ o.0), o.1)

leaves-no-amount : (c : tie.After-misread-judgement invariant-loop decreases-loop invariant-records decreases-records) → Leaves (rec-of (num_of (next-of c.before.before.before.before))).before.before c.misread-judgement.result
leaves-no-amount c =
    let a = c.before.before in
    let i = a.before in
    let l = i.before in
    let n = is_number (next-of l) in
    let o = misread-out (num_of (next-of l)) (λ p. absurd (amount-bad (rl l) n (λ q. amount-none _ _ _ (ahead i) (sym (said a) ∙ c.in_default-amount_at.is) (sym l.loop-f.invariant.1 ∙ q)) p)) in
    (c.misread-judgement.ensures ∙ o.0, o.1)

leaves-other-number : (c : tie.After-misread-judgement-then-not-carries invariant-loop decreases-loop invariant-records decreases-records) → Leaves (rec-of (num_of (past_of c.before.before))).before.before c.misread-judgement-then-not-carries.result
leaves-other-number c =
    let a = c.before.before in
    let n = past_of a in
    let q = rec-of (num_of n) in
    let o = misread-out (num_of n) (λ p. number-other (r q) (is_number n) (whole q) (fine q) (d-of n) (d_small n) (st q).deleghe (d-is n) (λ e. false≢true (sym (c.if-not-carries.true) ∙ (compared a ∙ eq-eqb _ _ (e ∙ sym (word-is a.before.before.before))))) p) in
    (c.misread-judgement-then-not-carries.ensures ∙ o.0, o.1)

leaves-bad-field : (c : tie.After-refused-judgement invariant-loop decreases-loop invariant-records decreases-records) → Leaves (rec-of c.before.before.before.before).before.before c.refused-judgement.result
leaves-bad-field c =
    let v = c.before.before in
    let n = v.before.before in
    let q = rec-of n in
    let o = out-bad (flow q) (name q) (run q) (st q) (going q) (more q) (r q) q.record_at-rec.ensures (printed q) (stood n) (values-bad _ _ _ (sym (read-plainly v) ∙ c.in-Err.is)) in
    (c.refused-judgement.ensures ∙ o.0, o.1)

leaves-bad-value : (c : tie.After-refused-judgement-in-Err-values_fault invariant-loop decreases-loop invariant-records decreases-records) → Leaves (rv c.before.before).before.before c.refused-judgement-in-Err-values_fault.result
leaves-bad-value c =
    let v = c.before.before in
    let q = rv v in
    let o = out-fault (flow q) (name q) (run q) (st q) (going q) (more q) (r q) q.record_at-rec.ensures (judged-by v ∙ c.in-Err-values_fault.is) in
    (c.refused-judgement-in-Err-values_fault.ensures ∙ o.0, o.1)

-- where they meet
abbrev Left : Type 0
Left = tie.Joined-k-clean invariant-loop decreases-loop invariant-records decreases-records

left : (c : Left) → Leaves c.before c.if-k-clean.judgement
left c =
    ⊎_elim
    (λ w.
    let q : tie.After-ended-judgement invariant-loop decreases-loop invariant-records decreases-records = record { before = record { before = c.before; if-k-clean = w.if-k-clean }; ended-judgement = w.ended-judgement } in
    let o = leaves-ended q in
    (w.judgement-is ∙ o.0, o.1))
    (⊎_elim
    (λ w.
    let q : tie.After-misplaced-judgement invariant-loop decreases-loop invariant-records decreases-records = record { before = record { before = record { before = record { before = record { before = record { before = record { before = c.before; if-k-clean = w.if-k-clean }; record_at-rec = w.record_at-rec }; form_in-form = w.form_in-form }; stage-1 = w.stage-1 }; fits = w.fits }; if-not-fits = w.if-not-fits }; misplaced-judgement = w.misplaced-judgement } in
    let o = leaves-misplaced q in
    (w.judgement-is ∙ o.0, o.1))
    (⊎_elim
    (λ w.
    let q : tie.After-misread-judgement invariant-loop decreases-loop invariant-records decreases-records = record { before = record { before = record { before = record { before = record { before = record { before = record { before = record { before = record { before = record { before = record { before = record { before = record { before = record { before = record { before = c.before; if-k-clean = w.if-k-clean }; record_at-rec = w.record_at-rec }; form_in-form = w.form_in-form }; stage-1 = w.stage-1 }; fits = w.fits }; if-not-fits = w.if-not-fits }; is_numbered = w.is_numbered }; if-is_numbered = w.if-is_numbered }; next_deleghe-d = w.next_deleghe-d }; match-kind = w.match-kind }; loop-f = w.loop-f }; loop-f-test = w.loop-f-test }; amount_at = w.amount_at }; in_default-amount_at = w.in_default-amount_at }; misread-judgement = w.misread-judgement } in
    let o = leaves-no-amount q in
    (w.judgement-is ∙ o.0, o.1))
    (⊎_elim
    (λ w.
    let q : tie.After-misread-judgement-then-not-carries invariant-loop decreases-loop invariant-records decreases-records = record { before = record { before = record { before = record { before = record { before = record { before = record { before = record { before = record { before = record { before = record { before = record { before = record { before = record { before = record { before = c.before; if-k-clean = w.if-k-clean }; record_at-rec = w.record_at-rec }; form_in-form = w.form_in-form }; stage-1 = w.stage-1 }; fits = w.fits }; if-not-fits = w.if-not-fits }; is_numbered = w.is_numbered }; if-is_numbered = w.if-is_numbered }; next_deleghe-d = w.next_deleghe-d }; match-kind = w.match-kind }; loop-f = w.loop-f }; loop-f-test = w.loop-f-test }; carries = w.carries }; if-not-carries = w.if-not-carries }; misread-judgement-then-not-carries = w.misread-judgement-then-not-carries } in
    let o = leaves-other-number q in
    (w.judgement-is ∙ o.0, o.1))
    (⊎_elim
    (λ w.
    let q : tie.After-refused-judgement invariant-loop decreases-loop invariant-records decreases-records = record { before = record { before = record { before = record { before = record { before = record { before = record { before = record { before = record { before = record { before = record { before = c.before; if-k-clean = w.if-k-clean }; record_at-rec = w.record_at-rec }; form_in-form = w.form_in-form }; stage-1 = w.stage-1 }; fits = w.fits }; if-not-fits = w.if-not-fits }; is_numbered = w.is_numbered }; if-is_numbered = w.if-is_numbered }; values_in = w.values_in }; in-Err = w.in-Err }; refused-judgement = w.refused-judgement } in
    let o = leaves-bad-field q in
    (w.judgement-is ∙ o.0, o.1))
    (λ w.
    let q : tie.After-refused-judgement-in-Err-values_fault invariant-loop decreases-loop invariant-records decreases-records = record { before = record { before = record { before = record { before = record { before = record { before = record { before = record { before = record { before = record { before = record { before = c.before; if-k-clean = w.if-k-clean }; record_at-rec = w.record_at-rec }; form_in-form = w.form_in-form }; stage-1 = w.stage-1 }; fits = w.fits }; if-not-fits = w.if-not-fits }; is_numbered = w.is_numbered }; if-is_numbered = w.if-is_numbered }; values_fault = w.values_fault }; in-Err-values_fault = w.in-Err-values_fault }; refused-judgement-in-Err-values_fault = w.refused-judgement-in-Err-values_fault } in
    let o = leaves-bad-value q in
    (w.judgement-is ∙ o.0, o.1))))))
    c.if-k-clean.branch-raw

keep-requires : tie.Need-keep-requires invariant-loop decreases-loop invariant-records decreases-records
keep-requires c κs = c.requires.0

same_length : tie.Need-shape_of-kept invariant-loop decreases-loop invariant-records decreases-records
same_length c = search rules

returns : tie.Need-returns invariant-loop decreases-loop invariant-records decreases-records
returns c =
    let j = c.before.before.before.before in
    let o = left j in
    let a = j.before.before.before in
    let e = a.state_in-start.ensures in
    let f = (begun a).args.flow.now in
    let n = (begun a).args.name.now in
    (o.0 ∙ (sym (judged-ran n _ _) ∙ ap (λ (s : State). judged_from n s (rest_of f s.seen)) e), c.keep.ensures ∙ ap (kept_after (begun a).args.kept.now) (o.1 ∙ ap (λ (s : State). (ran n s (rest_of f s.seen)).state) e))

pub judge_from_spec : {M : Type 1} → statement M
judge_from_spec =
    tie.close
    (tie.spec
    invariant-loop
    decreases-loop
    invariant-records
    decreases-records
    state-in-requires
    clean-records-requires
    number-word-requires
    records-holds
    ended-requires
    mul-record-at
    record-at-requires
    form-in-requires
    fits-requires
    misplaced-requires
    is-numbered-requires
    next-deleghe-requires
    enum_told
    number-word-requires-2
    array-write-values
    loop-holds
    amount-at-requires
    enum-known-v
    enum-told-2
    misread-requires
    add-values
    mul-values
    array-write-values-2
    add_at
    add-at-2
    add-f
    loop-less
    loop-again
    carries-requires
    misread-requires-2
    values-in-requires
    enum-known-read
    enum-known-position
    add-refused
    refused-requires
    values-fault-requires
    enum-known-fault
    add-refused-2
    refused-requires-2
    enum-told-3
    array-read-t49
    array-read-t52
    next-state-requires
    records-less
    records-again
    keep-requires
    same_length
    returns)
