-- The answer of the pieces, taken one after the other, is the judgement of all their bytes.
use Rattle.std.specs.Prelude.{Ok, Err}
use Prim.Native.Nat.{ℕ, suc, zero, ◌+◌, ◌*◌, ◌/◌, ◌<◌, ◌≤◌}
use mathlib.Core.Path.{◌≡◌, refl, sym, ap, ◌∙◌}
use mathlib.Core.Bool.{Bool, true, false, cond}
use mathlib.Core.List.{List, [], ◌∷◌, ◌++◌}
use native.Mathlib.Omega.{arith}
use native.Mathlib.Decide.{dec_le}
use borrow.Author.Tests.{eqb-true, eqb-false, ltb-true, ltb-false}
use lib.Dec.{eqb, ltb}
use lib.ListN.{length, length-append, take, drop, length-drop, take-append-drop}
use lib.Seq.{take_at, drop_at}
use Rattle.text.proofs.Bytes.{part_length}
use Rattle.ep_accounts.specs.Answers.{Accounts, Sum, NonDigit, Unequal}
use Rattle.ep_accounts.specs.Accounts.{accounts_in}
use Rattle.ep.specs.Answers.{Outcome, Pass, Fault, EpAnswer, Accepted, Refused}
use Rattle.ep.specs.declared.Kind.{Kind}
use Rattle.ep.specs.declared.Kind.TheVariants.{RecordM, RecordV, OtherRecord}
use Rattle.ep.specs.declared.Tally.{Tally}
use Rattle.ep.specs.declared.Course.{Course}
use Rattle.ep.specs.Payments.{no_tally, here, states, closing, accounts_fault, v_fault, after_other, fault_by, fault, next, unless, ended, judged_from, records_in, size_right, judged, kind_of}
use Rattle.ep.specs.Stream.{start_course, unfit, tally_by, outcome_by, counted, one_more, took, told, answered, took_all, joined, Cut}
use Rattle.ep.specs.Bounds.{Sound}
use Rattle.ep.specs.Plain.{records_of, Sized}
use Rattle.ep.proofs.Steps.{small-start, small-next, seen_next}
use Rattle.ep.proofs.Records.{sized-size, length-refused, judged-start}
use Rattle.ep.proofs.Courses.{took-unfit, took-cut, took_more, took-many, answer-unfit, answer-none, answer-by}

-- Every piece is a record.
abbrev pub Whole : List (List ℕ) → Type 0
Whole [] = Unit {0}
Whole (p ∷ ps) = (length p ≡ 1900) × Whole ps

pub whole-last : (ps : List (List ℕ)) (p : List ℕ) → Whole ps → length p ≡ 1900 → Whole (ps ++ (p ∷ []))
whole-last [] p w l = (l, tt)
whole-last (q ∷ ps) p w l = (w.0, whole-last ps p w.1 l)

pub whole-cut : (ps : List (List ℕ)) → Whole ps → Cut ps
whole-cut [] w = tt
whole-cut (p ∷ []) w = (omega (arith, w.0), omega (arith, w.0))
whole-cut (p ∷ q ∷ ps) w = (w.0, whole-cut (q ∷ ps) w.1)

pub cut-last : (ps : List (List ℕ)) (p : List ℕ) → Whole ps → 0 < length p → length p ≤ 1900 → Cut (ps ++ (p ∷ []))
cut-last [] p w s m = (s, m)
cut-last (q ∷ []) p w s m = (w.0, (s, m))
cut-last (q ∷ q₂ ∷ ps) p w s m = (w.0, cut-last (q₂ ∷ ps) p w.1 s m)

-- Pieces that are taken behind others.
pub took-last : (c : Course) (ps : List (List ℕ)) (p : List ℕ) → took_all c (ps ++ (p ∷ [])) ≡ took (took_all c ps) p
unfolding took_all
took-last c [] p = refl
took-last c (q ∷ ps) p = took-last (took c q) ps p

-- The numbers of a course are small at first, and stay so.
pub sound-start : Sound start_course
sound-start = record { small = small-start no_tally refl; behind = omega arith; most = omega arith }

sound-unfit : (c : Course) → Sound c → Sound (unfit c)
unfolding unfit
sound-unfit c s = record { small = s.small; behind = s.behind; most = s.most }

sound-counted : (c : Course) (p : List ℕ) → Sound c → length p ≡ 1900 → c.records < 10000 → Sound (counted c p)
unfolding counted
sound-counted c p s l h = go c.outcome
  where
    go : (o : Outcome) → Sound (record { fits = true; records = c.records + 1; tally = tally_by o c.tally p; outcome = outcome_by o c.tally p })
    go Pass = record { small = small-next c.tally p l s.small (omega (arith, s.behind)); behind = omega (arith, s.behind, seen_next c.tally p); most = omega arith }
    go (Err why) = record { small = s.small; behind = omega (arith, s.behind); most = omega arith }

pub sound-took : (c : Course) (p : List ℕ) → Sound c → Sound (took c p)
sound-took c p s = go c.fits refl (eqb (length p) 1900) refl (ltb c.records 10000) refl
  where
    go : (f : Bool) → c.fits ≡ f → (b : Bool) → eqb (length p) 1900 ≡ b → (m : Bool) → ltb c.records 10000 ≡ m → Sound (took c p)
    go false f b e m d = rw (← (took-unfit c p f)) (sound-unfit c s)
    go true f false e m d = rw (← (took-cut c p f (eqb-false _ _ e))) (sound-unfit c s)
    go true f true e true d = rw (← (took_more c p f (eqb-true _ _ e) (ltb-true _ _ d))) (sound-counted c p s (eqb-true _ _ e) (ltb-true _ _ d))
    go true f true e false d = rw (← (took-many c p f (eqb-true _ _ e) (ltb-false _ _ d))) (sound-unfit c s)

-- Once the lengths are wrong they stay so.
unfit-fits : (c : Course) → (unfit c).fits ≡ false
unfolding unfit
unfit-fits c = refl

counted-fits : (c : Course) (p : List ℕ) → (counted c p).fits ≡ true
unfolding counted
counted-fits c p = refl

counted-one : (c : Course) (p : List ℕ) → (counted c p).records ≡ c.records + 1
unfolding counted
counted-one c p = refl

stays-unfit : (c : Course) (ps : List (List ℕ)) → c.fits ≡ false → (took_all c ps).fits ≡ false
unfolding took_all
stays-unfit c [] e = e
stays-unfit c (p ∷ ps) e = stays-unfit (took c p) ps (ap (λ (d : Course). d.fits) (sym (took-unfit c p e)) ∙ unfit-fits c)

-- What is judged of a record has position 0 already.
told-closing : (t : Tally) (n : ℕ) → told (closing t n) ≡ closing t n
unfolding closing
told-closing t n = go (eqb t.count 0) t.followed (states t.total t.own)
  where
    go : (a b d : Bool) → told (cond a Pass (cond b (cond d Pass (Fault 33 t.at)) (Fault 31 n))) ≡ cond a Pass (cond b (cond d Pass (Fault 33 t.at)) (Fault 31 n))
    go true b d = refl
    go false true true = refl
    go false true false = refl
    go false false d = refl

told-v : (t : Tally) (a : Accounts) → told (v_fault t a) ≡ v_fault t a
unfolding v_fault
told-v t a = go (eqb t.count 0) a
  where
    go : (b : Bool) (a : Accounts) → told (cond b (Fault 31 (here t)) (accounts_fault (here t) a)) ≡ cond b (Fault 31 (here t)) (accounts_fault (here t) a)
    go true a = refl
    go false (Sum s) = refl
    go false NonDigit = refl
    go false Unequal = refl

told-other : (n : ℕ) (o : Outcome) → told o ≡ o → told (after_other n o) ≡ after_other n o
told-other n Pass e = refl
told-other n (Err why) e = e

told-fault : (t : Tally) (r : List ℕ) → told (fault t r) ≡ fault t r
unfolding fault
told-fault t r = go (kind_of r)
  where
    go : (k : Kind) → told (fault_by k t r) ≡ fault_by k t r
    go RecordM = told-closing t (here t)
    go RecordV = told-v t (accounts_in r)
    go OtherRecord = told-other (here t) (closing t (here t)) (told-closing t (here t))

-- The outcome of a course that was taken piece by piece from the start is told as it stands, so that `answer-standing` speaks of every course that the program holds.
told-by : (o : Outcome) (t : Tally) (p : List ℕ) → told o ≡ o → told (outcome_by o t p) ≡ outcome_by o t p
told-by Pass t p e = told-fault t p
told-by (Err why) t p e = e

told-one : (c : Course) (p : List ℕ) → told c.outcome ≡ c.outcome → told (took c p).outcome ≡ (took c p).outcome
unfolding took counted unfit
told-one c p e = go (one_more c p)
  where
    go : (b : Bool) → told (cond b (counted c p) (unfit c)).outcome ≡ (cond b (counted c p) (unfit c)).outcome
    go true = told-by c.outcome c.tally p e
    go false = e

told-all : (c : Course) (ps : List (List ℕ)) → told c.outcome ≡ c.outcome → told (took_all c ps).outcome ≡ (took_all c ps).outcome
unfolding took_all
told-all c [] e = e
told-all c (p ∷ ps) e = told-all (took c p) ps (told-one c p e)

pub told-taken : (ps : List (List ℕ)) → told (took_all start_course ps).outcome ≡ (took_all start_course ps).outcome
told-taken ps = told-all start_course ps refl

-- The position of an answer; 0 where it is no refusal.
abbrev position_of : EpAnswer → ℕ
position_of (Ok all) = 0
position_of (Err why) = why.position

told-at-zero : (o : Outcome) (a : EpAnswer) → position_of a ≡ 0 → position_of (unless (told o) a) ≡ 0
told-at-zero Pass a z = z
told-at-zero (Err why) a z = refl

ended-at-zero : (t : Tally) → position_of (ended t) ≡ 0
unfolding ended
ended-at-zero t = ap (λ (o : Outcome). position_of (unless o (Accepted t.count t.sum))) (sym (told-closing t (here t))) ∙ told-at-zero (closing t (here t)) (Accepted t.count t.sum) refl

-- Whatever course is answered, one put together by hand too, a refusal has position 0.
pub answered-at-zero : (c : Course) (e k p : ℕ) → answered c ≡ Refused e k p → p ≡ 0
unfolding answered
answered-at-zero c e k p h = sym (ap (λ (a : EpAnswer). position_of a) h) ∙ go c.fits (eqb c.records 0) (unless (told c.outcome) (ended c.tally)) (told-at-zero c.outcome (ended c.tally) (ended-at-zero c.tally))
  where
    go : (f r : Bool) (a : EpAnswer) → position_of a ≡ 0 → position_of (cond f (cond r (Refused 30 0 0) a) (Refused 30 0 0)) ≡ 0
    go true true a z = refl
    go true false a z = z
    go false r a z = refl

-- What the course so far and the records to come are answered with.
by-course : (c : Course) (p : List ℕ) (ps : List (List ℕ)) → unless (told (counted c p).outcome) (judged_from (counted c p).tally ps) ≡ unless (told c.outcome) (judged_from c.tally (p ∷ ps))
unfolding counted judged_from
by-course c p ps = go c.outcome
  where
    go : (o : Outcome) → unless (told (outcome_by o c.tally p)) (judged_from (tally_by o c.tally p) ps) ≡ unless (told o) (unless (fault c.tally p) (judged_from (next c.tally p) ps))
    go Pass = ap (λ (o : Outcome). unless o (judged_from (next c.tally p) ps)) (told-fault c.tally p)
    go (Err why) = refl

-- Records that are not too many are judged.
few-judged : (c : Course) (ps : List (List ℕ)) → c.fits ≡ true → Whole ps → 0 < c.records + length ps → c.records + length ps ≤ 10000 → answered (took_all c ps) ≡ unless (told c.outcome) (judged_from c.tally ps)
unfolding took_all judged_from
few-judged c [] f w s m = sym (answer-by c f (λ e. absurd (omega arith)) c.outcome refl)
few-judged c (p ∷ ps) f w s m =
    let one = counted-one c p in
    ap (λ (d : Course). answered (took_all d ps)) (sym (took_more c p f w.0 (omega arith)))
    ∙ (few-judged (counted c p) ps (counted-fits c p) w.1 (omega arith) (omega arith) ∙ by-course c p ps)

-- Too many do not fit.
many-unfit : (c : Course) (ps : List (List ℕ)) → c.fits ≡ true → Whole ps → c.records ≤ 10000 → 10000 < c.records + length ps → (took_all c ps).fits ≡ false
unfolding took_all
many-unfit c [] f w m h = absurd (omega arith)
many-unfit c (p ∷ ps) f w m h = go (dec_le 10000 c.records) (λ a b. many-unfit (counted c p) ps (counted-fits c p) w.1 a b)
  where
    go : Dec (10000 ≤ c.records) → ((counted c p).records ≤ 10000 → 10000 < (counted c p).records + length ps → (took_all (counted c p) ps).fits ≡ false) → (took_all (took c p) ps).fits ≡ false
    go (yes g) on = ap (λ (d : Course). (took_all d ps).fits) (sym (took-many c p f w.0 g)) ∙ stays-unfit (unfit c) ps (unfit-fits c)
    go (no d) on =
        let one = counted-one c p in
        ap (λ (d : Course). (took_all d ps).fits) (sym (took_more c p f w.0 (omega arith))) ∙ on (omega arith) (omega arith)

pub too_many : (ps : List (List ℕ)) → Whole ps → 10000 < length ps → (took_all start_course ps).fits ≡ false
too_many ps w h = many-unfit start_course ps refl w (omega arith) (omega arith)

-- The bytes of whole records are cut into them again.
length_whole : (ps : List (List ℕ)) → Whole ps → length (joined ps) ≡ length ps * 1900
unfolding joined
length_whole [] w = refl
length_whole (p ∷ ps) w = rw length-append (omega (arith, w.0, length_whole ps w.1))

cut_again : (ps : List (List ℕ)) → Whole ps → records_in (length ps) (joined ps) ≡ ps
unfolding joined records_in
cut_again [] w = refl
cut_again (p ∷ ps) w = rw (take_at p (joined ps) 1900 w.0, drop_at p (joined ps) 1900 w.0, cut_again ps w.1)

-- The records that bytes are cut into are whole, and are the bytes again one behind the other.
cut-joined : (n : ℕ) (s : List ℕ) → length s ≡ n * 1900 → (joined (records_in n s) ≡ s) × Whole (records_in n s)
unfolding joined records_in
cut-joined zero [] l = (refl, tt)
cut-joined zero (b ∷ s) l = absurd (omega arith)
cut-joined (suc n) s l =
    let rest = cut-joined n (drop 1900 s) (rw length-drop (omega arith)) in
    (ap (λ (t : List ℕ). take 1900 s ++ t) rest.0 ∙ take-append-drop 1900 s, (part_length 1900 0 s (omega arith), rest.1))

pub records-are : (s : List ℕ) → Sized (length s) → (joined (records_of s) ≡ s) × Whole (records_of s)
records-are s z = cut-joined (length s / 1900) s (omega (arith, z.whole))

none-taken : (c : Course) → took_all c [] ≡ c
unfolding took_all
none-taken c = refl

whole-streamed : (ps : List (List ℕ)) → Whole ps → answered (took_all start_course ps) ≡ judged (joined ps)
whole-streamed [] w = ap answered (none-taken start_course) ∙ sym (answer-none start_course refl refl) ∙ sym (length-refused (joined []) (λ z. absurd (omega (arith, length_whole [] tt, z.some))))
whole-streamed (p ∷ ps) w = go (dec_le (length (p ∷ ps)) 10000)
  where
    len : length (joined (p ∷ ps)) ≡ length (p ∷ ps) * 1900
    len = length_whole (p ∷ ps) w

    sized : length (p ∷ ps) ≤ 10000 → size_right (length (joined (p ∷ ps))) ≡ true
    sized h = sized-size _ (record { some = omega (arith, len); most = omega (arith, len); whole = omega (arith, len) })

    go : Dec (length (p ∷ ps) ≤ 10000) → answered (took_all start_course (p ∷ ps)) ≡ judged (joined (p ∷ ps))
    go (yes h) =
        let n : length (joined (p ∷ ps)) / 1900 ≡ length (p ∷ ps) = omega (arith, len) in
        few-judged start_course (p ∷ ps) refl w (omega arith) (omega arith)
        ∙ sym (judged-start (joined (p ∷ ps)) (sized h) ∙ (ap (λ (k : ℕ). judged_from no_tally (records_in k (joined (p ∷ ps)))) n ∙ ap (judged_from no_tally) (cut_again (p ∷ ps) w)))
    go (no d) = sym (answer-unfit (took_all start_course (p ∷ ps)) (too_many (p ∷ ps) w (omega arith))) ∙ sym (length-refused (joined (p ∷ ps)) (λ z. absurd (omega (arith, len, z.most))))

-- Pieces as they are read are whole records, or such and a last one that is cut short.
data Shape : List (List ℕ) → Type 0 where
  wholes : (ps : List (List ℕ)) → Whole ps → Shape ps
  short : (ps : List (List ℕ)) (l : List ℕ) → Whole ps → 0 < length l → length l < 1900 → Shape (ps ++ (l ∷ []))

shape_of : (ps : List (List ℕ)) → Cut ps → Shape ps
shape_of [] c = wholes [] tt
shape_of (p ∷ []) c = go (dec_le 1900 (length p))
  where
    go : Dec (1900 ≤ length p) → Shape (p ∷ [])
    go (yes h) = wholes (p ∷ []) (omega (arith, c.1), tt)
    go (no d) = short [] p tt c.0 (omega arith)
shape_of (p ∷ q ∷ ps) c = go (shape_of (q ∷ ps) c.1)
  where
    go : {qs : List (List ℕ)} → Shape qs → Shape (p ∷ qs)
    go (wholes qs w) = wholes (p ∷ qs) (c.0, w)
    go (short qs l w s m) = short (p ∷ qs) l (c.0, w) s m

length-joined : (ps : List (List ℕ)) (l : List ℕ) → length (joined (ps ++ (l ∷ []))) ≡ length (joined ps) + length l
unfolding joined
length-joined [] l = rw length-append (omega arith)
length-joined (p ∷ ps) l = omega (arith, length-append p (joined (ps ++ (l ∷ []))), length-append p (joined ps), length-joined ps l)

short-streamed : (ps : List (List ℕ)) (l : List ℕ) → Whole ps → 0 < length l → length l < 1900 → answered (took_all start_course (ps ++ (l ∷ []))) ≡ judged (joined (ps ++ (l ∷ [])))
short-streamed ps l w s m =
    ap answered (took-last start_course ps l)
    ∙ (refused (took_all start_course ps) ∙ sym (length-refused (joined (ps ++ (l ∷ []))) (λ z. absurd (omega (arith, length-joined ps l, length_whole ps w, z.whole)))))
  where
    refused : (c : Course) → answered (took c l) ≡ Refused 30 0 0
    refused c = go c.fits refl
      where
        go : (f : Bool) → c.fits ≡ f → answered (took c l) ≡ Refused 30 0 0
        go false e = ap answered (sym (took-unfit c l e)) ∙ sym (answer-unfit (unfit c) (unfit-fits c))
        go true e = ap answered (sym (took-cut c l e (λ q. absurd (omega arith)))) ∙ sym (answer-unfit (unfit c) (unfit-fits c))

-- The answer for what was read piece by piece is the entry's for all the bytes read.
pub streamed : (ps : List (List ℕ)) → Cut ps → answered (took_all start_course ps) ≡ judged (joined ps)
streamed ps c = go (shape_of ps c)
  where
    go : {qs : List (List ℕ)} → Shape qs → answered (took_all start_course qs) ≡ judged (joined qs)
    go (wholes qs w) = whole-streamed qs w
    go (short qs l w s m) = short-streamed qs l w s m
