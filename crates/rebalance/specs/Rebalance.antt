-- Believed down to `kept_fault`; what follows is for theorems. Rebalancing: every stored field of every record is written anew from the lines, and nothing else is touched.
use Rattle.std.specs.Prelude.{ℕ, ◌+◌, ◌-◌, ◌^◌, ◌≡◌, Bool, true, false, cond, List, [], ◌∷◌, ◌++◌, ltb, leb, length}
use Rattle.text.specs.Characters.{first_bad}
use Rattle.text.specs.Numbers.{digits_of}
use Rattle.text.specs.Placing.{put_at}
use Rattle.layout.specs.declared.Field.{Field}
use Rattle.layout.specs.declared.Kind.{Kind}
use Rattle.layout.specs.declared.Kind.TheVariants.{Head, Taxpayer, Domicile, Line, Balance, Payment, Receipt, Addressee, Tail, Unknown}
use Rattle.layout.specs.Kinds.{type_in, kind_in}
use Rattle.layout.specs.Fields.{delega_number, creation_date, fields_of, value_of}
use Rattle.rules.specs.declared.State.{State}
use Rattle.rules.specs.State.{start_state}
use Rattle.refusal.specs.Outcomes.{Outcome, Pass}
use Rattle.order.specs.Stages.{after_tail}
use Rattle.amounts.specs.Outcomes.{first}
use Rattle.order.specs.Order.{standing}
use Rattle.rules.specs.Stored.{Stored, Value, Mark, stored_of}
use Rattle.rules.specs.Checks.{char_fault, bad_fields, number_fault, own_fault}
use Rattle.rules.specs.Step.{next}
use Rattle.judge.specs.Flow.{records_of}

-- The index at which a stored field starts.
abbrev pub start_of : Stored → ℕ
start_of (Value n f v) = f.start
start_of (Mark n c b) = c

-- The number of bytes of a stored field.
abbrev pub width_of : Stored → ℕ
width_of (Value n f v) = f.end - f.start
width_of (Mark n c b) = 1

-- A number stands in a stored field with zeros in front, and a sign as its one character.
abbrev pub text_of : Stored → List ℕ
text_of (Value n f v) = digits_of (f.end - f.start) v
text_of (Mark n c b) = b ∷ []

-- Stored fields are written one after the other, in the order of their refusals.
unfoldable pub put_all : List Stored → List ℕ → List ℕ
put_all [] r = r
put_all (x ∷ xs) r = put_all xs (put_at (start_of x) (text_of x) r)

-- A record is rebalanced by writing what the records before it give to its stored fields.
unfoldable pub emit : State → List ℕ → List ℕ
emit st r = put_all (stored_of st (kind_in r)) r

-- Records are rebalanced in order, each after the state that the ones before it lead to.
unfoldable pub rebalanced : State → List (List ℕ) → List (List ℕ)
rebalanced st [] = []
rebalanced st (r ∷ rs) = emit st r ∷ rebalanced (next st r) rs

-- A number fits its field where it has no more digits than the field, and a sign is one character.
abbrev pub fits_one : Stored → Bool
fits_one (Value n f v) = ltb v (10 ^ (f.end - f.start))
fits_one (Mark n c b) = true

-- What is written to every stored field of a record fits it.
unfoldable pub fits_all : List Stored → Bool
fits_all [] = true
fits_all (x ∷ xs) = cond (fits_one x) (fits_all xs) false

-- What rebalancing writes to every stored field of every record fits it.
unfoldable pub all_fit : State → List (List ℕ) → Bool
all_fit st [] = true
all_fit st (r ∷ rs) = cond (fits_all (stored_of st (kind_in r))) (all_fit (next st r) rs) false

-- The bytes of a flow are those of its records, one after the other.
unfoldable pub flat : List (List ℕ) → List ℕ
flat [] = []
flat (r ∷ rs) = r ++ flat rs

-- Every stored field of a flow is worked out afresh from all its lines.
unfoldable pub refreshed : List ℕ → List ℕ
refreshed f = flat (rebalanced start_state (records_of f))

-- The numeric fields that are not stored, in the order of position.
abbrev pub kept_fields : Kind → List Field
kept_fields Head = creation_date ∷ []
kept_fields Taxpayer = delega_number ∷ []
kept_fields Domicile = delega_number ∷ []
kept_fields (Line s) = fields_of (Line s)
kept_fields (Balance s) = delega_number ∷ []
kept_fields Payment = delega_number ∷ []
kept_fields Receipt = delega_number ∷ []
kept_fields Addressee = delega_number ∷ []
kept_fields Tail = []
kept_fields Unknown = []

-- The checks that rebalancing leaves alone are 3, 4, 6, 7 of the kept fields, 8, 9, 14, 16, 17 and 26, in the order of their numbers.
unfoldable pub kept_fault : List ℕ → State → List ℕ → Outcome
kept_fault name st r =
    first (char_fault (first_bad r))
    (first (standing st.stage (type_in r) (kind_in r))
    (first (bad_fields (kept_fields (kind_in r)) r) (first (number_fault st.deleghe (kind_in r) (value_of r delega_number)) (own_fault name st (kind_in r) r))))

-- The n bytes from index m on lie outside every one of these stored fields.
unfoldable pub clear : ℕ → ℕ → List Stored → Bool
clear m n [] = true
clear m n (x ∷ xs) = cond (cond (leb (m + n) (start_of x)) true (leb (start_of x + width_of x) m)) (clear m n xs) false

-- Every record has 120 bytes.
abbrev pub Sized : List (List ℕ) → Type 0
Sized [] = Unit {0}
Sized (r ∷ rs) = (length r ≡ 120) × Sized rs

-- Rebalancing mends records of 120 bytes that pass every check it leaves alone, where what it writes fits, up to and with the tail.
abbrev pub Mendable : List ℕ → State → List (List ℕ) → Type 0
Mendable name st [] = st.stage.phase ≡ after_tail
Mendable name st (r ∷ rs) = (length r ≡ 120) × (kept_fault name st r ≡ Pass) × (fits_all (stored_of st (kind_in r)) ≡ true) × Mendable name (next st r) rs
