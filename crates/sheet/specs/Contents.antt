-- For theorems. What a clerk keys in a sheet, as records: the sheet that says it, and the records to be written from it.
use Rattle.std.specs.Prelude.{ℕ, ◌+◌, ◌<◌, ◌≡◌, true, cond, List, [], ◌∷◌, ◌++◌, map, eqb, length, take, drop}
use Rattle.text.specs.Numbers.{number_of, amount_of, digits_of}
use Rattle.layout.specs.declared.RecordType.{RecordType}
use Rattle.layout.specs.declared.RecordType.TheVariants.{F4, T10, T20, T40, T50, EF}
use Rattle.layout.specs.declared.Kind.{Kind}
use Rattle.layout.specs.declared.Kind.TheVariants.{Head, Taxpayer, Domicile, Line, Balance, Payment, Tail}
use Rattle.layout.specs.Kinds.{type_in, kind_in, numbered}
use Rattle.refusal.specs.Outcomes.{Outcome, Pass, Fails}
use Rattle.rules.specs.Step.{next_deleghe}
use Rattle.rebalance.specs.Rebalance.{flat, Sized}
use Rattle.sheet.specs.Slots.{made_balance}
use Rattle.sheet.specs.Sheet.{Entry, entry}

-- The slots of a sheet: F4, 10, 20, lines and balances of the five sections, 50-01, EF.
pub data Slot : Kind → Type 0 where
  head : Slot Head
  taxpayer : Slot Taxpayer
  domicile : Slot Domicile
  line : (x : ℕ) → x < 5 → Slot (Line x)
  balance : (x : ℕ) → x < 5 → Slot (Balance x)
  payment : Slot Payment
  tail : Slot Tail

-- The type of the records of a slot.
abbrev pub slot_type : {k : Kind} → Slot k → RecordType
slot_type head = F4
slot_type taxpayer = T10
slot_type domicile = T20
slot_type (line x h) = T40
slot_type (balance x h) = T40
slot_type payment = T50
slot_type tail = EF

-- What may be said of a record in a slot: it is of the slot's kind; or it gets 4, at 2 where its type is not the slot's, else at 11.
pub data SlotSays {k : Kind} (s : Slot k) (r : List ℕ) : Outcome → Type 0 where
  OfItsKind : kind_in r ≡ k → SlotSays s r Pass
  OtherType : (type_in r ≡ slot_type s → ⊥) → SlotSays s r (Fails 4 2)
  OtherSubtype : type_in r ≡ slot_type s → (kind_in r ≡ k → ⊥) → SlotSays s r (Fails 4 11)

-- A delega as it is keyed: 10, 20, the lines of each section, 50-01.
pub record Delega : Type 0 where
  pub ten : List ℕ
  pub twenty : List ℕ
  pub sections : List (List (List ℕ))
  pub fifty : List ℕ

-- A sheet as it is keyed: F4, the deleghe, EF.
pub record Contents : Type 0 where
  pub first : List ℕ
  pub deleghe : List Delega
  pub last : List ℕ

-- "each as a count in two digits and its line records"
unfoldable pub sections_text : List (List (List ℕ)) → List ℕ
sections_text [] = []
sections_text (rs ∷ rss) = digits_of 2 (length rs) ++ (flat rs ++ sections_text rss)

-- "per delega its records 10 and 20, the five sections .., then its 50-01"
abbrev pub delega_text : Delega → List ℕ
delega_text g = g.ten ++ (g.twenty ++ (sections_text g.sections ++ g.fifty))

-- the texts of deleghe, one after the other
unfoldable pub deleghe_text : List Delega → List ℕ
deleghe_text [] = []
deleghe_text (g ∷ gs) = delega_text g ++ deleghe_text gs

-- "A sheet holds F4, a count of deleghe in three digits, per delega .., last an EF"
abbrev pub sheet_text : Contents → List ℕ
sheet_text c = c.first ++ (digits_of 3 (length c.deleghe) ++ (deleghe_text c.deleghe ++ c.last))

-- The records to be written for section x of delega d: its lines and, where there are some, the balance record that is made.
abbrev pub section_entries : ℕ → ℕ → List (List ℕ) → List Entry
section_entries d x rs = map (entry (Line x) d) rs ++ cond (eqb (length rs) 0) [] (entry (Balance x) d (made_balance x) ∷ [])

-- The same of all sections from section x on.
unfoldable pub sections_entries : ℕ → ℕ → List (List (List ℕ)) → List Entry
sections_entries d x [] = []
sections_entries d x (rs ∷ rss) = section_entries d x rs ++ sections_entries d (x + 1) rss

-- The records to be written for delega d.
abbrev pub delega_entries : ℕ → Delega → List Entry
delega_entries d g = entry Taxpayer d g.ten ∷ entry Domicile d g.twenty ∷ (sections_entries d 0 g.sections ++ (entry Payment d g.fifty ∷ []))

-- The same of deleghe, of which the first is number d.
unfoldable pub deleghe_entries : ℕ → List Delega → List Entry
deleghe_entries d [] = []
deleghe_entries d (g ∷ gs) = delega_entries d g ++ deleghe_entries (d + 1) gs

-- The records to be written, in order.
abbrev pub entries_of : Contents → List Entry
entries_of c = entry Head 0 c.first ∷ (deleghe_entries 1 c.deleghe ++ (entry Tail 0 c.last ∷ []))

-- Each of a list.
abbrev pub All : {A : Type 0} → (A → Type 0) → List A → Type 0
All P [] = Unit {0}
All P (x ∷ xs) = P x × All P xs

-- The lines of a section: 120 bytes each, and as many as two digits can say.
abbrev pub SectionKeyed : List (List ℕ) → Type 0
SectionKeyed rs = (length rs < 100) × Sized rs

-- A delega has records of 120 bytes and five sections.
pub record DelegaKeyed (g : Delega) : Type 0 where
  pub ten-sized : length g.ten ≡ 120
  pub twenty-sized : length g.twenty ≡ 120
  pub five : length g.sections ≡ 5
  pub each : All SectionKeyed g.sections
  pub fifty-sized : length g.fifty ≡ 120

-- A sheet has records of 120 bytes, and as many deleghe as three digits can say.
pub record Keyed (c : Contents) : Type 0 where
  pub first-sized : length c.first ≡ 120
  pub few : length c.deleghe < 1000
  pub all : All DelegaKeyed c.deleghe
  pub last-sized : length c.last ≡ 120

-- Bytes are a sheet where they say some contents.
pub record IsSheet (s : List ℕ) : Type 0 where
  pub contents : Contents
  pub keyed : Keyed contents
  pub text : s ≡ sheet_text contents

-- "a count of deleghe in three digits", behind the head
abbrev pub count_in : List ℕ → ℕ
count_in s = amount_of (number_of (take 3 (drop 120 s)))

-- A record to be written is in one of the slots, and has 120 bytes; one in the slot of a balance is the one that is made.
pub record Entered (e : Entry) : Type 0 where
  pub in-slot : Slot e.slot
  pub sized : length e.bytes ≡ 120
  pub made : (x : ℕ) → e.slot ≡ Balance x → e.bytes ≡ made_balance x

-- Records to be written behind d deleghe, with which n have begun: a 10 begins the next, and every record of a delega has its number.
abbrev pub Numbering : ℕ → List Entry → ℕ → Type 0
Numbering d [] n = d ≡ n
Numbering d (e ∷ es) n = (numbered e.slot ≡ true → e.delega ≡ next_deleghe d e.slot) × Numbering (next_deleghe d e.slot) es n
