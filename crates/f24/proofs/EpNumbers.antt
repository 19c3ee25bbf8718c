-- Which numbers the call for the F24 EP form returns: 0 where records are accepted and only there, 30 to 33 where they are refused, and 100.
use Rattle.std.specs.Prelude.{Ok, Err}
use Prim.Native.Nat.{ℕ, ◌≤◌}
use mathlib.Core.Path.{◌≡◌, refl, sym}
use mathlib.Core.List.{List}
use native.Mathlib.Omega.{arith}
use lib.ListN.{length}
use Rattle.ep.specs.Answers.{EpAnswer}
use Rattle.ep.specs.Payments.{judged}
use Rattle.ep.proofs.Exactly.{refused-number}
use Rattle.f24.specs.Linked.{code_or}
use Rattle.f24.specs.LinkedEp.{ep_number, ep_code}
use Rattle.f24.proofs.Rooms.{long-code}

-- What is returned for an answer.
abbrev pub Returned : EpAnswer → ℕ → Type 0
Returned (Ok why) n = n ≡ 0
Returned (Err why) n = (n ≡ why.number) × (30 ≤ n) × (n ≤ 33) × (why.position ≡ 0)

returned : (records : List ℕ) (a : EpAnswer) (n : ℕ) → judged records ≡ a → n ≡ ep_number a → Returned a n
returned records (Ok why) n h e = e
returned records (Err why) n h i = let q = refused-number records why.number why.«record» why.position h in (i, omega (arith, q.0), omega (arith, q.1), q.2)

-- With room for an answer, that of the judgement of the records.
pub ep-returns : (records room : List ℕ) → 2 ≤ length room → Returned (judged records) (ep_code records room)
unfolding ep_code
ep-returns records room h = returned records (judged records) (code_or 2 room (ep_number (judged records))) refl (sym (long-code room h refl))
