-- Serves inner functions. Calls one after the other, each from what the one before it handed back.
use Rattle.std.specs.Prelude.{ℕ, zero, suc, ◌+◌, Bool, true, false, cond, List}
use Rattle.portion.specs.declared.Course.{Course}
use Rattle.portion.specs.declared.Course.TheVariants.{Going, Accepted, Refused, Foreign}
use Rattle.portion.specs.declared.Portion.{Portion}
use Rattle.portion.specs.Portion.{start_progress, portioned}
use Rattle.f24_judge.specs.declared.Calls.{Calls}

-- whether a judgement that stands so has not ended
abbrev pub goes_on : Course → Bool
goes_on Going = true
goes_on Accepted = false
goes_on (Refused n r p) = false
goes_on Foreign = false

-- after a call that has answered, the k-th, at most n more are made, and none after one that has ended the judgement
unfoldable pub called_on : ℕ → List ℕ → ℕ → Portion → ℕ → Calls
called_on zero s p a k = record { last = a; made = k }
called_on (suc n) s p a k = cond (goes_on a.answer) (called_on n s p (portioned s p a.next) (k + 1)) (record { last = a; made = k })

-- at most 546 calls from the start, which is the most records that a flow has
unfoldable pub calls_of : List ℕ → ℕ → Calls
calls_of s p = called_on 545 s p (portioned s p start_progress) 1
