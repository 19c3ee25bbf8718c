-- `ep::ep_judge` meets its contract: judging the records that are left gives the judgement of all, and the numbers so far are small.
use Prim.Native.Nat.{◌-◌, ◌*◌, ◌≤◌}
use mathlib.Core.Path.{◌≡◌}
use lib.ListN.{length, drop}
use Rattle.ep.specs.Payments.{judged_from, records_in, judged}
use Rattle.ep.specs.Bounds.{Small}
use Rattle.ep.proofs.ep_judge.Given as goal

abbrev pub invariant-loop-i : goal.invariant-loop-i
invariant-loop-i l =
    (l.count ≤ 10000) × (l.count * 1900 ≤ length l.records) × Small l.tally × (l.tally.seen ≡ l.i) × (judged l.records ≡ judged_from l.tally (records_in (l.count - l.i) (drop (l.i * 1900) l.records)))
