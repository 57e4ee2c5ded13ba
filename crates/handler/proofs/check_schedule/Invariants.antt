-- `last` is what stands before entry j, and the whole table answers as what is left of it.
use Rattle.std.proofs.Common.{◌≡◌, ◌-◌, length, get_or, ◌∷◌}
use Rattle.reasons.specs.Reasons.{first_of, rows_by}
use Rattle.handler.specs.Schedule.{schedule_row}
use Rattle.handler.proofs.check_schedule.Given as goal

abbrev pub invariant-loop-j : goal.invariant-loop-j
invariant-loop-j l = (l.last ≡ get_or (0 ∷ l.schedule) l.j 0) × (first_of (rows_by (schedule_row l.schedule l.n) 0 (length l.schedule)) ≡ first_of (rows_by (schedule_row l.schedule l.n) l.j (length l.schedule - l.j)))
