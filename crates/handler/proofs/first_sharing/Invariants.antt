-- The whole table answers as what is left of it.
use Rattle.std.proofs.Common.{◌≡◌, ◌-◌}
use Rattle.reasons.specs.Reasons.{first_of, rows_by}
use Rattle.handler.specs.Overlap.{overlap_row}
use Rattle.handler.proofs.first_sharing.Given as goal

abbrev pub invariant-loop-k : goal.invariant-loop-k
invariant-loop-k l = first_of (rows_by (overlap_row l.main l.theirs) 0 l.m) ≡ first_of (rows_by (overlap_row l.main l.theirs) l.k (l.m - l.k))
