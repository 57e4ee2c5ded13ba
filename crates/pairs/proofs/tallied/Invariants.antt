-- No count is above the pairs tried.
use Rattle.std.proofs.Common.{◌≤◌}
use Rattle.pairs.proofs.tallied.Given as goal

abbrev pub invariant-loop-n : goal.invariant-loop-n
invariant-loop-n g l = (l.tally.right ≤ l.n) × (l.tally.wrong ≤ l.n) × (l.tally.odd ≤ l.n)
