-- The bytes left fall: an input has at least the four of its length.
use Rattle.std.proofs.Common.{length}
use Rattle.traces.proofs.all.Given as goal

abbrev pub invariant-loop-size : goal.invariant-loop-size
invariant-loop-size l = Unit {0}

abbrev pub decreases-loop-size : goal.decreases-loop-size
decreases-loop-size l = length l.rest
