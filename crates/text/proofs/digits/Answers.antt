-- The places from i on hold the lowest digits, and what is left is the number without them (`Lowest`).
use Rattle.text.proofs.Lowest.{lowest_more}
use Rattle.text.proofs.digits.Goals as goal

pub loop-i-preserved : goal.loop-i-preserved
loop-i-preserved g c = rw c.digit.ensures (lowest_more c.loop-i.invariant c.loop-i-test.true c.loop-i.auto.i)
