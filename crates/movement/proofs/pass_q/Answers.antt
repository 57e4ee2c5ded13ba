-- Q over B.
use Rattle.movement.specs.DataMovement.{PASS-Q}
use Rattle.movement.proofs.pass_q.Goals as goal

pub returns : goal.returns
unfolding PASS-Q
returns c = c.pass.ensures
