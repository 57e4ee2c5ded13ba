-- The register as it is read, over B.
use Rattle.movement.specs.DataMovement.{PASS-STAT}
use Rattle.movement.proofs.pass_status.Goals as goal

pub returns : goal.returns
unfolding PASS-STAT
returns c = rw c.read.ensures at c.pass.ensures
