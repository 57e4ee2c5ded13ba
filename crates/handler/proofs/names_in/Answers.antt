-- What was met, and what is left, is the whole (`Gathering`).
use Rattle.std.proofs.Common.{arith}
use Rattle.handler.proofs.OverlapLaws.{gathering_more, gathering_done}
use Rattle.handler.proofs.names_in.Goals as goal

pub loop-k-preserved : goal.loop-k-preserved
loop-k-preserved c = gathering_more c.loop-k.invariant _ (omega arith) (cc)

pub returns : goal.returns
returns c = gathering_done c.loop-k.invariant (omega arith)
