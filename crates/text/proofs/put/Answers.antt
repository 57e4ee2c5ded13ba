-- What is copied so far stands in its place, and with the next byte one more.
use Rattle.std.proofs.Common.{add-one, arith}
use Rattle.std.proofs.Math.Seq.{paste-suc}
use Rattle.text.proofs.put.Goals as goal

pub loop-k-preserved : goal.loop-k-preserved
loop-k-preserved c = let a = c.args in
    rw (c.loop-k.invariant, add-one, paste-suc a.text.now a.at a.line.now c.loop-k.k 0 (omega arith) c.loop-k-test.true)
