-- The digits of each number stand in its place, over the zeros of a line.
use Rattle.tracing.proofs.Lines.{line_is}
use Rattle.tracing.proofs.line.Goals as goal

pub returns : goal.returns
returns c = let a = c.args in
    line_is a.index a.shown c.status.ensures c.pins.ensures c.hex-i.ensures c.hex-y.ensures c.hex-q.ensures c.hex-s.ensures c.binary-p.ensures
    c.put.ensures.put c.put-2.ensures.put c.put-3.ensures.put c.put-4.ensures.put c.put-5.ensures.put
