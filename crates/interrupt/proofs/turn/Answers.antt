-- A part of the main list, then the whole handler.
use Rattle.sheet.specs.Sheet.{executions_of}
use Rattle.interrupt.proofs.Serving.{turn_done}
use Rattle.interrupt.proofs.turn.Goals as goal

pub returns : goal.returns
returns c = turn_done (executions_of c.args.handler.now) _ c.args.n c.requires.at_le_b.2 c.span-first.ensures c.span.ensures
