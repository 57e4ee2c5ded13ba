-- What is left, run and counted from here, ends as the whole does from its start (`Serving`).
use Rattle.sheet.specs.Sheet.{executions_of}
use Rattle.interrupt.proofs.Serving.{Serving}
use Rattle.interrupt.proofs.serve.Given as goal

abbrev pub invariant-loop-j : goal.invariant-loop-j
invariant-loop-j l = Serving (executions_of l.main) (executions_of l.handler) l.schedule l.initial.file l.initial.on l.file l.on l.at l.j
