-- What is left, run and counted from here, ends as the whole does from its start (`Running`).
use Rattle.sheet.specs.Sheet.{sheet_of}
use Rattle.run.proofs.Laws.{Running}
use Rattle.run.proofs.span.Given as goal

abbrev pub invariant-loop-index : goal.invariant-loop-index
invariant-loop-index l = Running (sheet_of l.of l.main l.handler) l.initial.file l.initial.at l.from l.to l.file l.at l.index
