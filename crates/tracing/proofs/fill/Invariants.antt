-- The lines so far stand at the start, and with those left they are all (`Filling`).
use Rattle.chip.specs.Lists.{state}
use Rattle.tracing.proofs.Lines.{Filling}
use Rattle.tracing.proofs.fill.Given as goal

abbrev pub invariant-loop-index : goal.invariant-loop-index
invariant-loop-index l = Filling l.sheet l.initial.file l.initial.text (state l.file l.core) l.text l.index
