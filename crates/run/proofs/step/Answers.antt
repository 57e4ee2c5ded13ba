-- The inputs are those of the definition, and the two arms its two ways: Y stored, or not.
use mathlib.Core.Path.{ap, ◌∙◌}
use native.Mathlib.Omega.{arith}
use Rattle.machine.specs.Core.{shown_by}
use Rattle.chip.specs.Glossary.{perform_of}
use Rattle.chip.specs.Lists.{state}
use Rattle.chip.proofs.Files.{inputs_read, read_small}
use Rattle.run.proofs.Laws.{step-write, step_keep}
use Rattle.run.proofs.step.Goals as goal

pub returns-then-word-eq1 : goal.returns-then-word-eq1
returns-then-word-eq1 c = let a = c.args in
    step-write _ a.word (state a.file.now a.core) _ c.requires.0
    (record { file = read_small a.file.now (λ r. (c.slice_known-1.given r).fits); q = omega (arith, c.well_formed.1.1.0); status = c.requires.1 })
    (c.shown-shown.ensures ∙ ap (shown_by a.word.borrow) (c.operate.ensures ∙ ap (perform_of a.word.opcode) (inputs_read a.word a.file.now a.core))) c.if-word-eq1.true

pub returns : goal.returns
returns c = let a = c.args in
    step_keep _ a.word (state a.file.now a.core) _ c.requires.0
    (record { file = read_small a.file.now (λ r. (c.slice_known-1.given r).fits); q = omega (arith, c.well_formed.1.1.0); status = c.requires.1 })
    (c.shown-shown.ensures ∙ ap (shown_by a.word.borrow) (c.operate.ensures ∙ ap (perform_of a.word.opcode) (inputs_read a.word a.file.now a.core))) c.if-word-eq1.false
