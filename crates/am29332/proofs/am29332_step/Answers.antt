-- What the word leaves, its answer as numbers.
use mathlib.Core.Path.{ap}
use Rattle.am29332.specs.Numbers.{step_numbers}
use Rattle.am29332.proofs.am29332_step.Goals as goal

pub returns : goal.returns
returns c =
    let e = c.one_word-answer.ensures in record {
      file_after = rw c.numbered_answer.ensures (ap step_numbers e.file_after);
      pins = e.pins;
    }
