-- The chip's answer, its check as numbers.
use Rattle.am29332.proofs.am29332_single_word.Goals as goal

pub returns : goal.returns
returns c =
    let e = c.single_word-answer.ensures in record {
      value = rw (c.numbered_check.ensures, e.value);
      pins = e.pins;
    }
