-- The unpacked word, its check as numbers.
use Rattle.am29332.proofs.am29332_unpack.Goals as goal

pub returns : goal.returns
returns c = rw (c.numbered_check.ensures, c.word_or_blank.ensures, c.unpack-unpacked.ensures.value)
