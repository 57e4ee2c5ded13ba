-- The bit of the status register as it is read, on Y and in L.
use Rattle.fields.specs.BitManipulation.{EXTBIT-STAT}
use Rattle.fields.proofs.bit.extract_status.Goals as goal

pub returns : goal.returns
unfolding EXTBIT-STAT
returns c = rw (c.held-status.ensures, c.extracted-f.ensures, c.read.ensures)
