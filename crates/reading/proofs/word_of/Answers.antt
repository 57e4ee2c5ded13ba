-- By what the line says; outside the grammar all fields are 0.
use Rattle.std.proofs.Common.{rules}
use Rattle.packing.specs.Packing.{fields_of}
use Rattle.reading.proofs.word_of.Goals as goal

pub returns : goal.returns
unfolding fields_of
returns c = search rules
