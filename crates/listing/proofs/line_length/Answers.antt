-- The parts of a line, each with its bytes.
use mathlib.Core.Path.{sym}
use Rattle.listing.proofs.Lines.{line-length}
use Rattle.listing.proofs.line_length.Goals as goal

pub returns : goal.returns
returns c = sym (line-length c.args.w c.requires)
