-- Each number stands in its place of the template.
use mathlib.Core.Path.{refl}
use Rattle.listing.specs.Lines.{first_line}
use Rattle.listing.proofs.first_line.Goals as goal

pub returns : goal.returns
unfolding first_line
returns c = rw (c.put-2.ensures.put.bytes, c.put.ensures.put.bytes, c.decimal-2.ensures, c.decimal.ensures) refl
