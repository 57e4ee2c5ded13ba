-- What packing leaves, its check as numbers.
use mathlib.Core.Path.{ap}
use Rattle.am29332.specs.Numbers.{pack_numbers}
use Rattle.am29332.proofs.am29332_pack.Goals as goal

pub returns : goal.returns
returns c = rw c.numbered_check.ensures (ap pack_numbers c.pack.ensures.d_after)
