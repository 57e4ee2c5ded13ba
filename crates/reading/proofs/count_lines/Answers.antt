-- There are no more lines than bytes.
use mathlib.Core.Logic.{inl}
use native.Mathlib.Omega.{arith}
use Rattle.reading.proofs.FirstLine.{lines_few}
use Rattle.reading.proofs.count_lines.Goals as goal

pub count-requires-clause-fits : goal.count-requires-clause-fits
count-requires-clause-fits c = let w = c.well_formed in inl (omega (arith, lines_few c.args.text.now))
