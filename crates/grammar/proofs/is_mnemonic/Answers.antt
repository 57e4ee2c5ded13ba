-- The column's first blank is within it.
use mathlib.Core.Path.{sym}
use native.Mathlib.Omega.{arith}
use lib.Seq.{length-take-le}
use Rattle.grammar.specs.Scan.{solid}
use Rattle.grammar.proofs.Passing.{place_within}
use Rattle.grammar.proofs.is_mnemonic.Goals as goal

pub slice_bounds-is_name-end : goal.slice_bounds-is_name-end
slice_bounds-is_name-end c = let column = c.args.column.now in
    sym (length-take-le _ column (rw c.past_part-n.ensures (place_within solid column 0 (omega arith))))
