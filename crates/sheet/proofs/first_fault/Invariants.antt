-- The whole table answers as what is left of it.
use Rattle.std.proofs.Common.{◌≡◌, ◌-◌}
use Rattle.reasons.specs.Reasons.{first_of, rows_by}
use Rattle.sheet.specs.Sheet.{word_rows}
use Rattle.sheet.proofs.first_fault.Given as goal

abbrev pub invariant-loop-k : goal.invariant-loop-k
invariant-loop-k l = first_of (rows_by (word_rows l.s l.n) 0 l.count) ≡ first_of (rows_by (word_rows l.s l.n) l.k (l.count - l.k))
