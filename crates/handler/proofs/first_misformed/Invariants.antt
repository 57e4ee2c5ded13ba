-- The whole table answers as what is left of it.
use Rattle.std.proofs.Common.{◌≡◌, ◌-◌}
use Rattle.reasons.specs.Reasons.{first_of, rows_by}
use Rattle.handler.specs.Form.{form_row}
use Rattle.handler.proofs.first_misformed.Given as goal

abbrev pub invariant-loop-k : goal.invariant-loop-k
invariant-loop-k l = first_of (rows_by (form_row l.h l.n l.s l.q) 0 l.n) ≡ first_of (rows_by (form_row l.h l.n l.s l.q) l.k (l.n - l.k))
