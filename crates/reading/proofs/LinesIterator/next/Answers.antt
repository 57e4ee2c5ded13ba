-- The first line is taken, and those after it are left.
use mathlib.Core.Path.{sym, ap}
use native.Mathlib.Omega.{arith}
use borrow.Author.Tests.{eqb-true, eqb-false}
use lib.ListN.{length}
use lib.Seq.{length-take-le}
use Rattle.reading.proofs.FirstLine.{line_within, no_line, line_taken}
use Rattle.reading.proofs.LinesIterator.next.Goals as goal

pub returns-then-is_empty-clause-steps : goal.returns-then-is_empty-clause-steps
returns-then-is_empty-clause-steps c = let e = no_line c.args.self.now.0.now (eqb-true _ 0 (sym c.if-is_empty.ensures)) in (e, e)

pub overflow_add-end : goal.overflow_add-end
overflow_add-end c = let w = c.well_formed in omega (arith, line_within c.args.self.now.0.now c.line_end-end.ensures)

pub slice_bounds-result-end : goal.slice_bounds-result-end
slice_bounds-result-end c = sym (length-take-le _ c.args.self.now.0.now (line_within c.args.self.now.0.now c.line_end-end.ensures))

pub returns : goal.returns
returns c =
    let e = line_taken c.args.self.now.0.now (eqb-false _ 0 (sym c.if-is_empty.ensures)) c.line_end-end.ensures c.min.ensures in
    record { steps = e; goes = record { on = λ h. (tt, tt, omega (arith, ap length e)); keeps = tt; rests = λ h. tt } }
