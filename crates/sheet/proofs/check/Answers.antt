-- A row of the header that refuses; the check finds the other ends.
use Rattle.std.proofs.Common.{refl}
use borrow.Author.Tests.{ltb-false}
use Rattle.reasons.proofs.Rows.{passed_on}
use Rattle.sheet.proofs.Table.{check-parts}
use Rattle.sheet.proofs.check.Goals as goal

pub returns-in_err-check_header : goal.returns-in_err-check_header
returns-in_err-check_header c =
    rw (
      passed_on _ _ c.from_residual-in_err-check_header.ensures.1,
      check-parts c.args.beside c.args.s.now c.args.file c.args.start (ltb-false _ _ c.in_ok-refuse_if.ensures.passed),
      ← c.header-h.ensures,
      ← c.check_header.ensures,
      c.in_err-check_header.was,
    ) refl
