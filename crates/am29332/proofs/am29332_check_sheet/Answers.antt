-- The sheet's check as numbers.
use Rattle.am29332.proofs.am29332_check_sheet.Goals as goal

pub returns : goal.returns
returns c = rw (c.numbered_check.ensures, c.check_sheet.ensures.value)
