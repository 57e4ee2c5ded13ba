-- The handler's check as numbers.
use Rattle.am29332.proofs.am29332_check_handler.Goals as goal

pub returns : goal.returns
returns c = rw (c.numbered_check.ensures, c.check_handler.ensures.value)
