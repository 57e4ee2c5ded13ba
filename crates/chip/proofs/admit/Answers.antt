-- What the test of the inputs passes stands soundly at the chip.
use Rattle.chip.proofs.Range.{in_range}
use Rattle.chip.proofs.admit.Goals as goal

pub answer-requires : goal.answer-requires
answer-requires c = (c.requires, in_range c.args.s (cc))
