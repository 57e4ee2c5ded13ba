-- An output fits its buffer.
use native.Mathlib.Omega.{arith}
use Rattle.telling.proofs.Telling.{list_fits}
use Rattle.telling.proofs.write_listing.Goals as goal

pub shown-n-requires : goal.shown-n-requires
shown-n-requires c = (
  omega (arith, c.requires, c.list-answer.auto.text),
  omega arith,
  rw c.list-answer.auto.text (list_fits c.args.sheet.now c.args.text.now c.list-answer.new.text c.list-answer.result c.list-answer.ensures.text_after c.list-answer.auto.text),
)
