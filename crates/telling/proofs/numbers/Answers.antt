-- Each place is a digit of its number, or a blank.
use Rattle.telling.proofs.Telling.{numbers_are}
use Rattle.telling.proofs.numbers.Goals as goal

pub returns : goal.returns
returns c = numbers_are _ _ c.args.reason _ c.args.place c.number.ensures c.decimal-n.ensures c.hex-p.ensures
