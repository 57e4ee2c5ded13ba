-- What is listed fits.
use Rattle.telling.proofs.Telling.{list_fits}
use Rattle.listings.proofs.listed.Goals as goal

pub returns : goal.returns
returns c = list_fits c.args.sheet.now c.args.text.now c.list.new.text c.list.result c.list.ensures.text_after c.list.auto.text
