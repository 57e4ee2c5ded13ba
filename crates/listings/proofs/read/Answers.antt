-- What is read fits.
use Rattle.telling.proofs.Telling.{read_fits}
use Rattle.listings.proofs.read.Goals as goal

pub returns : goal.returns
returns c = read_fits c.args.text.now c.args.sheet.now c.read.new.sheet c.read.result c.read.ensures.sheet_after c.read.auto.sheet
