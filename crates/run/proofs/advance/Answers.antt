-- One step, counted.
use Rattle.run.proofs.Laws.{went_one}
use Rattle.run.proofs.advance.Goals as goal

pub returns : goal.returns
returns c = went_one _ c.args.file.now c.args.going _ _ c.step_at-shown.ensures
