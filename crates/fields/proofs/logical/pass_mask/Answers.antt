-- The sixth position bit is the position's half above 32.
use Rattle.fields.specs.Field.{PASS-MASK}
use Rattle.fields.proofs.logical.pass_mask.Goals as goal

pub returns : goal.returns
unfolding PASS-MASK
returns c = rw (c.choose.ensures, c.aligned_field-field.ensures, c.position.ensures.0)
