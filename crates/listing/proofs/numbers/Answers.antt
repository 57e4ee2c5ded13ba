-- Each number stands in its place of the template.
use mathlib.Core.Path.{refl}
use Rattle.listing.specs.Lines.{numbers_of}
use Rattle.listing.proofs.numbers.Goals as goal

pub returns : goal.returns
unfolding numbers_of
returns c =
    rw (
      c.put-6.ensures.put.bytes,
      c.put-5.ensures.put.bytes,
      c.put-4.ensures.put.bytes,
      c.put-3.ensures.put.bytes,
      c.put-2.ensures.put.bytes,
      c.put.ensures.put.bytes,
      c.decimal-6.ensures,
      c.decimal-5.ensures,
      c.decimal-4.ensures,
      c.decimal-3.ensures,
      c.decimal-2.ensures,
      c.decimal.ensures,
    )
    refl
