-- Nothing, or its four parts one after another.
use Prim.Native.Nat.{◌≤◌}
use native.Mathlib.Omega.{arith}
use lib.ListN.{length}
use mathlib.Core.Path.{ap}
use mathlib.Core.Bool.{not}
use Rattle.text.proofs.Fill.{added_as, added_on}
use Rattle.telling.proofs.Telling.{place_on}
use Rattle.telling.proofs.put_place.Goals as goal

pub returns : goal.returns
returns c = let h : c.args.at ≤ length c.args.text.now = omega (arith, c.requires) in
    added_as (place_on c.args.counted.now c.args.place _ _ c.is_placed.ensures (ap not c.if-not-is_placed.false))
    (added_on h (added_on h (added_on h c.put-what.ensures c.put-blank.ensures) c.put-number.ensures) c.put_plain.ensures)
