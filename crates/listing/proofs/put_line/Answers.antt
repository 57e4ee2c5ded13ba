-- The mnemonic in its column, the numbers, the switches, the line feed, one after another.
use Prim.Native.Nat.{◌≤◌}
use native.Mathlib.Omega.{arith}
use lib.ListN.{length}
use Rattle.text.proofs.Fill.{added_as, added_on}
use Rattle.listing.proofs.put_line.Goals as goal

pub returns : goal.returns
returns c = let h : c.args.at ≤ length c.args.text.now = omega (arith, c.requires.1) in
    added_on h (added_on h (added_on h (added_as c.column-name.ensures c.put-column.ensures) (added_as c.numbers-six.ensures c.put-switches.ensures)) c.put_switches-end.ensures) c.put.ensures
