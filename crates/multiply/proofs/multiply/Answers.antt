-- Each arm's call gives the entry of `multiplies` at its number, and the default's the last entry. Written by tools/dispatch_proofs.py.
use mathlib.Core.Path.{refl}
use Rattle.std.proofs.Common.{arith}
use Rattle.bits.proofs.Rest.{last_entry_past}
use Rattle.multiply.specs.Multiply.{multiplies, SMULFIRST}
use Rattle.multiply.proofs.multiply.Goals as goal

pub returns-in-0 : goal.returns-in-0
returns-in-0 c = rw c.in-0.is (cc)

pub returns-in-1 : goal.returns-in-1
returns-in-1 c = rw c.in-1.is (cc)

pub returns-in-2 : goal.returns-in-2
returns-in-2 c = rw c.in-2.is c.last.ensures

pub returns-in-3 : goal.returns-in-3
returns-in-3 c = rw c.in-3.is (cc)

pub returns-in_default : goal.returns-in_default
returns-in_default c = rw (last_entry_past multiplies SMULFIRST 4 c.args.k refl (omega arith)) (cc)
