-- Each arm's call gives the entry of `decimals` at its number, and the default's the last entry. Written by tools/dispatch_proofs.py.
use mathlib.Core.Path.{refl}
use Rattle.std.proofs.Common.{arith}
use Rattle.bits.proofs.Rest.{last_entry_past}
use Rattle.arithmetic.specs.Decimal.{decimals, DIFF-CORR-B}
use Rattle.arithmetic.proofs.decimal.Goals as goal

pub returns-in-0 : goal.returns-in-0
returns-in-0 c = rw c.in-0.is c.sum_correct.ensures

pub returns-in-1 : goal.returns-in-1
returns-in-1 c = rw c.in-1.is c.sum_correct-in-1.ensures

pub returns-in-2 : goal.returns-in-2
returns-in-2 c = rw c.in-2.is c.diff_correct.ensures

pub returns-in_default : goal.returns-in_default
returns-in_default c = rw (last_entry_past decimals DIFF-CORR-B 3 c.args.k refl (omega arith)) c.diff_correct-in_default.ensures
