-- Each arm's call gives the entry of `divides` at its number, and the default's the last entry. Written by tools/dispatch_proofs.py.
use mathlib.Core.Path.{refl}
use Rattle.std.proofs.Common.{arith}
use Rattle.bits.proofs.Rest.{last_entry_past}
use Rattle.divide.specs.Divide.{divides, SDIVLAST2}
use Rattle.divide.proofs.divide.Goals as goal

pub returns-in-0 : goal.returns-in-0
returns-in-0 c = rw c.in-0.is c.signed_first.ensures

pub returns-in-1 : goal.returns-in-1
returns-in-1 c = rw c.in-1.is c.unsigned_first.ensures

pub returns-in-2 : goal.returns-in-2
returns-in-2 c = rw c.in-2.is c.signed_step.ensures

pub returns-in-3 : goal.returns-in-3
returns-in-3 c = rw c.in-3.is c.signed_last_1.ensures

pub returns-in-4 : goal.returns-in-4
returns-in-4 c = rw c.in-4.is c.multiprecision_step_1.ensures

pub returns-in-5 : goal.returns-in-5
returns-in-5 c = rw c.in-5.is c.multiprecision_signed_step_3.ensures

pub returns-in-6 : goal.returns-in-6
returns-in-6 c = rw c.in-6.is c.unsigned_step.ensures

pub returns-in-7 : goal.returns-in-7
returns-in-7 c = rw c.in-7.is c.unsigned_last.ensures

pub returns-in-8 : goal.returns-in-8
returns-in-8 c = rw c.in-8.is c.multiprecision_step_2.ensures

pub returns-in-9 : goal.returns-in-9
returns-in-9 c = rw c.in-9.is c.multiprecision_unsigned_step_3.ensures

pub returns-in-10 : goal.returns-in-10
returns-in-10 c = rw c.in-10.is c.correct_remainder.ensures

pub returns-in-11 : goal.returns-in-11
returns-in-11 c = rw c.in-11.is c.correct_quotient.ensures

pub returns-in_default : goal.returns-in_default
returns-in_default c = rw (last_entry_past divides SDIVLAST2 12 c.args.k refl (omega arith)) c.signed_last_2.ensures
