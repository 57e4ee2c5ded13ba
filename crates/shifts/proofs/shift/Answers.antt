-- Each arm's call gives the entry of `shifts` at its number, and the default's the last entry. Written by tools/dispatch_proofs.py.
use mathlib.Core.Path.{refl}
use Rattle.std.proofs.Common.{arith}
use Rattle.bits.proofs.Rest.{last_entry_past}
use Rattle.shifts.specs.SingleBit.{shifts, UP1-LF-BQ}
use Rattle.shifts.proofs.shift.Goals as goal

pub returns-in-0 : goal.returns-in-0
returns-in-0 c = rw c.in-0.is c.down.ensures

pub returns-in-1 : goal.returns-in-1
returns-in-1 c = rw c.in-1.is c.down-in-1.ensures

pub returns-in-2 : goal.returns-in-2
returns-in-2 c = rw c.in-2.is c.down_over_q.ensures

pub returns-in-3 : goal.returns-in-3
returns-in-3 c = rw c.in-3.is c.down_over_q-in-3.ensures

pub returns-in-4 : goal.returns-in-4
returns-in-4 c = rw c.in-4.is c.down-in-4.ensures

pub returns-in-5 : goal.returns-in-5
returns-in-5 c = rw c.in-5.is c.down-in-5.ensures

pub returns-in-6 : goal.returns-in-6
returns-in-6 c = rw c.in-6.is c.down_over_q-in-6.ensures

pub returns-in-7 : goal.returns-in-7
returns-in-7 c = rw c.in-7.is c.down_over_q-in-7.ensures

pub returns-in-8 : goal.returns-in-8
returns-in-8 c = rw c.in-8.is (cc)

pub returns-in-9 : goal.returns-in-9
returns-in-9 c = rw c.in-9.is (cc)

pub returns-in-10 : goal.returns-in-10
returns-in-10 c = rw c.in-10.is (cc)

pub returns-in-11 : goal.returns-in-11
returns-in-11 c = rw c.in-11.is (cc)

pub returns-in-12 : goal.returns-in-12
returns-in-12 c = rw c.in-12.is c.down_arithmetic.ensures

pub returns-in-13 : goal.returns-in-13
returns-in-13 c = rw c.in-13.is c.down_arithmetic-in-13.ensures

pub returns-in-14 : goal.returns-in-14
returns-in-14 c = rw c.in-14.is c.down_arithmetic_over_q.ensures

pub returns-in-15 : goal.returns-in-15
returns-in-15 c = rw c.in-15.is c.down_arithmetic_over_q-in-15.ensures

pub returns-in-16 : goal.returns-in-16
returns-in-16 c = rw c.in-16.is c.up.ensures

pub returns-in-17 : goal.returns-in-17
returns-in-17 c = rw c.in-17.is c.up-in-17.ensures

pub returns-in-18 : goal.returns-in-18
returns-in-18 c = rw c.in-18.is c.up_over_q.ensures

pub returns-in-19 : goal.returns-in-19
returns-in-19 c = rw c.in-19.is c.up_over_q-in-19.ensures

pub returns-in-20 : goal.returns-in-20
returns-in-20 c = rw c.in-20.is c.up-in-20.ensures

pub returns-in-21 : goal.returns-in-21
returns-in-21 c = rw c.in-21.is c.up-in-21.ensures

pub returns-in-22 : goal.returns-in-22
returns-in-22 c = rw c.in-22.is c.up_over_q-in-22.ensures

pub returns-in-23 : goal.returns-in-23
returns-in-23 c = rw c.in-23.is c.up_over_q-in-23.ensures

pub returns-in-24 : goal.returns-in-24
returns-in-24 c = rw c.in-24.is c.up-in-24.ensures

pub returns-in-25 : goal.returns-in-25
returns-in-25 c = rw c.in-25.is c.up-in-25.ensures

pub returns-in-26 : goal.returns-in-26
returns-in-26 c = rw c.in-26.is c.up_over_q-in-26.ensures

pub returns-in_default : goal.returns-in_default
returns-in_default c = rw (last_entry_past shifts UP1-LF-BQ 27 c.args.k refl (omega arith)) c.up_over_q-in_default.ensures
