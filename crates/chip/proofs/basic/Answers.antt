-- Each arm's call gives the entry of `basics` at its number, and the default's the last entry. Written by tools/dispatch_proofs.py.
use mathlib.Core.Path.{refl}
use Rattle.std.proofs.Common.{arith}
use Rattle.bits.proofs.Rest.{last_entry_past}
use Rattle.arithmetic.specs.Arithmetic.{SUBRC}
use Rattle.chip.specs.Operations.{basics}
use Rattle.chip.proofs.basic.Goals as goal

pub returns-in-0 : goal.returns-in-0
returns-in-0 c = rw c.in-0.is c.zero_extend.ensures

pub returns-in-1 : goal.returns-in-1
returns-in-1 c = rw c.in-1.is c.zero_extend-in-1.ensures

pub returns-in-2 : goal.returns-in-2
returns-in-2 c = rw c.in-2.is c.sign_extend.ensures

pub returns-in-3 : goal.returns-in-3
returns-in-3 c = rw c.in-3.is c.sign_extend-in-3.ensures

pub returns-in-4 : goal.returns-in-4
returns-in-4 c = rw c.in-4.is c.pass_status.ensures

pub returns-in-5 : goal.returns-in-5
returns-in-5 c = rw c.in-5.is c.pass_q.ensures

pub returns-in-6 : goal.returns-in-6
returns-in-6 c = rw c.in-6.is c.load_q.ensures

pub returns-in-7 : goal.returns-in-7
returns-in-7 c = rw c.in-7.is c.load_q-in-7.ensures

pub returns-in-8 : goal.returns-in-8
returns-in-8 c = rw c.in-8.is c.not.ensures

pub returns-in-9 : goal.returns-in-9
returns-in-9 c = rw c.in-9.is c.not-in-9.ensures

pub returns-in-10 : goal.returns-in-10
returns-in-10 c = rw c.in-10.is c.negate.ensures

pub returns-in-11 : goal.returns-in-11
returns-in-11 c = rw c.in-11.is c.negate-in-11.ensures

pub returns-in-12 : goal.returns-in-12
returns-in-12 c = rw c.in-12.is c.prioritize.ensures

pub returns-in-13 : goal.returns-in-13
returns-in-13 c = rw c.in-13.is c.prioritize-in-13.ensures

pub returns-in-14 : goal.returns-in-14
returns-in-14 c = rw c.in-14.is c.merge.ensures

pub returns-in-15 : goal.returns-in-15
returns-in-15 c = rw c.in-15.is c.merge-in-15.ensures

pub returns-in-16 : goal.returns-in-16
returns-in-16 c = rw c.in-16.is c.decrement.ensures

pub returns-in-17 : goal.returns-in-17
returns-in-17 c = rw c.in-17.is c.decrement-in-17.ensures

pub returns-in-18 : goal.returns-in-18
returns-in-18 c = rw c.in-18.is c.increment.ensures

pub returns-in-19 : goal.returns-in-19
returns-in-19 c = rw c.in-19.is c.increment-in-19.ensures

pub returns-in-20 : goal.returns-in-20
returns-in-20 c = rw c.in-20.is c.decrement-in-20.ensures

pub returns-in-21 : goal.returns-in-21
returns-in-21 c = rw c.in-21.is c.decrement-in-21.ensures

pub returns-in-22 : goal.returns-in-22
returns-in-22 c = rw c.in-22.is c.increment-in-22.ensures

pub returns-in-23 : goal.returns-in-23
returns-in-23 c = rw c.in-23.is c.increment-in-23.ensures

pub returns-in-24 : goal.returns-in-24
returns-in-24 c = rw c.in-24.is c.decrement-in-24.ensures

pub returns-in-25 : goal.returns-in-25
returns-in-25 c = rw c.in-25.is c.decrement-in-25.ensures

pub returns-in-26 : goal.returns-in-26
returns-in-26 c = rw c.in-26.is c.increment-in-26.ensures

pub returns-in-27 : goal.returns-in-27
returns-in-27 c = rw c.in-27.is c.increment-in-27.ensures

pub returns-in-28 : goal.returns-in-28
returns-in-28 c = rw c.in-28.is c.load_status.ensures

pub returns-in-29 : goal.returns-in-29
returns-in-29 c = rw c.in-29.is c.load_status-in-29.ensures

pub returns-in-30 : goal.returns-in-30
returns-in-30 c = rw c.in-30.is c.zero.ensures

pub returns-in-31 : goal.returns-in-31
returns-in-31 c = rw c.in-31.is c.sign.ensures

pub returns-in-32 : goal.returns-in-32
returns-in-32 c = rw c.in-32.is c.or.ensures

pub returns-in-33 : goal.returns-in-33
returns-in-33 c = rw c.in-33.is c.xor.ensures

pub returns-in-34 : goal.returns-in-34
returns-in-34 c = rw c.in-34.is c.and.ensures

pub returns-in-35 : goal.returns-in-35
returns-in-35 c = rw c.in-35.is c.xnor.ensures

pub returns-in-36 : goal.returns-in-36
returns-in-36 c = rw c.in-36.is c.add.ensures

pub returns-in-37 : goal.returns-in-37
returns-in-37 c = rw c.in-37.is c.add_with_carry.ensures

pub returns-in-38 : goal.returns-in-38
returns-in-38 c = rw c.in-38.is c.subtract.ensures

pub returns-in-39 : goal.returns-in-39
returns-in-39 c = rw c.in-39.is c.subtract_with_carry.ensures

pub returns-in-40 : goal.returns-in-40
returns-in-40 c = rw c.in-40.is c.subtract_reverse.ensures

pub returns-in_default : goal.returns-in_default
returns-in_default c = rw (last_entry_past basics SUBRC 41 c.args.k refl (omega arith)) c.subtract_reverse_with_carry.ensures
