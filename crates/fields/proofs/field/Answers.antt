-- Each arm's call gives the entry of `fields` at its number, and the default's the last entry. Written by tools/dispatch_proofs.py.
use mathlib.Core.Path.{refl}
use Rattle.std.proofs.Common.{arith}
use Rattle.bits.proofs.Rest.{last_entry_past}
use Rattle.fields.specs.Field.{fields, PASS-MASK}
use Rattle.fields.proofs.field.Goals as goal

pub returns-in-0 : goal.returns-in-0
returns-in-0 c = rw c.in-0.is (cc)

pub returns-in-1 : goal.returns-in-1
returns-in-1 c = rw c.in-1.is (cc)

pub returns-in-2 : goal.returns-in-2
returns-in-2 c = rw c.in-2.is c.shift-in-2.ensures

pub returns-in-3 : goal.returns-in-3
returns-in-3 c = rw c.in-3.is c.shift-in-3.ensures

pub returns-in-4 : goal.returns-in-4
returns-in-4 c = rw c.in-4.is c.rotate.ensures

pub returns-in-5 : goal.returns-in-5
returns-in-5 c = rw c.in-5.is c.rotate-in-5.ensures

pub returns-in-6 : goal.returns-in-6
returns-in-6 c = rw c.in-6.is c.extract.ensures

pub returns-in-7 : goal.returns-in-7
returns-in-7 c = rw c.in-7.is c.extract-in-7.ensures

pub returns-in-8 : goal.returns-in-8
returns-in-8 c = rw c.in-8.is c.set.ensures

pub returns-in-9 : goal.returns-in-9
returns-in-9 c = rw c.in-9.is c.set-in-9.ensures

pub returns-in-10 : goal.returns-in-10
returns-in-10 c = rw c.in-10.is c.reset.ensures

pub returns-in-11 : goal.returns-in-11
returns-in-11 c = rw c.in-11.is c.reset-in-11.ensures

pub returns-in-12 : goal.returns-in-12
returns-in-12 c = rw c.in-12.is c.set_status.ensures

pub returns-in-13 : goal.returns-in-13
returns-in-13 c = rw c.in-13.is c.reset_status.ensures

pub returns-in-14 : goal.returns-in-14
returns-in-14 c = rw c.in-14.is c.aligned.ensures

pub returns-in-15 : goal.returns-in-15
returns-in-15 c = rw c.in-15.is c.aligned-in-15.ensures

pub returns-in-16 : goal.returns-in-16
returns-in-16 c = rw c.in-16.is (cc)

pub returns-in-17 : goal.returns-in-17
returns-in-17 c = rw c.in-17.is c.aligned-in-17.ensures

pub returns-in-18 : goal.returns-in-18
returns-in-18 c = rw c.in-18.is (cc)

pub returns-in-19 : goal.returns-in-19
returns-in-19 c = rw c.in-19.is c.aligned-in-19.ensures

pub returns-in-20 : goal.returns-in-20
returns-in-20 c = rw c.in-20.is (cc)

pub returns-in-21 : goal.returns-in-21
returns-in-21 c = rw c.in-21.is c.aligned-in-21.ensures

pub returns-in-22 : goal.returns-in-22
returns-in-22 c = rw c.in-22.is (cc)

pub returns-in-23 : goal.returns-in-23
returns-in-23 c = rw c.in-23.is c.aligned-in-23.ensures

pub returns-in-24 : goal.returns-in-24
returns-in-24 c = rw c.in-24.is (cc)

pub returns-in-25 : goal.returns-in-25
returns-in-25 c = rw c.in-25.is c.aligned-in-25.ensures

pub returns-in-26 : goal.returns-in-26
returns-in-26 c = rw c.in-26.is c.extract-in-26.ensures

pub returns-in-27 : goal.returns-in-27
returns-in-27 c = rw c.in-27.is c.extract-in-27.ensures

pub returns-in-28 : goal.returns-in-28
returns-in-28 c = rw c.in-28.is c.extract_pair.ensures

pub returns-in-29 : goal.returns-in-29
returns-in-29 c = rw c.in-29.is c.extract_pair-in-29.ensures

pub returns-in-30 : goal.returns-in-30
returns-in-30 c = rw c.in-30.is c.extract_status.ensures

pub returns-in_default : goal.returns-in_default
returns-in_default c = rw (last_entry_past fields PASS-MASK 31 c.args.k refl (omega arith)) c.pass_mask.ensures
