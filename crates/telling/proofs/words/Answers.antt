-- Each arm's reason has its own name and sentence.
use mathlib.Core.Path.{refl}
use Rattle.telling.proofs.words.Goals as goal

pub returns-in-Done : goal.returns-in-Done
returns-in-Done c = record { name = rw c.in-Done.is refl; expected = rw c.in-Done.is refl }

pub returns-in-Opcode : goal.returns-in-Opcode
returns-in-Opcode c = record { name = rw c.in-Opcode.is refl; expected = rw c.in-Opcode.is refl }

pub returns-in-Inputs : goal.returns-in-Inputs
returns-in-Inputs c = record { name = rw c.in-Inputs.is refl; expected = rw c.in-Inputs.is refl }

pub returns-in-Short : goal.returns-in-Short
returns-in-Short c = record { name = rw c.in-Short.is refl; expected = rw c.in-Short.is refl }

pub returns-in-Version : goal.returns-in-Version
returns-in-Version c = record { name = rw c.in-Version.is refl; expected = rw c.in-Version.is refl }

pub returns-in-Header : goal.returns-in-Header
returns-in-Header c = record { name = rw c.in-Header.is refl; expected = rw c.in-Header.is refl }

pub returns-in-Length : goal.returns-in-Length
returns-in-Length c = record { name = rw c.in-Length.is refl; expected = rw c.in-Length.is refl }

pub returns-in-File : goal.returns-in-File
returns-in-File c = record { name = rw c.in-File.is refl; expected = rw c.in-File.is refl }

pub returns-in-Spare : goal.returns-in-Spare
returns-in-Spare c = record { name = rw c.in-Spare.is refl; expected = rw c.in-Spare.is refl }

pub returns-in-Register : goal.returns-in-Register
returns-in-Register c = record { name = rw c.in-Register.is refl; expected = rw c.in-Register.is refl }

pub returns-in-Start : goal.returns-in-Start
returns-in-Start c = record { name = rw c.in-Start.is refl; expected = rw c.in-Start.is refl }

pub returns-in-Form : goal.returns-in-Form
returns-in-Form c = record { name = rw c.in-Form.is refl; expected = rw c.in-Form.is refl }

pub returns-in-Overlap : goal.returns-in-Overlap
returns-in-Overlap c = record { name = rw c.in-Overlap.is refl; expected = rw c.in-Overlap.is refl }

pub returns-in-Schedule : goal.returns-in-Schedule
returns-in-Schedule c = record { name = rw c.in-Schedule.is refl; expected = rw c.in-Schedule.is refl }

pub returns-in-Room : goal.returns-in-Room
returns-in-Room c = record { name = rw c.in-Room.is refl; expected = rw c.in-Room.is refl }

pub returns-in-Text : goal.returns-in-Text
returns-in-Text c = record { name = rw c.in-Text.is refl; expected = rw c.in-Text.is refl }

pub returns-in-Count : goal.returns-in-Count
returns-in-Count c = record { name = rw c.in-Count.is refl; expected = rw c.in-Count.is refl }

pub returns-in-Idle : goal.returns-in-Idle
returns-in-Idle c = record { name = rw c.in-Idle.is refl; expected = rw c.in-Idle.is refl }
