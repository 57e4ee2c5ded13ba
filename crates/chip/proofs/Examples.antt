-- The lettered examples of document 01, a to m, worked out by the checker from the definitions: one set, one claim. Each starts from a Q, a status
-- register and a register for Y that differ from what is stated, so that a word which stores nothing misses it.
use mathlib.Core.Path.{◌≡◌, refl}
use mathlib.Core.List.{List, [], ◌∷◌, ◌++◌}
use Prim.Native.Nat.{ℕ, zero, suc}
use lib.Count.{count_leading_zeros}
use Rattle.bits.specs.Bits.{zero_of, merged, carry_of, overflow_of, rotated_up, field_mask, priority_of}
use Rattle.machine.specs.Status.{gathered, spread_out, as_read, loaded}
use Rattle.movement.specs.DataMovement.{PASS-STAT, load_status}
use Rattle.movement.specs.Prioritize.{prioritize}
use Rattle.arithmetic.specs.Nibbles.{nibble_carries}
use Rattle.arithmetic.specs.Arithmetic.{sum}
use Rattle.arithmetic.specs.Decimal.{sum_correct}
use Rattle.multiply.specs.Multiply.{first_row, step_row, first_partial, partial, first_step, step, UMULLAST}
use Rattle.divide.specs.Divide.{UDIVFIRST, UDIVSTEP, UDIVLAST, REMCORR}
use Rattle.fields.specs.Field.{in_field, PASS-MASK}
use Rattle.chip.specs.declared.Word.{Word}
use Rattle.chip.specs.Glossary.{perform_of}
use Rattle.chip.specs.Lists.{State, state, read_at, store_at, step_of, execs}

-- a word: opcode, byte code, position, width, registers A and B, and Y, which is written; no switch
abbrev word : ℕ → ℕ → ℕ → ℕ → ℕ → ℕ → ℕ → Word
word opcode code position width a b y =
    record { opcode = opcode; code = code; position = position; width = width; a = a; b = b; y = y; write = 1; select = 0; carry = 0; link = 0; borrow = 0 }

abbrev times : ℕ → Word → List Word
times zero w = []
times (suc k) w = w ∷ times k w

-- a list of words from the given status register, on three registers, with the given values in the first two and in Q
abbrev from : ℕ → List Word → ℕ → ℕ → ℕ → State
from before ws a b q = execs ws (state (a ∷ b ∷ 0 ∷ []) (record { q = q; status = loaded before }))

-- from the status register at zero
abbrev after : List Word → ℕ → ℕ → ℕ → State
after ws a b q = from 0 ws a b q

-- a field operation on A and B, Y to register 2
abbrev field : ℕ → ℕ → ℕ → ℕ → ℕ → State
field opcode position width a b = after (word opcode 0 position width 0 1 2 ∷ []) a b 0

-- a byte operation of one word on A and B, Y to register 2, from the given status register
abbrev bytes_from : ℕ → ℕ → ℕ → ℕ → ℕ → State
bytes_from before opcode code a b = from before (word opcode code 0 0 0 1 2 ∷ []) a b 0

abbrev bytes : ℕ → ℕ → ℕ → ℕ → State
bytes opcode code a b = bytes_from 0 opcode code a b

abbrev y_of : State → ℕ
y_of t = read_at t.file 2

abbrev b_of : State → ℕ
b_of t = read_at t.file 1

-- the sequences: UMULFIRST, n / 2 - 1 UMULSTEP, UMULLAST; UDIVFIRST, n - 1 UDIVSTEP, UDIVLAST, REMCORR; A in register 0, B in register 1
abbrev multiply : ℕ → ℕ → List Word
multiply code steps = word 0x5b code 0 0 0 1 1 ∷ (times steps (word 0x5c code 0 0 0 1 1) ++ (word 0x5d code 0 0 0 1 1 ∷ []))

abbrev divide : ℕ → ℕ → List Word
divide code steps =
    word 0x4f code 0 0 0 1 1 ∷ (times steps (word 0x54 code 0 0 0 1 1) ++ (word 0x55 code 0 0 0 1 1 ∷ word 0x58 code 0 0 0 1 1 ∷ []))

-- ADD, one byte, then SUM-CORR-A of its Y
abbrev decimal : List Word
decimal = word 0x42 1 0 0 0 1 2 ∷ word 0x48 1 0 0 2 1 2 ∷ []

-- LDSTAT-A, then PASS-STAT
abbrev status : List Word
status = word 0x1c 0 0 0 0 1 2 ∷ word 0x04 0 0 0 0 1 2 ∷ []

-- what comes out, and what document 01 says of it
pub record Example : Type 0 where
  pub given : ℕ
  pub stated : ℕ

abbrev shows : ℕ → ℕ → Example
shows given stated = record { given = given; stated = stated }

abbrev pub lettered : List Example
lettered =
    -- a, b, c: PASS-MASK
    shows (y_of (field 0x7f 0x1e 4 0 0)) 0xc000_0000
    ∷ shows (y_of (field 0x7f 0x3e 4 0 0)) 0x3fff_ffff
    ∷ shows (y_of (field 0x7f 4 0 0 0)) 0xffff_fff0
    -- d: NOT-A, from N 0 and Z 1
    ∷ shows (y_of (bytes 0x08 2 0x1234_5678 0)) 0x1234_a987
    ∷ shows (bytes_from 0x0008_0000 0x08 2 0x1234_5678 0).core.status.n 1
    ∷ shows (bytes_from 0x0008_0000 0x08 2 0x1234_5678 0).core.status.z 0
    -- e: prioritize, from position FF with Z 1, and with Z 0
    ∷ shows (bytes_from 0x0008_00ff 0x0c 2 0x0000_8000 0).core.status.position 0
    ∷ shows (bytes_from 0x0008_00ff 0x0c 2 0x0000_8000 0).core.status.z 0
    ∷ shows (bytes_from 0x0000_00ff 0x0c 2 0x0001_0000 0).core.status.position 0
    ∷ shows (bytes_from 0x0000_00ff 0x0c 2 0x0001_0000 0).core.status.z 1
    -- f: NOTF-A
    ∷ shows (y_of (field 0x70 0x02 0 0x1234_5678 0x9abc_def0)) 0xb72e_a61c
    ∷ shows (y_of (field 0x70 0x3e 0 0x1234_5678 0x9abc_def0)) 0xfb72_ea61
    -- g: PASSF-A
    ∷ shows (y_of (field 0x72 0x3c 8 0x1234_5678 0xffff_ff00)) 0xffff_ff67
    -- h: LDSTAT-A, PASS-STAT
    ∷ shows (y_of (after status 0xffff_ffff 0 0)) 0xff7f_bfff
    -- i, j: multiply, from M 1, which the first step does not look at
    ∷ shows (b_of (from 0x0020_0000 (multiply 1 3) 0xff 0 0xff)) 0xfe
    ∷ shows (from 0x0020_0000 (multiply 1 3) 0xff 0 0xff).core.q 0x01
    ∷ shows (b_of (from 0x0020_0000 (multiply 0 15) 0xffff_ffff 0 0xffff_ffff)) 0xffff_fffe
    ∷ shows (from 0x0020_0000 (multiply 0 15) 0xffff_ffff 0 0xffff_ffff).core.q 0x0000_0001
    -- k: divide, from M 0 and S 1, which the first step sets and resets
    ∷ shows (from 0x0040_0000 (divide 1 7) 0x10 0 0xff).core.q 0x0f
    ∷ shows (b_of (from 0x0040_0000 (divide 1 7) 0x10 0 0xff)) 0x0f
    -- l: decimal 55 + 55, before and after the correction
    ∷ shows (y_of (bytes 0x42 1 0x55 0x55)) 0xaa
    ∷ shows (y_of (after decimal 0x55 0x55 0)) 0x10
    ∷ shows (after decimal 0x55 0x55 0).core.status.c 1
    -- m: decimal 95 + 05
    ∷ shows (y_of (bytes 0x42 1 0x95 0x05)) 0x9a
    ∷ shows (y_of (after decimal 0x95 0x05 0)) 0x00
    ∷ shows (after decimal 0x95 0x05 0).core.status.c 1
    ∷ shows (after decimal 0x95 0x05 0).core.status.z 1
    ∷ []

abbrev pub all_given : List Example → List ℕ
all_given [] = []
all_given (e ∷ es) = e.given ∷ all_given es

abbrev pub all_stated : List Example → List ℕ
all_stated [] = []
all_stated (e ∷ es) = e.stated ∷ all_stated es

pub lettered_examples : all_given lettered ≡ all_stated lettered
unfolding perform_of step_of execs read_at store_at gathered spread_out as_read loaded zero_of merged carry_of overflow_of rotated_up field_mask priority_of count_leading_zeros PASS-STAT load_status prioritize nibble_carries sum sum_correct first_row step_row first_partial partial first_step step UMULLAST UDIVFIRST UDIVSTEP UDIVLAST REMCORR in_field PASS-MASK
lettered_examples = refl
