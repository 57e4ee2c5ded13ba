-- The lists at one byte, worked out by the checker from the definitions: the lists that must come out exact do, and lists that differ from them in one
-- word do not; and what the definitions of the status register afterwards say is what is found there.
use mathlib.Core.Path.{◌≡◌, refl, ap}
use mathlib.Core.Logic.{◌≢◌}
use mathlib.Core.List.{List, [], ◌∷◌, ◌++◌}
use Prim.Native.Nat.{ℕ, ◌-◌, ◌/◌}
use native.Mathlib.Omega.{arith}
use lib.IntN.{pos, neg_ℤ}
use Rattle.bits.specs.Bits.{zero_of, merged, carry_of, overflow_of, put_bit}
use Rattle.machine.specs.Status.{gathered, spread_out, as_read, loaded}
use Rattle.movement.specs.DataMovement.{load_q, PASS-Q}
use Rattle.movement.specs.Logical.{SIGN}
use Rattle.shifts.specs.SingleBit.{downshifted, down}
use Rattle.arithmetic.specs.Nibbles.{nibble_carries}
use Rattle.arithmetic.specs.Arithmetic.{sum}
use Rattle.arithmetic.specs.Decimal.{sum_correct}
use Rattle.multiply.specs.Multiply.{first_row, step_row, first_partial, partial, first_step, step, UMULLAST}
use Rattle.divide.specs.Divide.{SDIVFIRST, UDIVFIRST, SDIVSTEP, SDIVLAST1, UDIVSTEP, UDIVLAST, REMCORR, QUOCORR, SDIVLAST2}
use Rattle.fields.specs.BitManipulation.{put_status, EXTBIT-STAT}
use Rattle.chip.specs.declared.Word.{Word}
use Rattle.chip.specs.Glossary.{perform_of}
use Rattle.chip.specs.Lists.{State, state, read_at, store_at, step_of, execs}
use Rattle.sequence.specs.Signed.{signed, signed_long}
use Rattle.sequence.specs.Sequences.{Registers, Unread, word_of, looking, words_of, times, bits_in, code_of, multiply_opcodes, divide_opcodes, signed_multiply_opcodes, signed_divide_opcodes, single_divide_words}
use Rattle.sequence.specs.Results.{multiplied_status, divided_status}
use Rattle.sequence.specs.Decimal.{value, Side.at_A, Fields, Layout, decimal_words, summed_status}

-- register 0 with a, register 1 and the status register at zero, and q in Q
abbrev given : ℕ → ℕ → State
given a q = state (a ∷ 0 ∷ []) (record { q = q; status = loaded 0 })

-- words with the given opcodes at one byte, with register 0 at A and register 1 at B
abbrev after : List ℕ → State → State
after opcodes t = execs (words_of (code_of 1) 0 1 opcodes (λ k. record { position = 0; width = 0; carry = 0; link = 0 })) t

-- what they leave in register 1 and in Q
abbrev leaves : List ℕ → ℕ → ℕ → ℕ × ℕ
leaves opcodes a q = (read_at (after opcodes (given a q)).file 1, (after opcodes (given a q)).core.q)

-- ---- multiply: FF by FF is FE01, example i of document 01
pub multiply-leaves : leaves (multiply_opcodes 1) 0xff 0xff ≡ (0xfe, 0x01)
unfolding perform_of step_of execs read_at store_at spread_out loaded zero_of merged first_row step_row first_partial partial first_step step UMULLAST words_of times
multiply-leaves = refl

-- one UMULSTEP less: FB and 07
abbrev one_step_short : List ℕ
one_step_short = 0x5b ∷ times (bits_in 1 / 2 - 2) 0x5c (0x5d ∷ [])

pub one-step_short_fails : leaves one_step_short 0xff 0xff ≢ (0xfe, 0x01)
unfolding perform_of step_of execs read_at store_at spread_out loaded zero_of merged first_row step_row first_partial partial first_step step UMULLAST words_of times
one-step_short_fails e = let h : ◌≡◌ {A = ℕ} 0xfb 0xfe = ap (λ (p : ℕ × ℕ). p.0) e in absurd (omega arith)

-- UMULLAST left out: FF and 01
abbrev last_addition_left_out : List ℕ
last_addition_left_out = 0x5b ∷ times (bits_in 1 / 2 - 1) 0x5c []

pub last_addition_left-out_fails : leaves last_addition_left_out 0xff 0xff ≢ (0xfe, 0x01)
unfolding perform_of step_of execs read_at store_at spread_out loaded merged first_row step_row first_partial partial first_step step words_of times
last_addition_left-out_fails e = let h : ◌≡◌ {A = ℕ} 0xff 0xfe = ap (λ (p : ℕ × ℕ). p.0) e in absurd (omega arith)

-- the status register: 01 by 80 is 0080, and Z is 1, as the high half is zero
abbrev multiplied : State
multiplied = after (multiply_opcodes 1) (given 0x01 0x80)

pub status-multiplied :
    (leaves (multiply_opcodes 1) 0x01 0x80 ≡ (0x00, 0x80)) × (multiplied.core.status.z ≡ 1) ×
    (multiplied.core.status ≡ multiplied_status 8 1 (given 0x01 0x80) multiplied)
unfolding perform_of step_of execs read_at store_at spread_out loaded zero_of merged first_row step_row first_partial partial first_step step UMULLAST words_of times
status-multiplied = (refl, refl, refl)

-- ---- signed multiply: FF by FF, -1 by -1, is 0001, and 80 by 80, -128 by -128, is 4000
pub signed-multiply-leaves : (leaves (signed_multiply_opcodes 1) 0xff 0xff ≡ (0x00, 0x01)) × (leaves (signed_multiply_opcodes 1) 0x80 0x80 ≡ (0x40, 0x00))
unfolding perform_of step_of execs read_at store_at spread_out loaded merged first_row step_row first_partial partial first_step step words_of times
signed-multiply-leaves = (refl, refl)

-- one SMULSTEP less: 00 and 02
abbrev one_signed_step_short : List ℕ
one_signed_step_short = 0x5f ∷ times (bits_in 1 / 2 - 2) 0x5e []

pub one-signed-step_short_fails : leaves one_signed_step_short 0x80 0x80 ≢ (0x40, 0x00)
unfolding perform_of step_of execs read_at store_at spread_out loaded merged first_row step_row first_partial partial first_step step words_of times
one-signed-step_short_fails e = let h : ◌≡◌ {A = ℕ} 0x00 0x40 = ap (λ (p : ℕ × ℕ). p.0) e in absurd (omega arith)

-- UMULSTEP in the place of SMULSTEP, which extends A with zeros: C0 and 00
abbrev unsigned_steps : List ℕ
unsigned_steps = 0x5f ∷ times (bits_in 1 / 2 - 1) 0x5c []

pub unsigned-steps_fail : leaves unsigned_steps 0x80 0x80 ≢ (0x40, 0x00)
unfolding perform_of step_of execs read_at store_at spread_out loaded merged first_row step_row first_partial partial first_step step words_of times
unsigned-steps_fail e = let h : ◌≡◌ {A = ℕ} 0xc0 0x40 = ap (λ (p : ℕ × ℕ). p.0) e in absurd (omega arith)

-- ---- divide: FF by 10 is 0F with remainder 0F, example k, and EF by 10 is 0E with remainder 0F
pub divide-leaves : leaves (divide_opcodes 1) 0x10 0xff ≡ (0x0f, 0x0f)
unfolding perform_of step_of execs read_at store_at spread_out loaded zero_of merged carry_of overflow_of UDIVFIRST UDIVSTEP UDIVLAST REMCORR QUOCORR words_of times
divide-leaves = refl

pub divide-leaves-corrected : leaves (divide_opcodes 1) 0x10 0xef ≡ (0x0f, 0x0e)
unfolding perform_of step_of execs read_at store_at spread_out loaded zero_of merged carry_of overflow_of UDIVFIRST UDIVSTEP UDIVLAST REMCORR QUOCORR words_of times
divide-leaves-corrected = refl

-- QUOCORR in the place of REMCORR: remainder FE
abbrev quotient_corrected : List ℕ
quotient_corrected = 0x4f ∷ times (bits_in 1 - 1) 0x54 (0x55 ∷ 0x59 ∷ [])

pub quotient-corrected_fails : leaves quotient_corrected 0x10 0xef ≢ (0x0f, 0x0e)
unfolding perform_of step_of execs read_at store_at spread_out loaded zero_of merged carry_of overflow_of UDIVFIRST UDIVSTEP UDIVLAST QUOCORR words_of times
quotient-corrected_fails e = let h : ◌≡◌ {A = ℕ} 0xfe 0x0f = ap (λ (p : ℕ × ℕ). p.0) e in absurd (omega arith)

-- UDIVLAST left out: quotient 07, remainder 1F
abbrev last_step_left_out : List ℕ
last_step_left_out = 0x4f ∷ times (bits_in 1 - 1) 0x54 (0x58 ∷ [])

pub last-step-left-out_fails : leaves last_step_left_out 0x10 0xff ≢ (0x0f, 0x0f)
unfolding perform_of step_of execs read_at store_at spread_out loaded zero_of merged carry_of overflow_of UDIVFIRST UDIVSTEP REMCORR words_of times
last-step-left-out_fails e = let h : ◌≡◌ {A = ℕ} 0x1f 0x0f = ap (λ (p : ℕ × ℕ). p.0) e in absurd (omega arith)

-- the status register: E0 by 10 is 0E and 10 by 10 is 01, both with remainder 00, and Z is 0 and 1
abbrev divided : ℕ → State
divided q = after (divide_opcodes 1) (given 0x10 q)

pub status-even :
    (leaves (divide_opcodes 1) 0x10 0xe0 ≡ (0x00, 0x0e)) × ((divided 0xe0).core.status.z ≡ 0) ×
    ((divided 0xe0).core.status ≡ divided_status 8 1 (given 0x10 0xe0) (divided 0xe0))
unfolding perform_of step_of execs read_at store_at spread_out loaded zero_of merged carry_of overflow_of UDIVFIRST UDIVSTEP UDIVLAST REMCORR QUOCORR words_of times
status-even = (refl, refl, refl)

pub status-odd :
    (leaves (divide_opcodes 1) 0x10 0x10 ≡ (0x00, 0x01)) × ((divided 0x10).core.status.z ≡ 1) ×
    ((divided 0x10).core.status ≡ divided_status 8 1 (given 0x10 0x10) (divided 0x10))
unfolding perform_of step_of execs read_at store_at spread_out loaded zero_of merged carry_of overflow_of UDIVFIRST UDIVSTEP UDIVLAST REMCORR QUOCORR words_of times
status-odd = (refl, refl, refl)

-- ---- decimal: 95 + 10 is 105, and 1 is carried out of the top digit but not into it
abbrev layout : Layout
layout =
    let ignored : Fields = record { position = 0; width = 0; select = 0; carry = 0; link = 0 } in
    record { code = 1; a = 0; b = 1; y = 2; side = at_A; other = 1; z = 2; borrow = 0; fields₁ = ignored; fields₂ = ignored }

-- ADD and SUM-CORR-A
abbrev summed : State
summed = execs (decimal_words 0x42 0x48 layout) (state (0x95 ∷ 0x10 ∷ 0 ∷ []) (record { q = 0; status = loaded 0 }))

pub status-summed :
    (read_at summed.file 2 ≡ 0x05) × (summed.core.status.c ≡ 1) × (summed.core.status.v ≡ 1) ×
    (summed.core.status ≡ summed_status 2 0x95 0x10 0 0x05 (loaded 0))
unfolding perform_of step_of execs read_at store_at spread_out loaded zero_of merged carry_of overflow_of nibble_carries sum sum_correct value
status-summed = (refl, refl, refl, refl)

-- ---- signed numbers: 7F is 127, 80 is -128 and FF is -1 in one byte, whatever is above it; FFFB6C20 is -300,000 in two halves of two bytes
pub signed-values :
    (signed 8 0x7f ≡ pos 127) × (signed 8 0x12345680 ≡ neg_ℤ (pos 128)) × (signed 8 0xff ≡ neg_ℤ (pos 1)) × (signed 24 0xff ≡ pos 255) ×
    (signed_long 16 0xfffb 0x6c20 ≡ neg_ℤ (pos 300000))
signed-values = (refl, refl, refl, refl, refl)

-- ---- signed divide at one byte: dividend, divisor, remainder, quotient and zero in registers 0 to 4; what stands where the words do not look is zero
abbrev registers : Registers
registers = record { D = 1; R = 2; K = 3; O = 4 }

abbrev unread : Unread
unread = record { a = 0; b = 0; ignored = record { position = 0; width = 0; carry = 0; link = 0 } }

-- the quotient and the remainder that words leave of the dividend x and the divisor d
abbrev quotient_and_remainder : List Word → ℕ → ℕ → ℕ × ℕ
quotient_and_remainder ws x d =
    let u : State = execs ws (state (x ∷ d ∷ 0 ∷ 0 ∷ 0 ∷ []) (record { q = 0; status = loaded 0 })) in
    (read_at u.file 3, read_at u.file 2)

abbrev divide_signed : ℕ → ℕ → ℕ × ℕ
divide_signed = quotient_and_remainder (single_divide_words 1 0 registers unread unread (λ k. unread.ignored) (λ k. unread))

-- 7 by 2, 7 by -2, -7 by 2 and -7 by -2 are 3, -3, -3 and 3, with remainders of the dividend's sign; -9 by 3 and -8 by 2 leave none
pub signed-divide-leaves :
    (divide_signed 0x07 0x02 ≡ (0x03, 0x01)) × (divide_signed 0x07 0xfe ≡ (0xfd, 0x01)) × (divide_signed 0xf9 0x02 ≡ (0xfd, 0xff)) ×
    (divide_signed 0xf9 0xfe ≡ (0x03, 0xff)) × (divide_signed 0xf7 0x03 ≡ (0xfd, 0x00)) × (divide_signed 0xf8 0x02 ≡ (0xfc, 0x00))
unfolding perform_of step_of execs read_at store_at gathered spread_out as_read loaded zero_of merged carry_of overflow_of put_bit load_q PASS-Q SIGN downshifted down put_status EXTBIT-STAT SDIVFIRST SDIVSTEP SDIVLAST1 SDIVLAST2 QUOCORR REMCORR words_of times
signed-divide-leaves = (refl, refl, refl, refl, refl, refl)

-- the words of table 11-2 one after another, without its jump: of -9 by 3, which leaves no remainder, they leave -2 and -3
abbrev without_the_jump : List Word
without_the_jump =
    looking 1 0 0 0x06 unread.ignored ∷ word_of 1 0 2 0x3d unread.ignored ∷ (words_of 1 1 2 (signed_divide_opcodes 1) (λ k. unread.ignored)
    ++ (looking 1 1 2 0x5a unread.ignored ∷ word_of 1 0 3 0x05 unread.ignored ∷ word_of 1 0 3 0x59 unread.ignored ∷ word_of 1 1 2 0x58 unread.ignored ∷ []))

pub without_the_jump_fails : quotient_and_remainder without_the_jump 0xf7 0x03 ≢ (0xfd, 0x00)
unfolding perform_of step_of execs read_at store_at gathered spread_out as_read loaded zero_of merged carry_of overflow_of put_bit load_q PASS-Q SIGN downshifted down put_status EXTBIT-STAT SDIVFIRST SDIVSTEP SDIVLAST1 SDIVLAST2 QUOCORR REMCORR words_of times
without_the_jump_fails e = let h : ◌≡◌ {A = ℕ} 0xfe 0xfd = ap (λ (p : ℕ × ℕ). p.0) e in absurd (omega arith)
