-- Arithmetic instructions (tables 10-1 and 10-2) but for the decimal corrections, in opcode order. Status is of the selected bytes, but for the
-- nibble bits, which are those of the whole words (M17), on every page (M18).
use Rattle.std.specs.Prelude.{ℕ, ◌+◌, ◌-◌}
use Rattle.bits.specs.Bits.{xor, merged, not_of, carry_of, overflow_of}
use Rattle.machine.specs.declared.Inputs.{Inputs}
use Rattle.machine.specs.declared.Outputs.{Outputs}
use Rattle.machine.specs.Status.{with_c, with_v, with_nibbles}
use Rattle.machine.specs.Inputs.{bits_of, carry_in, leaving, zero_sign}
use Rattle.arithmetic.specs.Nibbles.{nibble_carries, nibble_borrows}

-- p + r + c in the selected bytes, u in the others; Z, N, C and V of the selected bytes, C inverted where i is 1; the given nibble bits
abbrev pub added : Inputs → ℕ → ℕ → ℕ → ℕ → ℕ → ℕ → Outputs
added x p r c i nibbles u =
    leaving x (merged (bits_of x) (p + r + c) u)
    (with_nibbles nibbles
    (with_v (overflow_of (bits_of x) p r c)
    (with_c (xor (carry_of (bits_of x) p r c) i)
    (zero_sign (bits_of x) (p + r + c) x.status))))

-- p + r + c, with BCD nibble carries
unfoldable pub sum : Inputs → ℕ → ℕ → ℕ → ℕ → ℕ → Outputs
sum x p r c i u = added x p r c i (nibble_carries 8 p r c) u

-- p - r where c is 1, and one less where it is 0: p, the complement of r, and c. C is the EX-OR of carryout and borrow mode (M20). With BCD
-- nibble borrows.
unfoldable pub difference : Inputs → ℕ → ℕ → ℕ → ℕ → Outputs
difference x p r c u = added x p (not_of r) c x.borrow (nibble_borrows 8 p r (1 - c)) u

-- what a page that adds names: its two operands, the carry into the adder, 1 where C is the complement of the carryout, and the unselected bytes
pub record Addition : Type 0 where
  pub first : ℕ
  pub second : ℕ
  pub carry : ℕ
  pub inverted : ℕ
  pub unselected : ℕ

abbrev pub adding : Inputs → Addition → Outputs
adding x t = sum x t.first t.second t.carry t.inverted t.unselected

-- and one that subtracts: from what, what, the carry into the adder (1 where nothing is borrowed), and the unselected bytes
pub record Subtraction : Type 0 where
  pub minuend : ℕ
  pub subtrahend : ℕ
  pub carry : ℕ
  pub unselected : ℕ

abbrev pub subtracting : Inputs → Subtraction → Outputs
subtracting x t = difference x t.minuend t.subtrahend t.carry t.unselected

-- INCR, INCR2, INCR4: the source increased by 1, 2 or 4. C is the EX-OR of carryout and borrow mode (M19).
abbrev pub increment : Inputs → ℕ → ℕ → Outputs
increment x source by = adding x (record { first = source; second = by; carry = 0; inverted = x.borrow; unselected = source })

-- DECR, DECR2, DECR4: the source decreased by 1, 2 or 4
abbrev pub decrement : Inputs → ℕ → ℕ → Outputs
decrement x source by = subtracting x (record { minuend = source; subtrahend = by; carry = 1; unselected = source })

-- NEG: the two's complement of the source, which is zero less the source
abbrev pub negate : Inputs → ℕ → Outputs
negate x source = subtracting x (record { minuend = 0; subtrahend = source; carry = 1; unselected = source })

-- 0A
abbrev pub NEG-A : Inputs → Outputs
NEG-A x = negate x x.a

-- 0B
abbrev pub NEG-B : Inputs → Outputs
NEG-B x = negate x x.b

-- 10
abbrev pub DECR-A : Inputs → Outputs
DECR-A x = decrement x x.a 1

-- 11
abbrev pub DECR-B : Inputs → Outputs
DECR-B x = decrement x x.b 1

-- 12
abbrev pub INCR-A : Inputs → Outputs
INCR-A x = increment x x.a 1

-- 13
abbrev pub INCR-B : Inputs → Outputs
INCR-B x = increment x x.b 1

-- 14
abbrev pub DECR2-A : Inputs → Outputs
DECR2-A x = decrement x x.a 2

-- 15
abbrev pub DECR2-B : Inputs → Outputs
DECR2-B x = decrement x x.b 2

-- 16
abbrev pub INCR2-A : Inputs → Outputs
INCR2-A x = increment x x.a 2

-- 17
abbrev pub INCR2-B : Inputs → Outputs
INCR2-B x = increment x x.b 2

-- 18
abbrev pub DECR4-A : Inputs → Outputs
DECR4-A x = decrement x x.a 4

-- 19
abbrev pub DECR4-B : Inputs → Outputs
DECR4-B x = decrement x x.b 4

-- 1A
abbrev pub INCR4-A : Inputs → Outputs
INCR4-A x = increment x x.a 4

-- 1B
abbrev pub INCR4-B : Inputs → Outputs
INCR4-B x = increment x x.b 4

-- the carry that SUBC and SUBRC take in, macro or micro, is inverted before it enters the adder in borrow mode (M20)
abbrev pub borrow_in : Inputs → ℕ
borrow_in x = xor (carry_in x) x.borrow

-- 42. Carry is generated regardless of the state of borrow mode (M19).
abbrev pub ADD : Inputs → Outputs
ADD x = adding x (record { first = x.a; second = x.b; carry = 0; inverted = 0; unselected = x.b })

-- 43
abbrev pub ADDC : Inputs → Outputs
ADDC x = adding x (record { first = x.a; second = x.b; carry = carry_in x; inverted = 0; unselected = x.b })

-- 44
abbrev pub SUB : Inputs → Outputs
SUB x = subtracting x (record { minuend = x.a; subtrahend = x.b; carry = 1; unselected = x.b })

-- 45
abbrev pub SUBC : Inputs → Outputs
SUBC x = subtracting x (record { minuend = x.a; subtrahend = x.b; carry = borrow_in x; unselected = x.b })

-- 46
abbrev pub SUBR : Inputs → Outputs
SUBR x = subtracting x (record { minuend = x.b; subtrahend = x.a; carry = 1; unselected = x.b })

-- 47
abbrev pub SUBRC : Inputs → Outputs
SUBRC x = subtracting x (record { minuend = x.b; subtrahend = x.a; carry = borrow_in x; unselected = x.b })
