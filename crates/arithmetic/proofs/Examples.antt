-- Worked examples of appendix A, and sums at the edge of three bytes, computed from the definitions: one set, one claim.
use mathlib.Core.Path.{◌≡◌, refl}
use mathlib.Core.List.{List, [], ◌∷◌}
use Prim.Native.Nat.{ℕ}
use Rattle.bits.specs.Bits.{zero_of, merged, carry_of, overflow_of}
use Rattle.machine.specs.declared.Status.{Status}
use Rattle.machine.specs.declared.Inputs.{Inputs}
use Rattle.machine.specs.declared.Outputs.{Outputs}
use Rattle.machine.specs.Status.{spread_out, loaded, with_c}
use Rattle.arithmetic.specs.Nibbles.{nibble_carries, nibble_borrows}
use Rattle.arithmetic.specs.Arithmetic.{sum, difference, INCR-A, ADD, ADDC, SUB}
use Rattle.arithmetic.specs.Decimal.{sum_correct, diff_correct, SUM-CORR-A, DIFF-CORR-A}

-- a byte code, the borrow switch, the status register, A and B
abbrev at : ℕ → ℕ → Status → ℕ → ℕ → Inputs
at code borrow s a b =
    record { code = code; position = 0; width = 0; select = 0; carry = 0; link = 0; borrow = borrow; a = a; b = b; q = 0; status = s }

-- two bytes: a sum with the given C, and its correction
abbrev total : ℕ → ℕ → ℕ → Outputs
total c a b = ADDC (at 2 0 (with_c c (loaded 0)) a b)

abbrev decimal_total : ℕ → ℕ → ℕ → Outputs
decimal_total c a b = SUM-CORR-A (at 2 0 (total c a b).status (total c a b).y b)

-- one byte: a difference, and its correction
abbrev less : ℕ → ℕ → ℕ → Outputs
less borrow a b = SUB (at 1 borrow (loaded 0) a b)

abbrev decimal_less : ℕ → ℕ → ℕ → Outputs
decimal_less borrow a b = DIFF-CORR-A (at 1 borrow (less borrow a b).status (less borrow a b).y b)

-- three bytes
abbrev three : ℕ → ℕ → Outputs
three a b = ADD (at 3 0 (loaded 0) a b)

-- what comes out, and what is printed
pub record Example : Type 0 where
  pub given : ℕ
  pub stated : ℕ

abbrev shows : ℕ → ℕ → Example
shows given stated = record { given = given; stated = stated }

abbrev pub worked : List Example
worked =
    -- 4, 5, 7: 48 + 58, 45 + 55 and 428 + 578
    shows (total 0 0x48 0x58).y 0xa0
    ∷ shows (total 0 0x48 0x58).status.nibbles 0x11
    ∷ shows (decimal_total 0 0x48 0x58).y 0x106
    ∷ shows (total 0 0x45 0x55).y 0x9a
    ∷ shows (total 0 0x45 0x55).status.nibbles 0x11
    ∷ shows (decimal_total 0 0x45 0x55).y 0x100
    ∷ shows (total 0 0x428 0x578).y 0x9a0
    ∷ shows (total 0 0x428 0x578).status.nibbles 0x111
    ∷ shows (decimal_total 0 0x428 0x578).y 0x1006
    -- 8: 35 + 64 and a carry
    ∷ shows (total 1 0x35 0x64).y 0x9a
    ∷ shows (total 1 0x35 0x64).status.nibbles 0x11
    ∷ shows (decimal_total 1 0x35 0x64).y 0x100
    -- 11, 13: 5 - 3 and 3 - 5, which is 98, the ten's complement of 2; C is a carry, and a borrow in borrow mode
    ∷ shows (less 0 0x05 0x03).y 0x02
    ∷ shows (decimal_less 0 0x05 0x03).y 0x02
    ∷ shows (decimal_less 0 0x05 0x03).status.c 1
    ∷ shows (less 0 0x03 0x05).y 0xfe
    ∷ shows (less 0 0x03 0x05).status.nibbles 0x1111_1111
    ∷ shows (decimal_less 0 0x03 0x05).y 0x98
    ∷ shows (decimal_less 0 0x03 0x05).status.c 0
    ∷ shows (decimal_less 1 0x03 0x05).status.c 1
    -- three bytes: the sign of the 24 selected bits overflows, not that of 32
    ∷ shows (three 0x7f_ffff 0x00_0001).y 0x80_0000
    ∷ shows (three 0x7f_ffff 0x00_0001).status.v 1
    ∷ shows (three 0x7f_ffff 0x00_0001).status.n 1
    ∷ shows (three 0x7f_ffff 0x00_0001).status.c 0
    -- one byte, FF increased: the carry out is inverted in borrow mode
    ∷ shows (INCR-A (at 1 0 (loaded 0) 0xff 0)).status.c 1
    ∷ shows (INCR-A (at 1 1 (loaded 0) 0xff 0)).status.c 0
    ∷ []

abbrev pub all_given : List Example → List ℕ
all_given [] = []
all_given (e ∷ es) = e.given ∷ all_given es

abbrev pub all_stated : List Example → List ℕ
all_stated [] = []
all_stated (e ∷ es) = e.stated ∷ all_stated es

pub worked_examples : all_given worked ≡ all_stated worked
unfolding spread_out loaded zero_of merged carry_of overflow_of nibble_carries nibble_borrows sum difference sum_correct diff_correct
worked_examples = refl
