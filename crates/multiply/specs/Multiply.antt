-- Multiply steps (table 12-1; the lists of appendix B, M14), in opcode order: the modified Booth algorithm, two bits a step. The ALU is internally extended by
-- two bits at the byte boundary, so that a value marked * is a number below 2 ^ (n + 2).
use Rattle.std.specs.Prelude.{List, [], ◌∷◌, ℕ, zero, suc, ◌+◌, ◌-◌, ◌*◌, ◌/◌, ◌%◌, ◌^◌}
use Rattle.bits.specs.Bits.{choose, bit_of, sign_of, zero_of, merged}
use Rattle.machine.specs.declared.Inputs.{Inputs}
use Rattle.machine.specs.declared.Outputs.{Outputs}
use Rattle.machine.specs.Status.{with_m, with_z}
use Rattle.machine.specs.Inputs.{bits_of, leaving}

-- the n selected bits zero extended, and sign extended, across the two extra bits
abbrev pub zero_extended : ℕ → ℕ → ℕ
zero_extended n s = s % 2 ^ n

abbrev pub sign_extended : ℕ → ℕ → ℕ
sign_extended n s = s % 2 ^ n + sign_of n s * (3 * 2 ^ n)

-- the 2's complement of v, once or twice over, in n + 2 bits
abbrev pub minus : ℕ → ℕ → ℕ
minus n v = 2 ^ (n + 3) - v

-- Based on the values of Q1 and Q0, the value F* of a first step: the rows of UMULFIRST's page, and of SMULFIRST's, whose last row is printed
-- for 01 once more (M11). A bit is `zero`, or `suc` and so 1.
unfoldable pub first_row : ℕ → ℕ → ℕ → ℕ → ℕ
-- 00: 0
first_row n a zero zero = 0
-- 01: A*
first_row n a zero (suc q0) = a
-- 10: 2's complement of 2A*
first_row n a (suc q1) zero = minus n (2 * a)
-- 11: 2's complement of A*
first_row n a (suc q1) (suc q0) = minus n a

-- Based on the values of Q1, Q0 and M, the value F* of a step of the inner loop: the rows of UMULSTEP's page, and of SMULSTEP's
unfoldable pub step_row : ℕ → ℕ → ℕ → ℕ → ℕ → ℕ → ℕ
-- 000 or 111: B*
step_row n a b zero zero zero = b
step_row n a b (suc q1) (suc q0) (suc m) = b
-- 001 or 010: B* + A*
step_row n a b zero zero (suc m) = b + a
step_row n a b zero (suc q0) zero = b + a
-- 101 or 110: B* - A*
step_row n a b (suc q1) zero (suc m) = b + minus n a
step_row n a b (suc q1) (suc q0) zero = b + minus n a
-- 011: B* + 2A*
step_row n a b zero (suc q0) (suc m) = b + 2 * a
-- 100: B* - 2A*
step_row n a b (suc q1) zero zero = b + minus n (2 * a)

-- F*, in n + 2 bits, from A* and the low two bits of Q; and from A*, B*, the low two bits of Q, and M
unfoldable pub first_partial : ℕ → ℕ → ℕ → ℕ
first_partial n a q = first_row n a (bit_of 1 q) (bit_of 0 q) % 2 ^ (n + 2)

unfoldable pub partial : ℕ → ℕ → ℕ → ℕ → ℕ → ℕ
partial n a b q m = step_row n a b (bit_of 1 q) (bit_of 0 q) m % 2 ^ (n + 2)

-- F* shifted down 2 bits is output on the Y bus, unselected bytes from B; the selected bytes of Q are shifted down 2 bits with F1 F0 being the
-- fill bits; Q1 is moved to M
abbrev pub shifted_by2 : Inputs → ℕ → Outputs
shifted_by2 x f =
    record {
      y = merged (bits_of x) (f / 4) x.b;
      q = merged (bits_of x) (x.q % 2 ^ bits_of x / 4 + f % 4 * 2 ^ (bits_of x - 2)) x.q;
      status = with_m (bit_of 1 x.q) x.status;
    }

-- the first step, from A*: the selected bytes of B are internally zeroed, and M does not count
unfoldable pub first_step : Inputs → ℕ → Outputs
first_step x a = shifted_by2 x (first_partial (bits_of x) a x.q)

-- a step of the inner loop, from A*: B is sign extended
unfoldable pub step : Inputs → ℕ → Outputs
step x a = shifted_by2 x (partial (bits_of x) a (sign_extended (bits_of x) x.b) x.q x.status.m)

-- 5B
abbrev pub UMULFIRST : Inputs → Outputs
UMULFIRST x = first_step x (zero_extended (bits_of x) x.a)

-- 5C
abbrev pub UMULSTEP : Inputs → Outputs
UMULSTEP x = step x (zero_extended (bits_of x) x.a)

-- 5D. A is added once more where M is set. Z is of the selected bytes; Q and the other flags stay (M10).
unfoldable pub UMULLAST : Inputs → Outputs
UMULLAST x =
    let r : ℕ = choose x.status.m x.b (x.b + x.a) in
    leaving x (merged (bits_of x) r x.b) (with_z (zero_of (bits_of x) r) x.status)

-- 5E
abbrev pub SMULSTEP : Inputs → Outputs
SMULSTEP x = step x (sign_extended (bits_of x) x.a)

-- 5F
abbrev pub SMULFIRST : Inputs → Outputs
SMULFIRST x = first_step x (sign_extended (bits_of x) x.a)

-- the family, from 5B on
abbrev pub multiplies : List (Inputs → Outputs)
multiplies = UMULFIRST ∷ UMULSTEP ∷ UMULLAST ∷ SMULSTEP ∷ SMULFIRST ∷ []
