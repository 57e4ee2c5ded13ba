-- Divide steps (table 11-1; the lists of appendix B, M14), in opcode order. Unselected bytes of Y come from B, unselected bytes of Q are not affected; C is the
-- carry out of F in either mode (M6); the bit shifted out of F is its top selected bit (M5).
use Rattle.std.specs.Prelude.{List, [], ◌∷◌, ℕ, ◌+◌, ◌-◌, ◌%◌, ◌^◌}
use Rattle.bits.specs.Bits.{choose, xor, sign_of, zero_of, merged, not_of, carry_of, overflow_of, put_bit}
use Rattle.machine.specs.declared.Inputs.{Inputs}
use Rattle.machine.specs.declared.Outputs.{Outputs}
use Rattle.machine.specs.Status.{with_c, with_n, with_v, with_z, with_l, with_m, with_s}
use Rattle.machine.specs.Inputs.{bits_of, leaving, zero_sign}
use Rattle.divide.specs.Steps.{formed, carry_out, step_carry, step_link, upshifted, sign_q, upshifted_q, signed_bit, extended_sign, unsigned_bit, printed_test, remainder_test}

-- 4E. B is upshifted, the sign bit of Q shifted in; the exclusive NOR of the signs of A and B goes into Q and M; S and L get the bit shifted
-- out of B. Z and N are of Y (M8).
unfoldable pub SDIVFIRST : Inputs → Outputs
SDIVFIRST x =
    let r : ℕ = upshifted x.b (sign_q x) in
    let bit : ℕ = signed_bit x x.b in
    let out : ℕ = sign_of (bits_of x) x.b in
    record {
      y = merged (bits_of x) r x.b;
      q = upshifted_q x bit;
      status = with_s out (with_m bit (with_l out (zero_sign (bits_of x) r x.status)));
    }

-- 4F. The same, with a zero shifted into Q; M is set, S is reset.
unfoldable pub UDIVFIRST : Inputs → Outputs
UDIVFIRST x =
    let r : ℕ = upshifted x.b (sign_q x) in
    record {
      y = merged (bits_of x) r x.b;
      q = upshifted_q x 0;
      status = with_s 0 (with_m 1 (with_l (sign_of (bits_of x) x.b) (zero_sign (bits_of x) r x.status)));
    }

-- 50. F is upshifted by one bit, the sign bit of Q shifted in; the new quotient bit goes into Q and M. Z and N are of Y (M8); S is not
-- altered.
unfoldable pub SDIVSTEP : Inputs → Outputs
SDIVSTEP x =
    let f : ℕ = formed x x.status.m in
    let r : ℕ = upshifted f (sign_q x) in
    record {
      y = merged (bits_of x) r x.b;
      q = upshifted_q x (signed_bit x f);
      status =
          with_m (signed_bit x f)
          (with_l (sign_of (bits_of x) f)
          (with_c (carry_out x (bits_of x) x.status.m)
          (zero_sign (bits_of x) r x.status)));
    }

-- 51. F is output as it is; the least significant bit of Q gets loaded with a 1. Z and N are of F; L and S stay.
unfoldable pub SDIVLAST1 : Inputs → Outputs
SDIVLAST1 x =
    let f : ℕ = formed x x.status.m in
    record {
      y = merged (bits_of x) f x.b;
      q = upshifted_q x 1;
      status = with_m (signed_bit x f) (with_c (carry_out x (bits_of x) x.status.m) (zero_sign (bits_of x) f x.status));
    }

-- 52. Y, C, L and Z are those of the full word (M12); the byte code picks Q's bytes and its sign bit alone. Q is upshifted with zero fill.
unfoldable pub MPDIVSTEP1 : Inputs → Outputs
MPDIVSTEP1 x =
    let f : ℕ = formed x x.status.m in
    let y : ℕ = upshifted f (sign_q x) % 2 ^ 32 in
    record {
      y = y;
      q = upshifted_q x 0;
      status = with_l (sign_of 32 f) (with_c (carry_out x 32 x.status.m) (with_z (zero_of 32 y) x.status));
    }

-- 53. F is formed with carry and upshifted with the link; the new quotient bit goes into M and the least significant bit of Q, which is not
-- upshifted in this step.
unfoldable pub MPSDIVSTEP3 : Inputs → Outputs
MPSDIVSTEP3 x =
    let f : ℕ = formed x (step_carry x) in
    let r : ℕ = upshifted f (step_link x) in
    record {
      y = merged (bits_of x) r x.b;
      q = put_bit 0 (signed_bit x f) x.q;
      status =
          with_m (signed_bit x f)
          (with_l (sign_of (bits_of x) f)
          (with_c (carry_out x (bits_of x) (step_carry x))
          (with_z (zero_of (bits_of x) r) x.status)));
    }

-- 54. As SDIVSTEP, with A zero extended and B extended by S, so that the new quotient bit is the complement of the sign of the extended result
-- (M3); the bit shifted out of F goes to L and S (M5). N is not affected (M8).
unfoldable pub UDIVSTEP : Inputs → Outputs
UDIVSTEP x =
    let f : ℕ = formed x x.status.m in
    let r : ℕ = upshifted f (sign_q x) in
    let c : ℕ = carry_out x (bits_of x) x.status.m in
    record {
      y = merged (bits_of x) r x.b;
      q = upshifted_q x (unsigned_bit x c);
      status =
          with_s (sign_of (bits_of x) f)
          (with_m (unsigned_bit x c)
          (with_l (sign_of (bits_of x) f)
          (with_c c
          (with_z (zero_of (bits_of x) r) x.status))));
    }

-- 55. F is output as it is; N is the sign of the extended result, M its complement (M3, M4), and S is reset. L stays.
unfoldable pub UDIVLAST : Inputs → Outputs
UDIVLAST x =
    let f : ℕ = formed x x.status.m in
    let c : ℕ = carry_out x (bits_of x) x.status.m in
    record {
      y = merged (bits_of x) f x.b;
      q = upshifted_q x (unsigned_bit x c);
      status =
          with_s 0
          (with_m (unsigned_bit x c)
          (with_c c
          (with_z (zero_of (bits_of x) f)
          (with_n (extended_sign x c) x.status))));
    }

-- 56. The byte code is ignored: all is on the full word (M12). Q is not affected or used.
unfoldable pub MPDIVSTEP2 : Inputs → Outputs
MPDIVSTEP2 x =
    let f : ℕ = formed x (step_carry x) in
    let y : ℕ = upshifted f (step_link x) % 2 ^ 32 in
    leaving x y (with_l (sign_of 32 f) (with_c (carry_out x 32 (step_carry x)) (with_z (zero_of 32 y) x.status)))

-- 57. As MPSDIVSTEP3, with the quotient bit and S of UDIVSTEP (M3, M5).
unfoldable pub MPUDIVSTP3 : Inputs → Outputs
MPUDIVSTP3 x =
    let f : ℕ = formed x (step_carry x) in
    let r : ℕ = upshifted f (step_link x) in
    let c : ℕ = carry_out x (bits_of x) (step_carry x) in
    record {
      y = merged (bits_of x) r x.b;
      q = put_bit 0 (unsigned_bit x c) x.q;
      status =
          with_s (sign_of (bits_of x) f)
          (with_m (unsigned_bit x c)
          (with_l (sign_of (bits_of x) f)
          (with_c c
          (with_z (zero_of (bits_of x) r) x.status))));
    }

-- 58. F is B + A or B - A by M where the test (M1) holds, else B; C is its carry out, and 0 where F is B (M7). No other flag changes.
unfoldable pub REMCORR : Inputs → Outputs
REMCORR x =
    leaving x (merged (bits_of x) (choose (remainder_test x) x.b (formed x x.status.m)) x.b)
    (with_c (choose (remainder_test x) 0 (carry_out x (bits_of x) x.status.m)) x.status)

-- B - 1 where M is 0, B + 1 where it is 1: what is added, and the carry in
abbrev pub one_operand : Inputs → ℕ
one_operand x = choose x.status.m (not_of 1) 1

-- 59. F is B - 1 or B + 1 by M where Z EXOR N EXOR S is 1 (M2), else B; C and V are its carry out and overflow, and 0 where F is B (M7).
unfoldable pub QUOCORR : Inputs → Outputs
QUOCORR x =
    let c : ℕ = 1 - x.status.m in
    leaving x (merged (bits_of x) (choose (printed_test x) x.b (x.b + one_operand x + c)) x.b)
    (with_v (choose (printed_test x) 0 (overflow_of (bits_of x) x.b (one_operand x) c))
    (with_c (choose (printed_test x) 0 (carry_of (bits_of x) x.b (one_operand x) c)) x.status))

-- 5A. The divisor's sign is the sign bit of Q xor S: A is subtracted from B where it is 1, else added. Z is set if the result is zero and S
-- is 1. Nothing else changes (M9).
unfoldable pub SDIVLAST2 : Inputs → Outputs
SDIVLAST2 x =
    let d : ℕ = xor (sign_q x) x.status.s in
    let r : ℕ = x.b + choose d x.a (not_of x.a) + d in
    leaving x (merged (bits_of x) r x.b) (with_z (choose x.status.s 0 (zero_of (bits_of x) r)) x.status)

-- the family, from 4E on
abbrev pub divides : List (Inputs → Outputs)
divides =
    SDIVFIRST ∷ UDIVFIRST ∷ SDIVSTEP ∷ SDIVLAST1 ∷ MPDIVSTEP1 ∷ MPSDIVSTEP3 ∷ UDIVSTEP ∷ UDIVLAST ∷
    MPDIVSTEP2 ∷ MPUDIVSTP3 ∷ REMCORR ∷ QUOCORR ∷ SDIVLAST2 ∷ []
