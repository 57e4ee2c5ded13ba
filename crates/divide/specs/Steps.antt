-- What the divide steps share (table 11-1, appendix B): the sum or difference F, the new quotient bit, and the upshift.
use Rattle.std.specs.Prelude.{ℕ, ◌+◌, ◌-◌, ◌*◌, ◌%◌, max}
use Rattle.bits.specs.Bits.{choose, xor, sign_of, merged, not_of, carry_of}
use Rattle.machine.specs.declared.Inputs.{Inputs}
use Rattle.machine.specs.Inputs.{bits_of}

-- A is added to B where M is 0, and subtracted from it where M is 1: its complement is added, with a carry in
abbrev pub operand : Inputs → ℕ
operand x = choose x.status.m x.a (not_of x.a)

-- F with carry in c, and the carry out of it at n bits, in borrow mode too (M6)
abbrev pub formed : Inputs → ℕ → ℕ
formed x c = x.b + operand x + c

abbrev pub carry_out : Inputs → ℕ → ℕ → ℕ
carry_out x n c = carry_of n x.b (operand x) c

-- the multiprecision steps: macro select 0 takes macro carry and macro link, 1 takes the C and L flags, as their pages have it (M13)
abbrev pub step_carry : Inputs → ℕ
step_carry x = choose x.select x.carry x.status.c

abbrev pub step_link : Inputs → ℕ
step_link x = choose x.select x.link x.status.l

-- a value upshifted by one bit, f shifted in
abbrev pub upshifted : ℕ → ℕ → ℕ
upshifted v f = v * 2 + f

-- the sign bit of Q, and Q with its selected bytes shifted up by one bit, f shifted in
abbrev pub sign_q : Inputs → ℕ
sign_q x = sign_of (bits_of x) x.q

abbrev pub upshifted_q : Inputs → ℕ → ℕ
upshifted_q x f = merged (bits_of x) (upshifted x.q f) x.q

-- the new quotient bit of a signed division: the exclusive NOR of the sign of A and the sign of v
abbrev pub signed_bit : Inputs → ℕ → ℕ
signed_bit x v = 1 - xor (sign_of (bits_of x) x.a) (sign_of (bits_of x) v)

-- the sign of the result extended by one bit, of an unsigned division: M xor S xor the carry out c. The new quotient bit is its complement,
-- whose overbar the pages have lost (M3).
abbrev pub extended_sign : Inputs → ℕ → ℕ
extended_sign x c = (x.status.m + x.status.s + c) % 2

abbrev pub unsigned_bit : Inputs → ℕ → ℕ
unsigned_bit x c = 1 - extended_sign x c

-- Z EXOR N EXOR S
abbrev pub printed_test : Inputs → ℕ
printed_test x = (x.status.z + x.status.n + x.status.s) % 2

-- REMCORR's test: as printed, but with N = 0 and S = 0 there is nothing to correct, whatever Z is (M1)
abbrev pub remainder_test : Inputs → ℕ
remainder_test x = choose (max x.status.n x.status.s) 0 (printed_test x)
