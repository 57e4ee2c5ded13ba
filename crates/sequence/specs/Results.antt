-- What the sequences come to, from the state t before to the state u after, on the low n bits of register a, register b and Q.
use Rattle.std.specs.Prelude.{◌≡◌, ◌≢◌, ◌⊎◌, ℕ, ◌+◌, ◌-◌, ◌*◌, ◌/◌, ◌%◌, ◌^◌, ◌<◌, max, eqb, length, ℤ, pos, ◌+ℤ◌, ◌*ℤ◌, nat_abs}
use Rattle.std.specs.Int.Signed.{lt_z, non_neg, quot_z, rem_z}
use Rattle.bits.specs.Bits.{choose, flag, xor, sign_of, zero_of}
use Rattle.machine.specs.declared.Status.{Status}
use Rattle.machine.specs.Status.{with_c, with_n, with_v, with_z, with_l, with_m, with_s}
use Rattle.chip.specs.Lists.{State, read_at}
use Rattle.sequence.specs.Signed.{signed, signed_long}
use Rattle.sequence.specs.Sequences.{Registers}

-- the selected bytes of a register, and of Q
abbrev pub register : ℕ → ℕ → State → ℕ
register n r t = read_at t.file r % 2 ^ n

abbrev pub low_q : ℕ → State → ℕ
low_q n t = t.core.q % 2 ^ n

-- the rest of the file and of Q is as before: every register but b, the number of registers, and the unselected bytes of register b and of Q
pub record Untouched (n b : ℕ) (t u : State) : Type 0 where
  pub registers : length u.file ≡ length t.file
  pub others : (r : ℕ) → r ≢ b → read_at u.file r ≡ read_at t.file r
  pub above-b : read_at u.file b / 2 ^ n ≡ read_at t.file b / 2 ^ n
  pub above-q : u.core.q / 2 ^ n ≡ t.core.q / 2 ^ n

-- ---- multiply
-- The status register afterwards. Z is 1 exactly where the high half is zero, whatever the low half is; M is the top selected bit of the multiplier.
-- All else is as before.
abbrev pub multiplied_status : ℕ → ℕ → State → State → Status
multiplied_status n b t u = with_z (zero_of n (read_at u.file b)) (with_m (sign_of n t.core.q) t.core.status)

-- register b holds the high half and Q the low half of the exact product of register a and Q
pub record Multiplied (n a b : ℕ) (t u : State) : Type 0 where
  pub high : register n b u ≡ register n a t * low_q n t / 2 ^ n
  pub low : low_q n u ≡ register n a t * low_q n t % 2 ^ n
  pub rest : Untouched n b t u
  pub status : u.core.status ≡ multiplied_status n b t u

-- ---- divide
-- 1 where the quotient is odd
abbrev pub odd_q : ℕ → State → ℕ
odd_q n u = low_q n u % 2

-- The status register afterwards. REMCORR adds the divisor back where the quotient is even, and there alone: C and N are 1 there, else 0, and M is the
-- other way round. Z, which UDIVLAST sets, is 1 exactly where the remainder is zero and the quotient odd, so that it tells of a zero remainder for
-- odd quotients alone. S is 0. Of L nothing is said: it is the bit that the last UDIVSTEP shifted out of a partial remainder, and of no use
-- afterwards. V, the nibble bits, position and width are as before.
abbrev pub divided_status : ℕ → ℕ → State → State → Status
divided_status n b t u =
    with_c (1 - odd_q n u)
    (with_n (1 - odd_q n u)
    (with_m (odd_q n u)
    (with_z (choose (odd_q n u) 0 (zero_of n (read_at u.file b)))
    (with_s 0
    (with_l u.core.status.l t.core.status)))))

-- Q holds the quotient and register b the remainder of Q by register a
pub record Divided (n a b : ℕ) (t u : State) : Type 0 where
  pub quotient : low_q n u ≡ low_q n t / register n a t
  pub remainder : register n b u ≡ low_q n t % register n a t
  pub below : register n b u < register n a t
  pub rest : Untouched n b t u
  pub status : u.core.status ≡ divided_status n b t u

-- ---- signed multiply
-- register b and Q hold the two halves of the exact product of register a and Q, all three in two's complement. M is the sign bit of the multiplier;
-- the rest of the status register is as before.
pub record SignedMultiplied (n a b : ℕ) (t u : State) : Type 0 where
  pub product : signed_long n (register n b u) (low_q n u) ≡ signed n (read_at t.file a) *ℤ signed n t.core.q
  pub rest : Untouched n b t u
  pub status : u.core.status ≡ with_m (sign_of n t.core.q) t.core.status

-- ---- signed divide
-- a register as a signed number
abbrev pub signed_in : ℕ → ℕ → State → ℤ
signed_in n r t = signed n (read_at t.file r)

-- the dividend of 2 n bits: its high half in the remainder's register, its low half in Q
abbrev pub long_dividend : ℕ → Registers → State → ℤ
long_dividend n r t = signed_long n (register n r.R t) (low_q n t)

-- the most negative number over -1: of a dividend of n bits in register x, the one quotient that does not fit n bits
abbrev pub TooLarge : ℕ → ℕ → Registers → State → Type 0
TooLarge n x r t = (register n x t ≡ 2 ^ (n - 1)) × (register n r.D t ≡ 2 ^ n - 1)

-- the rest of the file and of Q is as before: every register but those of quotient and remainder, the number of registers, and the unselected bytes
-- of those two and of Q
pub record Apart (n : ℕ) (r : Registers) (t u : State) : Type 0 where
  pub registers : length u.file ≡ length t.file
  pub others : (k : ℕ) → k ≢ r.R → k ≢ r.K → read_at u.file k ≡ read_at t.file k
  pub above-r : read_at u.file r.R / 2 ^ n ≡ read_at t.file r.R / 2 ^ n
  pub above-k : read_at u.file r.K / 2 ^ n ≡ read_at t.file r.K / 2 ^ n
  pub above-q : u.core.q / 2 ^ n ≡ t.core.q / 2 ^ n

-- 1 where an integer is negative
abbrev pub negative : ℤ → ℕ
negative z = flag (lt_z z (pos 0))

-- Both corrections are made where the quotient is even, and there alone. Q keeps the quotient k as it was before: one more where M is 0, one less
-- where M is 1.
abbrev pub uncorrected : ℕ → ℕ → ℕ → ℕ
uncorrected n m k = choose (k % 2) ((k + choose m 1 (2 ^ n - 1)) % 2 ^ n) k

-- The status register afterwards, from s before it: X is the dividend, and d, k and y are the words in the registers of divisor, quotient and
-- remainder. S is 1 where the dividend is negative. M, N and Z are those by which the corrections were made: M is 1 where the remainder before its
-- correction had the divisor's sign. C is 1 where the correction of the remainder carried, V where QUOCORR overflowed, which is where it counted up to
-- the most negative number, and L is the lowest bit of the remainder before its correction. The nibble bits, position and width are as before.
abbrev pub signed_divided_status : ℕ → ℤ → ℕ → ℕ → ℕ → Status → Status
signed_divided_status n X d k y s =
    let odd : ℕ = k % 2 in
    let zero : ℕ = zero_of n y in
    let m : ℕ = xor (sign_of n d) (choose (negative X) odd (1 - xor odd zero)) in
    with_c (choose odd (choose (negative X) 1 zero) 0)
    (with_n (choose (negative X) (1 - odd) (max odd zero))
    (with_v (choose m 0 (flag (eqb (k % 2 ^ n) (2 ^ (n - 1)))))
    (with_z (choose (negative X) 0 (choose odd zero 0))
    (with_l ((y + choose odd d 0) % 2)
    (with_m m
    (with_s (negative X) s))))))

-- Register K holds the quotient of X by register D, cut towards zero, and register R the remainder, all in two's complement: quotient times divisor
-- plus remainder is the dividend, and the remainder is smaller in size than the divisor, and zero or of the dividend's sign.
pub record SignedDivided (n : ℕ) (X : ℤ) (r : Registers) (t u : State) : Type 0 where
  pub quotient : signed_in n r.K u ≡ quot_z X (signed_in n r.D t)
  pub remainder : signed_in n r.R u ≡ rem_z X (signed_in n r.D t)
  pub whole : signed_in n r.K u *ℤ signed_in n r.D t +ℤ signed_in n r.R u ≡ X
  pub smaller : nat_abs (signed_in n r.R u) < nat_abs (signed_in n r.D t)
  pub sign : (signed_in n r.R u ≡ pos 0) ⊎ (non_neg (signed_in n r.R u) ≡ non_neg X)
  pub rest : Apart n r t u
  pub q : low_q n u ≡ uncorrected n u.core.status.m (register n r.K u)
  pub status : u.core.status ≡ signed_divided_status n X (read_at t.file r.D) (read_at u.file r.K) (read_at u.file r.R) t.core.status
