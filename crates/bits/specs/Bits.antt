-- A data word as a plain number below 2 ^ 32, and what the manual's pages say of one: selected bytes, sums with their carry and overflow,
-- masks, rotates, fields, priority and parity. n is a count of selected bits, from the low end; a flag is 0 or 1.
use Rattle.std.specs.Prelude.{List, get_or, ℕ, zero, suc, ◌+◌, ◌-◌, ◌*◌, ◌/◌, ◌%◌, ◌^◌, Bool, true, false, ◌==◌}
use Rattle.std.specs.Int.Bits.{bit_and, bit_or}
use Rattle.std.specs.Int.Count.{ones, count_leading_zeros}

-- the first where the test holds, else the second
abbrev pub pick {ℓ} : {A : Type ℓ} → Bool → A → A → A
pick true a b = a
pick false a b = b

-- the same by a flag: the first at 0, the second at 1
abbrev pub choose {ℓ} : {A : Type ℓ} → ℕ → A → A → A
choose zero a b = a
choose (suc k) a b = b

-- 1 where the test holds
abbrev pub flag : Bool → ℕ
flag t = pick t 1 0

-- the exclusive or of two flags
abbrev pub xor : ℕ → ℕ → ℕ
xor f g = (f + g) % 2

-- Tables 3 and 5: how many bits a byte code I8 I7 selects, in that order (M47). 00 is four bytes, 01 one, 10 two, 11 three
abbrev pub selected : ℕ → ℕ
selected zero = 32
selected (suc k) = 8 * suc k

-- bit i of x
abbrev pub bit_of : ℕ → ℕ → ℕ
bit_of i x = x / 2 ^ i % 2

-- the sign bit at n bits: 7, 15, 23 or 31 ('Flags', byte-aligned instructions)
abbrev pub sign_of : ℕ → ℕ → ℕ
sign_of n x = bit_of (n - 1) x

-- 1 where the selected bits are all zero
unfoldable pub zero_of : ℕ → ℕ → ℕ
zero_of n x = flag (x % 2 ^ n == 0)

-- the selected bits of s, the unselected ones of u
unfoldable pub merged : ℕ → ℕ → ℕ → ℕ
merged n s u = u / 2 ^ n * 2 ^ n + s % 2 ^ n

-- four bytes as one word, the first highest
abbrev pub bytes4 : ℕ → ℕ → ℕ → ℕ → ℕ
bytes4 b0 b1 b2 b3 = b0 * 2 ^ 24 + b1 * 2 ^ 16 + b2 * 2 ^ 8 + b3

-- the four from a place on
abbrev pub bytes4_at : List ℕ → ℕ → ℕ
bytes4_at s i = bytes4 (get_or s i 0) (get_or s (i + 1) 0) (get_or s (i + 2) 0) (get_or s (i + 3) 0)

-- the one's complement of a word
abbrev pub not_of : ℕ → ℕ
not_of x = (2 ^ 32 - 1) - x

-- 32 copies of a flag
abbrev pub copies : ℕ → ℕ
copies f = f * (2 ^ 32 - 1)

-- the carry out of the top selected bit of a + b + c
unfoldable pub carry_of : ℕ → ℕ → ℕ → ℕ → ℕ
carry_of n a b c = (a % 2 ^ n + b % 2 ^ n + c) / 2 ^ n

-- its overflow: the carry into the top selected bit xor the carry out of it
unfoldable pub overflow_of : ℕ → ℕ → ℕ → ℕ → ℕ
overflow_of n a b c = xor (carry_of (n - 1) a b c) (carry_of n a b c)

-- a word shifted up by k, zeros below: bits above bit 31 are dropped
abbrev pub up_by : ℕ → ℕ → ℕ
up_by k x = x * 2 ^ k % 2 ^ 32

-- a word rotated up by k, 0 to 31
unfoldable pub rotated_up : ℕ → ℕ → ℕ
rotated_up k x = x % 2 ^ (32 - k) * 2 ^ k + x / 2 ^ (32 - k)

-- rotated down by k, 1 to 32: up by what is missing to 32
abbrev pub rotated_down : ℕ → ℕ → ℕ
rotated_down k x = rotated_up (32 - k) x

-- ones in the w bits from bit p up; those above bit 31 are dropped (M38)
unfoldable pub field_mask : ℕ → ℕ → ℕ
field_mask p w = up_by p (2 ^ w - 1)

-- s where the mask has ones, u elsewhere
abbrev pub masked_of : ℕ → ℕ → ℕ → ℕ
masked_of m s u = bit_or (bit_and s m) (bit_and u (not_of m))

-- x with bit i set to the flag f
unfoldable pub put_bit : ℕ → ℕ → ℕ → ℕ
put_bit i f x = x / 2 ^ (i + 1) * 2 ^ (i + 1) + f * 2 ^ i + x % 2 ^ i

-- Table 4: the zeros above the highest one among the selected bits; 0 where there is none
unfoldable pub priority_of : ℕ → ℕ → ℕ
priority_of n x = pick (x % 2 ^ n == 0) 0 (count_leading_zeros n (x % 2 ^ n))

-- 'Parity Logic': a bit for each byte, highest byte first, that makes the count of ones in byte and bit even
unfoldable pub parity_of : ℕ → ℕ
parity_of x = ones (x / 2 ^ 24 % 256) % 2 * 8 + ones (x / 2 ^ 16 % 256) % 2 * 4 + ones (x / 2 ^ 8 % 256) % 2 * 2 + ones (x % 256) % 2
