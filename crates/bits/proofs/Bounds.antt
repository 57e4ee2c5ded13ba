-- What stays in range: words below 2 ^ 32, flags below 2.
use Rattle.std.proofs.Common.{◌≡◌, ℕ, zero, suc, ◌+◌, ◌-◌, ◌*◌, ◌/◌, ◌%◌, ◌^◌, ◌<◌, ◌≤◌, Bool, true, false, eqb, sym, subst, lt_of_lt_of_le, lt_of_le_of_lt, mod-lt, arith, lit<, pow_pos, pow_mono, pow-add, shr_lt}
use lib.Arith.{digits_lt}
use lib.Bits.{bit_and, and_le_l, or_lt}
use lib.Count.{count_leading_zeros, leading_le}
use lib.Pow.{ones_sub-lt}
use Rattle.bits.specs.Bits.{pick, choose, flag, xor, selected, sign_of, zero_of, merged, not_of, copies, carry_of, overflow_of, up_by, rotated_up, field_mask, masked_of, put_bit, priority_of}

pub selected_bounds : (code : ℕ) → code < 4 → (8 ≤ selected code) × (selected code ≤ 32)
selected_bounds zero h = (omega arith, omega arith)
selected_bounds (suc k) h = (omega arith, omega arith)

pub flag-lt : (t : Bool) → flag t < 2
flag-lt true = lit< tt
flag-lt false = lit< tt

pub xor_lt : (f g : ℕ) → xor f g < 2
xor_lt f g = mod-lt (f + g) (lit< tt)

pub zero_flag : (n x : ℕ) → zero_of n x < 2
unfolding zero_of
zero_flag n x = flag-lt (eqb (x % 2 ^ n) 0)

pub sign-flag : (n x : ℕ) → sign_of n x < 2
sign-flag n x = mod-lt (x / 2 ^ (n - 1)) (lit< tt)

pub overflow-flag : (n a b c : ℕ) → overflow_of n a b c < 2
unfolding overflow_of
overflow-flag n a b c = xor_lt (carry_of (n - 1) a b c) (carry_of n a b c)

-- a number in two parts, the upper one's bits and n below
below : (n hi lo : ℕ) → n ≤ 32 → hi < 2 ^ (32 - n) → lo < 2 ^ n → hi * 2 ^ n + lo < 2 ^ 32
below n hi lo h hh hl =
    let e : (32 - n) + n ≡ 32 = omega arith in
    subst (λ (k : ℕ). hi * 2 ^ n + lo < 2 ^ k) e (subst (λ (m : ℕ). hi * 2 ^ n + lo < m) (sym (pow-add 2 (32 - n) n)) (digits_lt hh hl))

upper : (n x : ℕ) → n ≤ 32 → x < 2 ^ 32 → x / 2 ^ n < 2 ^ (32 - n)
upper n x h hx = let e : 32 ≡ (32 - n) + n = omega arith in shr_lt (32 - n) n (subst (λ (k : ℕ). x < 2 ^ k) e hx)

pub merged-lt : (n s u : ℕ) → n ≤ 32 → u < 2 ^ 32 → merged n s u < 2 ^ 32
unfolding merged
merged-lt n s u h hu = below n (u / 2 ^ n) (s % 2 ^ n) h (upper n u h hu) (mod-lt s (pow_pos n))

pub not-lt : (x : ℕ) → not_of x < 2 ^ 32
not-lt x = ones_sub-lt 32 x

pub copies-lt : (f : ℕ) → f < 2 → copies f < 2 ^ 32
copies-lt f h = omega arith

pub masked-lt : (m s u : ℕ) → s < 2 ^ 32 → u < 2 ^ 32 → masked_of m s u < 2 ^ 32
masked-lt m s u hs hu =
    or_lt 32 (bit_and s m) (bit_and u (not_of m)) (lt_of_le_of_lt (and_le_l s m) hs) (lt_of_le_of_lt (and_le_l u (not_of m)) hu)

pub choose-lt : (f a b m : ℕ) → a < m → b < m → choose f a b < m
choose-lt zero a b m h l = h
choose-lt (suc f) a b m h l = l

pub cut-lt : (n x : ℕ) → n ≤ 32 → x % 2 ^ n < 2 ^ 32
cut-lt n x h = lt_of_lt_of_le (mod-lt x (pow_pos n)) (pow_mono h)

pub up_lt : (k x : ℕ) → up_by k x < 2 ^ 32
up_lt k x = mod-lt (x * 2 ^ k) (pow_pos 32)

pub rotated_lt : (k x : ℕ) → k ≤ 32 → x < 2 ^ 32 → rotated_up k x < 2 ^ 32
unfolding rotated_up
rotated_lt k x h hx =
    let e : k + (32 - k) ≡ 32 = omega arith in
    below k (x % 2 ^ (32 - k)) (x / 2 ^ (32 - k)) h (mod-lt x (pow_pos (32 - k)))
    (shr_lt k (32 - k) (subst (λ (m : ℕ). x < 2 ^ m) (sym e) hx))

pub mask_lt : (p w : ℕ) → field_mask p w < 2 ^ 32
unfolding field_mask
mask_lt p w = up_lt p (2 ^ w - 1)

pub put-bit-lt : (i f x : ℕ) → i < 32 → f < 2 → x < 2 ^ 32 → put_bit i f x < 2 ^ 32
unfolding put_bit
put-bit-lt i f x h hf hx =
    let l : x % 2 ^ i < 2 ^ i = mod-lt x (pow_pos i) in
    let w : 2 ^ (i + 1) ≡ 2 ^ i * 2 = pow-add 2 i 1 in
    let g : f * 2 ^ i + x % 2 ^ i < 2 ^ (i + 1) = weight f (2 ^ i) (x % 2 ^ i) (2 ^ (i + 1)) hf l w in
    let b : x / 2 ^ (i + 1) * 2 ^ (i + 1) + (f * 2 ^ i + x % 2 ^ i) < 2 ^ 32 = below (i + 1) (x / 2 ^ (i + 1)) (f * 2 ^ i + x % 2 ^ i) (omega arith) (upper (i + 1) x (omega arith) hx) g in
    omega arith
  where
    weight : (f P r Q : ℕ) → f < 2 → r < P → Q ≡ P * 2 → f * P + r < Q
    weight zero P r Q hf l e = omega arith
    weight (suc zero) P r Q hf l e = omega arith
    weight (suc (suc f)) P r Q hf l e = absurd (omega arith)

pub priority-le : (n x : ℕ) → priority_of n x ≤ n
unfolding priority_of
priority-le n x = go (eqb (x % 2 ^ n) 0)
  where
    go : (t : Bool) → pick t 0 (count_leading_zeros n (x % 2 ^ n)) ≤ n
    go true = omega arith
    go false = leading_le n (x % 2 ^ n)
