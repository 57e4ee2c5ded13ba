-- The adder, bit by bit: a full adder at bit i gives the sum's bit and the carry out of it, so that carry and overflow can be read off the
-- operands and the exact sum.
use Rattle.std.proofs.Common.{◌≡◌, ℕ, suc, ◌+◌, ◌-◌, ◌*◌, ◌/◌, ◌%◌, ◌^◌, ◌<◌, ◌≤◌, sym, ap, ◌∙◌, subst, ap₂, lt_of_lt_of_le, mod-lt, mod-eq_of_lt, arith, pow_pos, pow_mono, shl_lt, shr-shr}
use lib.Arith.{digits_div}
use lib.Pow.{split, mod-pow-add, shl-shr}
use lib.Bits.{bit_xor, xor_lt}
use Rattle.bits.specs.Bits.{bit_of, carry_of, overflow_of, xor}
use Rattle.bits.proofs.Laws.{carry-lt, bit_wrap}
use Rattle.bits.proofs.BitByBit.{bit-xor}

-- the low bits add up to the carry out of them, above what stays
low_sum : (i a b c : ℕ) → (r : ℕ) × (r < 2 ^ i) × (a % 2 ^ i + b % 2 ^ i + c ≡ carry_of i a b c * 2 ^ i + r)
unfolding carry_of
low_sum i a b c =
    let s : ℕ = a % 2 ^ i + b % 2 ^ i + c in
    (s % 2 ^ i, mod-lt s (pow_pos i), sym (split s i))

pub full_sum : (i a b c : ℕ) → bit_of i (a + b + c) ≡ (bit_of i a + bit_of i b + carry_of i a b c) % 2
full_sum i a b c =
    let (r, h, e) = low_sum i a b c in
    ap (λ (x : ℕ). x / 2 ^ i % 2) (shape a b c (a / 2 ^ i) (b / 2 ^ i) (a % 2 ^ i) (b % 2 ^ i) (carry_of i a b c) (2 ^ i) r (sym (split a i)) (sym (split b i)) e)
    ∙ ap (λ (x : ℕ). x % 2) (digits_div (a / 2 ^ i + b / 2 ^ i + carry_of i a b c) h)
    ∙ parity (a / 2 ^ i) (b / 2 ^ i) (carry_of i a b c)
  where
    shape : (a b c x y u v k P r : ℕ) → a ≡ x * P + u → b ≡ y * P + v → u + v + c ≡ k * P + r → a + b + c ≡ (x + y + k) * P + r
    shape a b c x y u v k P r e f g = omega arith

    parity : (x y k : ℕ) → (x + y + k) % 2 ≡ (x % 2 + y % 2 + k) % 2
    parity x y k = omega arith

carry-at : (i a b c r : ℕ) → r < 2 ^ i → a % 2 ^ i + b % 2 ^ i + c ≡ carry_of i a b c * 2 ^ i + r → carry_of (1 + i) a b c ≡ (bit_of i a + bit_of i b + carry_of i a b c) / 2
unfolding carry_of
carry-at i a b c r h e =
    ap₂ (λ (x y : ℕ). (x + y + c) / 2 ^ (1 + i)) (mod-pow-add a 1 i) (mod-pow-add b 1 i)
    ∙ ap (λ (x : ℕ). x / 2 ^ (1 + i)) (shape c (bit_of i a) (bit_of i b) (a % 2 ^ i) (b % 2 ^ i) (carry_of i a b c) (2 ^ i) r e)
    ∙ ap (λ (k : ℕ). ((bit_of i a + bit_of i b + carry_of i a b c) * 2 ^ i + r) / 2 ^ k) plus_one
    ∙ sym (shr-shr ((bit_of i a + bit_of i b + carry_of i a b c) * 2 ^ i + r) i 1)
    ∙ ap (λ (x : ℕ). x / 2) (digits_div (bit_of i a + bit_of i b + carry_of i a b c) h)
  where
    plus_one : 1 + i ≡ i + 1
    plus_one = omega arith

    shape : (c x y u v k P r : ℕ) → u + v + c ≡ k * P + r → x * P + u + (y * P + v) + c ≡ (x + y + k) * P + r
    shape c x y u v k P r g = omega arith

pub full_carry : (i a b c : ℕ) → carry_of (suc i) a b c ≡ (bit_of i a + bit_of i b + carry_of i a b c) / 2
full_carry i a b c =
    let (r, h, e) = low_sum i a b c in
    subst (λ (k : ℕ). carry_of k a b c ≡ (bit_of i a + bit_of i b + carry_of i a b c) / 2) one_plus (carry-at i a b c r h e)
  where
    one_plus : 1 + i ≡ suc i
    one_plus = omega arith

-- a sum differs from its operands where a carry came in
abbrev pub carries_in : ℕ → ℕ → ℕ → ℕ
carries_in a b c = bit_xor (bit_xor (a + b + c) a) b

carry-bit : (i a b c : ℕ) → c < 2 → bit_of i (carries_in a b c) ≡ carry_of i a b c
carry-bit i a b c hc =
    bit-xor i (bit_xor (a + b + c) a) b
    ∙ ap (λ (x : ℕ). (x + bit_of i b) % 2) (bit-xor i (a + b + c) a ∙ ap (λ (x : ℕ). (x + bit_of i a) % 2) (full_sum i a b c))
    ∙ twice (bit_of i a) (bit_of i b) (carry_of i a b c) (carry-lt i a b c hc)
  where
    twice : (x y k : ℕ) → k < 2 → (((x + y + k) % 2 + x) % 2 + y) % 2 ≡ k
    twice x y k h = omega arith

carries-lt : (a b c : ℕ) → a < 2 ^ 32 → b < 2 ^ 32 → c < 2 → carries_in a b c < 2 ^ 33
carries-lt a b c ha hb hc = xor_lt 33 (bit_xor (a + b + c) a) b (xor_lt 33 (a + b + c) a (omega arith) (omega arith)) (omega arith)

-- bit n, shifted up to bit 32 in 64 bits
pub carry-read : (n a b c : ℕ) → 1 ≤ n → n ≤ 32 → a < 2 ^ 32 → b < 2 ^ 32 → c < 2 → carries_in a b c * 2 ^ (32 - n) % 2 ^ 64 / 2 ^ 32 % 2 ≡ carry_of n a b c
carry-read n a b c h l ha hb hc =
    let x : ℕ = carries_in a b c in
    let e : (32 - n) + n ≡ 32 = omega arith in
    let k : 33 + (32 - n) ≤ 64 = omega arith in
    let w : x * 2 ^ (32 - n) < 2 ^ 64 = lt_of_lt_of_le (shl_lt 33 (32 - n) (carries-lt a b c ha hb hc)) (pow_mono k) in
    ap (λ (y : ℕ). y / 2 ^ 32 % 2) (mod-eq_of_lt w)
    ∙ ap (λ (k : ℕ). x * 2 ^ (32 - n) / 2 ^ k % 2) (sym e)
    ∙ ap (λ (y : ℕ). y % 2) (sym (shr-shr (x * 2 ^ (32 - n)) (32 - n) n) ∙ ap (λ (y : ℕ). y / 2 ^ n) (shl-shr x (32 - n)))
    ∙ carry-bit n a b c hc

-- the bits of two neighbours
pub overflow-read : (n a b c : ℕ) → 1 ≤ n → n ≤ 32 → c < 2 → bit_of (n - 1) (bit_xor (carries_in a b c) (carries_in a b c / 2 ^ 1) % 2 ^ 32) ≡ overflow_of n a b c
unfolding overflow_of
overflow-read n a b c h l hc =
    let x : ℕ = carries_in a b c in
    let e : 1 + (n - 1) ≡ n = omega arith in
    bit_wrap (n - 1) (bit_xor x (x / 2 ^ 1)) (omega arith)
    ∙ bit-xor (n - 1) x (x / 2 ^ 1)
    ∙ ap₂ xor (carry-bit (n - 1) a b c hc) (ap (λ (y : ℕ). y % 2) (shr-shr x 1 (n - 1) ∙ ap (λ (k : ℕ). x / 2 ^ k) e) ∙ carry-bit n a b c hc)

pub ruleset reads = (carry-read, overflow-read)
