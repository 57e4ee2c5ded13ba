-- Laws over the number n of selected bits: what the code's masks and shifts are as quotients and remainders.
use Rattle.std.proofs.Common.{◌≡◌, ℕ, zero, suc, ◌+◌, ◌-◌, ◌*◌, ◌/◌, ◌%◌, ◌^◌, ◌<◌, ◌≤◌, min, w32, eqb, sym, refl, ap, ◌∙◌, subst, ap₂, add-zero, mod-lt, mod-eq_of_lt, mul_assoc, mul_comm, div-lt_iff_lt-mul, add-mul, one-mul, pow-suc, zero-mul, arith, lit<, pow_pos, pow-add, shr-shr, shr_lt, ne_eqb}
use native.Mathlib.Nat.{mul-mod_left}
use Rattle.std.specs.Int.{rotate_left}
use lib.Arith.{lt-one}
use lib.Pow.{pow-lt, split, field, high, ones_split, ones_lt, shr_mod, shl-shr, mod-pow-add, mod-mod-pow}
use lib.Bits.{bit_and, bit_or, or_self, and_step, or_step, or_zero_r, and_mask, and_high, or_block, or_shifted, or_shifted_r}
use lib.Count.{count_leading_zeros, leading_length, leading_unique}
use Rattle.bits.specs.Bits.{choose, flag, merged, carry_of, zero_of, bit_of, rotated_up, put_bit}

-- all ones, shifted down so that n are left
pub ones_shr : (n : ℕ) → n ≤ 32 → (2 ^ 32 - 1) / 2 ^ (32 - n) ≡ 2 ^ n - 1
ones_shr n h =
    let e : n + (32 - n) ≡ 32 = omega arith in
    ap (λ (k : ℕ). (2 ^ k - 1) / 2 ^ (32 - n)) (sym e) ∙ ap (λ (x : ℕ). x / 2 ^ (32 - n)) (ones_split n (32 - n)) ∙ high (2 ^ n - 1) (32 - n) (ones_lt (32 - n))

-- the complement of a mask of n low bits keeps the bits above them
pub and-not-mask : (n x : ℕ) → n ≤ 32 → x < 2 ^ 32 → bit_and x ((2 ^ 32 - 1) - (2 ^ n - 1)) ≡ x / 2 ^ n * 2 ^ n
and-not-mask n x h hx =
    let e : (32 - n) + n ≡ 32 = omega arith in
    let p : 0 < 2 ^ n = pow_pos n in
    let m : (2 ^ 32 - 1) - (2 ^ n - 1) ≡ 2 ^ ((32 - n) + n) - 2 ^ n = subst (λ (k : ℕ). (2 ^ 32 - 1) - (2 ^ n - 1) ≡ 2 ^ k - 2 ^ n) (sym e) (omega arith) in
    ap (bit_and x) m ∙ and_high x (32 - n) n ∙ ap (λ (q : ℕ). q * 2 ^ n) (shr_mod (32 - n) n (subst (λ (k : ℕ). x < 2 ^ k) (sym e) hx))

-- the two parts of a word joined by masks
pub merge_law : (n s u : ℕ) → n ≤ 32 → u < 2 ^ 32 → bit_or (bit_and s (2 ^ n - 1)) (bit_and u ((2 ^ 32 - 1) - (2 ^ n - 1))) ≡ merged n s u
unfolding merged
merge_law n s u h hu = ap₂ bit_or (and_mask s n) (and-not-mask n u h hu) ∙ or_shifted_r (u / 2 ^ n) n (s % 2 ^ n) (mod-lt s (pow_pos n))

-- all four bytes selected: the whole of s
pub merged-whole : (s u : ℕ) → s < 2 ^ 32 → u < 2 ^ 32 → merged 32 s u ≡ s
unfolding merged
merged-whole s u hs hu = omega arith

-- what is carried out of a sum of two numbers of n bits and a bit is a bit
pub carry-lt : (n a b c : ℕ) → c < 2 → carry_of n a b c < 2
unfolding carry_of
carry-lt n a b c h =
    let p : 0 < 2 ^ n = pow_pos n in
    let ha : a % 2 ^ n < 2 ^ n = mod-lt a p in
    let hb : b % 2 ^ n < 2 ^ n = mod-lt b p in
    (div-lt_iff_lt-mul p).1 (omega arith)

-- the low n bits of a number are those of its low 32 bits
pub cut_wrap : (n x : ℕ) → n ≤ 32 → x % 2 ^ 32 % 2 ^ n ≡ x % 2 ^ n
cut_wrap n x h =
    let e : (32 - n) + n ≡ 32 = omega arith in
    subst (λ (k : ℕ). x % 2 ^ k % 2 ^ n ≡ x % 2 ^ n) e (mod-mod-pow x (32 - n) n)

pub merged_wrap : (n x u : ℕ) → n ≤ 32 → merged n (x % 2 ^ 32) u ≡ merged n x u
unfolding merged
merged_wrap n x u h = ap (λ (r : ℕ). u / 2 ^ n * 2 ^ n + r) (cut_wrap n x h)

pub zero_wrap : (n x : ℕ) → n ≤ 32 → zero_of n (x % 2 ^ 32) ≡ zero_of n x
unfolding zero_of
zero_wrap n x h = ap (λ (r : ℕ). flag (eqb r 0)) (cut_wrap n x h)

pub bit_wrap : (i x : ℕ) → i < 32 → bit_of i (x % 2 ^ 32) ≡ bit_of i x
bit_wrap i x h =
    let e : (31 - i) + suc i ≡ 32 = omega arith in
    let f : (32 - i) + i ≡ 32 = omega arith in
    let g : 1 + (31 - i) ≡ 32 - i = omega arith in
    subst (λ (k : ℕ). x % 2 ^ k / 2 ^ i % 2 ≡ x / 2 ^ i % 2) f
    (ap (λ (q : ℕ). q % 2) (field x (32 - i) i)
    ∙ subst (λ (k : ℕ). x / 2 ^ i % 2 ^ k % 2 ^ 1 ≡ x / 2 ^ i % 2 ^ 1) (omega arith) (mod-mod-pow (x / 2 ^ i) (31 - i) 1))

-- shifted up in 32 bits: the bits that stay, at their new places
pub shl_law : (k x : ℕ) → k ≤ 32 → (x * 2 ^ k) % 2 ^ 32 ≡ x % 2 ^ (32 - k) * 2 ^ k
shl_law k x h =
    let e : (32 - k) + k ≡ 32 = omega arith in
    subst (λ (m : ℕ). (x * 2 ^ k) % 2 ^ m ≡ x % 2 ^ (32 - k) * 2 ^ k) e
    (mod-pow-add (x * 2 ^ k) (32 - k) k ∙ ap₂ (λ (q r : ℕ). q % 2 ^ (32 - k) * 2 ^ k + r) (shl-shr x k) (mul-mod_left x (2 ^ k)) ∙ add-zero _)

-- n bits moved to the top: the highest of them, and whether there is none
pub top-sign : (n x : ℕ) → 1 ≤ n → n ≤ 32 → x % 2 ^ n * 2 ^ (32 - n) / 2 ^ 31 ≡ bit_of (n - 1) x
top-sign n x h l =
    let e : (32 - n) + (n - 1) ≡ 31 = omega arith in
    let f : 1 + (n - 1) ≡ n = omega arith in
    subst (λ (k : ℕ). x % 2 ^ n * 2 ^ (32 - n) / 2 ^ k ≡ bit_of (n - 1) x) e
    (sym (shr-shr (x % 2 ^ n * 2 ^ (32 - n)) (32 - n) (n - 1))
    ∙ ap (λ (q : ℕ). q / 2 ^ (n - 1)) (shl-shr (x % 2 ^ n) (32 - n))
    ∙ subst (λ (k : ℕ). x % 2 ^ k / 2 ^ (n - 1) ≡ bit_of (n - 1) x) f (field x 1 (n - 1)))

pub top-zero : (n x : ℕ) → eqb (x % 2 ^ n * 2 ^ (32 - n)) 0 ≡ eqb (x % 2 ^ n) 0
top-zero n x = scaled (x % 2 ^ n) (2 ^ (32 - n)) (pow_pos (32 - n))
  where
    scaled : (y P : ℕ) → 0 < P → eqb (y * P) 0 ≡ eqb y 0
    scaled zero P h = ap (λ (q : ℕ). eqb q 0) (zero-mul P)
    scaled (suc y) P h = ne_eqb (suc y * P) 0 (λ (e : suc y * P ≡ 0). omega arith) ∙ sym (ne_eqb (suc y) 0 (λ (e : suc y ≡ 0). omega arith))

-- the two parts of a word that is rotated, exchanged
pub rotated_parts : (k x : ℕ) → k ≤ 32 → x < 2 ^ 32 → bit_or ((x * 2 ^ k) % 2 ^ 32) (x / 2 ^ (32 - k)) ≡ rotated_up k x
unfolding rotated_up
rotated_parts k x h hx =
    let e : k + (32 - k) ≡ 32 = omega arith in
    ap (λ (y : ℕ). bit_or y (x / 2 ^ (32 - k))) (shl_law k x h)
    ∙ or_shifted (x % 2 ^ (32 - k)) k (x / 2 ^ (32 - k)) (shr_lt k (32 - k) (subst (λ (m : ℕ). x < 2 ^ m) (sym e) hx))

-- and by the language's rotation
pub rotate_law : (k x : ℕ) → k < 32 → x < 2 ^ 32 → rotate_left w32 x k ≡ rotated_up k x
unfolding rotated_up
rotate_law zero x h hx =
    let up : x * 2 ^ 0 % 2 ^ 32 ≡ x = omega arith in
    let down : x / 2 ^ 0 ≡ x = omega arith in
    ap₂ bit_or up down ∙ or_self x ∙ omega arith
rotate_law (suc j) x h hx =
    let k : ℕ = suc j in
    let m : k % 32 ≡ k = mod-eq_of_lt h in
    let n : (32 - k) % 32 ≡ 32 - k = mod-eq_of_lt (omega arith) in
    rw (m, n) (rotated_parts k x (omega arith) hx)

-- the leading zeros of a word cut to n bits, as 32 bits and as n
pub leading_zeros : (n x : ℕ) → n ≤ 32 → count_leading_zeros 32 (x % 2 ^ n) ≡ count_leading_zeros n (x % 2 ^ n) + (32 - n)
leading_zeros n x h =
    let l = leading_length n (x % 2 ^ n) (mod-lt x (pow_pos n)) in
    sym (leading_unique 32 (x % 2 ^ n) (count_leading_zeros n (x % 2 ^ n) + (32 - n)) l.0 (omega arith) l.2 l.3)

-- a bit or'ed in
pub or-one : (y : ℕ) → bit_or y 1 ≡ y / 2 * 2 + 1
or-one y =
    let h : y % 2 < 2 = mod-lt y (lit< tt) in
    or_step y 1 ∙ ap₂ (λ (p q : ℕ). p * 2 + q) (or_zero_r (y / 2)) (omega arith)

pub put_one : (i x : ℕ) → bit_or x (2 ^ i) ≡ put_bit i 1 x
unfolding put_bit
put_one i x =
    let e : x / 2 ^ i / 2 ≡ x / 2 ^ (i + 1) = shr-shr x i 1 in
    let w : 2 ^ i * 2 ≡ 2 ^ (i + 1) = sym (pow-add 2 i 1) in
    ap₂ bit_or (sym (split x i)) (sym (add-zero (1 * 2 ^ i) ∙ one-mul (2 ^ i)))
    ∙ or_block i (x / 2 ^ i) 1 (x % 2 ^ i) 0 (mod-lt x (pow_pos i)) (pow_pos i)
    ∙ ap₂ (λ (p q : ℕ). p * 2 ^ i + q) (or-one (x / 2 ^ i) ∙ ap (λ (q : ℕ). q * 2 + 1) e) (or_zero_r (x % 2 ^ i))
    ∙ ap (λ (q : ℕ). q + x % 2 ^ i) (add-mul (x / 2 ^ (i + 1) * 2) 1 (2 ^ i) ∙ ap (λ (q : ℕ). q + 1 * 2 ^ i) (mul_assoc (x / 2 ^ (i + 1)) 2 (2 ^ i) ∙ ap (λ (q : ℕ). x / 2 ^ (i + 1) * q) (mul_comm 2 (2 ^ i) ∙ w)))

-- a digit is kept by a mask's digit or by its complement
digit : (a b : ℕ) → a < 2 → b < 2 → min a (1 - b) + min a b ≡ a
digit a b ha hb = omega arith

-- a mask and its complement part a number
pub and_compl : (k x m : ℕ) → x < 2 ^ k → m < 2 ^ k → bit_and x ((2 ^ k - 1) - m) + bit_and x m ≡ x
and_compl zero x m hx hm = ap (λ (y : ℕ). bit_and y ((2 ^ 0 - 1) - m) + bit_and y m) (lt-one hx) ∙ sym (lt-one hx)
and_compl (suc k) x m hx hm =
    let p : 2 ^ suc k ≡ 2 ^ k * 2 = pow-suc 2 k in
    let q : 0 < 2 ^ k = pow_pos k in
    let ch : ((2 ^ suc k - 1) - m) / 2 ≡ (2 ^ k - 1) - m / 2 = omega arith in
    let cl : ((2 ^ suc k - 1) - m) % 2 ≡ 1 - m % 2 = omega arith in
    let ih : bit_and (x / 2) ((2 ^ k - 1) - m / 2) + bit_and (x / 2) (m / 2) ≡ x / 2 = and_compl k (x / 2) (m / 2) (omega arith) (omega arith) in
    let d : min (x % 2) (1 - m % 2) + min (x % 2) (m % 2) ≡ x % 2 = digit (x % 2) (m % 2) (mod-lt x (lit< tt)) (mod-lt m (lit< tt)) in
    ap₂ (λ (u v : ℕ). u + v)
    (and_step x ((2 ^ suc k - 1) - m) ∙ ap₂ (λ (u v : ℕ). bit_and (x / 2) u * 2 + min (x % 2) v) ch cl)
    (and_step x m)
    ∙ both (bit_and (x / 2) ((2 ^ k - 1) - m / 2)) (min (x % 2) (1 - m % 2)) (bit_and (x / 2) (m / 2)) (min (x % 2) (m % 2)) x ih d
  where
    both : (a b c d x : ℕ) → a + c ≡ x / 2 → b + d ≡ x % 2 → (a * 2 + b) + (c * 2 + d) ≡ x
    both a b c d x e f = omega arith

-- one bit of a number, in its place
pub and-bit : (i x : ℕ) → bit_and x (2 ^ i) ≡ x / 2 ^ i % 2 * 2 ^ i
and-bit i x =
    let w : 2 ^ (1 + i) ≡ 2 * 2 ^ i = pow-add 2 1 i in
    ap (bit_and x) (omega arith) ∙ and_high x 1 i

pub put-zero : (i x : ℕ) → i < 32 → x < 2 ^ 32 → bit_and x ((2 ^ 32 - 1) - 2 ^ i) ≡ put_bit i 0 x
unfolding put_bit
put-zero i x h hx =
    let e : i + 1 ≡ 1 + i = omega arith in
    let a : bit_and x ((2 ^ 32 - 1) - 2 ^ i) + bit_and x (2 ^ i) ≡ x = and_compl 32 x (2 ^ i) hx (pow-lt h) in
    let b : bit_and x (2 ^ i) ≡ x / 2 ^ i % 2 * 2 ^ i = and-bit i x in
    let s : x / 2 ^ (i + 1) * 2 ^ (i + 1) + x % 2 ^ (i + 1) ≡ x = split x (i + 1) in
    let m : x % 2 ^ (i + 1) ≡ x / 2 ^ i % 2 * 2 ^ i + x % 2 ^ i = ap (λ (k : ℕ). x % 2 ^ k) e ∙ mod-pow-add x 1 i in
    let z : 0 * 2 ^ i ≡ 0 = zero-mul (2 ^ i) in
    omega arith

pub one_shl : (i : ℕ) → i < 32 → (1 * 2 ^ i) % 2 ^ 32 ≡ 2 ^ i
one_shl i h = ap (λ (x : ℕ). x % 2 ^ 32) (one-mul (2 ^ i)) ∙ mod-eq_of_lt (pow-lt h)

-- a choice by a number that is 0, and by one that is not
pub choose-zero {ℓ} : {A : Type ℓ} (f : ℕ) (a b : A) → f ≡ 0 → choose f a b ≡ a
choose-zero f a b e = ap (λ (k : ℕ). choose k a b) e

pub choose_one {ℓ} : {A : Type ℓ} (f : ℕ) (a b : A) → (f ≡ 0 → ⊥) → choose f a b ≡ b
choose_one zero a b h = absurd (h refl)
choose_one (suc k) a b h = refl

-- what the code's single bits, masks and bits at the top are
pub ruleset one_bit = (and-bit, put_one, put-zero, one_shl)

pub ruleset masks = (and_mask)

pub ruleset top_bits = (top-sign, top-zero)
