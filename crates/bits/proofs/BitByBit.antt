-- Numbers bit by bit: what each bitwise operation does to bit i, that numbers with the same bits are equal, and what a masked merge does to
-- each bit.
use Rattle.std.proofs.Common.{◌≡◌, ℕ, zero, suc, ◌+◌, ◌-◌, ◌*◌, ◌/◌, ◌%◌, ◌^◌, ◌<◌, min, max, sym, refl, ap, ◌∙◌, subst, ap₂, mod-lt, add-mul, pow-suc, div-one, arith, lit<, pow_pos, pow-add, shr-shr, shr_lt}
use lib.Arith.{lt-one, digits_div}
use lib.Pow.{split}
use lib.Bits.{bit_and, bit_or, bit_xor, differ, and_shr, or_shr, xor_shr, and_step, or_step, xor_step}
use Rattle.bits.specs.Bits.{bit_of, masked_of, not_of}

pub bit-lt : (i x : ℕ) → bit_of i x < 2
bit-lt i x = mod-lt (x / 2 ^ i) (lit< tt)

-- a fact about a flag is one about 0 and one about 1
pub by_flag {ℓ} : (P : ℕ → Type ℓ) → P 0 → P 1 → (f : ℕ) → f < 2 → P f
by_flag P p₀ p₁ zero h = p₀
by_flag P p₀ p₁ (suc zero) h = p₁
by_flag P p₀ p₁ (suc (suc f)) h = absurd (omega arith)

-- three flags at once
pub by_flags : (P : ℕ → ℕ → ℕ → Type 0) → P 0 0 0 → P 0 0 1 → P 0 1 0 → P 0 1 1 → P 1 0 0 → P 1 0 1 → P 1 1 0 → P 1 1 1
    → (x y k : ℕ) → x < 2 → y < 2 → k < 2 → P x y k
by_flags P p₀ p₁ p₂ p₃ p₄ p₅ p₆ p₇ x y k hx hy hk =
    by_flag (λ (x : ℕ). P x y k)
    (by_flag (λ (y : ℕ). P 0 y k) (by_flag (P 0 0) p₀ p₁ k hk) (by_flag (P 0 1) p₂ p₃ k hk) y hy)
    (by_flag (λ (y : ℕ). P 1 y k) (by_flag (P 1 0) p₄ p₅ k hk) (by_flag (P 1 1) p₆ p₇ k hk) y hy)
    x hx

low_of : (p q x : ℕ) → q < 2 → x ≡ p * 2 + q → x % 2 ≡ q
low_of p q x h e = omega arith

pub bit-and : (i a b : ℕ) → bit_of i (bit_and a b) ≡ min (bit_of i a) (bit_of i b)
bit-and i a b = ap (λ (x : ℕ). x % 2) (and_shr a b i) ∙ low_of _ _ _ (both (bit_of i a) (bit_of i b) (bit-lt i a)) (and_step (a / 2 ^ i) (b / 2 ^ i))
  where
    both : (x y : ℕ) → x < 2 → min x y < 2
    both x y h = omega arith

pub bit-or : (i a b : ℕ) → bit_of i (bit_or a b) ≡ max (bit_of i a) (bit_of i b)
bit-or i a b = ap (λ (x : ℕ). x % 2) (or_shr a b i) ∙ low_of _ _ _ (both (bit_of i a) (bit_of i b) (bit-lt i a) (bit-lt i b)) (or_step (a / 2 ^ i) (b / 2 ^ i))
  where
    both : (x y : ℕ) → x < 2 → y < 2 → max x y < 2
    both x y h k = omega arith

pub differ-flags : (x y : ℕ) → x < 2 → y < 2 → differ x y ≡ (x + y) % 2
differ-flags x y h k =
    by_flag (λ (x : ℕ). differ x y ≡ (x + y) % 2) (by_flag (λ (y : ℕ). y ≡ (0 + y) % 2) refl refl y k)
    (by_flag (λ (y : ℕ). differ 1 y ≡ (1 + y) % 2) refl refl y k) x h

pub bit-xor : (i a b : ℕ) → bit_of i (bit_xor a b) ≡ (bit_of i a + bit_of i b) % 2
bit-xor i a b =
    ap (λ (x : ℕ). x % 2) (xor_shr a b i)
    ∙ low_of _ _ _ (subst (λ (x : ℕ). x < 2) (sym e) (mod-lt (bit_of i a + bit_of i b) (lit< tt))) (xor_step (a / 2 ^ i) (b / 2 ^ i))
    ∙ e
  where
    e : differ (bit_of i a) (bit_of i b) ≡ (bit_of i a + bit_of i b) % 2
    e = differ-flags (bit_of i a) (bit_of i b) (bit-lt i a) (bit-lt i b)

-- two numbers of k bits with the same bits are equal
pub bit_ext : (k a b : ℕ) → a < 2 ^ k → b < 2 ^ k → ((i : ℕ) → i < k → bit_of i a ≡ bit_of i b) → a ≡ b
bit_ext zero a b ha hb h = lt-one ha ∙ sym (lt-one hb)
bit_ext (suc k) a b ha hb h =
    let p : 2 ^ suc k ≡ 2 ^ k * 2 = pow-suc 2 k in
    let low : a % 2 ≡ b % 2 = subst (λ (x : ℕ). x % 2 ≡ b % 2) (div-one a) (subst (λ (x : ℕ). a / 1 % 2 ≡ x % 2) (div-one b) (h 0 (omega arith))) in
    let high : a / 2 ≡ b / 2 =
    bit_ext k (a / 2) (b / 2) (omega arith) (omega arith)
    (λ i l. ap (λ (x : ℕ). x % 2) (shr-shr a 1 i) ∙ subst (λ (n : ℕ). a / 2 ^ n % 2 ≡ b / 2 ^ n % 2) (sym (one_plus i)) (h (suc i) (omega arith)) ∙ sym (ap (λ (x : ℕ). x % 2) (shr-shr b 1 i))) in
    omega arith
  where
    one_plus : (i : ℕ) → 1 + i ≡ suc i
    one_plus i = omega arith

-- a complement by its parts: those of the high and of the low part
pub complement_parts : (P M N y q r : ℕ) → N ≡ P * M → q * M + r ≡ y → r < M → q < P → (N - 1) - y ≡ ((P - 1) - q) * M + ((M - 1) - r)
complement_parts P M N y q r e s l h =
    let t : ((P - 1) - q) + (q + 1) ≡ P = omega arith in
    let u : ((P - 1) - q) * M + (q * M + 1 * M) ≡ P * M = sym (ap (λ (x : ℕ). ((P - 1) - q) * M + x) (add-mul q 1 M)) ∙ sym (add-mul ((P - 1) - q) (q + 1) M) ∙ ap (λ (x : ℕ). x * M) t in
    omega arith

not_shr : (i j y : ℕ) → y < 2 ^ (j + i) → ((2 ^ (j + i) - 1) - y) / 2 ^ i ≡ (2 ^ j - 1) - y / 2 ^ i
not_shr i j y h =
    let l : y % 2 ^ i < 2 ^ i = mod-lt y (pow_pos i) in
    let q : y / 2 ^ i < 2 ^ j = shr_lt j i h in
    ap (λ (x : ℕ). x / 2 ^ i) (complement_parts (2 ^ j) (2 ^ i) (2 ^ (j + i)) y (y / 2 ^ i) (y % 2 ^ i) (pow-add 2 j i) (split y i) l q)
    ∙ digits_div ((2 ^ j - 1) - y / 2 ^ i) (omega arith)

-- a bit of a complement
pub bit_not : (i y : ℕ) → i < 32 → y < 2 ^ 32 → bit_of i (not_of y) ≡ 1 - bit_of i y
bit_not i y h hy =
    let e : 32 ≡ suc (31 - i) + i = omega arith in
    let hy' : y < 2 ^ (suc (31 - i) + i) = subst (λ (k : ℕ). y < 2 ^ k) e hy in
    subst (λ (k : ℕ). ((2 ^ k - 1) - y) / 2 ^ i % 2 ≡ 1 - bit_of i y) (sym e)
    (ap (λ (x : ℕ). x % 2) (not_shr i (suc (31 - i)) y hy') ∙ odd (31 - i) (y / 2 ^ i) (shr_lt (suc (31 - i)) i hy'))
  where
    odd : (j q : ℕ) → q < 2 ^ suc j → ((2 ^ suc j - 1) - q) % 2 ≡ 1 - q % 2
    odd j q l = let p : 2 ^ suc j ≡ 2 ^ j * 2 = pow-suc 2 j in omega arith

-- a masked merge, bit by bit: s where the mask has a one, u where it has a zero
masked-bit : (i m s u : ℕ) → i < 32 → m < 2 ^ 32 → bit_of i (masked_of m s u) ≡ max (min (bit_of i s) (bit_of i m)) (min (bit_of i u) (1 - bit_of i m))
masked-bit i m s u h hm =
    bit-or i (bit_and s m) (bit_and u (not_of m))
    ∙ ap₂ max (bit-and i s m) (bit-and i u (not_of m) ∙ ap (min (bit_of i u)) (bit_not i m h hm))

pub masked-one : (i m s u : ℕ) → i < 32 → m < 2 ^ 32 → bit_of i m ≡ 1 → bit_of i (masked_of m s u) ≡ bit_of i s
masked-one i m s u h hm e = masked-bit i m s u h hm ∙ there (bit_of i s) (bit_of i u) (bit_of i m) (bit-lt i s) e
  where
    there : (x y z : ℕ) → x < 2 → z ≡ 1 → max (min x z) (min y (1 - z)) ≡ x
    there x y z hx e = rw e (omega arith)

pub masked-zero : (i m s u : ℕ) → i < 32 → m < 2 ^ 32 → bit_of i m ≡ 0 → bit_of i (masked_of m s u) ≡ bit_of i u
masked-zero i m s u h hm e = masked-bit i m s u h hm ∙ elsewhere (bit_of i s) (bit_of i u) (bit_of i m) (bit-lt i u) e
  where
    elsewhere : (x y z : ℕ) → y < 2 → z ≡ 0 → max (min x z) (min y (1 - z)) ≡ y
    elsewhere x y z hy e = rw e (omega arith)
