-- Bounds over the number n of selected bits: the two extra bits, and the fill of Q.
use mathlib.Core.Path.{◌≡◌, sym, ap, ap₂, ◌∙◌}
use Prim.Native.Nat.{ℕ, ◌+◌, ◌-◌, ◌*◌, ◌/◌, ◌%◌, ◌^◌, ◌≤◌, ◌<◌}
use native.Mathlib.Nat.{mod-lt, mod-mod, mod-eq_of_lt, add_comm, mul_assoc, add-mul-mod_self_right, add-mul-div_right}
use native.Mathlib.Omega.{arith}
use lib.Pow.{pow_pos, pow_mono, pow-add, shl_exact, shl-shr, shr-shr, field, mod-mod-pow}
use Rattle.bits.specs.Bits.{sign_of, merged}
use Rattle.bits.proofs.Laws.{shl_law, merged_wrap}
use Rattle.bits.proofs.BitByBit.{by_flag, bit-lt}
use Rattle.multiply.specs.Multiply.{sign_extended}

-- ---- the two extra bits
pub word-le : (n : ℕ) → n ≤ 32 → 2 ^ n ≤ 2 ^ 32
word-le n h = pow_mono h

pub extra : (n : ℕ) → 2 ^ (n + 2) ≡ 4 * 2 ^ n
extra n = let e : 2 ^ (n + 2) ≡ 2 ^ n * 4 = pow-add 2 n 2 in omega arith

pub extra_one : (n : ℕ) → 2 ^ (n + 3) ≡ 8 * 2 ^ n
extra_one n = let e : 2 ^ (n + 3) ≡ 2 ^ n * 8 = pow-add 2 n 3 in omega arith

pub cut-lt : (n s : ℕ) → s % 2 ^ n < 2 ^ n
cut-lt n s = mod-lt s (pow_pos n)

-- the room is a multiple of the extended width
pub room : (n k : ℕ) → n ≤ 32 → 34 ≤ k → 2 ^ (k - (n + 2)) * 2 ^ (n + 2) ≡ 2 ^ k
room n k h l = sym (pow-add 2 (k - (n + 2)) (n + 2)) ∙ ap (λ (j : ℕ). 2 ^ j) (omega arith)

-- two numbers that differ by multiples of W are the same modulo W
pub same-mod : (W x y i j : ℕ) → x + i * W ≡ y + j * W → x % W ≡ y % W
same-mod W x y i j e = sym (add-mul-mod_self_right x i W) ∙ ap (λ (z : ℕ). z % W) e ∙ add-mul-mod_self_right y j W

-- ---- sign extended: twice the sign bit's weight taken off is three times the weight above it put on
pub signed : (n s : ℕ) → 1 ≤ n → n ≤ 32 → (s % 2 ^ n + (2 ^ 40 - 2 * (sign_of n s * 2 ^ (n - 1)))) % 2 ^ (n + 2) ≡ sign_extended n s
signed n s h l =
    let k : 1 + (n - 1) ≡ n = omega arith in
    let e : 2 * 2 ^ (n - 1) ≡ 2 ^ n = sym (pow-add 2 1 (n - 1)) ∙ ap (λ (k : ℕ). 2 ^ k) k in
    let c : s % 2 ^ n < 2 ^ n = cut-lt n s in
    let x : 2 ^ (n + 2) ≡ 4 * 2 ^ n = extra n in
    let w : 2 ^ n ≤ 2 ^ 32 = word-le n l in
    by_flag (λ (f : ℕ). (s % 2 ^ n + (2 ^ 40 - 2 * (f * 2 ^ (n - 1)))) % 2 ^ (n + 2) ≡ s % 2 ^ n + f * (3 * 2 ^ n)) (by 0 (omega arith) (omega arith)) (by 1 (omega arith) (omega arith)) (sign_of n s) (bit-lt (n - 1) s)
  where
    by : (f : ℕ) → s % 2 ^ n + f * (3 * 2 ^ n) < 2 ^ (n + 2) → s % 2 ^ n + (2 ^ 40 - 2 * (f * 2 ^ (n - 1))) + f * 2 ^ (n + 2) ≡ s % 2 ^ n + f * (3 * 2 ^ n) + 2 ^ 40
        → (s % 2 ^ n + (2 ^ 40 - 2 * (f * 2 ^ (n - 1)))) % 2 ^ (n + 2) ≡ s % 2 ^ n + f * (3 * 2 ^ n)
    by f h g = same-mod (2 ^ (n + 2)) _ _ f (2 ^ (40 - (n + 2))) (g ∙ ap (λ (x : ℕ). s % 2 ^ n + f * (3 * 2 ^ n) + x) (sym (room n 40 l (omega arith)))) ∙ mod-eq_of_lt h

-- ---- the fill of Q: two bits above what is left of the selected ones
pub quarter : (n : ℕ) → 2 ≤ n → 2 ^ n ≡ 4 * 2 ^ (n - 2)
quarter n h = ap (λ (k : ℕ). 2 ^ k) (omega arith) ∙ extra (n - 2)

pub filled : (n q f : ℕ) → 2 ≤ n → n ≤ 32 → f < 4 → (q * 2 ^ (32 - n) % 2 ^ 32 / 2 ^ 2 + f * 2 ^ 30 % 2 ^ 32) / 2 ^ (32 - n) ≡ q % 2 ^ n / 4 + f * 2 ^ (n - 2)
filled n q f h l hf =
    let k : ℕ = 32 - n in
    let e : 32 - k ≡ n = omega arith in
    let g : 30 ≡ (n - 2) + k = omega arith in
    let Q : ℕ = q % 2 ^ n in
    ap₂ (λ (x y : ℕ). (x / 2 ^ 2 + y) / 2 ^ k)
    (shl_law k q (omega arith) ∙ ap (λ (j : ℕ). q % 2 ^ j * 2 ^ k) e)
    (shl_exact 2 30 32 hf (omega arith) ∙ ap (λ (j : ℕ). f * 2 ^ j) g ∙ ap (λ (x : ℕ). f * x) (pow-add 2 (n - 2) k) ∙ sym (mul_assoc f (2 ^ (n - 2)) (2 ^ k)))
    ∙ add-mul-div_right (Q * 2 ^ k / 2 ^ 2) (f * 2 ^ (n - 2)) (pow_pos k)
    ∙ ap (λ (x : ℕ). x + f * 2 ^ (n - 2)) (shr-shr (Q * 2 ^ k) 2 k ∙ ap (λ (j : ℕ). Q * 2 ^ k / 2 ^ j) (add_comm 2 k) ∙ sym (shr-shr (Q * 2 ^ k) k 2) ∙ ap (λ (x : ℕ). x / 4) (shl-shr Q k))

-- Y and the fill read the n + 2 bits of F* alone
pub down-cut : (n f : ℕ) → f % 2 ^ (n + 2) / 4 ≡ f / 4 % 2 ^ n
down-cut n f = field f n 2

pub fill-cut : (n f : ℕ) → f % 2 ^ (n + 2) % 4 ≡ f % 4
fill-cut n f = mod-mod-pow f n 2

pub merged-cut : (n x u : ℕ) → merged n (x % 2 ^ n) u ≡ merged n x u
unfolding merged
merged-cut n x u = ap (λ (r : ℕ). u / 2 ^ n * 2 ^ n + r) (mod-mod x (2 ^ n))

pub ruleset extending = (word-le, cut-lt, extra, mod-eq_of_lt)

pub ruleset shifting = (merged_wrap, down-cut, fill-cut, merged-cut, mod-eq_of_lt)
