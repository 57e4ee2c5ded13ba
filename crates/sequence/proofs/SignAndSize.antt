-- Integers by sign and size: what the bits of a register are, and what quotient and remainder, cut towards zero, are.
use mathlib.Core.Path.{◌≡◌, refl, sym, ap, ap₂, ◌∙◌}
use mathlib.Core.Logic.{◌⊎◌, inl, inr}
use Prim.Native.Nat.{ℕ, zero, suc, ◌+◌, ◌-◌, ◌*◌, ◌/◌, ◌%◌, ◌^◌, ◌<◌, ◌≤◌}
use native.Mathlib.Nat.{mod-lt, mod-le, mod-eq_of_lt, div-le_self}
use native.Mathlib.Omega.{arith}
use lib.Arith.{digits_mod, digits_lt}
use borrow.Author.Tests.{le-ltb}
use lib.Pow.{pow_pos}
use lib.IntN.{ℤ, pos, neg_ℤ, sub_ℕ, ◌+ℤ◌, ◌*ℤ◌, nat_abs}
use lib.Signed.{mag, non_neg, quot_z, rem_z}
use Rattle.bits.specs.Bits.{choose, flag, xor}
use Rattle.bits.proofs.BitByBit.{by_flag}
use Rattle.sequence.specs.Signed.{signed}
use Rattle.sequence.specs.Results.{negative}
use Rattle.sequence.proofs.Integers.{pos_sub, neg_sub, sub_same, sub-sum, sub-product}
use Rattle.sequence.proofs.Lists.{sign_top, halved}
use Rattle.sequence.proofs.TopBit.{top, top-low, top-high, Top, Top.clear, Top.full, top_is}
use Rattle.sequence.proofs.SignedDivideNumbers.{Divisor}
use Rattle.sequence.proofs.SignedCorrections.{residue, Size, Size.as_it_is, Size.complemented}

-- v, or minus v where f is 1
abbrev pub sized : ℕ → ℕ → ℤ
sized f v = choose f (pos v) (neg_ℤ (pos v))

-- as a difference
sized_is : (f v : ℕ) → f < 2 → sized f v ≡ sub_ℕ (choose f v 0) (choose f 0 v)
sized_is f v h = by_flag (λ (f : ℕ). sized f v ≡ sub_ℕ (choose f v 0) (choose f 0 v)) (pos_sub v) (neg_sub v) f h

-- ---- registers
-- bits that are v, or its two's complement, are that integer
pub residue-signed : (n x f v : ℕ) → 1 ≤ n → f < 2 → 2 * v < 2 ^ n + 2 * f → x % 2 ^ n ≡ residue (2 ^ n) f v → signed n x ≡ sized f v
residue-signed n x f v hn hf hv e =
    ap₂ (λ (a s : ℕ). sub_ℕ a (s * W)) e (sign_top n x hn ∙ ap (top W) e) ∙ by_flag Row (λ h. plus h) (λ h. minus v h) f hf hv
  where
    W : ℕ
    W = 2 ^ n

    Row : ℕ → Type 0
    Row f = 2 * v < 2 ^ n + 2 * f → sub_ℕ (residue (2 ^ n) f v) (top (2 ^ n) (residue (2 ^ n) f v) * 2 ^ n) ≡ sized f v

    plus : 2 * v < W + 2 * 0 → sub_ℕ v (top W v * W) ≡ pos v
    plus h = ap (λ (s : ℕ). sub_ℕ v (s * W)) (top-low W v (omega arith)) ∙ sub_same v (0 * W) v 0 (omega arith) ∙ sym (pos_sub v)

    minus : (v : ℕ) → 2 * v < W + 2 * 1 → sub_ℕ ((W - v) % W) (top W ((W - v) % W) * W) ≡ neg_ℤ (pos v)
    minus zero h =
        ap (λ (a : ℕ). sub_ℕ a (top W a * W)) (ap (λ (a : ℕ). a % W) (omega arith) ∙ digits_mod 1 {m = W} {r = 0} (pow_pos n))
        ∙ ap (λ (s : ℕ). sub_ℕ 0 (s * W)) (top-low W 0 (pow_pos n)) ∙ sub_same 0 (0 * W) 0 0 (omega arith) ∙ sym (neg_sub 0)
    minus (suc v) h =
        ap (λ (a : ℕ). sub_ℕ a (top W a * W)) (mod-eq_of_lt (omega (arith, pow_pos n)))
        ∙ ap (λ (s : ℕ). sub_ℕ (W - suc v) (s * W)) (top-high W (W - suc v) (omega (arith, even)) (omega (arith, pow_pos n))) ∙ sub_same (W - suc v) (1 * W) 0 (suc v) (omega (arith, even)) ∙ sym (neg_sub (suc v))
      where
        even : 2 ^ n ≡ 2 * 2 ^ (n - 1)
        even = halved n (omega arith)

-- ---- quotient and remainder
pub size_of_lem : (f v : ℕ) → f < 2 → nat_abs (sized f v) ≡ v
size_of_lem f v h = by_flag (λ (f : ℕ). nat_abs (sized f v) ≡ v) refl (go v) f h
  where
    go : (v : ℕ) → nat_abs (neg_ℤ (pos v)) ≡ v
    go zero = refl
    go (suc v) = refl

pub quotient-sized : (ρ δ Y E : ℕ) → ρ < 2 → δ < 2 → 0 < E → quot_z (sized ρ Y) (sized δ E) ≡ sized (xor ρ δ) (Y / E)
quotient-sized ρ δ Y E hρ hδ hE =
    by_flag (λ (ρ : ℕ). Row ρ δ Y E) (by_flag (λ (δ : ℕ). Row 0 δ Y E) refl (over E hE) δ hδ) (by_flag (λ (δ : ℕ). Row 1 δ Y E) (under Y) (both Y E hE) δ hδ) ρ hρ
  where
    Row : ℕ → ℕ → ℕ → ℕ → Type 0
    Row ρ δ Y E = quot_z (sized ρ Y) (sized δ E) ≡ sized (xor ρ δ) (Y / E)

    over : (E : ℕ) → 0 < E → Row 0 1 Y E
    over zero h = absurd (omega arith)
    over (suc e) h = refl

    none : (E : ℕ) → 0 / E ≡ 0
    none E = omega (arith, div-le_self 0 E)

    under : (Y : ℕ) → Row 1 0 Y E
    under zero = ap (λ (v : ℕ). pos v) (none E) ∙ sym (ap (λ (v : ℕ). neg_ℤ (pos v)) (none E))
    under (suc y) = refl

    both : (Y E : ℕ) → 0 < E → Row 1 1 Y E
    both Y zero h = absurd (omega arith)
    both zero (suc e) h = ap (λ (v : ℕ). neg_ℤ (pos v)) (none (suc e)) ∙ sym (ap (λ (v : ℕ). pos v) (none (suc e)))
    both (suc y) (suc e) h = refl

pub remainder-sized : (ρ δ Y E : ℕ) → ρ < 2 → δ < 2 → 0 < E → rem_z (sized ρ Y) (sized δ E) ≡ sized ρ (Y % E)
remainder-sized ρ δ Y E hρ hδ hE =
    by_flag (λ (ρ : ℕ). rem_z (sized ρ Y) (sized δ E) ≡ sized ρ (Y % nat_abs (sized δ E))) refl (under Y) ρ hρ ∙ ap (λ (d : ℕ). sized ρ (Y % d)) (size_of_lem δ E hδ)
  where
    none : (d : ℕ) → 0 % d ≡ 0
    none d = omega (arith, mod-le 0 d)

    under : (Y : ℕ) → rem_z (neg_ℤ (pos Y)) (sized δ E) ≡ neg_ℤ (pos (Y % nat_abs (sized δ E)))
    under zero = ap (λ (v : ℕ). pos v) (none (nat_abs (sized δ E))) ∙ sym (ap (λ (v : ℕ). neg_ℤ (pos v)) (none (nat_abs (sized δ E))))
    under (suc y) = refl

-- quotient times divisor plus remainder
pub whole-sized : (ρ δ k E y : ℕ) → ρ < 2 → δ < 2 → sized (xor ρ δ) k *ℤ sized δ E +ℤ sized ρ y ≡ sized ρ (k * E + y)
whole-sized ρ δ k E y hρ hδ =
    ap₂ ◌+ℤ◌ (ap₂ ◌*ℤ◌ (sized_is (xor ρ δ) k (mod-lt (ρ + δ) (omega arith))) (sized_is δ E hδ) ∙ sub-product k⁺ k⁻ E⁺ E⁻) (sized_is ρ y hρ)
    ∙ sub-sum (k⁺ * E⁺ + k⁻ * E⁻) (k⁺ * E⁻ + k⁻ * E⁺) (choose ρ y 0) (choose ρ 0 y)
    ∙ sub_same (k⁺ * E⁺ + k⁻ * E⁻ + choose ρ y 0) (k⁺ * E⁻ + k⁻ * E⁺ + choose ρ 0 y) (choose ρ (k * E + y) 0) (choose ρ 0 (k * E + y)) cross
    ∙ sym (sized_is ρ (k * E + y) hρ)
  where
    k⁺ : ℕ
    k⁺ = choose (xor ρ δ) k 0

    k⁻ : ℕ
    k⁻ = choose (xor ρ δ) 0 k

    E⁺ : ℕ
    E⁺ = choose δ E 0

    E⁻ : ℕ
    E⁻ = choose δ 0 E

    Cross : ℕ → ℕ → Type 0
    Cross ρ δ =
        choose (xor ρ δ) k 0 * choose δ E 0 + choose (xor ρ δ) 0 k * choose δ 0 E + choose ρ y 0 + choose ρ 0 (k * E + y)
        ≡ choose ρ (k * E + y) 0 + (choose (xor ρ δ) k 0 * choose δ 0 E + choose (xor ρ δ) 0 k * choose δ E 0 + choose ρ 0 y)

    cross : Cross ρ δ
    cross =
        by_flag (λ (ρ : ℕ). Cross ρ δ) (by_flag (Cross 0) (omega arith) (omega arith) δ hδ) (by_flag (Cross 1) (omega arith) (omega arith) δ hδ) ρ hρ

-- the sign of two sizes that are not zero
pub like_sign : (ρ y Y : ℕ) → ρ < 2 → y ≤ Y → (sized ρ y ≡ pos 0) ⊎ (non_neg (sized ρ y) ≡ non_neg (sized ρ Y))
like_sign ρ y Y hρ h = go y Y h
  where
    go : (y Y : ℕ) → y ≤ Y → (sized ρ y ≡ pos 0) ⊎ (non_neg (sized ρ y) ≡ non_neg (sized ρ Y))
    go zero Y h = inl (by_flag (λ (ρ : ℕ). sized ρ 0 ≡ pos 0) refl refl ρ hρ)
    go (suc y) zero h = absurd (omega arith)
    go (suc y) (suc Y) h = inr (by_flag (λ (ρ : ℕ). non_neg (sized ρ (suc y)) ≡ non_neg (sized ρ (suc Y))) refl refl ρ hρ)

-- a sized number that is negative only where its size is not zero
pub negative-sized : (ρ Y : ℕ) → ρ < 2 → ρ ≤ Y → negative (sized ρ Y) ≡ ρ
negative-sized ρ Y hρ h = by_flag (λ (ρ : ℕ). ρ ≤ Y → negative (sized ρ Y) ≡ ρ) (λ h. ap flag (le-ltb Y 0 (omega arith))) (go Y) ρ hρ h
  where
    go : (Y : ℕ) → 1 ≤ Y → negative (neg_ℤ (pos Y)) ≡ 1
    go zero h = absurd (omega arith)
    go (suc y) h = refl

-- a quotient that fits
pub fits_sized : (f v H : ℕ) → f < 2 → mag (sized f v) < H → v < H + f
fits_sized f v H hf h = by_flag (λ (f : ℕ). mag (sized f v) < H → v < H + f) (λ h. omega arith) (go v) f hf h
  where
    go : (v : ℕ) → mag (neg_ℤ (pos v)) < H → v < H + 1
    go zero h = omega arith
    go (suc v) h = omega arith

pub sized_fits : (f v H : ℕ) → f < 2 → 0 < H → v < H + f → mag (sized f v) < H
sized_fits f v H hf hH h = by_flag (λ (f : ℕ). v < H + f → mag (sized f v) < H) (λ h. omega arith) (go v) f hf h
  where
    go : (v : ℕ) → v < H + 1 → mag (neg_ℤ (pos v)) < H
    go zero h = hH
    go (suc v) h = omega arith

-- ---- the sign and the size of n bits, W being 2 to their number
abbrev pub size_of : ℕ → ℕ → ℕ
size_of W x = choose (top W x) x (W - x)

pub signed-sized : (n x : ℕ) → 1 ≤ n → signed n x ≡ sized (top (2 ^ n) (x % 2 ^ n)) (size_of (2 ^ n) (x % 2 ^ n))
signed-sized n x h = ap (λ (s : ℕ). sub_ℕ (x % 2 ^ n) (s * 2 ^ n)) (sign_top n x h) ∙ tell (top_is (2 ^ n) (x % 2 ^ n) l)
  where
    l : x % 2 ^ n < 2 ^ n
    l = mod-lt x (pow_pos n)

    tell : Top (2 ^ n) (x % 2 ^ n) → sub_ℕ (x % 2 ^ n) (top (2 ^ n) (x % 2 ^ n) * 2 ^ n) ≡ sized (top (2 ^ n) (x % 2 ^ n)) (size_of (2 ^ n) (x % 2 ^ n))
    tell (clear e k) = rw e (sub_same (x % 2 ^ n) (0 * 2 ^ n) (x % 2 ^ n) 0 (omega arith) ∙ sym (pos_sub (x % 2 ^ n)))
    tell (full e k) = rw e (sub_same (x % 2 ^ n) (1 * 2 ^ n) 0 (2 ^ n - x % 2 ^ n) (omega (arith, l)) ∙ sym (neg_sub (2 ^ n - x % 2 ^ n)))

-- a divisor that is not zero
pub divisor_of : (W x : ℕ) → x < W → 0 < x → Divisor W x (size_of W x) (top W x)
divisor_of W x h p = tell (top_is W x h)
  where
    tell : Top W x → Divisor W x (size_of W x) (top W x)
    tell (clear e l) = rw e (record { positive = p; half = omega arith; sign = e; size = inl (refl, refl) })
    tell (full e l) = rw e (record { positive = omega arith; half = omega arith; sign = e; size = inr (refl, omega arith) })

-- a dividend of two halves R and Q: its sign is that of R
abbrev pub long_size : ℕ → ℕ → ℕ → ℕ
long_size W R Q = choose (top W R) (R * W + Q) (W * W - (R * W + Q))

pub long_size_lem : (W R Q : ℕ) → R < W → Q < W → Size W R Q (top W R) (long_size W R Q)
long_size_lem W R Q hR hQ = tell (top_is W R hR)
  where
    tell : Top W R → Size W R Q (top W R) (long_size W R Q)
    tell (clear e l) = rw e (as_it_is refl refl)
    tell (full e l) = rw e (complemented refl (omega (arith, digits_lt {q = R} {m = W} {r = Q} {c = W} hR hQ)))

pub long_sized : (W R Q : ℕ) → R < W → Q < W → sub_ℕ (R * W + Q) (top W R * W * W) ≡ sized (top W R) (long_size W R Q)
long_sized W R Q hR hQ = tell (top_is W R hR)
  where
    tell : Top W R → sub_ℕ (R * W + Q) (top W R * W * W) ≡ sized (top W R) (long_size W R Q)
    tell (clear e l) = rw e (sub_same (R * W + Q) (0 * W * W) (R * W + Q) 0 (omega arith) ∙ sym (pos_sub (R * W + Q)))
    tell (full e l) =
        rw e (sub_same (R * W + Q) (1 * W * W) 0 (W * W - (R * W + Q)) (omega (arith, digits_lt {q = R} {m = W} {r = Q} {c = W} hR hQ)) ∙ sym (neg_sub (W * W - (R * W + Q))))
