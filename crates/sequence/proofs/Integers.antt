-- The integers as differences of naturals: the one place where their two cases are opened. Equality, sum, product and order of integers come down
-- to those of the naturals that they are differences of.
use mathlib.Core.Path.{◌≡◌, refl, sym, ap, ap₂, ◌∙◌, subst}
use mathlib.Core.Bool.{Bool, true, false, cond}
use Prim.Native.Nat.{ℕ, zero, suc, ◌+◌, ◌-◌, ◌*◌, ◌/◌, ◌%◌, ◌^◌, ◌≤◌}
use native.Mathlib.Nat.{mod-lt, mod-mod, mod-eq_of_lt, mul_assoc, add-mul-mod_self_right}
use native.Mathlib.Omega.{arith}
use lib.Dec.{ltb}
use lib.Arith.{digits_lt}
use lib.Pow.{pow_pos, pow-add, shr-shr, high, field}
use lib.IntN.{ℤ, pos, negsuc, neg_ℤ, sub_ℕ, ◌+ℤ◌, ◌*ℤ◌}
use lib.Signed.{lt_z}
use borrow.Author.Tests.{ltb-true, ltb-false, lt-ltb, le-ltb}
use Rattle.bits.specs.Bits.{bit_of, sign_of}
use Rattle.sequence.specs.Signed.{signed, signed_long}

-- z is a less b
data Difference (a b : ℕ) : ℤ → Type 0 where
  above : (k : ℕ) → a ≡ b + k → Difference a b (pos k)
  below : (k : ℕ) → b ≡ a + suc k → Difference a b (negsuc k)

sub_is : (a b : ℕ) → Difference a b (sub_ℕ a b)
sub_is a b = go (ltb a b) refl
  where
    go : (t : Bool) → ltb a b ≡ t → Difference a b (cond t (negsuc (b - suc a)) (pos (a - b)))
    go true e = below (b - suc a) (omega (arith, ltb-true a b e))
    go false e = above (a - b) (omega (arith, ltb-false a b e))

-- the difference of two naturals is that of all that differ as they do, and of no others
moved : {a b : ℕ} (c d : ℕ) {z : ℤ} → Difference a b z → a + d ≡ c + b → Difference c d z
moved c d (above k p) e = above k (omega arith)
moved c d (below k p) e = below k (omega arith)

same : {a b : ℕ} {y z : ℤ} → Difference a b y → Difference a b z → y ≡ z
same (above j p) (above k q) = ap pos (omega arith)
same (above j p) (below k q) = absurd (omega arith)
same (below j p) (above k q) = absurd (omega arith)
same (below j p) (below k q) = ap negsuc (omega arith)

once : {a b c d : ℕ} {z : ℤ} → Difference a b z → Difference c d z → a + d ≡ c + b
once (above k p) (above _ q) = omega arith
once (below k p) (below _ q) = omega arith

whole : (k : ℕ) → Difference k 0 (pos k)
whole k = above k (omega arith)

negated : {a b : ℕ} {z : ℤ} → Difference a b z → Difference b a (neg_ℤ z)
negated (above zero p) = above 0 (omega arith)
negated (above (suc k) p) = below k (omega arith)
negated (below k p) = above (suc k) (omega arith)

summed : {a b c d : ℕ} {y z : ℤ} → Difference a b y → Difference c d z → Difference (a + c) (b + d) (y +ℤ z)
summed (above j p) (above k q) = above (j + k) (omega arith)
summed (above j p) (below k q) = moved _ _ (sub_is j (suc k)) (omega arith)
summed (below j p) (above k q) = moved _ _ (sub_is k (suc j)) (omega arith)
summed (below j p) (below k q) = below (suc (j + k)) (omega arith)

-- two differences multiplied out
pub crossed : (a b c d j k : ℕ) → a ≡ b + j → c ≡ d + k → a * c + b * d ≡ a * d + b * c + j * k
crossed a b c d j k p q = omega (arith, ap (λ (x : ℕ). x * c) p, ap (λ (x : ℕ). x * d) p, ap (λ (x : ℕ). j * x) q)

multiplied : {a b c d : ℕ} {y z : ℤ} → Difference a b y → Difference c d z → Difference (a * c + b * d) (a * d + b * c) (y *ℤ z)
multiplied {a} {b} {c} {d} (above j p) (above k q) = above (j * k) (omega (arith, crossed a b c d j k p q))
multiplied {a} {b} {c} {d} (above j p) (below k q) = moved _ _ (negated (whole (j * suc k))) (omega (arith, crossed a b d c j (suc k) p q))
multiplied {a} {b} {c} {d} (below j p) (above k q) = moved _ _ (negated (whole (suc j * k))) (omega (arith, crossed b a c d (suc j) k p q))
multiplied {a} {b} {c} {d} (below j p) (below k q) = above (suc j * suc k) (omega (arith, crossed b a d c (suc j) (suc k) p q))

-- two tests that go the same way
alike : (a b c d : ℕ) → a + d ≡ c + b → ltb a c ≡ ltb b d
alike a b c d e = go (ltb a c) refl
  where
    go : (t : Bool) → ltb a c ≡ t → t ≡ ltb b d
    go true h = sym (lt-ltb b d (omega (arith, ltb-true a c h)))
    go false h = sym (le-ltb b d (omega (arith, ltb-false a c h)))

ordered : {a b c d : ℕ} {y z : ℤ} → Difference a b y → Difference c d z → lt_z y z ≡ ltb (a + d) (c + b)
ordered {a} {b} {c} {d} (above j p) (above k q) = alike j (a + d) k (c + b) (omega arith)
ordered {a} {b} {c} {d} (above j p) (below k q) = sym (le-ltb (a + d) (c + b) (omega arith))
ordered {a} {b} {c} {d} (below j p) (above k q) = sym (lt-ltb (a + d) (c + b) (omega arith))
ordered {a} {b} {c} {d} (below j p) (below k q) = alike k (a + d) j (c + b) (omega arith)

-- ---- the laws of differences
-- a natural, and its negative
pub pos_sub : (v : ℕ) → pos v ≡ sub_ℕ v 0
pos_sub v = same (whole v) (sub_is v 0)

pub neg_sub : (v : ℕ) → neg_ℤ (pos v) ≡ sub_ℕ 0 v
neg_sub v = same (negated (whole v)) (sub_is 0 v)

-- two differences are one integer exactly where, crosswise, they have one sum
pub sub_same : (a b c d : ℕ) → a + d ≡ c + b → sub_ℕ a b ≡ sub_ℕ c d
sub_same a b c d e = same (moved c d (sub_is a b) e) (sub_is c d)

pub sub_once : (a b c d : ℕ) → sub_ℕ a b ≡ sub_ℕ c d → a + d ≡ c + b
sub_once a b c d e = once (sub_is a b) (subst (Difference c d) (sym e) (sub_is c d))

pub sub-sum : (a b c d : ℕ) → sub_ℕ a b +ℤ sub_ℕ c d ≡ sub_ℕ (a + c) (b + d)
sub-sum a b c d = same (summed (sub_is a b) (sub_is c d)) (sub_is (a + c) (b + d))

pub sub-product : (a b c d : ℕ) → sub_ℕ a b *ℤ sub_ℕ c d ≡ sub_ℕ (a * c + b * d) (a * d + b * c)
sub-product a b c d = same (multiplied (sub_is a b) (sub_is c d)) (sub_is (a * c + b * d) (a * d + b * c))

pub sub-less : (a b c d : ℕ) → lt_z (sub_ℕ a b) (sub_ℕ c d) ≡ ltb (a + d) (c + b)
sub-less a b c d = ordered (sub_is a b) (sub_is c d)

-- ---- signed numbers
-- two results with one signed value are one
pub signed_once : (n x y : ℕ) → 1 ≤ n → signed n x ≡ signed n y → x % 2 ^ n ≡ y % 2 ^ n
signed_once n x y h e = sym (cut x (sign_of n y)) ∙ ap (λ (v : ℕ). v % 2 ^ n) (sub_once _ _ _ _ e) ∙ cut y (sign_of n x)
  where
    cut : (v s : ℕ) → (v % 2 ^ n + s * 2 ^ n) % 2 ^ n ≡ v % 2 ^ n
    cut v s = add-mul-mod_self_right (v % 2 ^ n) s (2 ^ n) ∙ mod-mod v (2 ^ n)

-- the sign bit looks at the n bits alone
pub sign_low : (n x : ℕ) → 1 ≤ n → sign_of n (x % 2 ^ n) ≡ sign_of n x
sign_low n x h =
    let e : n ≡ 1 + (n - 1) = omega arith in
    ap (λ (k : ℕ). x % 2 ^ k / 2 ^ (n - 1) % 2) e ∙ ap (λ (v : ℕ). v % 2) (field x 1 (n - 1)) ∙ mod-mod (x / 2 ^ (n - 1)) 2

-- and the signed value too
pub signed_same : (n x y : ℕ) → 1 ≤ n → x % 2 ^ n ≡ y % 2 ^ n → signed n x ≡ signed n y
signed_same n x y h e = ap₂ (λ (v s : ℕ). sub_ℕ v (s * 2 ^ n)) e (sym (sign_low n x h) ∙ ap (sign_of n) e ∙ sign_low n y h)

-- a number of 2 n bits by its two halves: its sign bit is that of the high one
pub signed_long_lem : (n x y : ℕ) → 1 ≤ n → signed_long n (x % 2 ^ n) (y % 2 ^ n) ≡ sub_ℕ (x % 2 ^ n * 2 ^ n + y % 2 ^ n) (sign_of n x * 2 ^ n * 2 ^ n)
signed_long_lem n x y h = ap₂ sub_ℕ whole-bits (ap₂ (λ (s p : ℕ). s * p) sign power ∙ sym (mul_assoc (sign_of n x) (2 ^ n) (2 ^ n)))
  where
    power : 2 ^ (2 * n) ≡ 2 ^ n * 2 ^ n
    power = ap (λ (k : ℕ). 2 ^ k) (omega arith) ∙ pow-add 2 n n

    whole-bits : (x % 2 ^ n * 2 ^ n + y % 2 ^ n) % 2 ^ (2 * n) ≡ x % 2 ^ n * 2 ^ n + y % 2 ^ n
    whole-bits =
        ap (λ (p : ℕ). (x % 2 ^ n * 2 ^ n + y % 2 ^ n) % p) power
        ∙ mod-eq_of_lt (digits_lt (mod-lt x (pow_pos n)) (mod-lt y (pow_pos n)))

    sign : sign_of (2 * n) (x % 2 ^ n * 2 ^ n + y % 2 ^ n) ≡ sign_of n x
    sign =
        ap (λ (k : ℕ). (x % 2 ^ n * 2 ^ n + y % 2 ^ n) / 2 ^ k % 2) (omega arith)
        ∙ ap (λ (v : ℕ). v % 2) (sym (shr-shr (x % 2 ^ n * 2 ^ n + y % 2 ^ n) n (n - 1)))
        ∙ ap (bit_of (n - 1)) (high (x % 2 ^ n) n (mod-lt y (pow_pos n)))
        ∙ sign_low n x h
