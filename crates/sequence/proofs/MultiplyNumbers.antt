-- The modified Booth algorithm comes out exact, on numbers, unsigned and signed alike. A, B and Q are the selected bits, W is 2 to their number, M is
-- 0 or 1. The value of A is A - sign W, where sign is its top bit if the multiplicand is signed, and 0 if not; B is in two's complement. After k steps
-- the low k digits (to the base 4) of the multiplier are used up, and Q holds the k product digits that are out above the rest of the multiplier.
use mathlib.Core.Path.{◌≡◌, refl, sym, ap, ◌∙◌, subst₂}
use mathlib.Core.Logic.{◌⊎◌, inl, inr}
use mathlib.Core.Bool.{Bool, true, false}
use Prim.Native.Nat.{ℕ, zero, suc, ◌+◌, ◌-◌, ◌*◌, ◌/◌, ◌%◌, ◌^◌, ◌<◌, ◌≤◌}
use native.Mathlib.Omega.{arith}
use native.Mathlib.Nat.{le_of_lt, mod-eq_of_lt, mod-lt, mul-le-mul, mul-le-mul_right, lt_of_mul-lt-mul_left, div-add-mod', div-lt_iff_lt-mul}
use lib.Dec.{ltb}
use lib.IntN.{sub_ℕ, ◌*ℤ◌}
use lib.Arith.{digits_div, digits_mod}
use borrow.Author.Tests.{ltb-true, ltb-false}
use Rattle.bits.specs.Bits.{choose}
use Rattle.multiply.proofs.Bounds.{same-mod}
use Rattle.multiply.proofs.Rows.{once_more}
use Rattle.sequence.proofs.Integers.{crossed, sub_same, sub-product}
use Rattle.sequence.proofs.Lists.{Work}
use Rattle.sequence.proofs.TopBit.{top, off, off-low, off-high}

-- ---- the words on numbers
-- F* from A*, B*, Q and M: A* is added Q0 + M times, and twice A* taken off where Q1 is set, modulo 4 W
abbrev pub partial_of : ℕ → ℕ → ℕ → ℕ → ℕ → ℕ
partial_of W A B Q M = (B + (Q % 2 + M) * A + (8 * W - Q / 2 % 2 * (2 * A))) % (4 * W)

-- from F* of n + 2 bits: it is shifted down two, its low two bits go into Q from above, and Q1 into M
abbrev pub shifted : ℕ → Work → ℕ → Work
shifted W s F = record { B = F / 4; Q = s.Q / 4 + F % 4 * (W / 4); M = s.Q / 2 % 2; S = s.S }

-- a step, from A*: B is sign extended
unfoldable pub mul_step : ℕ → ℕ → Work → Work
mul_step W A s = shifted W s (partial_of W A (s.B + 3 * off W s.B) s.Q s.M)

-- a first step is a step from B and M at zero
abbrev pub begun : Work → Work
begun s = record { B = 0; Q = s.Q; M = 0; S = s.S }

unfoldable pub mul_last : ℕ → ℕ → Work → Work
mul_last W A s = record { B = choose s.M s.B (s.B + A) % W; Q = s.Q; M = s.M; S = s.S }

-- ---- two's complement
order : (a b : ℕ) → (a < b) ⊎ (b ≤ a)
order a b = go (ltb a b) refl
  where
    go : (t : Bool) → ltb a b ≡ t → (a < b) ⊎ (b ≤ a)
    go true e = inl (ltb-true a b e)
    go false e = inr (ltb-false a b e)

-- where X - Y lies from - 2 W to 2 W, the n + 2 bits of a number that is X - Y modulo 4 W are X - Y in two's complement
settled : (W H X Y Z i j : ℕ) → W ≡ 2 * H → Z + Y + i * (4 * W) ≡ X + j * (4 * W) → Y ≤ X + 2 * W → X < Y + 2 * W
    → Z % (4 * W) + Y ≡ X + 4 * off W (Z % (4 * W) / 4)
settled W H X Y Z i j even e lo hi = pick (order X Y)
  where
    pick : (X < Y) ⊎ (Y ≤ X) → Z % (4 * W) + Y ≡ X + 4 * off W (Z % (4 * W) / 4)
    pick (inl l) =
        let F : Z % (4 * W) ≡ X + 4 * W - Y = same-mod (4 * W) Z (X + 4 * W - Y) (suc i) j (omega arith) ∙ mod-eq_of_lt (omega arith) in
        omega (arith, off-high W (Z % (4 * W) / 4) (omega arith) (omega arith))
    pick (inr l) =
        let F : Z % (4 * W) ≡ X - Y = same-mod (4 * W) Z (X - Y) i j (omega arith) ∙ mod-eq_of_lt (omega arith) in
        omega (arith, off-low W (Z % (4 * W) / 4) (omega arith))

-- differences of at most J and at most K multiply to at most J K
bounded : (a b c d J K : ℕ) → a ≤ b + J → b ≤ a + J → c ≤ d + K → d ≤ c + K → a * c + b * d ≤ a * d + b * c + J * K
bounded a b c d J K h₁ h₂ h₃ h₄ = pick (order a b) (order c d)
  where
    pick : (a < b) ⊎ (b ≤ a) → (c < d) ⊎ (d ≤ c) → a * c + b * d ≤ a * d + b * c + J * K
    pick (inl p) (inl q) = omega (arith, crossed b a d c (b - a) (d - c) (omega arith) (omega arith), mul-le-mul {n₁ = b - a} {m₁ = d - c} {n₂ = J} {m₂ = K} (omega arith) (omega arith))
    pick (inl p) (inr q) = omega (arith, crossed b a c d (b - a) (c - d) (omega arith) (omega arith))
    pick (inr p) (inl q) = omega (arith, crossed a b d c (a - b) (d - c) (omega arith) (omega arith))
    pick (inr p) (inr q) = omega (arith, crossed a b c d (a - b) (c - d) (omega arith) (omega arith), mul-le-mul {n₁ = a - b} {m₁ = c - d} {n₂ = J} {m₂ = K} (omega arith) (omega arith))

-- ---- one step
-- bits A and a sign, 0 or 1, that takes W off: below W in size
pub record Sized (W A sign : ℕ) : Type 0 where
  pub bits : A < W
  pub one : sign ≤ 1
  pub near : sign * W < W + A

-- the product so far: R (B - o) + low = (A - sign W) (u - v)
abbrev Exact : ℕ → ℕ → ℕ → ℕ → ℕ → ℕ → ℕ → ℕ → ℕ → Type 0
Exact W A sign R B o low u v = R * B + low + (sign * W * u + A * v) ≡ R * o + (A * u + sign * W * v)

-- where u - v is at most 2 R in size, B - o lies from - 2 W to 2 W
in_range : (W A sign R B o low u v : ℕ) → Sized W A sign → low < R → u ≤ v + 2 * R → v ≤ u + 2 * R → Exact W A sign R B o low u v
    → (o < B + 2 * W) × (B < o + 2 * W)
in_range W A sign R B o low u v a hlow up down e =
    (lt_of_mul-lt-mul_left R (omega (arith, size v u down up)), lt_of_mul-lt-mul_left R (omega (arith, size u v up down)))
  where
    size : (u v : ℕ) → u ≤ v + 2 * R → v ≤ u + 2 * R → A * u + sign * W * v + 2 * R ≤ A * v + sign * W * u + W * (2 * R)
    size u v up down =
        let f : W ≡ (W - 1) + 1 = omega arith in
        omega (arith, ap (λ (x : ℕ). x * (2 * R)) f, bounded A (sign * W) u v (W - 1) (2 * R) (omega arith) (omega arith) up down)

-- The next digit of the multiplier is 2 h + l: with M = m, the multiplicand is added l + m times and taken off 2 h times
module _ (W A sign H R B signB low u m l h : ℕ) (a : Sized W A sign) (even : W ≡ 2 * H) (hlow : low < R) (hu : u < R) (hl : l ≤ 1) (hh : h ≤ 1)
    (e : Exact W A sign R B (signB * W) low u (m * R)) where
  -- the digits used up, of value u' - v'
  abbrev u' : ℕ
  u' = u + (2 * h + l) * R

  abbrev v' : ℕ
  v' = h * (4 * R)

  -- what comes out is X - Y, and Z as the chip adds it up
  abbrev X : ℕ
  X = B + (l + m) * A + h * (2 * (sign * W))

  abbrev Y : ℕ
  Y = signB * W + (l + m) * (sign * W) + h * (2 * A)

  abbrev Z : ℕ
  Z = B + 3 * (signB * W) + (l + m) * (A + 3 * (sign * W)) + (8 * W - h * (2 * (A + 3 * (sign * W))))

  congruent : Z + Y + h * (2 * sign) * (4 * W) ≡ X + (signB + (l + m) * sign + 2) * (4 * W)
  congruent = omega (arith, mul-le-mul_right (2 * (A + 3 * (sign * W))) hh, mul-le-mul_right W a.one)

  added : Exact W A sign R X Y low u' v'
  added = omega arith

  next_exact : Exact W A sign (4 * R) (Z % (4 * W) / 4) (off W (Z % (4 * W) / 4)) (low + Z % (4 * W) % 4 * R) u' v'
  next_exact =
      let r : (Y < X + 2 * W) × (X < Y + 2 * W) = in_range W A sign R X Y low u' v' a hlow (omega (arith, mul-le-mul_right R hl)) (omega (arith, mul-le-mul_right R hh)) added in
      gathered X Y (Z % (4 * W) / 4) (Z % (4 * W) % 4) (off W (Z % (4 * W) / 4)) (sign * W * u' + A * v') (A * u' + sign * W * v')
      (omega (arith, settled W H X Y Z (h * (2 * sign)) (signB + (l + m) * sign + 2) even congruent (le_of_lt r.0) r.1)) added
    where
      gathered : (X Y b f o P M : ℕ) → 4 * b + f + Y ≡ X + 4 * o → R * X + low + P ≡ R * Y + M → 4 * R * b + (low + f * R) + P ≡ 4 * R * o + M
      gathered X Y b f o P M s e = omega (arith, ap (λ (x : ℕ). R * x) s)

-- ---- the steps
-- With k digits of the multiplier left, u those used up and R 4 to their number: M is the top bit of u, and the value of B, of weight R, and the
-- product digits that are out, low, are the multiplicand times u with its top bit taken as a sign, u - M R.
pub record Left (W A sign Q₀ k : ℕ) (s : Work) : Type 0 where
  pub R : ℕ
  pub low : ℕ
  pub rest : ℕ
  pub u : ℕ
  pub whole : W ≡ R * 4 ^ k
  pub full : Q₀ ≡ rest * R + u
  pub held : s.Q ≡ low * 4 ^ k + rest
  pub low< : low < R
  pub rest< : rest < 4 ^ k
  pub u< : u < R
  pub flag : s.M < 2
  pub from : s.M * R ≤ 2 * u
  pub upto : 2 * u < s.M * R + R
  pub exact : Exact W A sign R s.B (off W s.B) low u (s.M * R)

pub step_left : (W A sign Q₀ : ℕ) → Sized W A sign → (k : ℕ) (s : Work) → Left W A sign Q₀ (suc k) s → Left W A sign Q₀ k (mul_step W (A + 3 * (sign * W)) s)
unfolding mul_step
step_left W A sign Q₀ a k s i =
    let e : 4 ^ suc k ≡ 4 * 4 ^ k = omega arith in
    let h_w : W ≡ i.R * (4 * 4 ^ k) = i.whole ∙ ap (λ (x : ℕ). i.R * x) e in
    let hQ : s.Q ≡ i.low * (4 * 4 ^ k) + i.rest = i.held ∙ ap (λ (x : ℕ). i.low * x + i.rest) e in
    let quarter : W / 4 ≡ i.R * 4 ^ k = omega arith in
    let digit : i.rest ≡ 4 * (i.rest / 4) + (2 * (s.Q / 2 % 2) + s.Q % 2) = omega arith in
    let F : ℕ = partial_of W (A + 3 * (sign * W)) (s.B + 3 * off W s.B) s.Q s.M in
    record {
      R = 4 * i.R;
      low = i.low + F % 4 * i.R;
      rest = i.rest / 4;
      u = i.u + (2 * (s.Q / 2 % 2) + s.Q % 2) * i.R;
      whole = omega arith;
      full = i.full ∙ ap (λ (x : ℕ). x * i.R + i.u) digit ∙ omega arith;
      held = omega (arith, ap (λ (x : ℕ). F % 4 * x) quarter);
      low< = omega (arith, mul-le-mul_right {m = F % 4} {n = 3} i.R (omega arith));
      rest< = omega arith;
      u< = omega (arith, mul-le-mul_right {m = s.Q / 2 % 2} {n = 1} i.R (omega arith), mul-le-mul_right {m = s.Q % 2} {n = 1} i.R (omega arith));
      flag = omega arith;
      from = omega arith;
      upto = omega (arith, mul-le-mul_right {m = s.Q % 2} {n = 1} i.R (omega arith));
      exact =
          next_exact W A sign (2 * (i.R * 4 ^ k)) i.R s.B (top W s.B) i.low i.u s.M (s.Q % 2) (s.Q / 2 % 2) a
          (omega arith) i.low< i.u< (omega arith) (omega arith) i.exact;
    }

pub begin_left : (W A sign k : ℕ) (s : Work) → W ≡ 4 ^ k → s.Q < W → Left W A sign s.Q k (begun s)
begin_left W A sign k s h_w hQ =
    record {
      R = 1;
      low = 0;
      rest = s.Q;
      u = 0;
      whole = omega arith;
      full = omega arith;
      held = omega arith;
      low< = omega arith;
      rest< = omega arith;
      u< = omega arith;
      flag = omega arith;
      from = omega arith;
      upto = omega arith;
      exact = omega (arith, off-low W 0 (omega arith));
    }

-- ---- the end
-- Once no digit is left, B and Q are the product of the multiplicand and the multiplier taken as a signed number, in two's complement; M is the
-- multiplier's top bit.
pub record Ended (W A sign Q : ℕ) (s : Work) : Type 0 where
  pub below : (s.Q < W) × (Q < W)
  pub flag : s.M < 2
  pub bit : s.M ≡ top W Q
  pub exact : Exact W A sign W s.B (off W s.B) s.Q Q (off W Q)

pub ended : (W A sign Q : ℕ) (s : Work) → Left W A sign Q 0 s → Ended W A sign Q s
ended W A sign Q s i =
    let hR : i.R ≡ W = omega (arith, i.whole) in
    let hr : i.rest ≡ 0 = omega (arith, i.rest<) in
    let hu : i.u ≡ Q = omega (arith, i.full, ap (λ (x : ℕ). x * i.R) hr) in
    let hl : i.low ≡ s.Q = omega (arith, i.held) in
    let mR : s.M * i.R ≡ s.M * W = ap (λ (x : ℕ). s.M * x) hR in
    let e : 2 * Q ≡ s.M * W + (2 * Q - s.M * W) = omega arith in
    let bit : s.M ≡ top W Q = sym (ap (λ (x : ℕ). x / W) e ∙ digits_div s.M (omega arith)) in
    record {
      below = (omega arith, omega arith);
      flag = i.flag;
      bit = bit;
      exact =
          subst₂ (λ (x m : ℕ). Exact W A sign x s.B (off W s.B) s.Q Q (m * x)) hR bit
          (subst₂ (λ (x y : ℕ). Exact W A sign i.R s.B (off W s.B) x y (s.M * i.R)) hl hu i.exact);
    }

-- as integers
pub ended-product : (W A sign Q : ℕ) (s : Work) → Ended W A sign Q s → sub_ℕ (s.B * W + s.Q) (off W s.B * W) ≡ sub_ℕ A (sign * W) *ℤ sub_ℕ Q (off W Q)
ended-product W A sign Q s e =
    sub_same (s.B * W + s.Q) (off W s.B * W) (A * Q + sign * W * off W Q) (A * off W Q + sign * W * Q) (omega (arith, e.exact))
    ∙ sym (sub-product A (sign * W) Q (off W Q))

-- UMULLAST adds the multiplicand once more where the multiplier's top bit was taken as a sign: that gives the product of the two unsigned numbers.
pub record Product (W A Q : ℕ) (s : Work) : Type 0 where
  pub high : s.B ≡ A * Q / W
  pub low : s.Q ≡ A * Q % W
  pub bit : s.M ≡ top W Q

-- a product by its halves, where the high one is modulo W
halves : (W X t P L : ℕ) → L < W → P < W * W → X * W + L ≡ t * W * W + P → (X % W ≡ P / W) × (L ≡ P % W)
halves W X t P L hL hP e =
    let pos : 0 < W = omega arith in
    let s : X * W + L ≡ (t * W + P / W) * W + P % W = omega (arith, div-add-mod' P W) in
    let hX : X ≡ t * W + P / W = sym (digits_div X hL) ∙ ap (λ (x : ℕ). x / W) s ∙ digits_div (t * W + P / W) (mod-lt P pos) in
    (ap (λ (x : ℕ). x % W) hX ∙ digits_mod t ((div-lt_iff_lt-mul pos).1 hP), sym (digits_mod X hL) ∙ ap (λ (x : ℕ). x % W) s ∙ digits_mod (t * W + P / W) (mod-lt P pos))

pub last-product : (W A Q : ℕ) → A < W → (s : Work) → Left W A 0 Q 0 s → Product W A Q (mul_last W A s)
unfolding mul_last
last-product W A Q hA s i =
    let d : Ended W A 0 Q s = ended W A 0 Q s i in
    let e : s.B + s.M * A + 0 ≡ choose s.M s.B (s.B + A) = once_more s.M A s.B d.flag in
    let h : (choose s.M s.B (s.B + A) % W ≡ A * Q / W) × (s.Q ≡ A * Q % W) =
    halves W (choose s.M s.B (s.B + A)) (top W s.B) (A * Q) s.Q d.below.0 (omega (arith, mul-le-mul hA d.below.1))
    (ap (λ (x : ℕ). x * W + s.Q) (sym e) ∙ omega (arith, d.exact, ap (λ (m : ℕ). m * A * W) d.bit)) in
    record { high = h.0; low = h.1; bit = d.bit }

-- n bits are n / 2 digits to the base 4
pub pow4 : (k : ℕ) → 2 ^ (2 * k) ≡ 4 ^ k
pow4 zero = refl
pow4 (suc k) = ap (λ (x : ℕ). 2 ^ x) e ∙ omega (arith, pow4 k)
  where
    e : 2 * suc k ≡ suc (suc (2 * k))
    e = omega arith
