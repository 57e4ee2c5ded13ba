-- The top bit of a number of n bits, W being 2 to their number.
use mathlib.Core.Path.{◌≡◌, ap, ◌∙◌}
use Prim.Native.Nat.{ℕ, ◌+◌, ◌-◌, ◌*◌, ◌/◌, ◌<◌, ◌≤◌}
use native.Mathlib.Nat.{div-eq_of_lt}
use native.Mathlib.Decide.{dec_le}
use native.Mathlib.Omega.{arith}
use lib.Arith.{digits_div}

-- the top bit of a number below W, and what two's complement takes off for it
abbrev pub top : ℕ → ℕ → ℕ
top W x = 2 * x / W

abbrev pub off : ℕ → ℕ → ℕ
off W x = top W x * W

-- it is 0 below half of W, and 1 from there on
pub top-low : (W x : ℕ) → 2 * x < W → top W x ≡ 0
top-low W x h = div-eq_of_lt h

pub top-high : (W x : ℕ) → W ≤ 2 * x → x < W → top W x ≡ 1
top-high W x h l =
    let e : 2 * x ≡ 1 * W + (2 * x - W) = omega arith in
    ap (λ (v : ℕ). v / W) e ∙ digits_div 1 {m = W} {r = 2 * x - W} (omega arith)

pub off-low : (W x : ℕ) → 2 * x < W → off W x ≡ 0
off-low W x h = ap (λ (v : ℕ). v * W) (top-low W x h) ∙ omega arith

pub off-high : (W x : ℕ) → W ≤ 2 * x → x < W → off W x ≡ W
off-high W x h l = ap (λ (v : ℕ). v * W) (top-high W x h l) ∙ omega arith

-- one of the two
pub data Top (W x : ℕ) : Type 0 where
  clear : top W x ≡ 0 → 2 * x < W → Top W x
  full : top W x ≡ 1 → W ≤ 2 * x → Top W x

pub top_is : (W x : ℕ) → x < W → Top W x
top_is W x h = pick (dec_le W (2 * x))
  where
    pick : Dec (W ≤ 2 * x) → Top W x
    pick (yes l) = full (top-high W x l h) l
    pick (no l) = clear (top-low W x (omega arith)) (omega arith)

pub top_lt : (W x : ℕ) → x < W → top W x < 2
top_lt W x h = tell (top_is W x h)
  where
    tell : Top W x → top W x < 2
    tell (clear e l) = omega arith
    tell (full e l) = omega arith
