-- The nibble bits, apart as they are held and side by side as they are read.
use mathlib.Core.Path.{◌≡◌, refl, sym, ap, ◌∙◌, subst}
use mathlib.Core.Bool.{Bool, true, false, ◌&&◌}
use Prim.Native.Nat.{ℕ, zero, suc, ◌+◌, ◌*◌, ◌/◌, ◌%◌, ◌^◌, ◌≤◌, ◌<◌}
use native.Mathlib.Nat.{pow-suc}
use native.Mathlib.Omega.{arith}
use lib.Bits.{bit_and, bit_or, and_le_r}
use lib.Dec.{T, eqb, eqb→eq, lit<}
use borrow.Author.Tests.{eqb-true, eqb-false}
use Rattle.machine.specs.Status.{gathered, spread_out}

pub gathered-lt : (k x : ℕ) → gathered k x < 2 ^ k
unfolding gathered
gathered-lt zero x = lit< tt
gathered-lt (suc k) x = let e : 2 ^ suc k ≡ 2 ^ k * 2 = pow-suc 2 k in omega (arith, gathered-lt k (x / 16))

-- bits apart: gathered and spread out they are the same
abbrev pub Apart : ℕ → ℕ → Type 0
Apart k x = spread_out k (gathered k x) ≡ x

pub apart_none : Apart 0 0
unfolding spread_out
apart_none = refl

-- one more below
pub apart-suc : (k f x : ℕ) → f < 2 → Apart k x → Apart (suc k) (f + 16 * x)
unfolding gathered spread_out
apart-suc k f x h e = rw (low, high, low', high', e)
  where
    low : (f + 16 * x) % 2 ≡ f
    low = omega arith

    high : (f + 16 * x) / 16 ≡ x
    high = omega arith

    low' : (f + 2 * gathered k x) % 2 ≡ f
    low' = omega arith

    high' : (f + 2 * gathered k x) / 2 ≡ gathered k x
    high' = omega arith

pub apart-spread : (k x : ℕ) → Apart k (spread_out k x)
unfolding spread_out
apart-spread zero x = refl
apart-spread (suc k) x = apart-suc k (x % 2) (spread_out k (x / 2)) (omega arith) (apart-spread k (x / 2))

spread-le : (k x : ℕ) → 15 * spread_out k x < 16 ^ k
unfolding spread_out
spread-le zero x = lit< tt
spread-le (suc k) x = let e : 16 ^ suc k ≡ 16 ^ k * 16 = pow-suc 16 k in omega (arith, spread-le k (x / 2))

pub apart-le : (x : ℕ) → Apart 8 x → x ≤ 0x1111_1111
apart-le x e = subst (λ (y : ℕ). y ≤ 0x1111_1111) e (omega (arith, spread-le 8 (gathered 8 x)))

-- ---- the code's way, by a test that is computed for each of the 256 numbers that eight bits make
abbrev every : (ℕ → Bool) → ℕ → Bool
every f zero = true
every f (suc n) = f n && every f n

every-at : (f : ℕ → Bool) (n k : ℕ) → T (every f n) → k < n → T (f k)
every-at f zero k t h = absurd (omega arith)
every-at f (suc n) k t h = go (eqb k n) refl (every-at f n k (parts (f n) (every f n) t).1)
  where
    parts : (a b : Bool) → T (a && b) → T a × T b
    parts true b t = (tt, t)
    parts false b t = absurd t

    go : (b : Bool) → eqb k n ≡ b → (k < n → T (f k)) → T (f k)
    go true e below = subst (λ (j : ℕ). T (f j)) (sym (eqb-true k n e)) (parts (f n) (every f n) t).0
    go false e below = below (omega (arith, eqb-false k n e))

same : (f g : ℕ → ℕ) → T (every (λ k. eqb (f k) (g k)) 256) → (x : ℕ) → x < 256 → f x ≡ g x
same f g t x h = eqb→eq (f x) (g x) (every-at (λ k. eqb (f k) (g k)) 256 x t h)

abbrev pub spread_by : ℕ → ℕ
spread_by x = bit_and (bit_and (bit_and (x * 0x1001) 0x000f_000f * 0x41) 0x0303_0303 * 9) 0x1111_1111

pub spread_law : (x : ℕ) → x < 256 → spread_by x ≡ spread_out 8 x
unfolding spread_out
spread_law = same spread_by (spread_out 8) tt

abbrev pub gather_by : ℕ → ℕ
gather_by x = bit_and (bit_and (bit_or x (x / 2 ^ 3)) 0x0303_0303 * 0x104_1040) 0xff00_0000

gather_eight : (x : ℕ) → x < 256 → gather_by (spread_out 8 x) ≡ x * 2 ^ 24
unfolding spread_out
gather_eight = same (λ x. gather_by (spread_out 8 x)) (λ x. x * 2 ^ 24) tt

pub gather_law : (x : ℕ) → Apart 8 x → gather_by x ≡ gathered 8 x * 2 ^ 24
gather_law x e = ap gather_by (sym e) ∙ gather_eight (gathered 8 x) (gathered-lt 8 x)

-- with the bound that a mask gives, so that each product fits
pub ruleset spreading = (spread_law, and_le_r)

pub ruleset gathering = (gather_law, and_le_r)
