-- What the code's tests, shifts and rotates are in the definitions' words.
use mathlib.Core.Path.{◌≡◌, refl, sym, ap, ap₂, ◌∙◌, subst}
use Prim.Native.Nat.{ℕ, zero, suc, ◌+◌, ◌-◌, ◌*◌, ◌/◌, ◌%◌, ◌^◌, ◌≤◌, ◌<◌}
use native.Mathlib.Nat.{lt_of_lt_of_le, zero-mul, one-mul, mul-mod_left, add-zero, mod-eq_of_lt}
use native.Mathlib.Omega.{arith}
use Rattle.std.proofs.Common.{w64}
use Rattle.std.specs.Int.{rotate_left}
use lib.Pow.{pow_pos, pow_mono, shr_lt, shr_le, shr-shr, shl-shr, mod-pow-add}
use lib.Bits.{bit_or, or_self, or_shifted}
use Rattle.bits.specs.Bits.{choose, copies}
use Rattle.bits.proofs.Laws.{ones_shr, choose-zero, choose_one, cut_wrap}
use Rattle.bits.proofs.BitByBit.{by_flag}
use Rattle.machine.specs.declared.Inputs.{Inputs}
use Rattle.machine.specs.Inputs.{position_of}
use Rattle.machine.proofs.Round.{loaded_good}
use Rattle.fields.specs.Position.{sixth_of, displaced}
use Rattle.fields.specs.NBit.{down_by}
use Rattle.fields.specs.Field.{rotated_pair}

-- ---- shifted down by k, 1 to 32, in two steps
shr_two : (x k : ℕ) → 1 ≤ k → x / 2 ^ (k - 1) / 2 ≡ x / 2 ^ k
shr_two x k h = shr-shr x (k - 1) 1 ∙ ap (λ (j : ℕ). x / 2 ^ j) (omega arith)

-- copies of a flag, less those of them that stand below the top k bits
above : (k f : ℕ) → k ≤ 32 → f < 2 → copies f - copies f / 2 ^ k ≡ f * (2 ^ 32 - 2 ^ (32 - k))
above k f l = by_flag (λ (f : ℕ). copies f - copies f / 2 ^ k ≡ f * (2 ^ 32 - 2 ^ (32 - k))) none all f
  where
    none : 0 - 0 / 2 ^ k ≡ 0 * (2 ^ 32 - 2 ^ (32 - k))
    none = omega (arith, zero-mul (2 ^ 32 - 2 ^ (32 - k)))

    back : 32 - (32 - k) ≡ k
    back = omega arith

    ones : (2 ^ 32 - 1) / 2 ^ k ≡ 2 ^ (32 - k) - 1
    ones = subst (λ (j : ℕ). (2 ^ 32 - 1) / 2 ^ j ≡ 2 ^ (32 - k) - 1) back (ones_shr (32 - k) (omega arith))

    all : (2 ^ 32 - 1) - (2 ^ 32 - 1) / 2 ^ k ≡ 1 * (2 ^ 32 - 2 ^ (32 - k))
    all = omega (arith, ones, one-mul (2 ^ 32 - 2 ^ (32 - k)), pow_pos (32 - k))

pub fill-le : (k fill : ℕ) → fill / 2 ^ (k - 1) / 2 ≤ fill
fill-le k fill = omega (arith, shr_le fill (k - 1))

pub down_law : (k s f fill : ℕ) → 1 ≤ k → k ≤ 32 → f < 2 → fill ≡ copies f → s / 2 ^ (k - 1) / 2 + (fill - fill / 2 ^ (k - 1) / 2) ≡ down_by k s f
unfolding down_by
down_law k s f fill h l hf e = ap₂ ◌+◌ (shr_two s k h) (ap₂ ◌-◌ e (shr_two fill k h ∙ ap (λ (x : ℕ). x / 2 ^ k) e) ∙ above k f l hf)

-- what comes out is a data word again
pub down_lt : (k s f : ℕ) → s < 2 ^ 32 → f < 2 → down_by k s f < 2 ^ 32
unfolding down_by
down_lt k s f hs = by_flag (λ (f : ℕ). s / 2 ^ k + f * (2 ^ 32 - 2 ^ (32 - k)) < 2 ^ 32) none all f
  where
    low : s / 2 ^ k < 2 ^ (32 - k)
    low = shr_lt (32 - k) k (lt_of_lt_of_le hs (pow_mono {i = 32} {j = (32 - k) + k} (omega arith)))

    top : 2 ^ (32 - k) ≤ 2 ^ 32
    top = pow_mono {i = 32 - k} {j = 32} (omega arith)

    none : s / 2 ^ k + 0 * (2 ^ 32 - 2 ^ (32 - k)) < 2 ^ 32
    none = omega (arith, low, top, zero-mul (2 ^ 32 - 2 ^ (32 - k)))

    all : s / 2 ^ k + 1 * (2 ^ 32 - 2 ^ (32 - k)) < 2 ^ 32
    all = omega (arith, low, top, one-mul (2 ^ 32 - 2 ^ (32 - k)))

-- ---- 64 bits rotated up by k: the two parts change places
pub pair_parts : (k v : ℕ) → k ≤ 64 → v < 2 ^ 64 → bit_or ((v * 2 ^ k) % 2 ^ 64) (v / 2 ^ (64 - k)) ≡ rotated_pair k v
unfolding rotated_pair
pair_parts k v h hv =
    let e : (64 - k) + k ≡ 64 = omega arith in
    let f : k + (64 - k) ≡ 64 = omega arith in
    let up : (v * 2 ^ k) % 2 ^ 64 ≡ v % 2 ^ (64 - k) * 2 ^ k =
    subst (λ (m : ℕ). (v * 2 ^ k) % 2 ^ m ≡ v % 2 ^ (64 - k) * 2 ^ k) e
    (mod-pow-add (v * 2 ^ k) (64 - k) k ∙ ap₂ (λ (q r : ℕ). q % 2 ^ (64 - k) * 2 ^ k + r) (shl-shr v k) (mul-mod_left v (2 ^ k)) ∙ add-zero _) in
    ap (λ (y : ℕ). bit_or y (v / 2 ^ (64 - k))) up
    ∙ or_shifted (v % 2 ^ (64 - k)) k (v / 2 ^ (64 - k)) (shr_lt k (64 - k) (subst (λ (m : ℕ). v < 2 ^ m) (sym f) hv))

-- and by the language's rotation
pub pair_law : (k v : ℕ) → k < 64 → v < 2 ^ 64 → rotate_left w64 v k ≡ rotated_pair k v
unfolding rotated_pair
pair_law zero v h hv =
    let up : v * 2 ^ 0 % 2 ^ 64 ≡ v = omega arith in
    let down : v / 2 ^ 0 ≡ v = omega arith in
    ap₂ bit_or up down ∙ or_self v ∙ omega arith
pair_law (suc j) v h hv =
    let k : ℕ = suc j in
    let m : k % 64 ≡ k = mod-eq_of_lt h in
    let n : (64 - k) % 64 ≡ 64 - k = mod-eq_of_lt (omega arith) in
    rw (m, n) (pair_parts k v (omega arith) hv)

-- one rotate serves both signs of a position: down by 64 - p is up by p
pub pair_either : (x : Inputs) (p v : ℕ) → p ≡ position_of x → p < 64 → rotated_pair p v ≡ displaced x (λ k. rotated_pair k v) (λ k. rotated_pair (64 - k) v)
pair_either x p v e h =
    let back : position_of x ≡ 64 - (64 - position_of x) = omega arith in
    ap (λ (k : ℕ). rotated_pair k v) e
    ∙ either (sixth_of x) (rotated_pair (position_of x) v) (rotated_pair (64 - (64 - position_of x)) v) (ap (λ (k : ℕ). rotated_pair k v) back)
  where
    either : (f a b : ℕ) → a ≡ b → a ≡ choose f a b
    either zero a b e = refl
    either (suc f) a b e = e

-- ---- what the code of each asks for
-- by the position, below 32 or from 32 on
pub ruleset displacing = (choose-zero, choose_one)

pub ruleset downward = (fill-le, down_law, down_lt)

pub ruleset pairs = (pair_either, cut_wrap)

pub ruleset loading = (loaded_good)
