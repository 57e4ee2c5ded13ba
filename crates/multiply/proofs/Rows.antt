-- The rows of the table: what Q1 Q0 M picks is B* and a multiple of A*, which is A* taken Q0 + M times, less twice A* where Q1 is set, modulo the
-- extended width.
use mathlib.Core.Path.{◌≡◌, refl, sym, ap, ap₂, ◌∙◌}
use Prim.Native.Nat.{ℕ, zero, suc, ◌+◌, ◌-◌, ◌*◌, ◌/◌, ◌%◌, ◌^◌, ◌≤◌, ◌<◌}
use native.Mathlib.Nat.{mod-lt, zero-mod, mod-add-mod, add-mul, mul_assoc, mul-le-mul_right}
use native.Mathlib.Omega.{arith}
use lib.Pow.{pow_pos, split, field, mod-mod-pow}
use Rattle.bits.specs.Bits.{choose, bit_of}
use Rattle.bits.proofs.BitByBit.{by_flag}
use Rattle.bits.proofs.Laws.{merged_wrap, zero_wrap}
use Rattle.bits.proofs.Bounds.{selected_bounds}
use Rattle.multiply.specs.Multiply.{minus, first_row, step_row, first_partial, partial}
use Rattle.multiply.proofs.Bounds.{extra, extra_one, room, same-mod}

-- ---- the table by the digit Q1 Q0: what is added to B*
unfoldable pub booth : ℕ → ℕ → ℕ → ℕ → ℕ
booth n a zero zero = 0
booth n a zero (suc m) = a
booth n a (suc zero) zero = a
booth n a (suc zero) (suc m) = 2 * a
booth n a (suc (suc zero)) zero = minus n (2 * a)
booth n a (suc (suc zero)) (suc m) = minus n a
booth n a (suc (suc (suc d))) zero = minus n a
booth n a (suc (suc (suc d))) (suc m) = 0

row_by_digit : (n a b d m : ℕ) → d < 4 → step_row n a b (d / 2) (d % 2) m ≡ b + booth n a d m
unfolding step_row booth
row_by_digit n a b zero zero h = omega arith
row_by_digit n a b zero (suc m) h = refl
row_by_digit n a b (suc zero) zero h = refl
row_by_digit n a b (suc zero) (suc m) h = refl
row_by_digit n a b (suc (suc zero)) zero h = refl
row_by_digit n a b (suc (suc zero)) (suc m) h = refl
row_by_digit n a b (suc (suc (suc zero))) zero h = refl
row_by_digit n a b (suc (suc (suc zero))) (suc m) h = omega arith
row_by_digit n a b (suc (suc (suc (suc d)))) m h = absurd (omega arith)

high_bit : (q : ℕ) → bit_of 1 q ≡ q % 4 / 2
high_bit q = omega arith

low_bit : (q : ℕ) → bit_of 0 q ≡ q % 4 % 2
low_bit q = omega arith

pub partial_by_digit : (n a b q m : ℕ) → partial n a b q m ≡ (b + booth n a (q % 4) m) % 2 ^ (n + 2)
unfolding partial
partial_by_digit n a b q m =
    ap₂ (λ (i j : ℕ). step_row n a b i j m % 2 ^ (n + 2)) (high_bit q) (low_bit q)
    ∙ ap (λ (f : ℕ). f % 2 ^ (n + 2)) (row_by_digit n a b (q % 4) m (omega arith))

-- a first step is a step with B* and M at zero
first-row : (n a i j : ℕ) → first_row n a i j ≡ step_row n a 0 i j 0
unfolding first_row step_row
first-row n a zero zero = refl
first-row n a zero (suc j) = omega arith
first-row n a (suc i) zero = omega arith
first-row n a (suc i) (suc j) = omega arith

pub first_is : (n a q : ℕ) → first_partial n a q ≡ partial n a 0 q 0
unfolding first_partial partial
first_is n a q = ap (λ (f : ℕ). f % 2 ^ (n + 2)) (first-row n a (bit_of 1 q) (bit_of 0 q))

-- ---- the multiple of A*
-- multiples of W on both sides
drop : (W x y u J i j : ℕ) → x + (2 * W + 2 * (u * W)) ≡ y + (i * W + J * W + j * (u * W)) → x % W ≡ y % W
drop W x y u J i j e =
    same-mod W x y (2 + 2 * u) (i + J + j * u)
    (ap (λ (z : ℕ). x + z) (add-mul 2 (2 * u) W ∙ ap (λ (z : ℕ). 2 * W + z) (mul_assoc 2 u W))
    ∙ e
    ∙ sym (ap (λ (z : ℕ). y + z) (add-mul (i + J) (j * u) W ∙ ap₂ (λ (z w : ℕ). z + w) (add-mul i J W) (mul_assoc j u W))))

-- by the digit d, which is Q1 Q0; a is A* and u times W, the room R is J times W
rows : (n a A u b d m R J : ℕ) → d < 4 → m < 2 → a ≡ u * 2 ^ (n + 2) + A → A < 2 ^ (n + 2) → R ≡ J * 2 ^ (n + 2) → 2 * a ≤ R → 2 ^ (n + 3) ≡ 2 * 2 ^ (n + 2)
    → (b + (d % 2 + m) * a + (R - d / 2 * (2 * a))) % 2 ^ (n + 2) ≡ (b + booth n A d m) % 2 ^ (n + 2)
unfolding booth
rows n a A u b zero zero R J hd hm ea hA er l w = drop (2 ^ (n + 2)) _ _ u J 2 2 (omega arith)
rows n a A u b zero (suc zero) R J hd hm ea hA er l w = drop (2 ^ (n + 2)) _ _ u J 2 3 (omega arith)
rows n a A u b (suc zero) zero R J hd hm ea hA er l w = drop (2 ^ (n + 2)) _ _ u J 2 3 (omega arith)
rows n a A u b (suc zero) (suc zero) R J hd hm ea hA er l w = drop (2 ^ (n + 2)) _ _ u J 2 4 (omega arith)
rows n a A u b (suc (suc zero)) zero R J hd hm ea hA er l w = drop (2 ^ (n + 2)) _ _ u J 0 0 (omega arith)
rows n a A u b (suc (suc zero)) (suc zero) R J hd hm ea hA er l w = drop (2 ^ (n + 2)) _ _ u J 0 1 (omega arith)
rows n a A u b (suc (suc (suc zero))) zero R J hd hm ea hA er l w = drop (2 ^ (n + 2)) _ _ u J 0 1 (omega arith)
rows n a A u b (suc (suc (suc zero))) (suc zero) R J hd hm ea hA er l w = drop (2 ^ (n + 2)) _ _ u J 2 2 (omega arith)
rows n a A u b (suc (suc (suc (suc d)))) m R J hd hm ea hA er l w = absurd (omega arith)
rows n a A u b zero (suc (suc m)) R J hd hm ea hA er l w = absurd (omega arith)
rows n a A u b (suc zero) (suc (suc m)) R J hd hm ea hA er l w = absurd (omega arith)
rows n a A u b (suc (suc zero)) (suc (suc m)) R J hd hm ea hA er l w = absurd (omega arith)
rows n a A u b (suc (suc (suc zero))) (suc (suc m)) R J hd hm ea hA er l w = absurd (omega arith)

pub picked : (n a b q m : ℕ) → n ≤ 32 → m < 2 → a ≤ 2 ^ 41 → (b + (q % 2 + m) * a + (2 ^ 43 - q / 2 % 2 * (2 * a))) % 2 ^ (n + 2) ≡ partial n (a % 2 ^ (n + 2)) (b % 2 ^ (n + 2)) q m
picked n a b q m h hm l =
    let low : q % 2 ≡ q % 4 % 2 = sym (mod-mod-pow q 1 1) in
    let high : q / 2 % 2 ≡ q % 4 / 2 = sym (field q 1 1) in
    let w : 2 ^ (n + 3) ≡ 2 * 2 ^ (n + 2) = omega (arith, extra n, extra_one n) in
    ap₂ (λ (x y : ℕ). (b + (x + m) * a + (2 ^ 43 - y * (2 * a))) % 2 ^ (n + 2)) low high
    ∙ rows n a (a % 2 ^ (n + 2)) (a / 2 ^ (n + 2)) b (q % 4) m (2 ^ 43) (2 ^ (43 - (n + 2))) (omega arith) hm (sym (split a (n + 2))) (mod-lt a (pow_pos (n + 2))) (sym (room n 43 h (omega arith))) (omega arith) w
    ∙ sym (partial_by_digit n (a % 2 ^ (n + 2)) (b % 2 ^ (n + 2)) q m ∙ mod-add-mod b (2 ^ (n + 2)) (booth n (a % 2 ^ (n + 2)) (q % 4) m))

-- the two parts of the row's multiple are small
pub added-le : (q m a : ℕ) → m < 2 → (q % 2 + m) * a ≤ 2 * a
added-le q m a h = mul-le-mul_right a (omega arith)

pub taken-le : (q v : ℕ) → q / 2 % 2 * v ≤ 1 * v
taken-le q v = mul-le-mul_right v (omega arith)

-- UMULLAST: A once where M is set
pub once : (m a : ℕ) → m < 2 → m * a ≤ a
once m a h = omega (arith, mul-le-mul_right a (low m h))
  where
    low : (m : ℕ) → m < 2 → m ≤ 1
    low m h = omega arith

pub once_more : (m a b : ℕ) → m < 2 → b + m * a + 0 ≡ choose m b (b + a)
once_more m a b h = by_flag (λ (m : ℕ). b + m * a + 0 ≡ choose m b (b + a)) (omega arith) (omega arith) m h

-- ---- what the code of each step asks for
pub ruleset picking = (picked, added-le, taken-le)

pub ruleset first = (first_is, zero-mod)

pub ruleset last = (once, once_more, merged_wrap, zero_wrap, selected_bounds)
