-- Laws of sets of registers, and of the registers that words name.
use mathlib.Core.Path.{◌≡◌, refl, sym, ap, ap₂, ◌∙◌}
use mathlib.Core.Bool.{Bool, true, false, not, ◌||◌, or-true}
use Prim.Native.Nat.{ℕ, zero, suc, ◌*◌, ◌/◌, ◌%◌, ◌^◌, ◌<◌, min, max}
use native.Mathlib.Nat.{div-eq_of_lt, zero-mul, one-mul, mod-eq_of_lt}
use native.Mathlib.Omega.{arith}
use borrow.Author.Tests.{ne_eqb, eqb-true, not-false}
use lib.Dec.{eqb}
use lib.Pow.{pow_pos, pow-lt, shl-shr}
use lib.Bits.{bit_and, bit_or, and_lt, or_lt, and_le_l, and_le_r, or_add_and}
use Rattle.bits.specs.Bits.{bit_of, choose}
use Rattle.bits.proofs.BitByBit.{bit-lt, bit-and, bit-or, bit_ext, by_flag}
use Rattle.bits.proofs.Bounds.{choose-lt}
use Rattle.bits.proofs.Laws.{choose_one}
use Rattle.chip.specs.declared.Word.{Word}
use Rattle.packing.specs.Packing.{differ, fields_of}
use Rattle.packing.specs.Registers.{only, is_in, common, sources_of, destination_of, names_of, Narrow}

-- ---- sets
-- a number that is not zero
some : (x : ℕ) → 0 < x → differ x 0 ≡ true
some x h = ap not (ne_eqb x 0 (λ (e : x ≡ 0). omega arith))

-- a union is empty where both are
pub or_differs : (x y : ℕ) → differ (bit_or x y) 0 ≡ (differ x 0 || differ y 0)
or_differs zero zero = refl
or_differs zero (suc y) = some (bit_or 0 (suc y)) (omega (arith, or_add_and 0 (suc y), and_le_l 0 (suc y))) ∙ sym (some (suc y) (omega arith))
or_differs (suc x) y =
    some (bit_or (suc x) y) (omega (arith, or_add_and (suc x) y, and_le_r (suc x) y)) ∙ sym (ap (λ (b : Bool). b || differ y 0) (some (suc x) (omega arith)))

pub in_or : (s t r : ℕ) → is_in (bit_or s t) r ≡ (is_in s r || is_in t r)
unfolding is_in
in_or s t r = ap (λ (x : ℕ). eqb x 1) (bit-or r s t) ∙ flags (bit_of r s) (bit_of r t) (bit-lt r s) (bit-lt r t)
  where
    flags : (x y : ℕ) → x < 2 → y < 2 → eqb (max x y) 1 ≡ (eqb x 1 || eqb y 1)
    flags x y h k =
        by_flag (λ (x : ℕ). eqb (max x y) 1 ≡ (eqb x 1 || eqb y 1)) (by_flag (λ (y : ℕ). eqb (max 0 y) 1 ≡ eqb y 1) refl refl y k)
        (by_flag (λ (y : ℕ). eqb (max 1 y) 1 ≡ true) refl refl y k) x h

pub in_only : (k : ℕ) → is_in (only k) k ≡ true
unfolding is_in
in_only k =
    let e : 2 ^ k / 2 ^ k ≡ 1 = ap (λ (x : ℕ). x / 2 ^ k) (sym (one-mul (2 ^ k))) ∙ shl-shr 1 k in
    ap (λ (x : ℕ). eqb (x % 2) 1) e

-- no register is in both of two sets that have none in common
pub common-none : (s t r : ℕ) → common s t ≡ false → is_in s r ≡ true → is_in t r ≡ true → ⊥
unfolding common is_in
common-none s t r e f g =
    let z : bit_and s t ≡ 0 = eqb-true (bit_and s t) 0 (not-false _ e) in
    let d : 0 / 2 ^ r ≡ 0 = div-eq_of_lt (pow_pos r) in
    let o : bit_of r (bit_and s t) ≡ 0 = ap (bit_of r) z ∙ ap (λ (x : ℕ). x % 2) d in
    omega (arith, o, bit-and r s t, eqb-true (bit_of r s) 1 f, eqb-true (bit_of r t) 1 g)

-- what a union has in common, of sets of 64 registers
pub common-or : (s t u : ℕ) → s < 2 ^ 64 → t < 2 ^ 64 → u < 2 ^ 64 → common (bit_or s t) u ≡ (common s u || common t u)
unfolding common
common-or s t u hs ht hu = ap (λ (x : ℕ). differ x 0) spread ∙ or_differs (bit_and s u) (bit_and t u)
  where
    each : (x y z : ℕ) → min (max x y) z ≡ max (min x z) (min y z)
    each x y z = omega arith

    spread : bit_and (bit_or s t) u ≡ bit_or (bit_and s u) (bit_and t u)
    spread =
        bit_ext 64 (bit_and (bit_or s t) u) (bit_or (bit_and s u) (bit_and t u)) (and_lt 64 (bit_or s t) u (or_lt 64 s t hs ht) hu)
        (or_lt 64 (bit_and s u) (bit_and t u) (and_lt 64 s u hs hu) (and_lt 64 t u ht hu))
        (λ i l. bit-and i (bit_or s t) u ∙ ap (λ (x : ℕ). min x (bit_of i u)) (bit-or i s t) ∙ each (bit_of i s) (bit_of i t) (bit_of i u)
        ∙ sym (bit-or i (bit_and s u) (bit_and t u) ∙ ap₂ max (bit-and i s u) (bit-and i t u)))

-- unions of sets of 64 registers
pub union_assoc : (s t u : ℕ) → s < 2 ^ 64 → t < 2 ^ 64 → u < 2 ^ 64 → bit_or (bit_or s t) u ≡ bit_or s (bit_or t u)
union_assoc s t u hs ht hu =
    bit_ext 64 (bit_or (bit_or s t) u) (bit_or s (bit_or t u)) (or_lt 64 (bit_or s t) u (or_lt 64 s t hs ht) hu) (or_lt 64 s (bit_or t u) hs (or_lt 64 t u ht hu))
    (λ i l. bit-or i (bit_or s t) u ∙ ap (λ (x : ℕ). max x (bit_of i u)) (bit-or i s t) ∙ each (bit_of i s) (bit_of i t) (bit_of i u)
    ∙ sym (bit-or i s (bit_or t u) ∙ ap (max (bit_of i s)) (bit-or i t u)))
  where
    each : (x y z : ℕ) → max (max x y) z ≡ max x (max y z)
    each x y z = omega arith

-- ---- the registers that a word names
pub only-lt : (r : ℕ) → r < 64 → only r < 2 ^ 64
only-lt r h = pow-lt h

-- the write bit moved to Y's place: none where it is 0, else Y alone
pub moved : (bit y : ℕ) → bit < 2 → y < 64 → (bit * 2 ^ y) % 2 ^ 64 ≡ choose bit 0 (only y)
moved zero y h l = ap (λ (x : ℕ). x % 2 ^ 64) (zero-mul (2 ^ y))
moved (suc zero) y h l = ap (λ (x : ℕ). x % 2 ^ 64) (one-mul (2 ^ y)) ∙ mod-eq_of_lt (only-lt y l)
moved (suc (suc n)) y h l = absurd (omega arith)

pub names-lt : (w : Word) → Narrow w → names_of w < 2 ^ 64
unfolding names_of sources_of destination_of
names-lt w n = or_lt 64 _ _ (or_lt 64 _ _ (only-lt w.a n.a) (only-lt w.b n.b)) (choose-lt w.write 0 (only w.y) (2 ^ 64) (pow_pos 64) (only-lt w.y n.y))

pub names-a : (w : Word) → is_in (names_of w) w.a ≡ true
unfolding names_of sources_of destination_of
names-a w = simp (in_or, in_only)

pub names-b : (w : Word) → is_in (names_of w) w.b ≡ true
unfolding names_of sources_of destination_of
names-b w = simp (in_or, in_only, or-true)

-- Y where the word writes
pub destination-y : (w : Word) → (w.write ≡ 0 → ⊥) → destination_of w ≡ only w.y
unfolding destination_of
destination-y w h = choose_one w.write 0 (only w.y) h

pub names-y : (w : Word) → (w.write ≡ 0 → ⊥) → is_in (names_of w) w.y ≡ true
unfolding names_of
names-y w h = rw (destination-y w h) (simp (in_or, in_only, or-true))

-- the fields of any number
pub narrow : (v : ℕ) → Narrow (fields_of v)
unfolding fields_of
narrow v = record { a = omega arith; b = omega arith; y = omega arith; write = omega arith }
