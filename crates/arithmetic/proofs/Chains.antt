-- The nibble bits of a sum and of a difference, read off the binary sum: where it differs from its operands at bits 4, 8, .., a carry came out of
-- the nibble below.
use mathlib.Core.Path.{◌≡◌, refl, sym, ap, ap₂, ◌∙◌}
use mathlib.Core.Bool.{Bool, true, false}
use Prim.Native.Nat.{ℕ, zero, suc, ◌+◌, ◌-◌, ◌*◌, ◌/◌, ◌%◌, ◌^◌, ◌≤◌, ◌<◌, min, max}
use native.Mathlib.Nat.{mod-lt, add-zero, lt_of_le_of_lt}
use native.Mathlib.Omega.{arith}
use lib.Dec.{ltb, lit<}
use lib.Pow.{pow_pos, split}
use lib.Bits.{bit_and, bit_or, bit_xor, and_zero_r, and_le_l, and_le_r, and_mask, and_block, or_shr, xor_shr}
use borrow.Author.Tests.{ltb-true, ltb-false}
use Rattle.bits.specs.Bits.{flag, bit_of, not_of}
use Rattle.bits.proofs.Laws.{and-bit, and_compl}
use Rattle.bits.proofs.BitByBit.{by_flag, bit-or, bit-xor}
use Rattle.bits.proofs.Bounds.{flag-lt}
use Rattle.arithmetic.specs.Nibbles.{nibble_carries, nibble_borrows}

-- a flag is 1 where its test holds, and 0 where it fails
by_test : (P : ℕ → Type 0) (t : Bool) → (t ≡ true → P 1) → (t ≡ false → P 0) → P (flag t)
by_test P true p q = p refl
by_test P false p q = q refl

-- ---- masks of k nibbles, the same digit in each
unfoldable pub each : ℕ → ℕ → ℕ
each d zero = 0
each d (suc k) = d + 16 * each d k

and_nibble : (x q m : ℕ) → m < 2 ^ 4 → bit_and x (m + 16 * q) ≡ bit_and (x % 16) m + 16 * bit_and (x / 16) q
and_nibble x q m h =
    ap₂ bit_and (sym (split x 4)) (turned m q)
    ∙ and_block 4 (x / 2 ^ 4) q (x % 2 ^ 4) m (mod-lt x (pow_pos 4)) h
    ∙ sym (turned (bit_and (x % 16) m) (bit_and (x / 16) q))
  where
    turned : (m q : ℕ) → m + 16 * q ≡ q * 2 ^ 4 + m
    turned m q = omega arith

-- bit 0 of each nibble
unfoldable pub taken : ℕ → ℕ → ℕ
taken zero x = 0
taken (suc k) x = x % 2 + 16 * taken k (x / 16)

ones_law : (k x : ℕ) → bit_and x (each 1 k) ≡ taken k x
unfolding each taken
ones_law zero x = and_zero_r x
ones_law (suc k) x = and_nibble x (each 1 k) 1 (omega arith) ∙ ap₂ (λ (p q : ℕ). p + 16 * q) (and_mask (x % 16) 1 ∙ omega arith) (ones_law k (x / 16))

-- bit 3 of the nibbles of s that have carried: those with a bit of x above them
abbrev cleared : ℕ → ℕ → ℕ → ℕ
cleared k s x = bit_and s (bit_and (x / 2 ^ 1) (each 8 k))

cleared-suc : (k s x : ℕ) → cleared (suc k) s x ≡ 8 * min (s / 8 % 2) (x / 16 % 2) + 16 * cleared k (s / 16) (x / 16)
unfolding each
cleared-suc k s x =
    ap (bit_and s) (and_nibble (x / 2 ^ 1) (each 8 k) 8 (omega arith) ∙ ap₂ (λ (p q : ℕ). p + 16 * bit_and q (each 8 k)) (and-bit 3 (x / 2 ^ 1 % 16) ∙ eighth x) (halves x))
    ∙ and_nibble s (bit_and (x / 16 / 2 ^ 1) (each 8 k)) (8 * (x / 16 % 2)) (omega arith)
    ∙ ap (λ (p : ℕ). p + 16 * cleared k (s / 16) (x / 16)) (by_flag (λ (f : ℕ). bit_and (s % 16) (8 * f) ≡ 8 * min (s / 8 % 2) f) (and_zero_r (s % 16) ∙ none (s / 8 % 2)) (and-bit 3 (s % 16) ∙ top s) (x / 16 % 2) (omega arith))
  where
    eighth : (x : ℕ) → x / 2 ^ 1 % 16 / 2 ^ 3 % 2 * 2 ^ 3 ≡ 8 * (x / 16 % 2)
    eighth x = omega arith

    halves : (x : ℕ) → x / 2 ^ 1 / 16 ≡ x / 16 / 2 ^ 1
    halves x = omega arith

    none : (x : ℕ) → 0 ≡ 8 * min x 0
    none x = omega arith

    top : (s : ℕ) → s % 16 / 2 ^ 3 % 2 * 2 ^ 3 ≡ 8 * min (s / 8 % 2) 1
    top s = omega arith

-- ---- where a sum s differs from its operands a and b, there a carry came in
abbrev carries_in : ℕ → ℕ → ℕ → ℕ
carries_in s a b = bit_xor (bit_xor s a) b

module _ (s a b : ℕ) where
  four-down : carries_in s a b / 16 ≡ carries_in (s / 16) (a / 16) (b / 16)
  four-down = xor_shr (bit_xor s a) b 4 ∙ ap (λ (x : ℕ). bit_xor x (b / 2 ^ 4)) (xor_shr s a 4)

  carry_in_lem : (t : ℕ) → t < 2 → s / 16 ≡ a / 16 + b / 16 + t → carries_in s a b / 16 % 2 ≡ t
  carry_in_lem t h e = bit-xor 4 (bit_xor s a) b ∙ ap (λ (x : ℕ). (x + bit_of 4 b) % 2) (bit-xor 4 s a) ∙ twice (s / 16) (a / 16) (b / 16) t h e
    where
      twice : (s a b t : ℕ) → t < 2 → s ≡ a + b + t → ((s % 2 + a % 2) % 2 + b % 2) % 2 ≡ t
      twice s a b t h e = omega arith

-- ---- borrows: the complements of the carries of a, the complement d of b, and c
borrow_chain : (k s a b d c : ℕ) → c < 2 → b + d + 1 ≡ 16 ^ k → s ≡ a + d + c → taken k (carries_in s a d / 16) + nibble_borrows k a b (1 - c) ≡ each 1 k
unfolding taken nibble_borrows each
borrow_chain zero s a b d c h f e = refl
borrow_chain (suc k) s a b d c h f e =
    by_test (λ (t : ℕ). carries_in s a d / 16 % 2 + 16 * taken k (carries_in s a d / 16 / 16) + (t + 16 * nibble_borrows k (a / 16) (b / 16) t) ≡ 1 + 16 * each 1 k)
    (ltb (a % 16) (b % 16 + (1 - c)))
    (λ t. let l : a % 16 < b % 16 + (1 - c) = ltb-true _ _ t in
    let o : s / 16 ≡ a / 16 + d / 16 + 0 = omega arith in
    let p : carries_in s a d / 16 % 2 ≡ 0 = carry_in_lem s a d 0 (omega arith) o in
    let q : taken k (carries_in s a d / 16 / 16) + nibble_borrows k (a / 16) (b / 16) 1 ≡ each 1 k = rw (four-down s a d) (borrow_chain k (s / 16) (a / 16) (b / 16) (d / 16) 0 (omega arith) (omega arith) o) in
    rw p (omega arith))
    (λ t. let l : b % 16 + (1 - c) ≤ a % 16 = ltb-false _ _ t in
    let o : s / 16 ≡ a / 16 + d / 16 + 1 = omega arith in
    let p : carries_in s a d / 16 % 2 ≡ 1 = carry_in_lem s a d 1 (omega arith) o in
    let q : taken k (carries_in s a d / 16 / 16) + nibble_borrows k (a / 16) (b / 16) 0 ≡ each 1 k = rw (four-down s a d) (borrow_chain k (s / 16) (a / 16) (b / 16) (d / 16) 1 (omega arith) (omega arith) o) in
    rw p (omega arith))

-- ---- carries: a nibble carries where the binary sum does, by o, or where what is left of its sum does with six more, by i
carry-digit : (x y c j o r i : ℕ) → x < 16 → y < 16 → c + j < 2 → x + y + c ≡ 16 * o + r → r < 16 → i ≡ (r - 8 * min (r / 8) o + 6 + j) / 16 → o + i ≡ flag (ltb 9 (x + y + (c + j)))
carry-digit x y c j o r i hx hy h e l f =
    by_test (λ (t : ℕ). o + i ≡ t) (ltb 9 (x + y + (c + j)))
    (λ t. let g : 9 < x + y + (c + j) = ltb-true _ _ t in omega arith)
    (λ t. let g : x + y + (c + j) ≤ 9 = ltb-false _ _ t in omega arith)

-- what is left of a sum in 64 bits
abbrev pub rest : ℕ → ℕ → ℕ → ℕ
rest a b c = bit_and (a + b + c) ((2 ^ 64 - 1) - bit_and (carries_in (a + b + c) a b / 2 ^ 1) 0x8888_8888)

-- sixes are even
even : (k : ℕ) → each 6 k % 2 ≡ 0
unfolding each
even zero = refl
even (suc k) = omega (arith, even k)

-- v is what is left of the sum s, and u that with six more in each nibble and j below
carry_chain : (k s a b c j v u : ℕ) → c + j < 2 → s ≡ a + b + c → v + cleared k s (carries_in s a b) ≡ s → u ≡ v + each 6 k + j
    → taken k (bit_or (bit_xor u v) (carries_in s a b) / 16) ≡ nibble_carries k a b (c + j)
unfolding taken nibble_carries each
carry_chain zero s a b c j v u h e f g = refl
carry_chain (suc k) s a b c j v u h e f g =
    let x : ℕ = carries_in s a b in
    let o : ℕ = (a % 16 + b % 16 + c) / 16 in
    let i : ℕ = (v % 16 + 6 + j) / 16 in
    let (ho, so, sr) = binary s a b c e (omega arith) in
    let ui : u / 16 ≡ v / 16 + each 6 k + i = sixes u v (each 6 k) j g in
    let p : x / 16 % 2 ≡ o = carry_in_lem s a b o ho so in
    let w : v + (8 * min (s / 8 % 2) o + 16 * cleared k (s / 16) (x / 16)) ≡ s = rw (← p, ← cleared-suc k s x) f in
    let (high, low) = left s v o (cleared k (s / 16) (x / 16)) w (and_le_l (s / 16) (bit_and (x / 16 / 2 ^ 1) (each 8 k))) in
    let t : o + i ≡ flag (ltb 9 (a % 16 + b % 16 + (c + j))) = carry-digit (a % 16) (b % 16) c j o (s % 16) i (mod-lt a (lit< tt)) (mod-lt b (lit< tt)) h sr (mod-lt s (lit< tt)) (ap (λ (y : ℕ). (y + 6 + j) / 16) low) in
    let l : o + i < 2 = rw t (flag-lt (ltb 9 (a % 16 + b % 16 + (c + j)))) in
    rw (← t)
    (ap₂ (λ (y z : ℕ). y + 16 * z)
    (bit-or 4 (bit_xor u v) x ∙ ap₂ max (bit-xor 4 u v ∙ six (u / 16) (v / 16) (each 6 k) o i l (even k) ui) p ∙ either o i l)
    (ap (λ (y : ℕ). taken k (y / 16)) (or_shr (bit_xor u v) x 4 ∙ ap₂ bit_or (xor_shr u v 4) (four-down s a b))
    ∙ carry_chain k (s / 16) (a / 16) (b / 16) o i (v / 16) (u / 16) l so (rw (← four-down s a b) high) ui))
  where
    parts : (q r m w v : ℕ) → v + (8 * m + 16 * w) ≡ 16 * q + r → 8 * m ≤ r → r < 16 → w ≤ q → (v / 16 + w ≡ q) × (v % 16 ≡ r - 8 * m)
    parts q r m w v e h l g = (omega arith, omega arith)

    left : (s v o w : ℕ) → v + (8 * min (s / 8 % 2) o + 16 * w) ≡ s → w ≤ s / 16 → (v / 16 + w ≡ s / 16) × (v % 16 ≡ s % 16 - 8 * min (s % 16 / 8) o)
    left s v o w e l =
        let r : s / 8 % 2 ≡ s % 16 / 8 = omega arith in
        parts (s / 16) (s % 16) (min (s % 16 / 8) o) w v (rw r at e ∙ omega arith) (omega arith) (omega arith) l

    binary : (s a b c : ℕ) → s ≡ a + b + c → c < 2 → ((a % 16 + b % 16 + c) / 16 < 2) × (s / 16 ≡ a / 16 + b / 16 + (a % 16 + b % 16 + c) / 16) × (a % 16 + b % 16 + c ≡ 16 * ((a % 16 + b % 16 + c) / 16) + s % 16)
    binary s a b c e h = (omega arith, omega arith, omega arith)

    sixes : (u v y j : ℕ) → u ≡ v + (6 + 16 * y) + j → u / 16 ≡ v / 16 + y + (v % 16 + 6 + j) / 16
    sixes u v y j e = omega arith

    six : (u v y o i : ℕ) → o + i < 2 → y % 2 ≡ 0 → u ≡ v + y + i → (u % 2 + v % 2) % 2 ≡ i
    six u v y o i h e f = omega arith

    either : (o i : ℕ) → o + i < 2 → max i o ≡ o + i
    either o i h = omega arith

-- ---- what the code works out
pub borrows-read : (a b c : ℕ) → b < 2 ^ 32 → c < 2 → 0x1111_1111 - bit_and (carries_in (a + not_of b + c) a (not_of b) / 2 ^ 4) 0x1111_1111 ≡ nibble_borrows 8 a b (1 - c)
unfolding each
borrows-read a b c hb hc =
    let x : ℕ = carries_in (a + not_of b + c) a (not_of b) in
    let e : taken 8 (x / 16) + nibble_borrows 8 a b (1 - c) ≡ 0x1111_1111 = borrow_chain 8 (a + not_of b + c) a b (not_of b) c hc (omega arith) refl in
    rw (ones_law 8 (x / 16)) (omega arith)

pub carries-read : (a b c : ℕ) → a < 2 ^ 32 → b < 2 ^ 32 → c < 2
    → bit_and (bit_or (bit_xor (rest a b c + 0x6666_6666) (rest a b c)) (carries_in (a + b + c) a b) / 2 ^ 4) 0x1111_1111 ≡ nibble_carries 8 a b c
unfolding each
carries-read a b c ha hb hc =
    let s : ℕ = a + b + c in
    let x : ℕ = carries_in s a b in
    let m : bit_and (x / 2 ^ 1) 0x8888_8888 < 2 ^ 64 = lt_of_le_of_lt (and_le_r (x / 2 ^ 1) 0x8888_8888) (lit< tt) in
    ones_law 8 (bit_or (bit_xor (rest a b c + 0x6666_6666) (rest a b c)) x / 16)
    ∙ carry_chain 8 s a b c 0 (rest a b c) (rest a b c + 0x6666_6666) (omega arith) refl (and_compl 64 s (bit_and (x / 2 ^ 1) 0x8888_8888) (omega arith) m) (sym (add-zero _))
    ∙ ap (nibble_carries 8 a b) (add-zero c)

-- with the bounds that a mask gives
pub ruleset reading = (carries-read, borrows-read, and_le_l, and_le_r)
