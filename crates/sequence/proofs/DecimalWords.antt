-- Decimal sums and differences come out exact on whole words: what the first word leaves in Y and in the nibble bits is what the correction
-- needs, and the nibbles above the selected ones do not count.
use mathlib.Core.Path.{◌≡◌, sym, ap, ap₂, ◌∙◌, subst}
use Prim.Native.Nat.{ℕ, zero, suc, ◌+◌, ◌-◌, ◌*◌, ◌/◌, ◌%◌, ◌^◌, ◌≤◌, ◌<◌}
use native.Mathlib.Nat.{mod-lt, add-mod, mod-add-mod}
use native.Mathlib.Omega.{arith}
use Rattle.bits.specs.Bits.{bit_of, merged, not_of}
use Rattle.arithmetic.specs.Nibbles.{nibble_carries, nibble_borrows}
use Rattle.sequence.specs.Decimal.{Digits}
use Rattle.sequence.proofs.Lists.{merged-low, not-cut, cut_sum}
use Rattle.sequence.proofs.DecimalNumbers.{SumCorrected, sum-end, sums, DiffCorrected, dif-end, difs, pow16_pos, pow16, digits-cut, digits-whole, value-cut, carries-cut, borrows-cut, carries-low, borrows-low, six_low, top-low}

-- ---- Y and its correction, as numbers: k + 1 nibbles are selected, j are not
sum-whole : (k c p r Y C : ℕ) → SumCorrected k c (p % 16 ^ k) (r % 16 ^ k) (Y % 16 ^ k) C → SumCorrected k c p r Y C
sum-whole k c p r Y C s =
    record {
      valid = digits-whole k Y s.valid;
      sum = sym (value-cut k Y) ∙ s.sum ∙ ap₂ (λ (u v : ℕ). (u + v + c) % 10 ^ k) (value-cut k p) (value-cut k r);
      carry = s.carry ∙ ap₂ (λ (u v : ℕ). (u + v + c) / 10 ^ k) (value-cut k p) (value-cut k r);
    }

diff_whole : (k c p r Y N : ℕ) → DiffCorrected k c (p % 16 ^ k) (r % 16 ^ k) (Y % 16 ^ k) N → DiffCorrected k c p r Y N
diff_whole k c p r Y N s =
    record {
      valid = digits-whole k Y s.valid;
      difference = sym (value-cut k Y) ∙ s.difference ∙ ap₂ (λ (u v : ℕ). (u + (10 ^ k - (v + c))) % 10 ^ k) (value-cut k p) (value-cut k r);
      balance =
          ap₂ (λ (u v : ℕ). u + v + c) (sym (value-cut k Y)) (sym (value-cut k r)) ∙ s.balance ∙ ap (λ (u : ℕ). u + 10 ^ k * N) (value-cut k p);
    }

module _ (k j n p r c u : ℕ) (pow : 2 ^ n ≡ 16 ^ suc k) (hc : c < 2) (vp : Digits (suc k) p) (vr : Digits (suc k) r) where
  abbrev W : ℕ
  W = 16 ^ suc k

  -- the nibble carries of the whole words, and of the selected nibbles
  abbrev whole : ℕ
  whole = nibble_carries (suc k + j) p r c

  abbrev cut : ℕ
  cut = nibble_carries (suc k) (p % W) (r % W) c

  six : 6 * whole % W ≡ 6 * cut
  six = six_low (suc k) _ _ (carries-low (suc k) j p r c) ∙ ap (λ (x : ℕ). 6 * x) (sym (carries-cut (suc k) p r c))

  abbrev Y : ℕ
  Y = merged n (p + r + c) u

  y-low : Y % W ≡ (p + r + c) % W
  y-low = subst (λ (v : ℕ). Y % v ≡ (p + r + c) % v) pow (merged-low n (p + r + c) u)

  pub sum-numbers : SumCorrected (suc k) c p r (merged n (Y + 6 * whole) Y) (bit_of (4 * k) whole)
  sum-numbers =
      sum-whole (suc k) c p r _ _
      (sum-end k c (p % W) (r % W) cut _ _
      (sums (suc k) c (p % W) (r % W) hc (mod-lt p (pow16_pos (suc k))) (mod-lt r (pow16_pos (suc k))) (digits-cut (suc k) p vp) (digits-cut (suc k) r vr))
      low
      (top-low k _ _ (carries-low (suc k) j p r c) ∙ ap (bit_of (4 * k)) (sym (carries-cut (suc k) p r c))))
    where
      parts : (p % W + r % W + (c + 6 * cut) + 0 * W) ≡ p % W + r % W + c + 6 * cut
      parts = omega arith

      low : merged n (Y + 6 * whole) Y % W ≡ (p % W + r % W + c + 6 * cut) % W
      low =
          subst (λ (v : ℕ). merged n (Y + 6 * whole) Y % v ≡ (Y + 6 * whole) % v) pow (merged-low n (Y + 6 * whole) Y)
          ∙ add-mod Y (6 * whole) W
          ∙ ap₂ (λ (x y : ℕ). (x + y) % W) y-low six
          ∙ mod-add-mod (p + r + c) W (6 * cut)
          ∙ ap (λ (x : ℕ). x % W) (regroup p r c (6 * cut))
          ∙ cut_sum W p r (c + 6 * cut) 0
          ∙ ap (λ (x : ℕ). x % W) parts
        where
          regroup : (p r c s : ℕ) → p + r + c + s ≡ p + r + (c + s)
          regroup p r c s = omega arith

-- c is the carry into the adder, and 1 - c what is borrowed besides
module _ (k j n p r c u : ℕ) (pow : 2 ^ n ≡ 16 ^ suc k) (all : suc k + j ≡ 8) (hn : n ≤ 32) (hc : c < 2) (hr : r < 2 ^ 32) (vp : Digits (suc k) p) (vr : Digits (suc k) r) where
  abbrev whole_b : ℕ
  whole_b = nibble_borrows (suc k + j) p r (1 - c)

  abbrev cut_b : ℕ
  cut_b = nibble_borrows (suc k) (p % 16 ^ suc k) (r % 16 ^ suc k) (1 - c)

  abbrev six_b : ℕ
  six_b = 6 * whole_b

  six_b-low : six_b % 16 ^ suc k ≡ 6 * cut_b
  six_b-low = six_low (suc k) _ _ (borrows-low (suc k) j p r (1 - c)) ∙ ap (λ (x : ℕ). 6 * x) (sym (borrows-cut (suc k) p r (1 - c)))

  small : (m a b w : ℕ) → 6 * nibble_borrows m a b w < 16 ^ m
  small m a b w = omega (arith, (borrows-low m 0 a b w).small)

  six-word : six_b < 2 ^ 32
  six-word = subst (λ (m : ℕ). six_b < 16 ^ m) all (small (suc k + j) p r (1 - c))

  complement : (v : ℕ) → v < 2 ^ 32 → not_of v % 16 ^ suc k ≡ (16 ^ suc k - 1) - v % 16 ^ suc k
  complement v hv = subst (λ (x : ℕ). not_of v % x ≡ (x - 1) - v % x) pow (not-cut n v hn hv)

  abbrev Z : ℕ
  Z = merged n (p + not_of r + c) u

  z-low : Z % 16 ^ suc k ≡ (p % 16 ^ suc k + (16 ^ suc k - (r % 16 ^ suc k + (1 - c)))) % 16 ^ suc k
  z-low =
      subst (λ (v : ℕ). Z % v ≡ (p + not_of r + c) % v) pow (merged-low n (p + not_of r + c) u)
      ∙ cut_sum (16 ^ suc k) p (not_of r) c 0
      ∙ ap (λ (v : ℕ). (p % 16 ^ suc k + v + c + 0 * 16 ^ suc k) % 16 ^ suc k) (complement r hr)
      ∙ ap (λ (v : ℕ). v % 16 ^ suc k) (taken (16 ^ suc k) (p % 16 ^ suc k) (r % 16 ^ suc k) c (mod-lt r (pow16_pos (suc k))) hc)
    where
      taken : (W₀ P R c : ℕ) → R < W₀ → c < 2 → P + ((W₀ - 1) - R) + c + 0 * W₀ ≡ P + (W₀ - (R + (1 - c)))
      taken W₀ P R zero h hc = omega arith
      taken W₀ P R (suc zero) h hc = omega arith
      taken W₀ P R (suc (suc c)) h hc = absurd (omega arith)

  pub difference-numbers : DiffCorrected (suc k) (1 - c) p r (merged n (Z + not_of six_b + 1) Z) (bit_of (4 * k) whole_b)
  difference-numbers =
      subst (λ (N : ℕ). DiffCorrected (suc k) (1 - c) p r (merged n (Z + not_of six_b + 1) Z) N)
      (sym (top-low k _ _ (borrows-low (suc k) j p r (1 - c)) ∙ ap (bit_of (4 * k)) (sym (borrows-cut (suc k) p r (1 - c)))))
      (diff_whole (suc k) (1 - c) p r _ _
      (dif-end k (1 - c) (p % 16 ^ suc k) (r % 16 ^ suc k) cut_b _ (omega arith) (mod-lt r (pow16_pos (suc k))) (digits-cut (suc k) r vr) (small (suc k) (p % 16 ^ suc k) (r % 16 ^ suc k) (1 - c))
      (difs (suc k) (1 - c) (p % 16 ^ suc k) (r % 16 ^ suc k) (omega arith) (mod-lt p (pow16_pos (suc k))) (mod-lt r (pow16_pos (suc k))) (digits-cut (suc k) p vp) (digits-cut (suc k) r vr))
      low))
    where
      less : (W₀ x s : ℕ) → s < W₀ → x + ((W₀ - 1) - s) + 1 + 0 * W₀ ≡ x + (W₀ - s)
      less W₀ x s h = omega arith

      low : merged n (Z + not_of six_b + 1) Z % 16 ^ suc k
          ≡ (p % 16 ^ suc k + (16 ^ suc k - (r % 16 ^ suc k + (1 - c))) + (16 ^ suc k - 6 * cut_b)) % 16 ^ suc k
      low =
          subst (λ (v : ℕ). merged n (Z + not_of six_b + 1) Z % v ≡ (Z + not_of six_b + 1) % v) pow (merged-low n (Z + not_of six_b + 1) Z)
          ∙ cut_sum (16 ^ suc k) Z (not_of six_b) 1 0
          ∙ ap (λ (v : ℕ). (Z % 16 ^ suc k + v + 1 + 0 * 16 ^ suc k) % 16 ^ suc k) (complement six_b six-word ∙ ap (λ (v : ℕ). (16 ^ suc k - 1) - v) six_b-low)
          ∙ ap (λ (v : ℕ). v % 16 ^ suc k) (less (16 ^ suc k) (Z % 16 ^ suc k) (6 * cut_b) (small (suc k) (p % 16 ^ suc k) (r % 16 ^ suc k) (1 - c)))
          ∙ ap (λ (v : ℕ). (v + (16 ^ suc k - 6 * cut_b)) % 16 ^ suc k) z-low
          ∙ mod-add-mod (p % 16 ^ suc k + (16 ^ suc k - (r % 16 ^ suc k + (1 - c)))) (16 ^ suc k) (16 ^ suc k - 6 * cut_b)

-- ---- at k of the eight digits, in n bits
module _ (k n p r c u : ℕ) (h1 : 1 ≤ k) (h8 : k ≤ 8) (bits : n ≡ 4 * k) (hc : c < 2) (vp : Digits k p) (vr : Digits k r) where
  top_is : n - 4 ≡ 4 * (k - 1)
  top_is = omega arith

  nibbles_is : suc (k - 1) + (8 - k) ≡ 8
  nibbles_is = omega arith

  digits_is : k ≡ suc (k - 1)
  digits_is = omega arith

  pow_is : 2 ^ n ≡ 16 ^ suc (k - 1)
  pow_is = ap (λ (x : ℕ). 2 ^ x) e ∙ pow16 (suc (k - 1))
    where
      e : n ≡ 4 * suc (k - 1)
      e = omega arith

  pub sum-at : SumCorrected k c p r (merged n (merged n (p + r + c) u + 6 * nibble_carries 8 p r c) (merged n (p + r + c) u)) (bit_of (n - 4) (nibble_carries 8 p r c))
  sum-at =
      subst (λ (i : ℕ). SumCorrected k c p r (merged n (merged n (p + r + c) u + 6 * nibble_carries 8 p r c) (merged n (p + r + c) u)) (bit_of i (nibble_carries 8 p r c))) (sym top_is)
      (subst (λ (m : ℕ). SumCorrected k c p r (merged n (merged n (p + r + c) u + 6 * nibble_carries m p r c) (merged n (p + r + c) u)) (bit_of (4 * (k - 1)) (nibble_carries m p r c))) nibbles_is
      (subst
      (λ (i : ℕ). SumCorrected i c p r (merged n (merged n (p + r + c) u + 6 * (nibble_carries (suc (k - 1) + (8 - k)) p r c)) (merged n (p + r + c) u)) (bit_of (4 * (k - 1)) (nibble_carries (suc (k - 1) + (8 - k)) p r c)))
      (sym digits_is)
      (sum-numbers (k - 1) (8 - k) n p r c u pow_is hc (subst (λ (i : ℕ). Digits i p) digits_is vp) (subst (λ (i : ℕ). Digits i r) digits_is vr))))

  pub difference-at :
      r < 2 ^ 32 →
      DiffCorrected k (1 - c) p r
      (merged n (merged n (p + not_of r + c) u + not_of (6 * nibble_borrows 8 p r (1 - c)) + 1) (merged n (p + not_of r + c) u))
      (bit_of (n - 4) (nibble_borrows 8 p r (1 - c)))
  difference-at hr =
      subst (λ (i : ℕ). DiffCorrected k (1 - c) p r (merged n (merged n (p + not_of r + c) u + not_of (6 * nibble_borrows 8 p r (1 - c)) + 1) (merged n (p + not_of r + c) u)) (bit_of i (nibble_borrows 8 p r (1 - c)))) (sym top_is)
      (subst (λ (m : ℕ). DiffCorrected k (1 - c) p r (merged n (merged n (p + not_of r + c) u + not_of (6 * nibble_borrows m p r (1 - c)) + 1) (merged n (p + not_of r + c) u)) (bit_of (4 * (k - 1)) (nibble_borrows m p r (1 - c)))) nibbles_is
      (subst
      (λ (i : ℕ). DiffCorrected i (1 - c) p r (merged n (merged n (p + not_of r + c) u + not_of (6 * (nibble_borrows (suc (k - 1) + (8 - k)) p r (1 - c))) + 1) (merged n (p + not_of r + c) u)) (bit_of (4 * (k - 1)) (nibble_borrows (suc (k - 1) + (8 - k)) p r (1 - c))))
      (sym digits_is)
      (difference-numbers (k - 1) (8 - k) n p r c u pow_is nibbles_is (omega arith) hc hr (subst (λ (i : ℕ). Digits i p) digits_is vp) (subst (λ (i : ℕ). Digits i r) digits_is vr))))
