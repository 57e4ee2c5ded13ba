-- The corrections of a signed division come out exact, on numbers: after SDIVLAST1 the quotient and the remainder are right where the quotient is odd,
-- and both are corrected where it is even. ρ is the dividend's sign bit, Y its size; k and y are the quotient and the remainder of the sizes.
use mathlib.Core.Path.{◌≡◌, refl, sym, ap, ap₂, ◌∙◌, subst}
use mathlib.Core.Logic.{◌⊎◌, inl, inr}
use Prim.Native.Nat.{ℕ, zero, suc, ◌+◌, ◌-◌, ◌*◌, ◌/◌, ◌%◌, ◌<◌, ◌≤◌, max}
use native.Mathlib.Omega.{arith}
use native.Mathlib.Nat.{div-eq_of_lt, mod-eq_of_lt, mod-lt, div-add-mod', mul-le-mul_right}
use native.Mathlib.Decide.{dec_le}
use lib.Dec.{eqb}
use lib.Arith.{digits_div, digits_mod}
use borrow.Author.Tests.{ne_eqb}
use Rattle.bits.specs.Bits.{choose, flag, xor}
use Rattle.bits.proofs.BitByBit.{by_flag}
use Rattle.sequence.proofs.Lists.{Work}
use Rattle.sequence.proofs.TopBit.{top, top-low, top-high}
use Rattle.sequence.proofs.DivideNumbers.{operand_of}
use Rattle.sequence.proofs.SignedDivideNumbers.{like_signs, Divisor, Out, Out.upper, Out.lower, Bits, Bits.same, Bits.complement, Done}

-- v, or its two's complement where f is 1
abbrev pub residue : ℕ → ℕ → ℕ → ℕ
residue W f v = choose f v ((W - v) % W)

-- X, the dividend with E W added
pub data Dividend (W E ρ Y X : ℕ) : Type 0 where
  nonnegative : ρ ≡ 0 → X ≡ Y + E * W → Dividend W E ρ Y X
  negative : ρ ≡ 1 → 0 < Y → X + Y ≡ E * W → Dividend W E ρ Y X

-- ---- how the long division of X by 2 E goes: P is its quotient and r its remainder. X is (k + W) E + y, or (W - k) E - y where the dividend is
-- negative, so that half of k decides P, and whether k is odd decides r
data Case (W E ρ P r k y : ℕ) : Type 0 where
  odd⁺ : ρ ≡ 0 → k % 2 ≡ 1 → 2 * P + 1 ≡ k + W → r ≡ E + y → Case W E ρ P r k y
  even⁺ : ρ ≡ 0 → k % 2 ≡ 0 → 2 * P ≡ k + W → r ≡ y → Case W E ρ P r k y
  odd⁻ : ρ ≡ 1 → k % 2 ≡ 1 → 2 * P + 1 + k ≡ W → r + y ≡ E → Case W E ρ P r k y
  whole⁻ : ρ ≡ 1 → k % 2 ≡ 0 → 0 < k → y ≡ 0 → 2 * P + k ≡ W → r ≡ 0 → Case W E ρ P r k y
  even⁻ : ρ ≡ 1 → k % 2 ≡ 0 → 0 < y → 2 * P + 2 + k ≡ W → r + y ≡ 2 * E → Case W E ρ P r k y

-- there is one quotient and one remainder
unique : (E P r X p x : ℕ) → X ≡ 2 * E * P + r → r < 2 * E → X ≡ p * (2 * E) + x → x < 2 * E → (P ≡ p) × (r ≡ x)
unique E P r X p x e h f l = (
  sym (digits_div P {m = 2 * E} {r = r} h) ∙ ap (λ (v : ℕ). v / (2 * E)) (omega (arith, e, f)) ∙ digits_div p l,
  sym (digits_mod P {m = 2 * E} {r = r} h) ∙ ap (λ (v : ℕ). v % (2 * E)) (omega (arith, e, f)) ∙ digits_mod p l,
)

-- W is 2 H, and k is 2 h or 2 h + 1
module _ (W H E ρ Y X P r k y h : ℕ) (h_w : W ≡ 2 * H) (hE : 0 < E) (hH : 0 < H) (hk : k ≤ H) (hY : Y ≡ k * E + y) (hy : y < E) (hX : X ≡ 2 * E * P + r) (hr : r < 2 * E) where
  -- E W, and k E by the half of k
  EW : E * W ≡ 2 * (E * H)
  EW = omega (arith, ap (λ (v : ℕ). E * v) h_w)

  k_e : (e : ℕ) → k ≡ 2 * h + e → k * E ≡ 2 * (h * E) + e * E
  k_e e f = omega (arith, ap (λ (v : ℕ). v * E) f)

  -- E H, by what is left of H
  EH : (d c : ℕ) → d + h + c ≡ H → E * H ≡ d * E + h * E + c * E
  EH d c f = omega (arith, ap (λ (v : ℕ). E * v) f)

  by_parity : (e : ℕ) → e < 2 → k ≡ 2 * h + e → Dividend W E ρ Y X → Case W E ρ P r k y
  by_parity zero he hh (nonnegative hρ h_d) =
      let u : (P ≡ h + H) × (r ≡ y) = unique E P r X (h + H) y hX hr (omega (arith, EW, k_e 0 hh)) (omega arith) in
      even⁺ hρ (omega arith) (omega (arith, u.0)) u.1
  by_parity (suc zero) he hh (nonnegative hρ h_d) =
      let u : (P ≡ h + H) × (r ≡ E + y) = unique E P r X (h + H) (E + y) hX hr (omega (arith, EW, k_e 1 hh)) (omega arith) in
      odd⁺ hρ (omega arith) (omega (arith, u.0)) u.1
  by_parity (suc (suc e)) he hh d = absurd (omega arith)
  by_parity (suc zero) he hh (negative hρ hp h_d) =
      let u : (P ≡ H - h - 1) × (r ≡ E - y) = unique E P r X (H - h - 1) (E - y) hX hr (omega (arith, EW, k_e 1 hh, EH (H - h - 1) 1 (omega arith))) (omega arith) in
      odd⁻ hρ (omega arith) (omega (arith, u.0)) (omega (arith, u.1))
  by_parity zero he hh (negative hρ hp h_d) = pick y refl
    where
      pick : (v : ℕ) → y ≡ v → Case W E ρ P r k y
      pick zero hv =
          let u : (P ≡ H - h) × (r ≡ 0) = unique E P r X (H - h) 0 hX hr (omega (arith, EW, k_e 0 hh, EH (H - h) 0 (omega arith))) (omega arith) in
          whole⁻ hρ (omega arith) (some h refl) hv (omega (arith, u.0)) u.1
        where
          some : (j : ℕ) → h ≡ j → 0 < k
          some zero f = absurd (omega (arith, k_e 0 hh, ap (λ (v : ℕ). v * E) f))
          some (suc j) f = omega arith
      pick (suc v) hv =
          let u : (P ≡ H - h - 1) × (r ≡ 2 * E - y) = unique E P r X (H - h - 1) (2 * E - y) hX hr (omega (arith, EW, k_e 0 hh, EH (H - h - 1) 1 (omega arith))) (omega arith) in
          even⁻ hρ (omega arith) (omega arith) (omega (arith, u.0)) (omega (arith, u.1))

cases :
    (W H E ρ Y X P r k y : ℕ) → W ≡ 2 * H → 0 < E → 0 < H → k ≤ H → Y ≡ k * E + y → y < E → X ≡ 2 * E * P + r → r < 2 * E →
    Dividend W E ρ Y X → Case W E ρ P r k y
cases W H E ρ Y X P r k y h_w hE hH hk hY hy hX hr d = by_parity W H E ρ Y X P r k y (k / 2) h_w hE hH hk hY hy hX hr (k % 2) (omega arith) (omega arith) d

-- ---- what the words after SDIVLAST1 find, and what they leave
-- B and Q are what SDIVLAST1 leaves, A is the divisor
-- N: that of the remainder, or 1 where it is zero and the dividend negative
abbrev pub sign_for : ℕ → ℕ → ℕ → ℕ
sign_for W ρ B = max (top W B) (choose ρ 0 (flag (eqb B 0)))

-- Z: the special case of SDIVLAST2's page
abbrev pub special_z : ℕ → ℕ → ℕ → ℕ → ℕ → ℕ
special_z W A ρ B Q = choose ρ 0 (flag (eqb ((B + operand_of W A (xor (top W Q) ρ)) % W) 0))

-- the quotient one less or one more, by M
abbrev pub by_one : ℕ → ℕ → ℕ → ℕ
by_one W M Q = (Q + choose M (W - 1) 1) % W

pub record Corrected (W A δ ρ k y B Q M : ℕ) : Type 0 where
  pub n : sign_for W ρ B ≡ choose ρ (1 - k % 2) (max (k % 2) (flag (eqb y 0)))
  pub z : special_z W A ρ B Q ≡ choose ρ 0 (choose (k % 2) (flag (eqb y 0)) 0)
  pub m : M ≡ xor δ (choose ρ (k % 2) (1 - xor (k % 2) (flag (eqb y 0))))
  pub quotient : choose (1 - k % 2) Q (by_one W M Q) ≡ residue W (xor ρ δ) k
  pub remainder : choose (1 - k % 2) B ((B + operand_of W A M) % W) ≡ residue W ρ y
  pub carry : choose (1 - k % 2) 0 ((B + operand_of W A M) / W) ≡ choose (k % 2) (choose ρ 1 (flag (eqb y 0))) 0

-- M, or any flag that is δ or its complement, adds E or takes it away
operand_by : (W A E δ p : ℕ) → Divisor W A E δ → p < 2 → operand_of W A (xor δ p) ≡ choose p E (W - E)
unfolding operand_of
operand_by W A E δ p d hp = tell d.size
  where
    tell : ((δ ≡ 0) × (A ≡ E)) ⊎ ((δ ≡ 1) × (A + E ≡ W)) → operand_of W A (xor δ p) ≡ choose p E (W - E)
    tell (inl h) =
        by_flag (λ (p : ℕ). operand_of W A (xor δ p) ≡ choose p E (W - E)) (rw h.0 h.1) (rw h.0 (ap (λ (a : ℕ). W - a) h.1)) p hp
    tell (inr h) =
        by_flag (λ (p : ℕ). operand_of W A (xor δ p) ≡ choose p E (W - E)) (rw h.0 (omega (arith, h.1))) (rw h.0 (omega (arith, h.1))) p hp

pub is_zero : (x : ℕ) → x ≡ 0 → flag (eqb x 0) ≡ 1
is_zero x e = ap (λ (v : ℕ). flag (eqb v 0)) e

pub not-zero : (x : ℕ) → 0 < x → flag (eqb x 0) ≡ 0
not-zero x h = ap flag (ne_eqb x 0 (omega arith))

module _ (W H A E δ ρ k y P c r B Q M : ℕ) (h_w : W ≡ 2 * H) (d : Divisor W A E δ) (hδ : δ < 2) (hy : y < E) (fit : k < H + xor ρ δ)
    (bits : Bits δ W P c) (hc : c < W) (hQ : Q ≡ (2 * c + 1) % W) (hM : M ≡ like_signs W A B) where
  -- M by the sign of B, and what it does
  m_is : (f : ℕ) → f < 2 → top W B ≡ f → M ≡ xor δ (1 - f)
  m_is f l h = hM ∙ ap₂ (λ (x y : ℕ). 1 - xor x y) d.sign h ∙ omega arith

  with_m_lem : (f : ℕ) → f < 2 → top W B ≡ f → B + operand_of W A M ≡ B + choose (1 - f) E (W - E)
  with_m_lem f l h = ap (λ (v : ℕ). B + v) (ap (operand_of W A) (m_is f l h) ∙ operand_by W A E δ (1 - f) d (omega arith))

  -- the quotient before its correction
  q-low : (v : ℕ) → 2 * c + 1 ≡ v → v < W → Q ≡ v
  q-low v e l = hQ ∙ ap (λ (x : ℕ). x % W) e ∙ mod-eq_of_lt l

  q-high : (v : ℕ) → 2 * c + 1 ≡ W + v → v < W → Q ≡ v
  q-high v e l = hQ ∙ ap (λ (x : ℕ). x % W) (omega (arith, e)) ∙ digits_mod 1 {m = W} {r = v} l

  plus_one : (v : ℕ) → M ≡ 1 → Q + 1 ≡ v → by_one W M Q ≡ v % W
  plus_one v m e = rw m (ap (λ (x : ℕ). x % W) e)

  minus_one : (v : ℕ) → M ≡ 0 → Q ≡ v + 1 → v < W → by_one W M Q ≡ v
  minus_one v m e l = rw m (ap (λ (x : ℕ). x % W) (omega (arith, e)) ∙ digits_mod 1 {m = W} {r = v} l)

  -- SDIVLAST2 takes the divisor's sign from the quotient's
  with_sign : top W Q ≡ 1 - δ → B + operand_of W A (xor (top W Q) 1) ≡ B + E
  with_sign e = ap (λ (v : ℕ). B + operand_of W A v) (omega (arith, e)) ∙ ap (λ (v : ℕ). B + v) (operand_by W A E δ 0 d (omega arith))

  corrected : Case W E ρ P r k y → Out W E r B → Corrected W A δ ρ k y B Q M
  corrected (odd⁺ hρ hk hP hr) (lower h h_f ht) = absurd (omega arith)
  corrected (odd⁺ hρ hk hP hr) (upper h h_f ht) = record {
    n = rw (hρ, hk) (omega (arith, ht));
    z = rw hρ refl;
    m = rw (hρ, hk) (m_is 0 (omega arith) ht);
    quotient = rw (hρ, hk) (tell bits);
    remainder = rw (hρ, hk) (omega arith);
    carry = rw (hρ, hk) refl;
  }
    where
      tell : Bits δ W P c → Q ≡ residue W (xor 0 δ) k
      tell (same e f) = rw e (q-high k (omega arith) (omega arith))
      tell (complement e f) = rw e (q-low (W - k) (omega arith) (omega arith) ∙ sym (mod-eq_of_lt (omega arith)))
  corrected (even⁺ hρ hk hP hr) (upper h h_f ht) = absurd (omega arith)
  corrected (even⁺ hρ hk hP hr) (lower h h_f ht) = record {
    n = rw (hρ, hk) (omega (arith, ht));
    z = rw hρ refl;
    m = rw (hρ, hk) m;
    quotient = rw (hρ, hk) (tell bits);
    remainder = rw (hρ, hk) (ap (λ (v : ℕ). v % W) sum ∙ digits_mod 1 {m = W} {r = y} (omega (arith, d.half)));
    carry = rw (hρ, hk) (ap (λ (v : ℕ). v / W) sum ∙ digits_div 1 {m = W} {r = y} (omega (arith, d.half)));
  }
    where
      m : M ≡ xor δ 0
      m = m_is 1 (omega arith) ht

      sum : B + operand_of W A M ≡ 1 * W + y
      sum = with_m_lem 1 (omega arith) ht ∙ omega arith

      tell : Bits δ W P c → by_one W M Q ≡ residue W (xor 0 δ) k
      tell (same e f) = rw e (minus_one k (m ∙ rw e refl) (q-high (k + 1) (omega arith) (omega arith)) (omega arith))
      tell (complement e f) = rw e (plus_one (W - k) (m ∙ rw e refl) (omega (arith, q-low (W - 1 - k) (omega arith) (omega arith))))
  corrected (odd⁻ hρ hk hP hr) o = record {
    n = rw (hρ, hk) (n o);
    z = rw (hρ, hk) (not-zero _ (subst (λ (v : ℕ). 0 < v % W) (sym sum) (left o)));
    m = rw (hρ, hk) (m o);
    quotient = rw (hρ, hk) (tell bits);
    remainder = rw (hρ, hk) (back o);
    carry = rw (hρ, hk) refl;
  }
    where
      n : Out W E r B → max (top W B) (flag (eqb B 0)) ≡ max 1 (flag (eqb y 0))
      n (upper h h_f ht) = rw (ht, is_zero B (omega arith), is_zero y (omega arith)) refl
      n (lower h h_f ht) = rw (ht, not-zero B (omega (arith, d.half)), not-zero y (omega arith)) refl

      m : Out W E r B → M ≡ xor δ (1 - xor 1 (flag (eqb y 0)))
      m (upper h h_f ht) = rw (is_zero y (omega arith)) (m_is 0 (omega arith) ht)
      m (lower h h_f ht) = rw (not-zero y (omega arith)) (m_is 1 (omega arith) ht)

      tell : Bits δ W P c → Q ≡ residue W (xor 1 δ) k
      tell (same e f) = rw e (q-low (W - k) (omega arith) (omega arith) ∙ sym (mod-eq_of_lt (omega arith)))
      tell (complement e f) = rw e (q-high k (omega arith) (omega arith))

      back : Out W E r B → B ≡ (W - y) % W
      back (upper h h_f ht) = omega arith ∙ sym (digits_mod 1 {m = W} {r = 0} (omega arith)) ∙ ap (λ (v : ℕ). v % W) (omega arith)
      back (lower h h_f ht) = omega arith ∙ sym (mod-eq_of_lt (omega arith))

      quotient-sign : Bits δ W P c → top W Q ≡ 1 - δ
      quotient-sign (same e f) = ap (top W) (q-low (W - k) (omega arith) (omega arith)) ∙ top-high W (W - k) (omega arith) (omega arith) ∙ omega arith
      quotient-sign (complement e f) = ap (top W) (q-high k (omega arith) (omega arith)) ∙ top-low W k (omega arith) ∙ omega arith

      sum : B + operand_of W A (xor (top W Q) 1) ≡ B + E
      sum = with_sign (quotient-sign bits)

      left : Out W E r B → 0 < (B + E) % W
      left (upper h h_f ht) = subst (λ (v : ℕ). 0 < v) (sym (mod-eq_of_lt (omega (arith, d.half)))) (omega arith)
      left (lower h h_f ht) = subst (λ (v : ℕ). 0 < v) (sym (ap (λ (v : ℕ). v % W) shape ∙ digits_mod 1 {m = W} {r = r} (omega arith))) (omega arith)
        where
          shape : B + E ≡ 1 * W + r
          shape = omega arith
  corrected (whole⁻ hρ hk hp hz hP hr) (upper h h_f ht) = absurd (omega (arith, d.positive))
  corrected (whole⁻ hρ hk hp hz hP hr) (lower h h_f ht) = record {
    n = rw (hρ, hk, ht, not-zero B (omega (arith, d.half)), zero-y) refl;
    z = rw (hρ, hk, zero-y) (is_zero _ (ap (λ (v : ℕ). v % W) (with_sign (quotient-sign bits) ∙ sum) ∙ digits_mod 1 {m = W} {r = 0} (omega arith)));
    m = rw (hρ, hk, zero-y) m;
    quotient = rw (hρ, hk) (tell bits);
    remainder = rw (hρ, hk) (ap (λ (v : ℕ). v % W) (with_m_lem 1 (omega arith) ht ∙ sum ∙ omega arith));
    carry = rw (hρ, hk, zero-y) (ap (λ (v : ℕ). v / W) (with_m_lem 1 (omega arith) ht ∙ sum) ∙ digits_div 1 {m = W} {r = 0} (omega arith));
  }
    where
      zero-y : flag (eqb y 0) ≡ 1
      zero-y = is_zero y hz

      sum : B + E ≡ 1 * W + 0
      sum = omega arith

      m : M ≡ xor δ 0
      m = m_is 1 (omega arith) ht

      quotient-sign : Bits δ W P c → top W Q ≡ 1 - δ
      quotient-sign (same e f) = ap (top W) (q-low (W - k + 1) (omega arith) (omega arith)) ∙ top-high W (W - k + 1) (omega arith) (omega arith) ∙ omega arith
      quotient-sign (complement e f) = ap (top W) (q-high (k - 1) (omega arith) (omega arith)) ∙ top-low W (k - 1) (omega arith) ∙ omega arith

      tell : Bits δ W P c → by_one W M Q ≡ residue W (xor 1 δ) k
      tell (same e f) = rw e (minus_one (W - k) (m ∙ rw e refl) (q-low (W - k + 1) (omega arith) (omega arith)) (omega arith) ∙ sym (mod-eq_of_lt (omega arith)))
      tell (complement e f) = rw e (plus_one k (m ∙ rw e refl) (omega (arith, q-high (k - 1) (omega arith) (omega arith))) ∙ mod-eq_of_lt (omega arith))
  corrected (even⁻ hρ hk hp hP hr) (lower h h_f ht) = absurd (omega arith)
  corrected (even⁻ hρ hk hp hP hr) (upper h h_f ht) = record {
    n = rw (hρ, hk, ht, not-zero B (omega arith), some-y) refl;
    z = rw (hρ, hk, some-y) (not-zero _ (subst (λ (v : ℕ). 0 < (B + v) % W) (sym either) (left (xor δ (xor (top W Q) 1)) (omega arith))));
    m = rw (hρ, hk, some-y) m;
    quotient = rw (hρ, hk) (tell bits);
    remainder = rw (hρ, hk) (ap (λ (v : ℕ). v % W) sum);
    carry = rw (hρ, hk, some-y) (ap (λ (v : ℕ). v / W) sum ∙ div-eq_of_lt (omega arith));
  }
    where
      some-y : flag (eqb y 0) ≡ 0
      some-y = not-zero y hp

      m : M ≡ xor δ 1
      m = m_is 0 (omega arith) ht

      sum : B + operand_of W A M ≡ W - y
      sum = with_m_lem 0 (omega arith) ht ∙ omega (arith, d.half)

      -- whichever way the divisor goes, nothing is left zero
      either : operand_of W A (xor (top W Q) 1) ≡ choose (xor δ (xor (top W Q) 1)) E (W - E)
      either = ap (operand_of W A) (omega arith) ∙ operand_by W A E δ (xor δ (xor (top W Q) 1)) d (omega arith)

      left : (p : ℕ) → p < 2 → 0 < (B + choose p E (W - E)) % W
      left =
          by_flag (λ (p : ℕ). 0 < (B + choose p E (W - E)) % W)
          (subst (λ (v : ℕ). 0 < v) (sym (mod-eq_of_lt (omega (arith, d.half)))) (omega arith))
          (subst (λ (v : ℕ). 0 < v) (sym (mod-eq_of_lt (omega (arith, d.half)))) (omega arith))

      tell : Bits δ W P c → by_one W M Q ≡ residue W (xor 1 δ) k
      tell (same e f) = rw e (plus_one (W - k) (m ∙ rw e refl) (omega (arith, q-low (W - k - 1) (omega arith) (omega arith))))
      tell (complement e f) = rw e (minus_one k (m ∙ rw e refl) (q-high (k + 1) (omega arith) (omega arith)) (omega arith))

-- ---- from the dividend's two halves to the end
-- the size Y of a dividend of high half R and low half Q
pub data Size (W R Q ρ Y : ℕ) : Type 0 where
  as_it_is : ρ ≡ 0 → Y ≡ R * W + Q → Size W R Q ρ Y
  complemented : ρ ≡ 1 → Y + (R * W + Q) ≡ W * W → Size W R Q ρ Y

-- what SDIVFIRST finds: r is the high half with E added
pub record Begun (W E R Q ρ Y : ℕ) : Type 0 where
  pub r : ℕ
  pub r< : r < 2 * E
  pub out : Out W E r R
  pub dividend : Dividend W E ρ Y (r * W + Q)

pub begun :
    (W E R Q ρ Y k y : ℕ) → Size W R Q ρ Y → top W R ≡ ρ → R < W → Q < W → Y ≡ k * E + y → y < E → k < W → Begun W E R Q ρ Y
begun W E R Q ρ Y k y size ht hR hQ hY hy hk = tell size
  where
    room : Y < E * W
    room = omega (arith, mul-le-mul_right {m = k + 1} {n = W} E (omega arith))

    -- a number with a multiple of W above it, against multiples of W
    high_lt : (a b q : ℕ) → a * W + q < b * W → a < b
    high_lt a b q h = pick (dec_le b a)
      where
        pick : Dec (b ≤ a) → a < b
        pick (yes l) = absurd (omega (arith, mul-le-mul_right W l))
        pick (no l) = omega arith

    tell : Size W R Q ρ Y → Begun W E R Q ρ Y
    tell (as_it_is hρ e) =
        let l : R < E = high_lt R E Q (omega (arith, room)) in
        record { r = R + E; r< = omega arith; out = upper (omega arith) refl (ht ∙ hρ); dividend = nonnegative hρ (omega arith) }
    tell (complemented hρ e) =
        let l : W < R + E + 1 = high_lt W (R + E + 1) 0 (omega (arith, room)) in
        record {
          r = R + E - W;
          r< = omega arith;
          out = lower (omega arith) (omega arith) (ht ∙ hρ);
          dividend = negative hρ (omega (arith, mul-le-mul_right {m = R + 1} {n = W} W (omega arith))) (omega (arith, shape (R + E - W) (omega arith)));
        }
      where
        shape : (r : ℕ) → r + W ≡ R + E → r * W + W * W ≡ R * W + E * W
        shape r f = omega (arith, ap (λ (v : ℕ). v * W) f)

-- what SDIVLAST1 leaves is corrected
pub end-corrected :
    (W H A E δ ρ Y X : ℕ) → W ≡ 2 * H → 0 < H → Divisor W A E δ → δ < 2 → Y / E < H + xor ρ δ → Dividend W E ρ Y X →
    (t : Work) → Done W A E δ X t → Corrected W A δ ρ (Y / E) (Y % E) t.B t.Q t.M
end-corrected W H A E δ ρ Y X h_w hH d hδ fit dividend t done =
    corrected W H A E δ ρ (Y / E) (Y % E) done.P done.c done.r t.B t.Q t.M h_w d hδ (mod-lt Y d.positive) fit
    done.bits done.c< done.quotient done.bit
    (cases W H E ρ Y X done.P done.r (Y / E) (Y % E) h_w d.positive hH (omega (arith, fit)) (sym (div-add-mod' Y E)) (mod-lt Y d.positive) done.whole done.r< dividend)
    done.remainder
