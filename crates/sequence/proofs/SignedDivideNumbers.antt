-- Signed non-restoring division comes out exact, on numbers. A, B and Q are the selected bits of divisor, partial remainder and dividend, W is 2 to
-- their number. E is the size of the divisor and δ its sign bit. A partial remainder lies from -E up to, but not including, E: with E added to
-- it, it is r, below 2 E, and what the steps do is the long division of the dividend plus E W by 2 E. Its quotient bit p is 1 where r is E or
-- more, that is where the partial remainder is not negative; M, and the bit that goes into Q, is p, or its complement where the divisor is negative.
use mathlib.Core.Path.{◌≡◌, refl, sym, ap, ap₂, ◌∙◌, subst}
use mathlib.Core.Logic.{◌⊎◌, inl, inr}
use Prim.Native.Nat.{ℕ, zero, suc, ◌+◌, ◌-◌, ◌*◌, ◌/◌, ◌%◌, ◌^◌, ◌<◌, ◌≤◌}
use native.Mathlib.Omega.{arith}
use native.Mathlib.Nat.{mod-eq_of_lt, mod-lt, div-add-mod', div-lt_iff_lt-mul}
use native.Mathlib.Decide.{dec_le}
use lib.Pow.{pow_pos}
use lib.Arith.{digits_mod}
use Rattle.bits.specs.Bits.{xor}
use Rattle.sequence.proofs.Lists.{Work}
use Rattle.sequence.proofs.TopBit.{top, top-low, top-high}
use Rattle.sequence.proofs.DivideNumbers.{operand_of, top-q, shift-q}

-- ---- the words on numbers
-- F of n bits: B less A (M = 1) or plus A (M = 0)
abbrev pub signed_f : ℕ → ℕ → Work → ℕ
signed_f W A s = (s.B + operand_of W A s.M) % W

-- the new quotient bit: the exclusive NOR of the signs of A and F
abbrev pub like_signs : ℕ → ℕ → ℕ → ℕ
like_signs W A F = 1 - xor (top W A) (top W F)

-- F shifted up, the top bit of Q coming in; the new bit goes into Q and M
abbrev pub advanced : ℕ → ℕ → ℕ → ℕ → ℕ → Work
advanced W A F Q S = record { B = (2 * F + top W Q) % W; Q = (2 * Q + like_signs W A F) % W; M = like_signs W A F; S = S }

unfoldable pub signed_first : ℕ → ℕ → Work → Work
signed_first W A s = advanced W A s.B s.Q (top W s.B)

unfoldable pub signed_step : ℕ → ℕ → Work → Work
signed_step W A s = advanced W A (signed_f W A s) s.Q s.S

unfoldable pub signed_last : ℕ → ℕ → Work → Work
signed_last W A s = record { B = signed_f W A s; Q = (2 * s.Q + 1) % W; M = like_signs W A (signed_f W A s); S = s.S }

-- ---- the divisor by its size and sign
pub record Divisor (W A E δ : ℕ) : Type 0 where
  pub positive : 0 < E
  pub half : 2 * E ≤ W
  pub sign : top W A ≡ δ
  pub size : ((δ ≡ 0) × (A ≡ E)) ⊎ ((δ ≡ 1) × (A + E ≡ W))

-- ---- one step
-- B against r: the partial remainder shifted up, less 2 E where its quotient bit is 1
data Rel (W E δ M B p r : ℕ) : Type 0 where
  over : p ≡ 1 → M ≡ 1 - δ → B ≡ r → Rel W E δ M B p r
  under : p ≡ 0 → M ≡ δ → B + 2 * E ≡ r + W → Rel W E δ M B p r

-- F against r: it is r - E modulo W, and its top bit is the sign of that
pub data Out (W E r F : ℕ) : Type 0 where
  upper : E ≤ r → F + E ≡ r → top W F ≡ 0 → Out W E r F
  lower : r < E → F + E ≡ r + W → top W F ≡ 1 → Out W E r F

-- what is taken away or added back is E, modulo W
operand_is : (W A E δ M B p r : ℕ) → Divisor W A E δ → Rel W E δ M B p r → (B + operand_of W A M) % W ≡ (r + (W - E)) % W
unfolding operand_of
operand_is W A E δ M B p r d rel = tell M d.size rel
  where
    tell : (M : ℕ) → ((δ ≡ 0) × (A ≡ E)) ⊎ ((δ ≡ 1) × (A + E ≡ W)) → Rel W E δ M B p r → (B + operand_of W A M) % W ≡ (r + (W - E)) % W
    tell zero (inl h) (over hp hM hB) = absurd (omega (arith, h.0))
    tell zero (inl h) (under hp hM hB) = ap (λ (x : ℕ). x % W) (omega (arith, h.1, d.half))
    tell zero (inr h) (over hp hM hB) = ap (λ (x : ℕ). x % W) (omega (arith, h.1))
    tell zero (inr h) (under hp hM hB) = absurd (omega (arith, h.0))
    tell (suc m) (inl h) (over hp hM hB) = ap (λ (x : ℕ). x % W) (omega (arith, h.1))
    tell (suc m) (inl h) (under hp hM hB) = absurd (omega (arith, h.0))
    tell (suc m) (inr h) (over hp hM hB) = absurd (omega (arith, h.0))
    tell (suc m) (inr h) (under hp hM hB) = ap (λ (x : ℕ). x % W) (omega (arith, h.1, d.half))

out : (W E r : ℕ) → 0 < E → 2 * E ≤ W → r < 2 * E → Out W E r ((r + (W - E)) % W)
out W E r hE h_w hr = pick (dec_le E r)
  where
    pick : Dec (E ≤ r) → Out W E r ((r + (W - E)) % W)
    pick (yes l) =
        let e : (r + (W - E)) % W ≡ r - E = ap (λ (x : ℕ). x % W) (omega arith) ∙ digits_mod 1 {m = W} {r = r - E} (omega arith) in
        upper l (omega (arith, e)) (ap (top W) e ∙ top-low W (r - E) (omega arith))
    pick (no l) =
        let e : (r + (W - E)) % W ≡ r + (W - E) = mod-eq_of_lt (omega arith) in
        lower (omega arith) (omega (arith, e)) (ap (top W) e ∙ top-high W (r + (W - E)) (omega arith) (omega arith))

-- ---- the quotient bits in Q: c is P, or its complement where the divisor is negative
pub data Bits (δ R P c : ℕ) : Type 0 where
  same : δ ≡ 0 → c ≡ P → Bits δ R P c
  complement : δ ≡ 1 → c + P + 1 ≡ R → Bits δ R P c

-- ---- the shift
-- what F says, shifted up with b: the next quotient bit, the next r, and M
record Next (W A E δ r b F : ℕ) : Type 0 where
  p : ℕ
  r' : ℕ
  p< : p < 2
  r< : r' < 2 * E
  split : 2 * r + b ≡ p * (2 * E) + r'
  rel : Rel W E δ (like_signs W A F) ((2 * F + b) % W) p r'
  bits : (R P c : ℕ) → Bits δ R P c → Bits δ (2 * R) (2 * P + p) (2 * c + like_signs W A F)

next : (W A E δ r b F : ℕ) → Divisor W A E δ → δ < 2 → b < 2 → r < 2 * E → Out W E r F → Next W A E δ r b F
next W A E δ r b F d hδ hb hr (upper h h_f ht) = record {
  p = 1;
  r' = 2 * r + b - 2 * E;
  p< = omega arith;
  r< = omega arith;
  split = omega arith;
  rel = over refl m (ap (λ (x : ℕ). x % W) (omega arith) ∙ mod-eq_of_lt (omega (arith, d.half)));
  bits = tell;
}
  where
    m : like_signs W A F ≡ 1 - δ
    m = ap₂ (λ (x y : ℕ). 1 - xor x y) d.sign ht ∙ omega arith

    tell : (R P c : ℕ) → Bits δ R P c → Bits δ (2 * R) (2 * P + 1) (2 * c + like_signs W A F)
    tell R P c (same e h) = same e (omega (arith, m))
    tell R P c (complement e h) = complement e (omega (arith, m))
next W A E δ r b F d hδ hb hr (lower h h_f ht) = record {
  p = 0;
  r' = 2 * r + b;
  p< = omega arith;
  r< = omega arith;
  split = omega arith;
  rel = under refl m (omega (arith, ap (λ (x : ℕ). x % W) shape ∙ digits_mod 1 {m = W} {r = 2 * r + b + (W - 2 * E)} (omega (arith, d.half)), d.half));
  bits = tell;
}
  where
    m : like_signs W A F ≡ δ
    m = ap₂ (λ (x y : ℕ). 1 - xor x y) d.sign ht ∙ omega arith

    shape : 2 * F + b ≡ 1 * W + (2 * r + b + (W - 2 * E))
    shape = omega (arith, d.half)

    tell : (R P c : ℕ) → Bits δ R P c → Bits δ (2 * R) (2 * P + 0) (2 * c + like_signs W A F)
    tell R P c (same e h) = same e (omega (arith, m))
    tell R P c (complement e h) = complement e (omega (arith, m))

-- ---- the invariant. R T = W; the top bits of X, which is the dividend plus E W, say 2 E P + r; Q holds the rest of the dividend above the bits of P.
pub record Inv (W A E δ X R T : ℕ) (s : Work) : Type 0 where
  r : ℕ
  p : ℕ
  rest : ℕ
  P : ℕ
  c : ℕ
  r< : r < 2 * E
  rel : Rel W E δ s.M s.B p r
  whole : X ≡ (2 * E * P + r) * T + rest
  held : s.Q ≡ rest * R + c
  bits : Bits δ R P c
  c< : c < R
  rest< : rest < T

advance :
    (W A E δ X R T r b rest P c F Q S : ℕ) → Divisor W A E δ → δ < 2 → W ≡ R * (2 * T) → X ≡ (2 * E * P + r) * (2 * T) + (b * T + rest) → b < 2 →
    Q ≡ (b * T + rest) * R + c → c < R → rest < T → r < 2 * E → Bits δ R P c → Out W E r F → Inv W A E δ X (2 * R) T (advanced W A F Q S)
advance W A E δ X R T r b rest P c F Q S d hδ h_w whole hb held c< rest< r< bits o = record {
  r = n.r';
  p = n.p;
  rest = rest;
  P = 2 * P + n.p;
  c = 2 * c + like_signs W A F;
  r< = n.r<;
  rel = subst (λ (x : ℕ). Rel W E δ (like_signs W A F) ((2 * F + x) % W) n.p n.r') (sym (top-q R T b rest c Q W h_w held c< rest<)) n.rel;
  whole = omega (arith, whole, ap (λ (x : ℕ). x * T) n.split);
  held = shift-q R T b rest c Q W (like_signs W A F) h_w held c< rest< (omega arith);
  bits = n.bits R P c bits;
  c< = omega arith;
  rest< = rest<;
}
  where
    n : Next W A E δ r b F
    n = next W A E δ r b F d hδ hb r< o

step_inv : (W A E δ X R T : ℕ) → Divisor W A E δ → δ < 2 → W ≡ R * (2 * T) → 0 < T → (s : Work) → Inv W A E δ X R (2 * T) s → Inv W A E δ X (2 * R) T (signed_step W A s)
unfolding signed_step
step_inv W A E δ X R T d hδ h_w hT s i =
    advance W A E δ X R T i.r (i.rest / T) (i.rest % T) i.P i.c (signed_f W A s) s.Q s.S d hδ h_w (rw div-add-mod' i.whole) ((div-lt_iff_lt-mul hT).1 i.rest<) (rw div-add-mod' i.held) i.c<
    (mod-lt i.rest hT) i.r< i.bits
    (subst (Out W E i.r) (sym (operand_is W A E δ s.M s.B i.p i.r d i.rel)) (out W E i.r d.positive d.half i.r<))

-- the invariant with k steps to go
pub record Left (W A E δ X k : ℕ) (s : Work) : Type 0 where
  pub R : ℕ
  pub whole : W ≡ R * 2 ^ k
  pub inv : Inv W A E δ X R (2 ^ k) s

pub step_left : (W A E δ X : ℕ) → Divisor W A E δ → δ < 2 → (k : ℕ) (s : Work) → Left W A E δ X (suc k) s → Left W A E δ X k (signed_step W A s)
step_left W A E δ X d hδ k s l =
    record {
      R = 2 * l.R;
      whole = omega (arith, h_w2);
      inv = step_inv W A E δ X l.R (2 ^ k) d hδ h_w2 (pow_pos k) s (subst (λ (x : ℕ). Inv W A E δ X l.R x s) e l.inv);
    }
  where
    e : 2 ^ suc k ≡ 2 * 2 ^ k
    e = omega arith

    h_w2 : W ≡ l.R * (2 * 2 ^ k)
    h_w2 = l.whole ∙ ap (λ (x : ℕ). l.R * x) e

-- M is a flag while the invariant holds
pub flag_m : (W A E δ X k : ℕ) → δ < 2 → (s : Work) → Left W A E δ X k s → s.M < 2
flag_m W A E δ X k hδ s l = tell l.inv.rel
  where
    tell : Rel W E δ s.M s.B l.inv.p l.inv.r → s.M < 2
    tell (over hp e h) = omega arith
    tell (under hp e h) = omega arith

-- SDIVFIRST: a step whose F is the high half of the dividend. That half, with E added, is r.
pub first_left :
    (k W A E δ r : ℕ) → W ≡ 2 * 2 ^ k → Divisor W A E δ → δ < 2 → r < 2 * E → (s : Work) → s.Q < W → Out W E r s.B →
    Left W A E δ (r * W + s.Q) k (signed_first W A s)
unfolding signed_first
first_left k W A E δ r h_w d hδ hr s hQ o =
    record {
      R = 2;
      whole = h_w;
      inv =
          advance W A E δ (r * W + s.Q) 1 (2 ^ k) r (s.Q / 2 ^ k) (s.Q % 2 ^ k) 0 0 s.B s.Q (top W s.B) d hδ (omega arith)
          (omega (arith, cut, ap (λ (x : ℕ). r * x) h_w)) ((div-lt_iff_lt-mul (pow_pos k)).1 (subst (λ (x : ℕ). s.Q < x) h_w hQ)) (omega (arith, cut)) (omega arith) (mod-lt s.Q (pow_pos k)) hr (start δ hδ) o;
    }
  where
    cut : s.Q / 2 ^ k * 2 ^ k + s.Q % 2 ^ k ≡ s.Q
    cut = div-add-mod' s.Q (2 ^ k)

    start : (δ : ℕ) → δ < 2 → Bits δ 1 0 0
    start zero h = same refl refl
    start (suc zero) h = complement refl refl
    start (suc (suc δ)) h = absurd (omega arith)

-- ---- SDIVLAST1: no step is left
pub record Done (W A E δ X : ℕ) (t : Work) : Type 0 where
  pub P : ℕ
  pub c : ℕ
  pub r : ℕ
  pub r< : r < 2 * E
  pub c< : c < W
  pub whole : X ≡ 2 * E * P + r
  pub bits : Bits δ W P c
  pub quotient : t.Q ≡ (2 * c + 1) % W
  pub remainder : Out W E r t.B
  pub bit : t.M ≡ like_signs W A t.B

last_inv : (W A E δ X : ℕ) → Divisor W A E δ → (s : Work) → Inv W A E δ X W 1 s → Done W A E δ X (signed_last W A s)
unfolding signed_last
last_inv W A E δ X d s i = record {
  P = i.P;
  c = i.c;
  r = i.r;
  r< = i.r<;
  c< = i.c<;
  whole = omega (arith, i.whole, r0);
  bits = i.bits;
  quotient = ap (λ (q : ℕ). (2 * q + 1) % W) (omega (arith, i.held, ap (λ (x : ℕ). x * W) r0));
  remainder = subst (Out W E i.r) (sym (operand_is W A E δ s.M s.B i.p i.r d i.rel)) (out W E i.r d.positive d.half i.r<);
  bit = refl;
}
  where
    r0 : i.rest ≡ 0
    r0 = omega (arith, i.rest<)

pub last_done : (W A E δ X : ℕ) → Divisor W A E δ → (s : Work) → Left W A E δ X 0 s → Done W A E δ X (signed_last W A s)
last_done W A E δ X d s l = last_inv W A E δ X d s (subst (λ (x : ℕ). Inv W A E δ X x 1 s) (omega (arith, l.whole)) l.inv)
