-- Non-restoring division comes out exact, on numbers: D, B and Q are the selected bits of divisor, partial remainder and dividend, W is 2 to
-- their number, M and S are 0 or 1. B extended by S is the partial remainder, or that less the divisor where it could not be taken away
-- (M is 0); Q holds the rest of the dividend above the quotient bits found.
use mathlib.Core.Path.{◌≡◌, refl, sym, ap, ◌∙◌, subst}
use mathlib.Core.Logic.{◌⊎◌, inl, inr}
use Prim.Native.Nat.{ℕ, zero, suc, ◌+◌, ◌-◌, ◌*◌, ◌/◌, ◌%◌, ◌^◌, ◌<◌, ◌≤◌}
use native.Mathlib.Omega.{arith}
use native.Mathlib.Nat.{div-eq_of_lt, mod-eq_of_lt, mul-le-mul_right, mod-lt, div-add-mod', div-lt_iff_lt-mul, mul-pos, div-le_self}
use native.Mathlib.Decide.{dec_le}
use lib.Pow.{pow_pos}
use lib.Dec.{eqb}
use lib.Arith.{digits_div, digits_mod, digits_lt}
use borrow.Author.Tests.{ne_eqb}
use Rattle.bits.specs.Bits.{flag}
use Rattle.sequence.proofs.Lists.{Work}
use Rattle.sequence.proofs.TopBit.{top}

-- ---- the words on numbers
-- F of n + 1 bits: B extended by S, less A (M = 1) or plus A (M = 0), A being zero extended
unfoldable pub div_sum : ℕ → ℕ → ℕ → ℕ
div_sum W A zero = A
div_sum W A (suc m) = 2 * W - A

abbrev pub div_f : ℕ → ℕ → Work → ℕ
div_f W A s = (s.B + s.S * W + div_sum W A s.M) % (2 * W)

-- in n bits: what is added to B, which is A or its two's complement, and the carry out of them
unfoldable pub operand_of : ℕ → ℕ → ℕ → ℕ
operand_of W A zero = A
operand_of W A (suc m) = W - A

abbrev pub div_c : ℕ → ℕ → ℕ → ℕ → ℕ
div_c W A B M = (B + operand_of W A M) / W

-- the new quotient bit: the complement of the sign of the extended result, which is bit n of F
abbrev pub new_bit : ℕ → ℕ → ℕ
new_bit W F = 1 - F / W

unfoldable pub div_first : ℕ → ℕ → Work → Work
div_first W A s = record { B = (2 * s.B + top W s.Q) % W; Q = (2 * s.Q + 0) % W; M = 1; S = 0 }

abbrev pub stepped : ℕ → ℕ → Work → Work
stepped W F s = record { B = (2 * F + top W s.Q) % W; Q = (2 * s.Q + new_bit W F) % W; M = new_bit W F; S = top W (F % W) }

unfoldable pub div_step : ℕ → ℕ → Work → Work
div_step W A s = stepped W (div_f W A s) s

abbrev pub lasted : ℕ → ℕ → Work → Work
lasted W F s = record { B = F % W; Q = (2 * s.Q + new_bit W F) % W; M = new_bit W F; S = 0 }

unfoldable pub div_last : ℕ → ℕ → Work → Work
div_last W A s = lasted W (div_f W A s) s

-- ---- one step
-- B extended by S against g, the partial remainder shifted up: it is g, or g - 2 D modulo 2 W
data Rel (W D M Bx g : ℕ) : Type 0 where
  pos : M ≡ 1 → Bx ≡ g → Rel W D M Bx g
  neg : M ≡ 0 → Bx + 2 * D ≡ g + 2 * W → Rel W D M Bx g

-- F against the true remainder r of g by D, at most one D subtracted
data Out (W D g F : ℕ) : Type 0 where
  big : (r : ℕ) → g ≡ D + r → r < D → F ≡ r → Out W D g F
  small : g < D → F + D ≡ g + 2 * W → Out W D g F

out : (W D M Bx g : ℕ) → D < W → g < 2 * D → Rel W D M Bx g → Out W D g ((Bx + div_sum W D M) % (2 * W))
unfolding div_sum
out W D M Bx g h_d hg rel = subst (λ (x : ℕ). Out W D g (x % (2 * W))) (sym (total M rel)) (pick (dec_le D g))
  where
    total : (M : ℕ) → Rel W D M Bx g → Bx + div_sum W D M ≡ g + (2 * W - D)
    total zero (pos hM hB) = absurd (omega arith)
    total zero (neg hM hB) = omega arith
    total (suc m) (pos hM hB) = omega arith
    total (suc m) (neg hM hB) = absurd (omega arith)

    pick : Dec (D ≤ g) → Out W D g ((g + (2 * W - D)) % (2 * W))
    pick (yes l) = big (g - D) (omega arith) (omega arith) (ap (λ (x : ℕ). x % (2 * W)) e ∙ digits_mod 1 {m = 2 * W} {r = g - D} (omega arith))
      where
        e : g + (2 * W - D) ≡ 1 * (2 * W) + (g - D)
        e = omega arith
    pick (no l) = small (omega arith) (omega (arith, mod-eq_of_lt {n = g + (2 * W - D)} {m = 2 * W} (omega arith)))

-- ---- F shifted up by one: its low n bits, and the bit above them, W being 2 H. For F = k W + c H + f
shift-low : (H k c f b W F : ℕ) → W ≡ 2 * H → F ≡ k * W + (c * H + f) → f < H → b < 2 → (2 * F + b) % W ≡ 2 * f + b
shift-low H k c f b W F h_w h_f hf hb = ap (λ (x : ℕ). x % W) e ∙ digits_mod (2 * k + c) {m = W} {r = 2 * f + b} (omega arith)
  where
    e : 2 * F + b ≡ (2 * k + c) * W + (2 * f + b)
    e = omega (arith, ap (λ (x : ℕ). c * x) h_w)

shift_top : (H k c f W F : ℕ) → W ≡ 2 * H → F ≡ k * W + (c * H + f) → f < H → c < 2 → top W (F % W) ≡ c
shift_top H k c f W F h_w h_f hf hc = ap (λ (x : ℕ). top W x) e ∙ (ap (λ (x : ℕ). x / W) e2 ∙ digits_div c {m = W} {r = 2 * f} (omega arith))
  where
    small : c * H ≤ 1 * H
    small = mul-le-mul_right H (omega arith)

    e : F % W ≡ c * H + f
    e = ap (λ (x : ℕ). x % W) h_f ∙ digits_mod k {m = W} {r = c * H + f} (omega (arith, small))

    e2 : 2 * (c * H + f) ≡ c * W + 2 * f
    e2 = omega (arith, ap (λ (x : ℕ). c * x) h_w)

-- both together are 2 F + b modulo 2 W
ext_shift : (H W F b : ℕ) → W ≡ 2 * H → 0 < H → b < 2 → (2 * F + b) % W + top W (F % W) * W + F / W * (2 * W) ≡ 2 * F + b
ext_shift H W F b h_w hH hb =
    omega (arith, shift-low H (F / W) (F % W / H) (F % W % H) b W F h_w h_f (mod-lt (F % W) hH) hb, ap (λ (x : ℕ). x * W) (shift_top H (F / W) (F % W / H) (F % W % H) W F h_w h_f (mod-lt (F % W) hH) hc), h_f, ap (λ (x : ℕ). F % W / H * x) h_w)
  where
    h_f : F ≡ F / W * W + (F % W / H * H + F % W % H)
    h_f = sym (div-add-mod' F W) ∙ ap (λ (x : ℕ). F / W * W + x) (sym (div-add-mod' (F % W) H))

    hc : F % W / H < 2
    hc = (div-lt_iff_lt-mul hH).1 (subst (λ (x : ℕ). F % W < x) h_w (mod-lt F (omega arith)))

-- ---- what F says: the new quotient bit and the remainder r
record Res (W D g F : ℕ) : Type 0 where
  r : ℕ
  bit : g ≡ new_bit W F * D + r
  r< : r < D
  rel : (b Bx : ℕ) → Bx + F / W * (2 * W) ≡ 2 * F + b → Rel W D (new_bit W F) Bx (2 * r + b)
  end : ((F % W ≡ r) × (F / W ≡ 0)) ⊎ ((F % W + D ≡ r + W) × (F / W ≡ 1))

res : (W D g F : ℕ) → D < W → Out W D g F → Res W D g F
res W D g F h_d (big r hg hr h_f) = record {
  r = r;
  bit = omega (arith, ap (λ (x : ℕ). x * D) nb);
  r< = hr;
  rel = λ b Bx e. pos nb (omega (arith, ap (λ (x : ℕ). x * (2 * W)) k));
  end = inl (mod-eq_of_lt (omega arith) ∙ h_f, k);
}
  where
    k : F / W ≡ 0
    k = div-eq_of_lt (omega arith)

    nb : new_bit W F ≡ 1
    nb = ap (λ (x : ℕ). 1 - x) k
res W D g F h_d (small hg h_f) = record {
  r = g;
  bit = omega (arith, ap (λ (x : ℕ). x * D) nb);
  r< = hg;
  rel = λ b Bx e. neg nb (omega (arith, ap (λ (x : ℕ). x * (2 * W)) k));
  end = inr (omega (arith, ap (λ (x : ℕ). x % W) s ∙ digits_mod 1 {m = W} {r = F - W} (omega arith)), k);
}
  where
    s : F ≡ 1 * W + (F - W)
    s = omega arith

    k : F / W ≡ 1
    k = ap (λ (x : ℕ). x / W) s ∙ digits_div 1 {m = W} {r = F - W} (omega arith)

    nb : new_bit W F ≡ 0
    nb = ap (λ (x : ℕ). 1 - x) k

-- ---- the invariant. R T = W; x = 2 D q + g is what the top bits of the dividend say, q their quotient without its last bit; Q holds the rest
-- of the dividend above q.
pub record Inv (W D X R T : ℕ) (s : Work) : Type 0 where
  g : ℕ
  rest : ℕ
  q : ℕ
  rel : Rel W D s.M (s.B + s.S * W) g
  g< : g < 2 * D
  whole : X ≡ (2 * (D * q) + g) * T + rest
  held : s.Q ≡ rest * R + q
  q< : q < R
  rest< : rest < T

-- the top bit of Q, and Q shifted up
pub top-q : (R T b rest q Q W : ℕ) → W ≡ R * (2 * T) → Q ≡ (b * T + rest) * R + q → q < R → rest < T → top W Q ≡ b
top-q R T b rest q Q W h_w hQ hq hr = ap (λ (x : ℕ). x / W) e ∙ digits_div b {m = W} {r = 2 * (rest * R + q)} (omega (arith, digits_lt {q = rest} {m = T} {r = q} {c = R} hr hq))
  where
    e : 2 * Q ≡ b * W + 2 * (rest * R + q)
    e = omega (arith, ap (λ (x : ℕ). b * x) h_w)

pub shift-q : (R T b rest q Q W nb : ℕ) → W ≡ R * (2 * T) → Q ≡ (b * T + rest) * R + q → q < R → rest < T → nb < 2 → (2 * Q + nb) % W ≡ rest * (2 * R) + (2 * q + nb)
shift-q R T b rest q Q W nb h_w hQ hq hr hn = ap (λ (x : ℕ). x % W) e ∙ digits_mod b {m = W} {r = rest * (2 * R) + (2 * q + nb)} (omega (arith, digits_lt {q = rest} {m = T} {r = 2 * q + nb} {c = 2 * R} hr (omega arith)))
  where
    e : 2 * Q + nb ≡ b * W + (rest * (2 * R) + (2 * q + nb))
    e = omega (arith, ap (λ (x : ℕ). b * x) h_w)

step-num :
    (W D X R T g b rest q F : ℕ) (s : Work) → D < W → W ≡ R * (2 * T) → 0 < R * T → X ≡ (2 * (D * q) + g) * (2 * T) + (b * T + rest) → b < 2 →
    s.Q ≡ (b * T + rest) * R + q → q < R → rest < T → Res W D g F → Inv W D X (2 * R) T (stepped W F s)
step-num W D X R T g b rest q F s h_d h_w hRT whole hb held q< rest< o = record {
  g = 2 * o.r + b;
  rest = rest;
  q = 2 * q + new_bit W F;
  rel = rw tq (o.rel b _ (ext_shift (R * T) W F b (omega arith) hRT hb));
  g< = omega (arith, o.r<);
  whole = omega (arith, whole, ap (λ (x : ℕ). x * T) o.bit);
  held = shift-q R T b rest q s.Q W (new_bit W F) h_w held q< rest< (omega arith);
  q< = omega arith;
  rest< = rest<;
}
  where
    tq : top W s.Q ≡ b
    tq = top-q R T b rest q s.Q W h_w held q< rest<

step_inv : (W D X R T : ℕ) → D < W → W ≡ R * (2 * T) → 0 < R * T → 0 < T → (s : Work) → Inv W D X R (2 * T) s → Inv W D X (2 * R) T (div_step W D s)
unfolding div_step
step_inv W D X R T h_d h_w hRT hT s i =
    step-num W D X R T i.g (i.rest / T) (i.rest % T) i.q (div_f W D s) s h_d h_w hRT (rw div-add-mod' i.whole) ((div-lt_iff_lt-mul hT).1 i.rest<) (rw div-add-mod' i.held) i.q< (mod-lt i.rest hT)
    (res W D i.g (div_f W D s) h_d (out W D s.M (s.B + s.S * W) i.g h_d i.g< i.rel))

-- the invariant with k steps to go
pub record Left (W D X k : ℕ) (s : Work) : Type 0 where
  pub R : ℕ
  pub positive : 0 < R
  pub whole : W ≡ R * 2 ^ k
  pub inv : Inv W D X R (2 ^ k) s

pub step_left : (W D X : ℕ) → D < W → (k : ℕ) (s : Work) → Left W D X (suc k) s → Left W D X k (div_step W D s)
step_left W D X h_d k s l =
    record {
      R = 2 * l.R;
      positive = omega (arith, l.positive);
      whole = omega (arith, h_w2);
      inv = step_inv W D X l.R (2 ^ k) h_d h_w2 (mul-pos l.positive (pow_pos k)) (pow_pos k) s (subst (λ (x : ℕ). Inv W D X l.R x s) e l.inv);
    }
  where
    e : 2 ^ suc k ≡ 2 * 2 ^ k
    e = omega arith

    h_w2 : W ≡ l.R * (2 * 2 ^ k)
    h_w2 = l.whole ∙ ap (λ (x : ℕ). l.R * x) e

-- UDIVFIRST, from B zero: T is half of W
first_inv : (W D X T : ℕ) → W ≡ 2 * T → 0 < T → 0 < D → X < W → (s : Work) → s.B ≡ 0 → s.Q ≡ X → Inv W D X 2 T (div_first W D s)
unfolding div_first
first_inv W D X T h_w hT h_d hX s hB hQ = record {
  g = X / T;
  rest = X % T;
  q = 0;
  rel = pos refl (omega (arith, ap (λ (x : ℕ). x % W) y0 ∙ digits_mod 0 {m = W} {r = X / T} (omega (arith, b))));
  g< = omega (arith, b);
  whole = omega (arith, div-add-mod' X T);
  held = shift-q 1 T (X / T) (X % T) 0 s.Q W 0 (omega arith) (omega (arith, div-add-mod' X T)) (omega arith) (mod-lt X hT) (omega arith) ∙ omega arith;
  q< = omega arith;
  rest< = mod-lt X hT;
}
  where
    b : X / T < 2
    b = (div-lt_iff_lt-mul hT).1 (subst (λ (x : ℕ). X < x) h_w hX)

    tq : top W s.Q ≡ X / T
    tq = top-q 1 T (X / T) (X % T) 0 s.Q W (omega arith) (omega (arith, div-add-mod' X T)) (omega arith) (mod-lt X hT)

    y0 : 2 * s.B + top W s.Q ≡ 0 * W + X / T
    y0 = omega (arith, tq)

pub first_left : (k W D X : ℕ) → W ≡ 2 * 2 ^ k → 0 < D → X < W → (s : Work) → s.B ≡ 0 → s.Q ≡ X → Left W D X k (div_first W D s)
first_left k W D X h_w h_d hX s hB hQ = record { R = 2; positive = omega arith; whole = h_w; inv = first_inv W D X (2 ^ k) h_w (pow_pos k) h_d hX s hB hQ }

-- ---- UDIVLAST: the quotient is in Q; B is the remainder where the sign N is 0, else the remainder less the divisor
abbrev pub Whole : ℕ → ℕ → ℕ → ℕ → Work → Type 0
Whole D X N Z t = (t.B ≡ X % D) × (N ≡ 0) × (t.M ≡ 1) × (Z ≡ flag (eqb (X % D) 0))

abbrev pub Less : ℕ → ℕ → ℕ → ℕ → ℕ → Work → Type 0
Less D X W N Z t = (t.B + D ≡ X % D + W) × (N ≡ 1) × (t.M ≡ 0) × (Z ≡ 0)

pub record Done (D X W N Z : ℕ) (t : Work) : Type 0 where
  pub quotient : t.Q ≡ X / D
  pub sign : t.S ≡ 0
  pub bit : t.M ≡ X / D % 2
  pub end : Whole D X N Z t ⊎ Less D X W N Z t

zero-not : (x : ℕ) → 0 < x → flag (eqb x 0) ≡ 0
zero-not x h = ap flag (ne_eqb x 0 (omega arith))

last_num : (W D X g q F : ℕ) (s : Work) → D < W → X < W → X ≡ (2 * q) * D + g → s.Q ≡ q → Res W D g F → Done D X W (F / W) (flag (eqb (F % W) 0)) (lasted W F s)
last_num W D X g q F s h_d hX whole held o = record {
  quotient = mod-eq_of_lt (omega (arith, div-le_self X D, quotient)) ∙ (omega (arith, quotient));
  sign = refl;
  bit = omega (arith, quotient);
  end = tell o.end;
}
  where
    X_is : X ≡ (2 * q + new_bit W F) * D + o.r
    X_is = omega (arith, whole, o.bit)

    quotient : X / D ≡ 2 * q + new_bit W F
    quotient = ap (λ (x : ℕ). x / D) X_is ∙ digits_div (2 * q + new_bit W F) o.r<

    remainder : X % D ≡ o.r
    remainder = ap (λ (x : ℕ). x % D) X_is ∙ digits_mod (2 * q + new_bit W F) o.r<

    tell :
        ((F % W ≡ o.r) × (F / W ≡ 0)) ⊎ ((F % W + D ≡ o.r + W) × (F / W ≡ 1))
        → Whole D X (F / W) (flag (eqb (F % W) 0)) (lasted W F s) ⊎ Less D X W (F / W) (flag (eqb (F % W) 0)) (lasted W F s)
    tell (inl h) = inl (h.0 ∙ sym remainder, h.1, ap (λ (x : ℕ). 1 - x) h.1, ap (λ (x : ℕ). flag (eqb x 0)) (h.0 ∙ sym remainder))
    tell (inr h) = inr (omega (arith, h.0, remainder), h.1, ap (λ (x : ℕ). 1 - x) h.1, zero-not (F % W) (omega (arith, h.0)))

last_inv : (W D X : ℕ) → D < W → X < W → (s : Work) → Inv W D X W 1 s → Done D X W (div_f W D s / W) (flag (eqb (div_f W D s % W) 0)) (div_last W D s)
unfolding div_last
last_inv W D X h_d hX s i =
    last_num W D X i.g i.q (div_f W D s) s h_d hX (omega (arith, i.whole, i.rest<)) (omega (arith, i.held, ap (λ (x : ℕ). x * W) r0))
    (res W D i.g (div_f W D s) h_d (out W D s.M (s.B + s.S * W) i.g h_d i.g< i.rel))
  where
    r0 : i.rest ≡ 0
    r0 = omega (arith, i.rest<)

pub last_done : (W D X : ℕ) → D < W → X < W → (s : Work) → Left W D X 0 s → Done D X W (div_f W D s / W) (flag (eqb (div_f W D s % W) 0)) (div_last W D s)
last_done W D X h_d hX s l = last_inv W D X h_d hX s (subst (λ (x : ℕ). Inv W D X x 1 s) (omega (arith, l.whole)) l.inv)

-- M is a flag while the invariant holds
pub flag_m : (W D X k : ℕ) (s : Work) → Left W D X k s → s.M < 2
flag_m W D X k s l = tell l.inv.rel
  where
    tell : Rel W D s.M (s.B + s.S * W) l.inv.g → s.M < 2
    tell (pos e h) = omega arith
    tell (neg e h) = omega arith

-- ---- the sign of the extended result is M xor S xor C
bit-n : (W k y N : ℕ) → y < W → N ≡ k * W + y → N % (2 * W) / W ≡ k % 2
bit-n W k y N hy hN = ap (λ (x : ℕ). x / W) (ap (λ (x : ℕ). x % (2 * W)) e ∙ digits_mod (k / 2) {m = 2 * W} {r = k % 2 * W + y} (digits_lt {q = k % 2} {m = 2} (omega arith) hy)) ∙ digits_div (k % 2) hy
  where
    e : N ≡ k / 2 * (2 * W) + (k % 2 * W + y)
    e = omega (arith, ap (λ (x : ℕ). x * W) (div-add-mod' k 2))

sign_num : (W A B S M : ℕ) → A < W → M < 2 → (B + S * W + div_sum W A M) % (2 * W) / W ≡ (M + S + div_c W A B M) % 2
unfolding div_sum operand_of
sign_num W A B S zero hA hM =
    bit-n W (0 + S + (B + A) / W) ((B + A) % W) _ (mod-lt (B + A) (omega arith)) (omega (arith, div-add-mod' (B + A) W))
sign_num W A B S (suc zero) hA hM =
    bit-n W (1 + S + (B + (W - A)) / W) ((B + (W - A)) % W) _ (mod-lt (B + (W - A)) (omega arith)) (omega (arith, div-add-mod' (B + (W - A)) W))
sign_num W A B S (suc (suc m)) hA hM = absurd (omega arith)

pub sign_is : (W A : ℕ) (s : Work) → A < W → s.M < 2 → div_f W A s / W ≡ (s.M + s.S + div_c W A s.B s.M) % 2
sign_is W A s hA hM = sign_num W A s.B s.S s.M hA hM
