-- What the steps and the corrections of a signed division come to, as integers, and what Q and the status register hold afterwards.
use mathlib.Core.Path.{◌≡◌, refl, sym, ap, ap₂, ◌∙◌, subst}
use mathlib.Core.Logic.{◌≢◌, ◌⊎◌}
use mathlib.Core.List.{List, [], ◌∷◌}
use Prim.Native.Nat.{ℕ, zero, suc, ◌+◌, ◌-◌, ◌*◌, ◌/◌, ◌%◌, ◌^◌, ◌≤◌, ◌<◌, max}
use native.Mathlib.Nat.{mod-lt, mod-eq_of_lt, mod-add-mod, mul-le-mul_right, div-add-mod', mod-le}
use native.Mathlib.Omega.{arith}
use lib.Dec.{eqb}
use lib.Arith.{digits_mod}
use borrow.Author.Tests.{ne_eqb}
use lib.Pow.{pow_pos}
use lib.ListN.{length}
use lib.IntN.{ℤ, pos, sub_ℕ, ◌+ℤ◌, ◌*ℤ◌, nat_abs}
use lib.Signed.{non_neg, quot_z, rem_z}
use Rattle.bits.specs.Bits.{selected, choose, flag, xor, sign_of, zero_of, merged}
use Rattle.bits.proofs.BitByBit.{by_flag}
use Rattle.bits.proofs.Bounds.{flag-lt}
use Rattle.machine.specs.declared.Status.{Status}
use Rattle.machine.specs.Status.{Good, with_c, with_n, with_v, with_z, with_l, with_m, with_s}
use Rattle.chip.specs.Lists.{State, state, read_at, store_at, execs}
use Rattle.chip.proofs.Files.{store_length, read_same, read-other}
use Rattle.sequence.specs.Signed.{Fits}
use Rattle.sequence.specs.Sequences.{Registers, Different, Unread, code_of, word_of, correction_words}
use Rattle.sequence.specs.Results.{register, low_q, signed_in, long_dividend, negative, SignedDivided}
use Rattle.sequence.proofs.Integers.{signed_long_lem}
use Rattle.sequence.proofs.Lists.{view, merged-low, merged-high, sign_top, halved}
use Rattle.sequence.proofs.TopBit.{top, top_lt}
use Rattle.sequence.proofs.DivideNumbers.{operand_of}
use Rattle.sequence.proofs.SignedDivideNumbers.{Divisor, Out}
use Rattle.sequence.proofs.SignedCorrections.{residue, by_one, is_zero, not-zero, sign_for, special_z, Corrected, Size, Size.as_it_is, Size.complemented, Begun, begun, end-corrected}
use Rattle.sequence.proofs.SignedSteps.{Stepped}
use Rattle.sequence.proofs.SignedFlags.{flagged, five, special_is, sign_for_lem}
use Rattle.sequence.proofs.SignedTail.{tests, remainder_tests, quotient, remainder, carry, counted, three, quotient-low, remainder-low, carry-low, overflow-low}
use Rattle.sequence.proofs.SignAndSize.{sized, size_of, divisor_of, long_size, long_size_lem, long_sized, signed-sized, residue-signed, quotient-sized, remainder-sized, whole-sized, size_of_lem, like_sign, negative-sized, fits_sized}

-- ---- the eight words after SDIVLAST1, with n bits selected, from state u to state z
abbrev pub flags : ℕ → Registers → State → Status
flags n r u = flagged n (read_at u.file r.O) (read_at u.file r.D) (read_at u.file r.R) u.core.q u.core.status

abbrev pub passed : ℕ → Registers → State → ℕ
passed n r u = merged n u.core.q (read_at u.file r.K)

pub record Tailed (n : ℕ) (r : Registers) (u z : State) : Type 0 where
  registers : length z.file ≡ length u.file
  others : (k : ℕ) → k ≢ r.R → k ≢ r.K → read_at z.file k ≡ read_at u.file k
  in_k_lem : read_at z.file r.K ≡ quotient n (flags n r u) (passed n r u)
  in_r : read_at z.file r.R ≡ remainder n (flags n r u) (read_at u.file r.D) (read_at u.file r.R)
  q-kept : z.core.q ≡ u.core.q
  left : z.core.status ≡ with_c (carry n (flags n r u) (read_at u.file r.D) (read_at u.file r.R)) (counted n (flags n r u) (passed n r u))

-- register K gets the quotient from Q, and its correction; then register R is corrected
abbrev pub in_k : ℕ → Registers → State → List ℕ
in_k n r u = store_at (store_at u.file r.K (passed n r u)) r.K (quotient n (flags n r u) (passed n r u))

abbrev pub tail : ℕ → Registers → State → State
tail n r u =
    state (store_at (in_k n r u) r.R (remainder n (flags n r u) (read_at u.file r.D) (read_at u.file r.R)))
    (record { q = u.core.q; status = with_c (carry n (flags n r u) (read_at u.file r.D) (read_at u.file r.R)) (counted n (flags n r u) (passed n r u)) })

pub tail-is :
    (w : ℕ) (r : Registers) (free : ℕ → Unread) (u : State) → Good u.core.status → r.K < length u.file → r.D ≢ r.K → r.R ≢ r.K →
    execs (correction_words w r free) u ≡ tail (selected (code_of w)) r u
unfolding execs
tail-is w r free u good hk dk rk =
    ap (execs (word_of (code_of w) (free 5).a r.K 0x05 (free 5).ignored ∷ word_of (code_of w) (free 6).a r.K 0x59 (free 6).ignored ∷ word_of (code_of w) r.D r.R 0x58 (free 7).ignored ∷ []))
    (five (code_of w) r free u good)
    ∙ three (code_of w) r free u.file (record { q = u.core.q; status = flags (selected (code_of w)) r u }) hk dk rk

pub tailed : (n : ℕ) (r : Registers) (u : State) → r.K < length u.file → r.R < length u.file → r.R ≢ r.K → Tailed n r u (tail n r u)
tailed n r u hk hr rk = record {
  registers = store_length (in_k n r u) r.R _ ∙ size;
  others = λ k er ek. read-other (in_k n r u) r.R _ k er ∙ read-other (store_at u.file r.K (passed n r u)) r.K _ k ek ∙ read-other u.file r.K _ k ek;
  in_k_lem = read-other (in_k n r u) r.R _ r.K (λ e. rk (sym e)) ∙ read_same (store_at u.file r.K (passed n r u)) r.K _ (subst (λ (k : ℕ). r.K < k) (sym (store_length u.file r.K _)) hk);
  in_r = read_same (in_k n r u) r.R _ (subst (λ (k : ℕ). r.R < k) (sym size) hr);
  q-kept = refl;
  left = refl;
}
  where
    size : length (in_k n r u) ≡ length u.file
    size = store_length (store_at u.file r.K (passed n r u)) r.K _ ∙ store_length u.file r.K _

-- ---- what the flags say
-- a claim for each of the eight values of three flags
by_flags :
    (P : ℕ → ℕ → ℕ → Type 0) → P 0 0 0 → P 0 0 1 → P 0 1 0 → P 0 1 1 → P 1 0 0 → P 1 0 1 → P 1 1 0 → P 1 1 1 →
    (x y z : ℕ) → x < 2 → y < 2 → z < 2 → P x y z
by_flags P p₀ p₁ p₂ p₃ p₄ p₅ p₆ p₇ x y z hx hy hz = by_flag (λ (x : ℕ). P x y z) (row 0 p₀ p₁ p₂ p₃) (row 1 p₄ p₅ p₆ p₇) x hx
  where
    row : (x : ℕ) → P x 0 0 → P x 0 1 → P x 1 0 → P x 1 1 → P x y z
    row x q₀ q₁ q₂ q₃ = by_flag (λ (y : ℕ). P x y z) (by_flag (P x 0) q₀ q₁ z hz) (by_flag (P x 1) q₂ q₃ z hz) y hy

-- both corrections are made where the quotient is even
verdict : (ρ e f : ℕ) → ρ < 2 → e < 2 → f < 2 → (choose ρ 0 (choose e f 0) + choose ρ (1 - e) (max e f) + ρ) % 2 ≡ 1 - e
verdict = by_flags (λ (ρ e f : ℕ). (choose ρ 0 (choose e f 0) + choose ρ (1 - e) (max e f) + ρ) % 2 ≡ 1 - e) refl refl refl refl refl refl refl refl

same_verdict : (ρ e f : ℕ) → ρ < 2 → e < 2 → f < 2 → choose (max (choose ρ (1 - e) (max e f)) ρ) 0 (1 - e) ≡ 1 - e
same_verdict = by_flags (λ (ρ e f : ℕ). choose (max (choose ρ (1 - e) (max e f)) ρ) 0 (1 - e) ≡ 1 - e) refl refl refl refl refl refl refl refl

-- a two's complement is odd, and zero, where the number is
residue-odd : (W H f v : ℕ) → W ≡ 2 * H → f < 2 → v ≤ H → 0 < H → residue W f v % 2 ≡ v % 2
residue-odd W H f v h_w hf hv hH = by_flag (λ (f : ℕ). residue W f v % 2 ≡ v % 2) refl (go v hv) f hf
  where
    go : (v : ℕ) → v ≤ H → (W - v) % W % 2 ≡ v % 2
    go zero h = ap (λ (x : ℕ). x % 2) (ap (λ (x : ℕ). x % W) (omega arith) ∙ digits_mod 1 {m = W} {r = 0} (omega arith))
    go (suc v) h = ap (λ (x : ℕ). x % 2) (mod-eq_of_lt (omega arith)) ∙ omega arith

residue-zero : (W f v : ℕ) → f < 2 → v < W → flag (eqb (residue W f v) 0) ≡ flag (eqb v 0)
residue-zero W f v hf hv = by_flag (λ (f : ℕ). flag (eqb (residue W f v) 0) ≡ flag (eqb v 0)) refl (go v hv) f hf
  where
    go : (v : ℕ) → v < W → flag (eqb ((W - v) % W) 0) ≡ flag (eqb v 0)
    go zero h = is_zero _ (ap (λ (x : ℕ). x % W) (omega arith) ∙ digits_mod 1 {m = W} {r = 0} (omega arith))
    go (suc v) h = not-zero _ (subst (λ (x : ℕ). 0 < x) (sym (mod-eq_of_lt {n = W - suc v} {m = W} (omega arith))) (omega arith)) ∙ sym (not-zero (suc v) (omega arith))

-- a remainder by an even number is odd where the number is
even_cut : (W H x : ℕ) → W ≡ 2 * H → x % W % 2 ≡ x % 2
even_cut W H x h_w = omega (arith, div-add-mod' x W, ap (λ (v : ℕ). x / W * v) h_w)

-- V, by the quotient after its correction: where it is not corrected it is odd
overflow-told : (W H G M Q e : ℕ) → H ≡ 2 * G → Q % 2 ≡ 1 → M < 2 → e < 2
    → choose (1 - e) 0 (choose M 0 (flag (eqb (by_one W M Q) H))) ≡ choose M 0 (flag (eqb (choose (1 - e) Q (by_one W M Q)) H))
overflow-told W H G M Q e hH hQ hM he =
    by_flag (λ (e : ℕ). choose (1 - e) 0 (choose M 0 (flag (eqb (by_one W M Q) H))) ≡ choose M 0 (flag (eqb (choose (1 - e) Q (by_one W M Q)) H))) refl
    (by_flag (λ (M : ℕ). ◌≡◌ {A = ℕ} 0 (choose M 0 0)) refl refl M hM ∙ sym (ap (choose M 0) (ap flag (ne_eqb Q H (λ z. absurd (omega arith)))))) e he

-- L, by the remainder after its correction
link-told : (W H A M B e : ℕ) → W ≡ 2 * H → A < W → M < 2 → e < 2 → B % 2 ≡ (choose (1 - e) B ((B + operand_of W A M) % W) + choose e A 0) % 2
unfolding operand_of
link-told W H A M B e h_w hA hM he =
    by_flag (λ (e : ℕ). B % 2 ≡ (choose (1 - e) B ((B + operand_of W A M) % W) + choose e A 0) % 2)
    (by_flag (λ (M : ℕ). B % 2 ≡ ((B + operand_of W A M) % W + A) % 2) (omega (arith, even_cut W H (B + A) h_w)) (omega (arith, even_cut W H (B + (W - A)) h_w)) M hM)
    (omega arith) e he

parity : (W H x y e : ℕ) → W ≡ 2 * H → e < 2 → (x % W + choose e (y % W) 0) % 2 ≡ (x + choose e y 0) % 2
parity W H x y e h_w he =
    by_flag (λ (e : ℕ). (x % W + choose e (y % W) 0) % 2 ≡ (x + choose e y 0) % 2) (omega (arith, even_cut W H x h_w, even_cut W H y h_w)) (omega (arith, even_cut W H x h_w)) e he

-- the quotient before its correction, from the one after it
back : (W M Q e : ℕ) → Q < W → 0 < W → M < 2 → e < 2 → choose e ((choose (1 - e) Q (by_one W M Q) + choose M 1 (W - 1)) % W) (choose (1 - e) Q (by_one W M Q)) ≡ Q
back W M Q e hQ h_w hM he =
    by_flag (λ (e : ℕ). choose e ((choose (1 - e) Q (by_one W M Q) + choose M 1 (W - 1)) % W) (choose (1 - e) Q (by_one W M Q)) ≡ Q)
    (by_flag (λ (M : ℕ). (by_one W M Q + choose M 1 (W - 1)) % W ≡ Q) (undone (W - 1) 1 (omega arith)) (undone 1 (W - 1) (omega arith)) M hM) refl e he
  where
    undone : (a b : ℕ) → a + b ≡ W → ((Q + a) % W + b) % W ≡ Q
    undone a b e = mod-add-mod (Q + a) W b ∙ ap (λ (x : ℕ). x % W) (omega arith) ∙ digits_mod 1 {m = W} {r = Q} hQ

-- ---- the division, from state t to state z, over the state u that SDIVLAST1 leaves, with n bits selected. B and Q are the remainder and the quotient
-- there, and k and y those of the sizes
module _ (n : ℕ) (r : Registers) (t : State) (hn : 1 ≤ n) (two : 2 ≤ n) (hn' : n ≤ 32) (different : Different r)
    (wordD : read_at t.file r.D < 2 ^ 32) (wordO : read_at t.file r.O < 2 ^ 32) (hO : register n r.O t ≡ 0) (h_d : 0 < register n r.D t)
    (fit : Fits n (quot_z (long_dividend n r t) (signed_in n r.D t))) where
  abbrev W : ℕ
  W = 2 ^ n

  abbrev H : ℕ
  H = 2 ^ (n - 1)

  abbrev ρ : ℕ
  ρ = top (2 ^ n) (register n r.R t)

  abbrev δ : ℕ
  δ = top (2 ^ n) (register n r.D t)

  abbrev E : ℕ
  E = size_of (2 ^ n) (register n r.D t)

  abbrev Y : ℕ
  Y = long_size (2 ^ n) (register n r.R t) (low_q n t)

  abbrev X : ℤ
  X = long_dividend n r t

  h_w : 2 ^ n ≡ 2 * 2 ^ (n - 1)
  h_w = halved n hn

  low-r : register n r.R t < 2 ^ n
  low-r = mod-lt _ (pow_pos n)

  low_d : register n r.D t < 2 ^ n
  low_d = mod-lt _ (pow_pos n)

  low-q : low_q n t < 2 ^ n
  low-q = mod-lt _ (pow_pos n)

  hρ : ρ < 2
  hρ = top_lt W _ low-r

  hδ : δ < 2
  hδ = top_lt W _ low_d

  divisor : Divisor W (register n r.D t) E δ
  divisor = divisor_of W (register n r.D t) low_d h_d

  size : Size W (register n r.R t) (low_q n t) ρ Y
  size = long_size_lem W (register n r.R t) (low_q n t) low-r low-q

  -- the integers by sign and size
  divisor_is : signed_in n r.D t ≡ sized δ E
  divisor_is = signed-sized n (read_at t.file r.D) hn

  dividend_is : X ≡ sized ρ Y
  dividend_is =
      signed_long_lem n (read_at t.file r.R) t.core.q hn
      ∙ ap (λ (s : ℕ). sub_ℕ (register n r.R t * 2 ^ n + low_q n t) (s * 2 ^ n * 2 ^ n)) (sign_top n (read_at t.file r.R) hn)
      ∙ long_sized W (register n r.R t) (low_q n t) low-r low-q

  fits : Y / E < H + xor ρ δ
  fits = fits_sized (xor ρ δ) (Y / E) H (mod-lt (ρ + δ) (omega arith)) (subst (Fits n) (ap₂ quot_z dividend_is divisor_is ∙ quotient-sized ρ δ Y E hρ hδ divisor.positive) fit)

  start : Begun W E (register n r.R t) (low_q n t) ρ Y
  start = begun W E (register n r.R t) (low_q n t) ρ Y (Y / E) (Y % E) size refl low-r low-q (sym (div-add-mod' Y E)) (mod-lt Y divisor.positive) (omega (arith, fits, h_w, hρ, hδ, pow_pos (n - 1)))

  module _ (u z : State) (steps : Stepped n r.D r.R E δ (start.r * 2 ^ n + low_q n t) t u) (good : Good u.core.status) (tail : Tailed n r u z) where
    abbrev k : ℕ
    k = Y / E

    abbrev y : ℕ
    y = Y % E

    abbrev B : ℕ
    B = register n r.R u

    abbrev Q : ℕ
    Q = low_q n u

    abbrev M : ℕ
    M = u.core.status.m

    abbrev odd : ℕ
    odd = k % 2

    abbrev none : ℕ
    none = flag (eqb y 0)

    ends : Corrected W (register n r.D t) δ ρ k y B Q M
    ends = end-corrected W H (register n r.D t) E δ ρ Y _ h_w (pow_pos (n - 1)) divisor hδ fits start.dividend (view n r.R u) steps.done

    same_d : read_at u.file r.D ≡ read_at t.file r.D
    same_d = steps.rest.others r.D different.divisor_remainder

    same-o : read_at u.file r.O ≡ read_at t.file r.O
    same-o = steps.rest.others r.O different.zero-remainder

    word_d : read_at u.file r.D < 2 ^ 32
    word_d = subst (λ (v : ℕ). v < 2 ^ 32) (sym same_d) wordD

    low_same : read_at u.file r.D % 2 ^ n ≡ register n r.D t
    low_same = ap (λ (v : ℕ). v % 2 ^ n) same_d

    -- the flags that the corrections find
    zero-found : (flags n r u).z ≡ choose ρ 0 (choose odd none 0)
    zero-found =
        special_is n (read_at u.file r.D) (read_at u.file r.R) u.core.q u.core.status.s hn hn' word_d
        ∙ ap₂ (λ (a s : ℕ). special_z W a s B Q) low_same steps.dividend_sign ∙ ends.z

    sign-found : (flags n r u).n ≡ choose ρ (1 - odd) (max odd none)
    sign-found =
        sign_for_lem n (read_at u.file r.O) (read_at u.file r.R) u.core.q u.core.status good hn hn' (subst (λ (v : ℕ). v < 2 ^ 32) (sym same-o) wordO)
        (ap (λ (v : ℕ). v % 2 ^ n) same-o ∙ hO) steps.remainder-sign
        ∙ ap (λ (s : ℕ). sign_for W s B) steps.dividend_sign ∙ ends.n

    odd-lt : odd < 2
    odd-lt = omega arith

    tested : tests (flags n r u) ≡ 1 - odd
    tested = (λ i. (zero-found i + sign-found i + steps.dividend_sign i) % 2) ∙ verdict ρ odd none hρ odd-lt (flag-lt (eqb y 0))

    remainder-tested : remainder_tests (flags n r u) ≡ 1 - odd
    remainder-tested = (λ i. choose (max (sign-found i) (steps.dividend_sign i)) 0 (tested i)) ∙ same_verdict ρ odd none hρ odd-lt (flag-lt (eqb y 0))

    -- the registers, and C
    quotient_in : register n r.K z ≡ choose (1 - odd) Q (by_one W M Q)
    quotient_in =
        ap (λ (v : ℕ). v % 2 ^ n) tail.in_k_lem ∙ quotient-low n (passed n r u) (flags n r u) hn hn' good.m
        ∙ (λ i. choose (tested i) (merged-low n u.core.q (read_at u.file r.K) i) (by_one W M (merged-low n u.core.q (read_at u.file r.K) i)))

    remainder_in : register n r.R z ≡ residue W ρ y
    remainder_in =
        ap (λ (v : ℕ). v % 2 ^ n) tail.in_r ∙ remainder-low n (read_at u.file r.D) (read_at u.file r.R) (flags n r u) hn' word_d good.m
        ∙ (λ i. choose (remainder-tested i) B ((B + operand_of W (low_same i) M) % W)) ∙ ends.remainder

    carry-left : carry n (flags n r u) (read_at u.file r.D) (read_at u.file r.R) ≡ choose odd (choose ρ 1 none) 0
    carry-left =
        carry-low n (read_at u.file r.D) (read_at u.file r.R) (flags n r u) hn' word_d good.m
        ∙ (λ i. choose (remainder-tested i) 0 ((B + operand_of W (low_same i) M) / W)) ∙ ends.carry

    -- as integers
    hκ : xor ρ δ < 2
    hκ = mod-lt (ρ + δ) (omega arith)

    small : y < E
    small = mod-lt Y divisor.positive

    quotient-value : signed_in n r.K z ≡ sized (xor ρ δ) k
    quotient-value = residue-signed n (read_at z.file r.K) (xor ρ δ) k hn hκ (omega (arith, fits, h_w)) (quotient_in ∙ ends.quotient)

    remainder-value : signed_in n r.R z ≡ sized ρ y
    remainder-value = residue-signed n (read_at z.file r.R) ρ y hn hρ (omega (arith, small, divisor.half)) remainder_in

    -- what is told afterwards
    odd_low : register n r.K z % 2 ≡ odd
    odd_low = ap (λ (v : ℕ). v % 2) (quotient_in ∙ ends.quotient) ∙ residue-odd W H (xor ρ δ) k h_w hκ (omega (arith, fits, hκ)) (pow_pos (n - 1))

    odd_is : read_at z.file r.K % 2 ≡ odd
    odd_is = sym (even_cut W H (read_at z.file r.K) h_w) ∙ odd_low

    zero_is : zero_of n (read_at z.file r.R) ≡ none
    unfolding zero_of
    zero_is = ap (λ (v : ℕ). flag (eqb v 0)) remainder_in ∙ residue-zero W ρ y hρ (omega (arith, small, divisor.half))

    dividend_negative : negative X ≡ ρ
    dividend_negative = ap negative dividend_is ∙ negative-sized ρ Y hρ (some size)
      where
        some : Size W (register n r.R t) (low_q n t) ρ Y → ρ ≤ Y
        some (as_it_is e f) = omega arith
        some (complemented e f) = omega (arith, low-q, mul-le-mul_right {m = register n r.R t + 1} {n = 2 ^ n} (2 ^ n) (omega (arith, low-r)))

    abbrev told : Status
    told = counted n (flags n r u) (passed n r u)

    divided : SignedDivided n X r t z
    divided = record {
      quotient = quotient-value ∙ sym (ap₂ quot_z dividend_is divisor_is ∙ quotient-sized ρ δ Y E hρ hδ divisor.positive);
      remainder = remainder-value ∙ sym (ap₂ rem_z dividend_is divisor_is ∙ remainder-sized ρ δ Y E hρ hδ divisor.positive);
      whole = (λ i. quotient-value i *ℤ divisor_is i +ℤ remainder-value i) ∙ whole-sized ρ δ k E y hρ hδ ∙ ap (sized ρ) (div-add-mod' Y E) ∙ sym dividend_is;
      smaller = omega (arith, small, ap nat_abs remainder-value ∙ size_of_lem ρ y hρ, ap nat_abs divisor_is ∙ size_of_lem δ E hδ);
      sign =
          subst (λ (v : ℤ). (signed_in n r.R z ≡ pos 0) ⊎ (non_neg (signed_in n r.R z) ≡ non_neg v)) (sym dividend_is)
          (subst (λ (v : ℤ). (v ≡ pos 0) ⊎ (non_neg v ≡ non_neg (sized ρ Y))) (sym remainder-value) (like_sign ρ y Y hρ (mod-le Y E)));
      rest = record {
        registers = tail.registers ∙ steps.rest.registers;
        others = λ j er ek. tail.others j er ek ∙ steps.rest.others j er;
        above-r = ap (λ (v : ℕ). v / 2 ^ n) tail.in_r ∙ merged-high n _ (read_at u.file r.R) ∙ steps.rest.above-b;
        above-k =
            ap (λ (v : ℕ). v / 2 ^ n) tail.in_k_lem ∙ merged-high n _ (passed n r u) ∙ merged-high n _ (read_at u.file r.K)
            ∙ ap (λ (v : ℕ). v / 2 ^ n) (steps.rest.others r.K (λ e. different.remainder-quotient (sym e)));
        above-q = ap (λ (v : ℕ). v / 2 ^ n) tail.q-kept ∙ steps.rest.above-q;
      };
      q =
          ap (λ (v : ℕ). v % 2 ^ n) tail.q-kept
          ∙ sym ((λ i. choose (odd_low i) ((quotient_in i + choose (tail.left i).m 1 (2 ^ n - 1)) % 2 ^ n) (quotient_in i)) ∙ back W M Q odd (mod-lt u.core.q (pow_pos n)) (pow_pos n) good.m odd-lt);
      status =
          tail.left
          ∙ ap (λ (s : Status). with_c (carry n (flags n r u) (read_at u.file r.D) (read_at u.file r.R)) (with_n told.n (with_v told.v (with_z told.z (with_l told.l (with_m M (with_s told.s s))))))) steps.stays
          ∙ (λ i. with_c (c i) (with_n (n_is i) (with_v (v i) (with_z (z_is i) (with_l (l i) (with_m (m i) (with_s (s i) t.core.status)))))));
    }
      where
        -- M as it is told
        m_told : ℕ
        m_told = xor (sign_of n (read_at t.file r.D)) (choose (negative X) (read_at z.file r.K % 2) (1 - xor (read_at z.file r.K % 2) (zero_of n (read_at z.file r.R))))

        c : carry n (flags n r u) (read_at u.file r.D) (read_at u.file r.R) ≡ choose (read_at z.file r.K % 2) (choose (negative X) 1 (zero_of n (read_at z.file r.R))) 0
        c = carry-left ∙ sym (λ i. choose (odd_is i) (choose (dividend_negative i) 1 (zero_is i)) 0)

        n_is : (flags n r u).n ≡ choose (negative X) (1 - read_at z.file r.K % 2) (max (read_at z.file r.K % 2) (zero_of n (read_at z.file r.R)))
        n_is = sign-found ∙ sym (λ i. choose (dividend_negative i) (1 - odd_is i) (max (odd_is i) (zero_is i)))

        z_is : (flags n r u).z ≡ choose (negative X) 0 (choose (read_at z.file r.K % 2) (zero_of n (read_at z.file r.R)) 0)
        z_is = zero-found ∙ sym (λ i. choose (dividend_negative i) 0 (choose (odd_is i) (zero_is i) 0))

        m : M ≡ xor (sign_of n (read_at t.file r.D)) (choose (negative X) (read_at z.file r.K % 2) (1 - xor (read_at z.file r.K % 2) (zero_of n (read_at z.file r.R))))
        m = ends.m ∙ sym (λ i. xor (sign_top n (read_at t.file r.D) hn i) (choose (dividend_negative i) (odd_is i) (1 - xor (odd_is i) (zero_is i))))

        s : u.core.status.s ≡ negative X
        s = steps.dividend_sign ∙ sym dividend_negative

        half : 2 ^ (n - 1) ≡ 2 * 2 ^ (n - 1 - 1)
        half = halved (n - 1) (omega arith)

        odd-q : Q % 2 ≡ 1
        odd-q = ap (λ (v : ℕ). v % 2) steps.done.quotient ∙ even_cut W H (2 * steps.done.c + 1) h_w ∙ omega arith

        low-passed : passed n r u % 2 ^ n ≡ Q
        low-passed = merged-low n u.core.q (read_at u.file r.K)

        v : (counted n (flags n r u) (passed n r u)).v ≡ choose m_told 0 (flag (eqb (register n r.K z) (2 ^ (n - 1))))
        v =
            ap (choose (tests (flags n r u)) 0) (overflow-low n (passed n r u) M two hn' good.m (ap (λ (v : ℕ). v % 2) low-passed ∙ odd-q))
            ∙ ap₂ (λ (e q : ℕ). choose e 0 (choose M 0 (flag (eqb (by_one W M q) H)))) tested low-passed
            ∙ overflow-told W H (2 ^ (n - 1 - 1)) M Q odd half odd-q good.m odd-lt
            ∙ ap₂ (λ (m q : ℕ). choose m 0 (flag (eqb q H))) m (sym quotient_in)

        l : read_at u.file r.R % 2 ≡ (read_at z.file r.R + choose (read_at z.file r.K % 2) (read_at t.file r.D) 0) % 2
        l =
            sym (even_cut W H (read_at u.file r.R) h_w) ∙ link-told W H (register n r.D t) M B odd h_w low_d good.m odd-lt
            ∙ ap (λ (v : ℕ). (v + choose odd (register n r.D t) 0) % 2) (ends.remainder ∙ sym remainder_in)
            ∙ parity W H (read_at z.file r.R) (read_at t.file r.D) odd h_w odd-lt
            ∙ ap (λ (e : ℕ). (read_at z.file r.R + choose e (read_at t.file r.D) 0) % 2) (sym odd_is)

  -- the division, from what the steps do for any divisor and any start within its range
  pub result :
      (u z : State) →
      ((E δ s : ℕ) → Divisor W (register n r.D t) E δ → δ < 2 → s < 2 * E → Out W E s (register n r.R t) → Stepped n r.D r.R E δ (s * 2 ^ n + low_q n t) t u) →
      Good u.core.status → Tailed n r u z → SignedDivided n X r t z
  result u z steps = divided u z (steps E δ start.r divisor hδ start.r< start.out)
