-- The signed division of a single-length dividend: LOADQ-A and SIGN make a double-length one of it, and its quotient fits but for one case.
use mathlib.Core.Path.{◌≡◌, refl, sym, ap, ap₂, ◌∙◌, subst}
use mathlib.Core.Logic.{◌≢◌, ◌⊎◌, inl, inr}
use mathlib.Core.List.{List}
use Prim.Native.Nat.{ℕ, ◌+◌, ◌-◌, ◌*◌, ◌/◌, ◌%◌, ◌^◌, ◌≤◌, ◌<◌}
use native.Mathlib.Nat.{mod-lt, mod-eq_of_lt, pos_of_ne-zero, div-le_self, div-lt_iff_lt-mul, mul-le-mul_right, eq-or-lt_of_le}
use native.Mathlib.Decide.{dec_le}
use native.Mathlib.Omega.{arith}
use lib.Pow.{pow_pos}
use lib.ListN.{length}
use lib.IntN.{ℤ, sub_ℕ, ◌+ℤ◌, ◌*ℤ◌, nat_abs}
use lib.Signed.{quot_z, rem_z}
use Rattle.bits.specs.Bits.{selected, choose, xor, sign_of, merged, copies}
use Rattle.bits.proofs.BitByBit.{by_flag, bit-lt}
use Rattle.machine.specs.Status.{with_z}
use Rattle.machine.specs.Inputs.{zero_sign}
use Rattle.movement.specs.DataMovement.{load_q}
use Rattle.movement.specs.Logical.{SIGN}
use Rattle.chip.specs.declared.Word.{Word}
use Rattle.chip.specs.Glossary.{perform_of}
use Rattle.chip.specs.Lists.{State, state, read_at, store_at, step_of, execs}
use Rattle.chip.proofs.Files.{store_length, read_same, read-other}
use Rattle.sheet.specs.Sheet.{WordReady}
use Rattle.sheet.proofs.Positions.{All}
use Rattle.sheet.proofs.Positions.All.{more}
use Rattle.run.specs.Run.{Sane}
use Rattle.run.proofs.Laws.{step_sane}
use Rattle.sequence.specs.Signed.{signed, Fits}
use Rattle.sequence.specs.Sequences.{Ignored, Registers, Different, Unread, bits_in, code_of, word_of, looking, signed_divide_words, single_divide_words}
use Rattle.sequence.specs.Results.{register, signed_in, long_dividend, TooLarge, signed_divided_status, SignedDivided}
use Rattle.sequence.proofs.Integers.{sub_same, signed_long_lem}
use Rattle.sequence.proofs.Lists.{merged-low, merged-high, bits_of_bytes, sign_top, not-cut, halved}
use Rattle.sequence.proofs.TopBit.{top, top-low, top-high, Top, Top.clear, Top.full, top_is, top_lt}
use Rattle.sequence.proofs.SignedDivideNumbers.{Divisor}
use Rattle.sequence.proofs.SignAndSize.{size_of, divisor_of, signed-sized, quotient-sized, sized_fits}
use Rattle.sequence.proofs.SignedDivide.{signed-divide-exact}

-- ---- the two words: the dividend in Q, and its sign in every bit of register R
abbrev opened : ℕ → ℕ → Registers → State → State
opened n x r t =
    state (store_at t.file r.R (merged n (copies (sign_of n (read_at t.file x))) (read_at t.file r.R)))
    (record { q = merged n (read_at t.file x) t.core.q; status = with_z (1 - sign_of n (read_at t.file x)) (zero_sign n (read_at t.file x) t.core.status) })

open_is : (code x : ℕ) (r : Registers) (load sign : Unread) (t : State)
    → step_of (word_of code sign.a r.R 0x3d sign.ignored) (step_of (looking code x load.b 0x06 load.ignored) t) ≡ opened (selected code) x r t
unfolding step_of perform_of load_q SIGN
open_is code x r load sign t = refl

-- ---- as one number of 2 n bits it is the same integer
-- copies of a flag
copies-low : (n f : ℕ) → n ≤ 32 → f < 2 → copies f % 2 ^ n ≡ f * (2 ^ n - 1)
copies-low n f h hf =
    by_flag (λ (f : ℕ). copies f % 2 ^ n ≡ f * (2 ^ n - 1)) (mod-eq_of_lt (pow_pos n) ∙ omega arith)
    (ap (λ (v : ℕ). v % 2 ^ n) (omega arith) ∙ not-cut n 0 h (omega arith) ∙ ap (λ (v : ℕ). 2 ^ n - 1 - v) (mod-eq_of_lt (pow_pos n)) ∙ omega arith) f hf

-- of a number with the sign bit f in every bit of its high half two's complement takes off what it takes off the low half
spread : (W x f : ℕ) → 0 < W → f < 2 → sub_ℕ (f * (W - 1) * W + x) (f * W * W) ≡ sub_ℕ x (f * W)
spread W x f h hf = by_flag (λ (f : ℕ). sub_ℕ (f * (W - 1) * W + x) (f * W * W) ≡ sub_ℕ x (f * W)) (sub_same _ (0 * W * W) x (0 * W) (omega arith)) ones f hf
  where
    ones : sub_ℕ (1 * (W - 1) * W + x) (1 * W * W) ≡ sub_ℕ x (1 * W)
    ones =
        let e : W - 1 + 1 ≡ W = omega arith in
        sub_same (1 * (W - 1) * W + x) (1 * W * W) x (1 * W) (omega (arith, ap (λ (v : ℕ). v * W) e))

-- and the sign bit is f
spread-sign : (n f : ℕ) → 1 ≤ n → f < 2 → top (2 ^ n) (f * (2 ^ n - 1)) ≡ f
spread-sign n f h hf =
    let two : 2 ^ n ≡ 2 * 2 ^ (n - 1) = halved n (omega arith) in
    by_flag (λ (f : ℕ). top (2 ^ n) (f * (2 ^ n - 1)) ≡ f)
    (top-low (2 ^ n) (0 * (2 ^ n - 1)) (omega (arith, pow_pos n)))
    (top-high (2 ^ n) (1 * (2 ^ n - 1)) (omega (arith, two, pow_pos (n - 1))) (omega (arith, pow_pos n)))
    f hf

-- ---- its quotient fits, but for the most negative number over -1
fits : (n x d : ℕ) → 1 ≤ n → 0 < d % 2 ^ n → ((x % 2 ^ n ≡ 2 ^ (n - 1)) × (d % 2 ^ n ≡ 2 ^ n - 1) → ⊥) → Fits n (quot_z (signed n x) (signed n d))
fits n x d h hd large =
    subst (Fits n) (sym (ap₂ quot_z (signed-sized n x h) (signed-sized n d h) ∙ quotient-sized f δ v E (top_lt (2 ^ n) (x % 2 ^ n) low) (top_lt (2 ^ n) (d % 2 ^ n) low_d) divisor.positive))
    (sized_fits (xor f δ) (v / E) (2 ^ (n - 1)) (mod-lt (f + δ) (omega arith)) (pow_pos (n - 1)) (tell (top_is (2 ^ n) (x % 2 ^ n) low) (top_is (2 ^ n) (d % 2 ^ n) low_d)))
  where
    f : ℕ
    f = top (2 ^ n) (x % 2 ^ n)

    δ : ℕ
    δ = top (2 ^ n) (d % 2 ^ n)

    v : ℕ
    v = size_of (2 ^ n) (x % 2 ^ n)

    E : ℕ
    E = size_of (2 ^ n) (d % 2 ^ n)

    low : x % 2 ^ n < 2 ^ n
    low = mod-lt x (pow_pos n)

    low_d : d % 2 ^ n < 2 ^ n
    low_d = mod-lt d (pow_pos n)

    two : 2 ^ n ≡ 2 * 2 ^ (n - 1)
    two = halved n (omega arith)

    divisor : Divisor (2 ^ n) (d % 2 ^ n) E δ
    divisor = divisor_of (2 ^ n) (d % 2 ^ n) low_d hd

    -- no quotient is larger than the dividend
    cut : v / E ≤ v
    cut = div-le_self v E

    tell : Top (2 ^ n) (x % 2 ^ n) → Top (2 ^ n) (d % 2 ^ n) → v / E < 2 ^ (n - 1) + xor f δ
    tell (clear e l) t = let is : v ≡ x % 2 ^ n = ap (λ (f : ℕ). choose f (x % 2 ^ n) (2 ^ n - x % 2 ^ n)) e in omega (arith, cut, two, is)
    tell (full e l) (clear g m) =
        let is : v ≡ 2 ^ n - x % 2 ^ n = ap (λ (f : ℕ). choose f (x % 2 ^ n) (2 ^ n - x % 2 ^ n)) e in
        let one : xor f δ ≡ 1 = ap₂ xor e g in
        omega (arith, cut, two, is, one)
    tell (full e l) (full g m) = pick (dec_le 2 E)
      where
        is : v ≡ 2 ^ n - x % 2 ^ n
        is = ap (λ (f : ℕ). choose f (x % 2 ^ n) (2 ^ n - x % 2 ^ n)) e

        size : E ≡ 2 ^ n - d % 2 ^ n
        size = ap (λ (f : ℕ). choose f (d % 2 ^ n) (2 ^ n - d % 2 ^ n)) g

        pick : Dec (2 ≤ E) → v / E < 2 ^ (n - 1) + xor f δ
        pick (yes k) =
            let small : v / E < 2 ^ (n - 1) = (div-lt_iff_lt-mul divisor.positive).1 (omega (arith, is, two, l, pow_pos (n - 1), mul-le-mul_right {m = 2} {n = E} (2 ^ (n - 1)) k)) in
            omega (arith, small)
        pick (no k) = other (eq-or-lt_of_le {n = 2 ^ (n - 1)} {m = x % 2 ^ n} (omega (arith, two, l)))
          where
            other : (2 ^ (n - 1) ≡ x % 2 ^ n) ⊎ (2 ^ (n - 1) < x % 2 ^ n) → v / E < 2 ^ (n - 1) + xor f δ
            other (inl q) = absurd (large (sym q, omega (arith, size, low_d, k)))
            other (inr q) = omega (arith, cut, is, two, q, low)

-- ---- from the state after the two words back to the one before
module _ (n x : ℕ) (r : Registers) (t z : State) (hn : n ≤ 32) (different : Different r) (file-r : r.R < length t.file) where
  abbrev o : State
  o = opened n x r t

  abbrev word : ℕ
  word = merged n (copies (sign_of n (read_at t.file x))) (read_at t.file r.R)

  same : (k : ℕ) → k ≢ r.R → read_at o.file k ≡ read_at t.file k
  same k e = read-other t.file r.R word k e

  in_r : read_at o.file r.R ≡ word
  in_r = read_same t.file r.R word file-r

  abbrev sign : ℕ
  sign = sign_of n (read_at t.file x)

  low-r : read_at o.file r.R % 2 ^ n ≡ sign * (2 ^ n - 1)
  low-r = ap (λ (v : ℕ). v % 2 ^ n) in_r ∙ merged-low n (copies sign) (read_at t.file r.R) ∙ copies-low n sign hn (bit-lt (n - 1) (read_at t.file x))

  dividend_is : 1 ≤ n → long_dividend n r o ≡ signed_in n x t
  dividend_is h =
      signed_long_lem n (read_at o.file r.R) o.core.q h
      ∙ ap₂ (λ (v f : ℕ). sub_ℕ (v * 2 ^ n + o.core.q % 2 ^ n) (f * 2 ^ n * 2 ^ n)) low-r
      (sign_top n (read_at o.file r.R) h ∙ ap (top (2 ^ n)) low-r ∙ spread-sign n sign h (bit-lt (n - 1) (read_at t.file x)))
      ∙ ap (λ (v : ℕ). sub_ℕ (sign * (2 ^ n - 1) * 2 ^ n + v) (sign * 2 ^ n * 2 ^ n)) (merged-low n (read_at t.file x) t.core.q)
      ∙ spread (2 ^ n) (read_at t.file x % 2 ^ n) sign (pow_pos n) (bit-lt (n - 1) (read_at t.file x))

  divisor_is : signed_in n r.D o ≡ signed_in n r.D t
  divisor_is = ap (signed n) (same r.D different.divisor_remainder)

  moved : (X : ℤ) → SignedDivided n X r o z → SignedDivided n X r t z
  moved X p = record {
    quotient = p.quotient ∙ ap (quot_z X) divisor_is;
    remainder = p.remainder ∙ ap (rem_z X) divisor_is;
    whole = (λ i. signed_in n r.K z *ℤ sym divisor_is i +ℤ signed_in n r.R z) ∙ p.whole;
    smaller = subst (λ (d : ℤ). nat_abs (signed_in n r.R z) < nat_abs d) divisor_is p.smaller;
    sign = p.sign;
    rest = record {
      registers = p.rest.registers ∙ store_length t.file r.R word;
      others = λ k er ek. p.rest.others k er ek ∙ same k er;
      above-r = p.rest.above-r ∙ ap (λ (v : ℕ). v / 2 ^ n) in_r ∙ merged-high n _ (read_at t.file r.R);
      above-k = p.rest.above-k ∙ ap (λ (v : ℕ). v / 2 ^ n) (same r.K (λ e. different.remainder-quotient (sym e)));
      above-q = p.rest.above-q ∙ merged-high n _ t.core.q;
    };
    q = p.q;
    status = p.status ∙ ap (λ (d : ℕ). signed_divided_status n X d (read_at z.file r.K) (read_at z.file r.R) t.core.status) (same r.D different.divisor_remainder);
  }

-- SIGNED DIVIDE, SINGLE LENGTH. With the dividend in register x instead, which may be any register, the same list after LOADQ-A and SIGN divides it by
-- register D, for every divisor but zero, and every dividend but the most negative over -1, which does not fit.
pub single-divide-exact :
    (w x : ℕ) (r : Registers) (load sign : Unread) (ignored : ℕ → Ignored) (free : ℕ → Unread) (t : State) → 1 ≤ w → w ≤ 4 → Different r →
    All (WordReady (length t.file)) (single_divide_words w x r load sign ignored free) → Sane t → register (bits_in w) r.D t ≢ 0 → register (bits_in w) r.O t ≡ 0 →
    (TooLarge (bits_in w) x r t → ⊥) →
    SignedDivided (bits_in w) (signed_in (bits_in w) x t) r t (execs (single_divide_words w x r load sign ignored free) t)
unfolding execs
single-divide-exact w x r load sign ignored free t h1 h4 different (more p (more q ready)) sane h_d hO large =
    go (step_of (word_of (code_of w) sign.a r.R 0x3d sign.ignored) (step_of (looking (code_of w) x load.b 0x06 load.ignored) t))
    (open_is (code_of w) x r load sign t ∙ ap (λ (k : ℕ). opened k x r t) (bits_of_bytes w h1 h4))
    (step_sane (length t.file) _ _ q (step_sane (length t.file) _ t p sane))
  where
    n : ℕ
    n = bits_in w

    words : List Word
    words = signed_divide_words w r ignored free

    alike : (k : ℕ) → k ≢ r.R → register n k (opened n x r t) ≡ register n k t
    alike k e = ap (λ (v : ℕ). v % 2 ^ n) (same n x r t t (omega arith) different q.y k e)

    go : (o : State) → o ≡ opened n x r t → Sane o → SignedDivided n (signed_in n x t) r t (execs words o)
    go o e good =
        moved n x r t (execs words o) (omega arith) different q.y (signed_in n x t)
        (subst (λ (v : State). SignedDivided n (signed_in n x t) r v (execs words o)) e
        (subst (λ (X : ℤ). SignedDivided n X r o (execs words o)) dividend
        (signed-divide-exact w r ignored free o h1 h4 different (subst (λ (k : ℕ). All (WordReady k) words) (sym size) ready) good
        (λ d. h_d (sym (alike r.D different.divisor_remainder) ∙ sym (ap (register n r.D) e) ∙ d))
        (ap (register n r.O) e ∙ alike r.O different.zero-remainder ∙ hO)
        (subst (Fits n) (sym (ap₂ quot_z dividend divisor)) (fits n (read_at t.file x) (read_at t.file r.D) (omega arith) (pos_of_ne-zero h_d) large)))))
      where
        dividend : long_dividend n r o ≡ signed_in n x t
        dividend = ap (long_dividend n r) e ∙ dividend_is n x r t t (omega arith) different q.y (omega arith)

        divisor : signed_in n r.D o ≡ signed_in n r.D t
        divisor = ap (signed_in n r.D) e ∙ divisor_is n x r t t (omega arith) different q.y

        size : length o.file ≡ length t.file
        size = ap (λ (v : State). length v.file) e ∙ store_length t.file r.R _
