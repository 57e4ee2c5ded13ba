-- The multiply sequences come out exact: each word acts on the selected bits as the step on numbers does. The signed words are the unsigned ones with
-- A sign extended.
use mathlib.Core.Path.{◌≡◌, refl, sym, ap, ap₂, ◌∙◌, subst}
use mathlib.Core.Logic.{◌≢◌}
use mathlib.Core.List.{List, [], ◌∷◌}
use Prim.Native.Nat.{ℕ, zero, suc, ◌+◌, ◌-◌, ◌*◌, ◌/◌, ◌%◌, ◌^◌, ◌≤◌, ◌<◌}
use native.Mathlib.Nat.{mod-lt, mod-mod, mod-eq_of_lt, add-mod, mul-le-mul_right, div-mul-le_self, zero-div}
use native.Mathlib.Omega.{arith}
use lib.Pow.{pow_pos, pow_mono}
use lib.ListN.{length}
use lib.IntN.{ℤ, sub_ℕ, ◌*ℤ◌}
use Rattle.bits.specs.Bits.{selected, choose, bit_of, sign_of, zero_of, merged}
use Rattle.bits.proofs.BitByBit.{bit-lt}
use Rattle.machine.specs.declared.Status.{Status}
use Rattle.machine.specs.declared.Inputs.{Inputs}
use Rattle.machine.specs.declared.Outputs.{Outputs}
use Rattle.machine.specs.Status.{with_z, with_m}
use Rattle.machine.specs.Inputs.{bits_of}
use Rattle.multiply.specs.Multiply.{zero_extended, sign_extended, partial, shifted_by2, first_step, step, UMULLAST}
use Rattle.multiply.proofs.Bounds.{extra, quarter, room, same-mod}
use Rattle.multiply.proofs.Rows.{first_is, picked}
use Rattle.chip.specs.Glossary.{perform_of}
use Rattle.chip.specs.Lists.{State, read_at, inputs_of, step_of, execs}
use Rattle.sequence.specs.Signed.{signed}
use Rattle.sequence.specs.Sequences.{Ignored, bits_in, code_of, word_of, words_of, times, multiply_words, signed_multiply_words}
use Rattle.sequence.specs.Results.{register, low_q, Untouched, Multiplied, SignedMultiplied}
use Rattle.sequence.proofs.Integers.{signed_long_lem}
use Rattle.sequence.proofs.Lists.{Work, view, before, after, Acts, acts-from, Reached, start, next, repeated, in_file, word-status, word-y, merged-low, merged-high, zero-low, bits_of_bytes, low_digit, second-bit, sign_top}
use Rattle.sequence.proofs.TopBit.{top, off}
use Rattle.sequence.proofs.MultiplyNumbers.{partial_of, shifted, mul_step, begun, mul_last, Sized, Left, begin_left, step_left, Ended, ended, ended-product, Product, last-product, pow4}

-- the number of selected bits is from 2 to 32
abbrev Asked : ℕ → ℕ → Type 0
Asked n A = (2 ≤ n) × (n ≤ 32)

-- ---- F*
-- the selected bits A extended across the two extra bits, by a sign
abbrev star : ℕ → ℕ → ℕ → ℕ
star W A sign = A + 3 * (sign * W)

star-lt : (W A sign : ℕ) → Sized W A sign → star W A sign < 4 * W
star-lt W A sign a = omega (arith, mul-le-mul_right W a.one)

-- a number of n bits in two's complement, and sign extended
signed-sized : (n x : ℕ) → 1 ≤ n → Sized (2 ^ n) (x % 2 ^ n) (top (2 ^ n) (x % 2 ^ n))
signed-sized n x h =
    let l : x % 2 ^ n < 2 ^ n = mod-lt x (pow_pos n) in
    let f : top (2 ^ n) (x % 2 ^ n) < 2 = subst (λ (v : ℕ). v < 2) (sign_top n x h) (bit-lt (n - 1) x) in
    record { bits = l; one = omega arith; near = omega (arith, div-mul-le_self (2 * (x % 2 ^ n)) (2 ^ n)) }

signed-star : (n x : ℕ) → 1 ≤ n → sign_extended n x ≡ star (2 ^ n) (x % 2 ^ n) (top (2 ^ n) (x % 2 ^ n))
signed-star n x h = ap (λ (f : ℕ). x % 2 ^ n + f * (3 * 2 ^ n)) (sign_top n x h) ∙ turned (2 ^ n) (x % 2 ^ n) (top (2 ^ n) (x % 2 ^ n))
  where
    turned : (W x f : ℕ) → x + f * (3 * W) ≡ x + 3 * (f * W)
    turned W x f = omega arith

zero-sized : (W : ℕ) → 0 < W → Sized W 0 (top W 0)
zero-sized W h = subst (Sized W 0) (sym (zero-div W)) (record { bits = h; one = omega arith; near = omega arith })

-- F* of the table; the law of its rows takes what is to be taken off from another multiple of 4 W
partial_is : (n a b q m : ℕ) → 2 ≤ n → n ≤ 32 → m < 2 → a < 4 * 2 ^ n → b < 4 * 2 ^ n → partial n a b q m ≡ partial_of (2 ^ n) a b (q % 2 ^ n) m
partial_is n a b q m h l hm ha hb =
    let w : 2 ^ n ≤ 2 ^ 32 = pow_mono l in
    let x : 2 ^ (n + 2) ≡ 4 * 2 ^ n = extra n in
    let d : q % 2 ^ n % 4 ≡ q % 4 = low_digit n q h in
    let q0 : q % 2 ≡ q % 2 ^ n % 2 = omega arith in
    let q1 : q / 2 % 2 ≡ q % 2 ^ n / 2 % 2 = second-bit n q h in
    sym (ap₂ (λ (u v : ℕ). partial n u v q m) (mod-eq_of_lt (omega arith)) (mod-eq_of_lt (omega arith)))
    ∙ sym (picked n a b q m l hm (omega arith))
    ∙ same-mod (2 ^ (n + 2)) (b + (q % 2 + m) * a + (2 ^ 43 - q / 2 % 2 * (2 * a))) (b + (q % 2 + m) * a + (8 * 2 ^ n - q / 2 % 2 * (2 * a))) 2 (2 ^ (43 - (n + 2)))
    (omega (arith, room n 43 l (omega arith), mul-le-mul_right {m = q / 2 % 2} {n = 1} (2 * a) (omega arith)))
    ∙ ap (λ (M : ℕ). (b + (q % 2 + m) * a + (8 * 2 ^ n - q / 2 % 2 * (2 * a))) % M) x
    ∙ ap₂ (λ (i j : ℕ). (b + (i + m) * a + (8 * 2 ^ n - j * (2 * a))) % (4 * 2 ^ n)) q0 q1

-- ---- the shift by two
shift_sees : (x : Inputs) (f : ℕ) → 2 ≤ bits_of x → f < 4 * 2 ^ bits_of x → after (bits_of x) (shifted_by2 x f) ≡ shifted (2 ^ bits_of x) (before (bits_of x) x) f
shift_sees x f h hf = λ i. record { B = e_b i; Q = e_q i; M = e_m i; S = x.status.s }
  where
    e_b : merged (bits_of x) (f / 4) x.b % 2 ^ bits_of x ≡ f / 4
    e_b = merged-low (bits_of x) (f / 4) x.b ∙ mod-eq_of_lt (omega arith)

    e_q : merged (bits_of x) (x.q % 2 ^ bits_of x / 4 + f % 4 * 2 ^ (bits_of x - 2)) x.q % 2 ^ bits_of x ≡ x.q % 2 ^ bits_of x / 4 + f % 4 * (2 ^ bits_of x / 4)
    e_q =
        let p : 2 ^ bits_of x ≡ 4 * 2 ^ (bits_of x - 2) = quarter (bits_of x) h in
        let g : 2 ^ (bits_of x - 2) ≡ 2 ^ bits_of x / 4 = omega arith in
        let l : x.q % 2 ^ bits_of x < 2 ^ bits_of x = mod-lt x.q (pow_pos (bits_of x)) in
        let k : f % 4 * 2 ^ (bits_of x - 2) ≤ 3 * 2 ^ (bits_of x - 2) = mul-le-mul_right (2 ^ (bits_of x - 2)) (omega arith) in
        merged-low (bits_of x) _ x.q ∙ mod-eq_of_lt (omega arith) ∙ ap (λ (v : ℕ). x.q % 2 ^ bits_of x / 4 + f % 4 * v) g

    e_m : bit_of 1 x.q ≡ x.q % 2 ^ bits_of x / 2 % 2
    e_m = second-bit (bits_of x) x.q h

-- an opcode that leaves F* shifted: what it does is seen in F*; of the status register it changes M alone
shift-acts :
    (opcode n A : ℕ) (fine : Work → Type 0) (f : ℕ → ℕ → Work → Work) (F : Inputs → ℕ) → Asked n A → ((x : Inputs) → perform_of opcode x ≡ shifted_by2 x (F x)) →
    ((x : Inputs) → Asked (bits_of x) x.a → fine (before (bits_of x) x) → after (bits_of x) (shifted_by2 x (F x)) ≡ f (2 ^ bits_of x) (x.a % 2 ^ bits_of x) (before (bits_of x) x)) →
    Acts (with_m 0) n A opcode fine (f (2 ^ n) (A % 2 ^ n))
shift-acts opcode n A fine f F h does sees =
    acts-from (with_m 0) n A opcode f Asked fine h
    (λ x h g. ap (after (bits_of x)) (does x) ∙ sees x h g)
    (λ x. ap (λ (o : Outputs). o.y / 2 ^ bits_of x) (does x) ∙ merged-high (bits_of x) _ x.b)
    (λ x. ap (λ (o : Outputs). o.q / 2 ^ bits_of x) (does x) ∙ merged-high (bits_of x) _ x.q)
    (λ x. ap (λ (o : Outputs). with_m 0 o.status) (does x))

-- ---- the words
-- the words of an unsigned and of a signed multiply differ in their opcodes and in how A is extended
record Kind : Type 0 where
  first : ℕ
  inner : ℕ
  sign : ℕ → ℕ → ℕ
  extended : ℕ → ℕ → ℕ
  first_does : (x : Inputs) → perform_of first x ≡ first_step x (extended (bits_of x) x.a)
  inner_does : (x : Inputs) → perform_of inner x ≡ step x (extended (bits_of x) x.a)
  sized : (n a : ℕ) → 1 ≤ n → Sized (2 ^ n) (a % 2 ^ n) (sign (2 ^ n) (a % 2 ^ n))
  extends : (n a : ℕ) → 1 ≤ n → extended n a ≡ star (2 ^ n) (a % 2 ^ n) (sign (2 ^ n) (a % 2 ^ n))

abbrev unsigned : Kind
unfolding perform_of
unsigned =
    record {
      first = 0x5b;
      inner = 0x5c;
      sign = λ W A. 0;
      extended = zero_extended;
      first_does = λ x. refl;
      inner_does = λ x. refl;
      sized = λ n a h. record { bits = mod-lt a (pow_pos n); one = omega arith; near = omega (arith, pow_pos n) };
      extends = λ n a h. omega arith;
    }

abbrev twos_complement : Kind
unfolding perform_of
twos_complement =
    record {
      first = 0x5f;
      inner = 0x5e;
      sign = top;
      extended = sign_extended;
      first_does = λ x. refl;
      inner_does = λ x. refl;
      sized = signed-sized;
      extends = signed-star;
    }

module _ (kind : Kind) where
  -- F*, from a B* and an M
  abbrev partial_in : Inputs → ℕ → ℕ → ℕ
  partial_in x b m = partial (bits_of x) (kind.extended (bits_of x) x.a) b x.q m

  -- a step of the kind on numbers
  abbrev stepped : ℕ → ℕ → Work → Work
  stepped W A s = mul_step W (star W A (kind.sign W A)) s

  -- from the selected bits B and their B*
  partial_sees : (x : Inputs) → Asked (bits_of x) x.a → (B b m : ℕ) → Sized (2 ^ bits_of x) B (top (2 ^ bits_of x) B) → b ≡ star (2 ^ bits_of x) B (top (2 ^ bits_of x) B) → m < 2
      → after (bits_of x) (shifted_by2 x (partial_in x b m)) ≡ stepped (2 ^ bits_of x) (x.a % 2 ^ bits_of x) (record { B = B; Q = x.q % 2 ^ bits_of x; M = m; S = x.status.s })
  unfolding mul_step
  partial_sees x h B b m sized e hm =
      ap (λ (F : ℕ). after (bits_of x) (shifted_by2 x F))
      (ap₂ (λ (u v : ℕ). partial (bits_of x) u v x.q m) (kind.extends (bits_of x) x.a (omega arith)) e
      ∙ partial_is (bits_of x) _ _ x.q m h.0 h.1 hm (star-lt _ _ _ (kind.sized (bits_of x) x.a (omega arith))) (star-lt _ _ _ sized))
      ∙ shift_sees x _ h.0 (mod-lt _ (omega (arith, pow_pos (bits_of x))))

  inner_acts : (n A : ℕ) → Asked n A → Acts (with_m 0) n A kind.inner (λ s. s.M < 2) (stepped (2 ^ n) (A % 2 ^ n))
  unfolding step
  inner_acts n A h =
      shift-acts kind.inner n A (λ s. s.M < 2) stepped (λ x. partial_in x (sign_extended (bits_of x) x.b) x.status.m) h kind.inner_does
      (λ x h g. partial_sees x h _ _ _ (signed-sized (bits_of x) x.b (omega arith)) (signed-star (bits_of x) x.b (omega arith)) g)

  first_acts : (n A : ℕ) → Asked n A → Acts (with_m 0) n A kind.first (λ s. Unit) (λ s. stepped (2 ^ n) (A % 2 ^ n) (begun s))
  unfolding first_step
  first_acts n A h =
      shift-acts kind.first n A (λ s. Unit) (λ W A s. stepped W A (begun s)) (λ x. partial_in x 0 0) h (λ x. kind.first_does x ∙ ap (shifted_by2 x) (first_is (bits_of x) _ x.q))
      (λ x h g. partial_sees x h 0 0 0 (zero-sized (2 ^ bits_of x) (pow_pos (bits_of x))) (sym (ap (star (2 ^ bits_of x) 0) (zero-div (2 ^ bits_of x)) ∙ omega arith)) (omega arith))

-- ---- UMULLAST
-- it changes Z, where the other words change M alone
abbrev steady : Status → Status
steady s = with_z 0 (with_m 0 s)

last_is : (W a b m : ℕ) → choose m b (b + a) % W ≡ choose m (b % W) (b % W + a % W) % W
last_is W a b zero = sym (mod-mod b W)
last_is W a b (suc m) = add-mod b a W

last_acts : (n A : ℕ) → 2 ≤ n → Acts steady n A 0x5d (λ s. Unit) (mul_last (2 ^ n) (A % 2 ^ n))
unfolding perform_of UMULLAST mul_last
last_acts n A h =
    acts-from steady n A 0x5d mul_last (λ n A. 2 ≤ n) (λ s. Unit) h
    (λ x h g. ap (λ (y : ℕ). record { B = y; Q = x.q % 2 ^ bits_of x; M = x.status.m; S = x.status.s }) (merged-low (bits_of x) _ x.b ∙ last_is (2 ^ bits_of x) x.a x.b x.status.m))
    (λ x. merged-high (bits_of x) _ x.b) (λ x. refl) (λ x. refl)

-- Z is of the Y that UMULLAST leaves
last-z : (x : Inputs) → (perform_of 0x5d x).status.z ≡ zero_of (bits_of x) (perform_of 0x5d x).y
unfolding perform_of UMULLAST
last-z x = zero-low (bits_of x) _ _ (sym (merged-low (bits_of x) _ x.b))

-- ---- the lists
module _ (kind : Kind) (w a b : ℕ) (t : State) (h1 : 1 ≤ w) (h4 : w ≤ 4) (ab : a ≢ b) (hb : b < length t.file) where
  abbrev W : ℕ
  W = 2 ^ bits_in w

  abbrev A : ℕ
  A = read_at t.file a % W

  abbrev sign : ℕ
  sign = kind.sign W A

  abbrev Q : ℕ
  Q = t.core.q % W

  -- the first word and all the steps, and then the others
  all-steps :
      (opcodes : List ℕ) (End : State → Type 0) →
      ((ignored : ℕ → Ignored) (u : State) →
      Reached (with_m 0) (bits_in w) (code_of w) a b (read_at t.file a) (bits_of_bytes w h1 h4) ab t refl hb (Left W A sign Q 0) u → End (execs (words_of (code_of w) a b opcodes ignored) u)) →
      (ignored : ℕ → Ignored) → End (execs (words_of (code_of w) a b (kind.first ∷ times (bits_in w / 2 - 1) kind.inner opcodes) ignored) t)
  unfolding words_of execs
  all-steps opcodes End end ignored =
      repeated (with_m 0) n code a b A₀ bits ab t refl hb kind.inner (λ s. s.M < 2) (stepped kind W A) (inner_acts kind n A₀ fit)
      (Left W A sign Q) (λ k s l. l.flag) (step_left W A sign Q sized) opcodes End end (n / 2 - 1) (λ k. ignored (suc k)) _
      (next (with_m 0) n code a b A₀ bits ab t refl hb kind.first (λ s. Unit) (λ s. stepped kind W A (begun s)) (first_acts kind n A₀ fit)
      (λ s. s.Q ≡ Q) (Left W A sign Q (n / 2 - 1)) (λ s e. tt) first (ignored 0) t
      (start (with_m 0) n code a b A₀ bits ab t refl hb (λ s. s.Q ≡ Q) refl))
    where
      n : ℕ
      n = bits_in w

      code : ℕ
      code = code_of w

      A₀ : ℕ
      A₀ = read_at t.file a

      bits : selected code ≡ n
      bits = bits_of_bytes w h1 h4

      fit : Asked n A₀
      fit = (omega arith, omega arith)

      sized : Sized W A sign
      sized = kind.sized n A₀ (omega arith)

      pow : W ≡ 4 ^ suc (n / 2 - 1)
      pow = ap (λ (x : ℕ). 2 ^ x) (omega arith) ∙ pow4 (suc (n / 2 - 1))

      first : (s : Work) → s.Q ≡ Q → Left W A sign Q (n / 2 - 1) (stepped kind W A (begun s))
      first s e =
          step_left W A sign Q sized (n / 2 - 1) (begun s)
          (subst (λ (q : ℕ). Left W A sign q (suc (n / 2 - 1)) (begun s)) e (begin_left W A sign (suc (n / 2 - 1)) s pow (subst (λ (q : ℕ). q < W) (sym e) (mod-lt t.core.q (pow_pos n)))))

-- MULTIPLY. On one to four bytes, with the multiplicand in register a, the multiplier in Q, and b another register of the file: after
-- one UMULFIRST, n / 2 - 1 UMULSTEP and one UMULLAST, whatever register b and the status register held before, register b holds the high half
-- and Q the low half of the exact product; every other register and all unselected bytes are as before. Z tells whether the high half is zero, M is
-- the multiplier's top bit, and the rest of the status register is as before.
pub multiply-exact :
    (w a b : ℕ) (ignored : ℕ → Ignored) (t : State) → 1 ≤ w → w ≤ 4 → a ≢ b → b < length t.file →
    Multiplied (bits_in w) a b t (execs (multiply_words w a b ignored) t)
unfolding words_of execs unsigned
multiply-exact w a b ignored t h1 h4 ab hb =
    all-steps unsigned w a b t h1 h4 ab hb (0x5d ∷ []) (Multiplied n a b t)
    (λ ignored u r. done (ignored 0) u (in_file steady n code a b A bits ab t refl hb u r.rest)
    (next steady n code a b A bits ab t refl hb 0x5d (λ s. Unit) (mul_last W (A % W)) (last_acts n A two)
    (Left W (A % W) 0 (t.core.q % W) 0) (Product W (A % W) (t.core.q % W)) (λ s l. tt) (last-product W (A % W) (t.core.q % W) (mod-lt A (pow_pos n))) (ignored 0) u
    (record { rest = r.rest; stays = ap (with_z 0) r.stays; holds = r.holds })))
    ignored
  where
    n : ℕ
    n = bits_in w

    code : ℕ
    code = code_of w

    A : ℕ
    A = read_at t.file a

    W : ℕ
    W = 2 ^ bits_in w

    bits : selected code ≡ n
    bits = bits_of_bytes w h1 h4

    two : 2 ≤ n
    two = omega arith

    lasted : Ignored → State → State
    lasted i u = step_of (word_of code a b 0x5d i) u

    last-zero : (i : Ignored) (u : State) → b < length u.file → (lasted i u).core.status.z ≡ zero_of n (read_at (lasted i u).file b)
    last-zero i u h =
        let x : Inputs = inputs_of (word_of code a b 0x5d i) u in
        ap (λ (s : Status). s.z) (word-status n code a b bits i 0x5d u h)
        ∙ subst (λ (k : ℕ). (perform_of 0x5d x).status.z ≡ zero_of k (perform_of 0x5d x).y) bits (last-z x)
        ∙ ap (zero_of n) (sym (word-y n code a b bits i 0x5d u h))

    done : (i : Ignored) (u : State) → b < length u.file → Reached steady n code a b A bits ab t refl hb (Product W (A % W) (t.core.q % W)) (lasted i u) → Multiplied n a b t (lasted i u)
    done i u h r =
        let bit : (lasted i u).core.status.m ≡ sign_of n t.core.q = r.holds.bit ∙ sym (sign_top n t.core.q (omega arith)) in
        record {
          high = r.holds.high;
          low = r.holds.low;
          rest = r.rest;
          status =
              ap (λ (s : Status). with_z (lasted i u).core.status.z (with_m (lasted i u).core.status.m s)) r.stays
              ∙ ap₂ (λ (z m : ℕ). with_z z (with_m m t.core.status)) (last-zero i u h) bit;
        }

-- SIGNED MULTIPLY. On one to four bytes, with the multiplicand in register a, the multiplier in Q, and b another register of the file: after
-- one SMULFIRST and n / 2 - 1 SMULSTEP, whatever register b and the status register held before, register b holds the high half and Q the low half of
-- the exact product, all in two's complement; every other register and all unselected bytes are as before. M is the multiplier's sign bit, and the
-- rest of the status register is as before.
pub signed-multiply-exact :
    (w a b : ℕ) (ignored : ℕ → Ignored) (t : State) → 1 ≤ w → w ≤ 4 → a ≢ b → b < length t.file →
    SignedMultiplied (bits_in w) a b t (execs (signed_multiply_words w a b ignored) t)
unfolding words_of execs twos_complement
signed-multiply-exact w a b ignored t h1 h4 ab hb =
    all-steps twos_complement w a b t h1 h4 ab hb [] (SignedMultiplied n a b t)
    (λ ignored u r. done u r.rest r.stays (ended W (A % W) (top W (A % W)) (t.core.q % W) (view n b u) r.holds)) ignored
  where
    n : ℕ
    n = bits_in w

    A : ℕ
    A = read_at t.file a

    W : ℕ
    W = 2 ^ bits_in w

    one : 1 ≤ n
    one = omega arith

    -- a number in two's complement, by its selected bits
    value : (x : ℕ) → signed n x ≡ sub_ℕ (x % W) (off W (x % W))
    value x = ap (λ (s : ℕ). sub_ℕ (x % W) (s * W)) (sign_top n x one)

    done :
        (u : State) → Untouched n b t u → with_m 0 u.core.status ≡ with_m 0 t.core.status → Ended W (A % W) (top W (A % W)) (t.core.q % W) (view n b u) →
        SignedMultiplied n a b t u
    done u rest stays e =
        record {
          product =
              signed_long_lem n (read_at u.file b) u.core.q one
              ∙ ap (λ (s : ℕ). sub_ℕ (register n b u * W + low_q n u) (s * W * W)) (sign_top n (read_at u.file b) one)
              ∙ ended-product W (A % W) (top W (A % W)) (t.core.q % W) (view n b u) e
              ∙ sym (ap₂ (λ (x y : ℤ). x *ℤ y) (value A) (value t.core.q));
          rest = rest;
          status = ap (with_m u.core.status.m) stays ∙ ap (λ (m : ℕ). with_m m t.core.status) (e.bit ∙ sym (sign_top n t.core.q one));
        }
