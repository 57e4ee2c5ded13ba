-- PASS-Q, QUOCORR and REMCORR, the last three words of a signed division: the quotient goes from Q to register K, and both are corrected.
use mathlib.Core.Path.{◌≡◌, refl, sym, ap, ap₂, ◌∙◌}
use mathlib.Core.Logic.{◌≢◌}
use mathlib.Core.List.{List, [], ◌∷◌}
use Prim.Native.Nat.{ℕ, zero, suc, ◌+◌, ◌-◌, ◌*◌, ◌/◌, ◌%◌, ◌^◌, ◌≤◌, ◌<◌, max}
use native.Mathlib.Nat.{div-eq_of_lt, mod-lt, mod-eq_of_lt, mul-le-mul_right}
use native.Mathlib.Decide.{dec_le}
use native.Mathlib.Omega.{arith}
use lib.Dec.{eqb}
use lib.Arith.{digits_div, digits_mod}
use lib.Pow.{pow_pos, mod-pow-add}
use lib.ListN.{length}
use borrow.Author.Tests.{eq-eqb, ne_eqb}
use Rattle.bits.specs.Bits.{selected, choose, flag, xor, bit_of, merged, not_of, carry_of, overflow_of}
use Rattle.bits.proofs.BitByBit.{by_flag, bit-lt}
use Rattle.machine.specs.declared.Status.{Status}
use Rattle.machine.specs.declared.Core.{Core}
use Rattle.machine.specs.Status.{with_c, with_v}
use Rattle.movement.specs.DataMovement.{PASS-Q}
use Rattle.divide.specs.Divide.{QUOCORR, REMCORR}
use Rattle.chip.specs.Glossary.{perform_of}
use Rattle.chip.specs.Lists.{State, state, read_at, store_at, step_of, execs}
use Rattle.chip.proofs.Files.{read_same, read-other}
use Rattle.sequence.specs.Sequences.{Registers, Unread, word_of}
use Rattle.sequence.proofs.Lists.{merged-low, not-cut, halved}
use Rattle.sequence.proofs.DivideNumbers.{operand_of}
use Rattle.sequence.proofs.Divide.{carry_is}
use Rattle.sequence.proofs.SignedSteps.{low_sum}
use Rattle.sequence.proofs.SignedCorrections.{by_one}

-- the tests of QUOCORR and of REMCORR, and what QUOCORR adds
abbrev pub tests : Status → ℕ
tests s = (s.z + s.n + s.s) % 2

abbrev pub remainder_tests : Status → ℕ
remainder_tests s = choose (max s.n s.s) 0 (tests s)

abbrev pub one : ℕ → ℕ
one m = choose m (not_of 1) 1

-- register K afterwards, from what is in it before QUOCORR, and register R, from the words in registers D and R
abbrev pub quotient : ℕ → Status → ℕ → ℕ
quotient n s b = merged n (choose (tests s) b (b + one s.m + (1 - s.m))) b

abbrev pub remainder : ℕ → Status → ℕ → ℕ → ℕ
remainder n s a b = merged n (choose (remainder_tests s) b (b + choose s.m a (not_of a) + s.m)) b

abbrev pub carry : ℕ → Status → ℕ → ℕ → ℕ
carry n s a b = choose (remainder_tests s) 0 (carry_of n b (choose s.m a (not_of a)) s.m)

-- what QUOCORR leaves in the status register
abbrev pub counted : ℕ → Status → ℕ → Status
counted n s b = with_v (choose (tests s) 0 (overflow_of n b (one s.m) (1 - s.m))) (with_c (choose (tests s) 0 (carry_of n b (one s.m) (1 - s.m))) s)

module _ (code : ℕ) (r : Registers) (free : ℕ → Unread) (file : List ℕ) (core : Core) (hk : r.K < length file) (dk : r.D ≢ r.K) (rk : r.R ≢ r.K) where
  abbrev n : ℕ
  n = selected code

  abbrev s : Status
  s = core.status

  abbrev passed : ℕ
  passed = merged n core.q (read_at file r.K)

  abbrev kept : List ℕ
  kept = store_at file r.K passed

  -- the file before REMCORR
  abbrev found : List ℕ
  found = store_at kept r.K (quotient n s passed)

  elsewhere : (k : ℕ) → k ≢ r.K → read_at found k ≡ read_at file k
  elsewhere k e = read-other kept r.K _ k e ∙ read-other file r.K passed k e

  abbrev before : ℕ → State
  before b = state (store_at kept r.K (quotient n s b)) (record { q = core.q; status = counted n s b })

  abbrev ended : ℕ → ℕ → State
  ended a b = state (store_at found r.R (remainder n s a b)) (record { q = core.q; status = with_c (carry n s a b) (counted n s passed) })

  pub three :
      execs (word_of code (free 5).a r.K 0x05 (free 5).ignored ∷ word_of code (free 6).a r.K 0x59 (free 6).ignored ∷ word_of code r.D r.R 0x58 (free 7).ignored ∷ []) (state file core)
      ≡ ended (read_at file r.D) (read_at file r.R)
  unfolding execs step_of perform_of PASS-Q QUOCORR REMCORR
  three =
      ap (λ (b : ℕ). step_of (word_of code r.D r.R 0x58 (free 7).ignored) (before b)) (read_same file r.K passed hk)
      ∙ ap₂ ended (elsewhere r.D dk) (elsewhere r.R rk)

-- ---- on numbers
choose-cut : (W f x y : ℕ) → choose f x y % W ≡ choose f (x % W) (y % W)
choose-cut W zero x y = refl
choose-cut W (suc f) x y = refl

pub quotient-low : (n b : ℕ) (s : Status) → 1 ≤ n → n ≤ 32 → s.m < 2 → quotient n s b % 2 ^ n ≡ choose (tests s) (b % 2 ^ n) (by_one (2 ^ n) s.m (b % 2 ^ n))
unfolding operand_of
quotient-low n b s h l hm =
    merged-low n _ b ∙ choose-cut (2 ^ n) (tests s) b _
    ∙ ap (choose (tests s) (b % 2 ^ n)) (by_flag (λ (m : ℕ). (b + one m + (1 - m)) % 2 ^ n ≡ by_one (2 ^ n) m (b % 2 ^ n)) less more s.m hm)
  where
    two : 2 ^ n ≡ 2 * 2 ^ (n - 1)
    two = halved n (omega arith)

    one-low : 1 % 2 ^ n ≡ 1
    one-low = mod-eq_of_lt (omega (arith, two, pow_pos (n - 1)))

    less : (b + not_of 1 + 1) % 2 ^ n ≡ (b % 2 ^ n + (2 ^ n - 1)) % 2 ^ n
    less = low_sum n 1 b 1 l (omega arith) (omega arith) ∙ ap (λ (v : ℕ). (b % 2 ^ n + (2 ^ n - v)) % 2 ^ n) one-low

    more : (b + 1 + 0) % 2 ^ n ≡ (b % 2 ^ n + 1) % 2 ^ n
    more = low_sum n 1 b 0 l (omega arith) (omega arith) ∙ ap (λ (v : ℕ). (b % 2 ^ n + v) % 2 ^ n) one-low

pub remainder-low : (n a b : ℕ) (s : Status) → n ≤ 32 → a < 2 ^ 32 → s.m < 2
    → remainder n s a b % 2 ^ n ≡ choose (remainder_tests s) (b % 2 ^ n) ((b % 2 ^ n + operand_of (2 ^ n) (a % 2 ^ n) s.m) % 2 ^ n)
remainder-low n a b s l ha hm =
    merged-low n _ b ∙ choose-cut (2 ^ n) (remainder_tests s) b _ ∙ ap (choose (remainder_tests s) (b % 2 ^ n)) (low_sum n a b s.m l ha hm)

pub carry-low : (n a b : ℕ) (s : Status) → n ≤ 32 → a < 2 ^ 32 → s.m < 2
    → carry n s a b ≡ choose (remainder_tests s) 0 ((b % 2 ^ n + operand_of (2 ^ n) (a % 2 ^ n) s.m) / 2 ^ n)
carry-low n a b s l ha hm = ap (choose (remainder_tests s) 0) (carry_is n a b s.m l ha hm)

-- Q by its top bit f and the rest q, counted up: the carries into and out of the top bit differ where that leaves the most negative number
counted-up : (W H f q Q : ℕ) → W ≡ 2 * H → f < 2 → q < H → Q ≡ f * H + q → xor ((q + 1 + 0) / H) ((Q + 1 + 0) / W) ≡ flag (eqb ((Q + 1) % W) H)
counted-up W H f q Q h_w hf hq e = go (dec_le H (q + 1)) f hf e
  where
    go : Dec (H ≤ q + 1) → (f : ℕ) → f < 2 → Q ≡ f * H + q → xor ((q + 1 + 0) / H) ((Q + 1 + 0) / W) ≡ flag (eqb ((Q + 1) % W) H)
    go (yes l) zero hf e =
        ap₂ xor (ap (λ (v : ℕ). v / H) (omega arith) ∙ digits_div 1 {m = H} {r = 0} (omega arith)) (div-eq_of_lt (omega arith))
        ∙ sym (ap flag (eq-eqb ((Q + 1) % W) H (mod-eq_of_lt (omega arith) ∙ omega arith)))
    go (yes l) (suc zero) hf e =
        ap₂ xor (ap (λ (v : ℕ). v / H) (omega arith) ∙ digits_div 1 {m = H} {r = 0} (omega arith)) (ap (λ (v : ℕ). v / W) (omega arith) ∙ digits_div 1 {m = W} {r = 0} (omega arith))
        ∙ sym (ap (λ (v : ℕ). flag (eqb v H)) (ap (λ (v : ℕ). v % W) (omega arith) ∙ digits_mod 1 {m = W} {r = 0} (omega arith)) ∙ ap flag (ne_eqb 0 H (λ z. absurd (omega arith))))
    go (no l) f hf e =
        let small : f * H + q + 1 < W = omega (arith, mul-le-mul_right {m = f} {n = 1} H (omega arith)) in
        ap₂ xor (div-eq_of_lt {n = q + 1 + 0} {m = H} (omega arith)) (div-eq_of_lt {n = Q + 1 + 0} {m = W} (omega arith))
        ∙ sym (ap flag (ne_eqb ((Q + 1) % W) H (λ z. other f hf (sym (mod-eq_of_lt {n = Q + 1} {m = W} (omega arith)) ∙ z) e)))
      where
        other : (f : ℕ) → f < 2 → Q + 1 ≡ H → Q ≡ f * H + q → ⊥
        other zero hf z e = absurd (omega arith)
        other (suc f) hf z e = absurd (omega arith)
    go (yes l) (suc (suc f)) hf e = absurd (omega arith)

-- V: QUOCORR overflows where it counts an odd number up to the most negative one, and nowhere else
pub overflow-low : (n b m : ℕ) → 2 ≤ n → n ≤ 32 → m < 2 → b % 2 ^ n % 2 ≡ 1
    → overflow_of n b (one m) (1 - m) ≡ choose m 0 (flag (eqb (by_one (2 ^ n) m (b % 2 ^ n)) (2 ^ (n - 1))))
unfolding overflow_of carry_of
overflow-low n b m h l hm odd = by_flag (λ (m : ℕ). overflow_of n b (one m) (1 - m) ≡ choose m 0 (flag (eqb (by_one (2 ^ n) m (b % 2 ^ n)) (2 ^ (n - 1))))) down up m hm
  where
    H : ℕ
    H = 2 ^ (n - 1)

    two : 2 ^ n ≡ 2 * 2 ^ (n - 1)
    two = halved n (omega arith)

    half : 2 ^ (n - 1) ≡ 2 * 2 ^ (n - 1 - 1)
    half = halved (n - 1) (omega arith)

    -- the selected bits by their top bit and the rest
    parts : b % 2 ^ n ≡ bit_of (n - 1) b * 2 ^ (n - 1) + b % 2 ^ (n - 1)
    parts = ap (λ (k : ℕ). b % 2 ^ k) (omega arith) ∙ mod-pow-add b 1 (n - 1)

    low : b % 2 ^ (n - 1) < 2 ^ (n - 1)
    low = mod-lt b (pow_pos (n - 1))

    -- one less never borrows from an odd number
    some : (k : ℕ) → 1 ≤ k → k ≤ 32 → 0 < b % 2 ^ k → (b % 2 ^ k + not_of 1 % 2 ^ k + 1) / 2 ^ k ≡ 1
    some k hk lk p =
        let t : 2 ^ k ≡ 2 * 2 ^ (k - 1) = halved k hk in
        let q : 0 < 2 ^ (k - 1) = pow_pos (k - 1) in
        let s : b % 2 ^ k < 2 ^ k = mod-lt b (pow_pos k) in
        let c : not_of 1 % 2 ^ k ≡ 2 ^ k - 1 - 1 = not-cut k 1 lk (omega arith) ∙ ap (λ (v : ℕ). 2 ^ k - 1 - v) (mod-eq_of_lt (omega arith)) in
        ap (λ (v : ℕ). v / 2 ^ k) (omega arith) ∙ digits_div 1 {m = 2 ^ k} {r = b % 2 ^ k - 1} (omega arith)

    down : xor ((b % 2 ^ (n - 1) + not_of 1 % 2 ^ (n - 1) + 1) / 2 ^ (n - 1)) ((b % 2 ^ n + not_of 1 % 2 ^ n + 1) / 2 ^ n) ≡ 0
    down = ap₂ xor (some (n - 1) (omega arith) (omega arith) (omega (arith, odd, parts, ap (λ (v : ℕ). bit_of (n - 1) b * v) half))) (some n (omega arith) l (omega arith))

    up : xor ((b % 2 ^ (n - 1) + 1 % 2 ^ (n - 1) + 0) / 2 ^ (n - 1)) ((b % 2 ^ n + 1 % 2 ^ n + 0) / 2 ^ n) ≡ flag (eqb ((b % 2 ^ n + 1) % 2 ^ n) (2 ^ (n - 1)))
    up =
        ap₂ (λ (u v : ℕ). xor ((b % 2 ^ (n - 1) + u + 0) / 2 ^ (n - 1)) ((b % 2 ^ n + v + 0) / 2 ^ n))
        (mod-eq_of_lt {n = 1} {m = 2 ^ (n - 1)} (omega (arith, half, pow_pos (n - 1 - 1)))) (mod-eq_of_lt {n = 1} {m = 2 ^ n} (omega (arith, two, pow_pos (n - 1))))
        ∙ counted-up (2 ^ n) (2 ^ (n - 1)) (bit_of (n - 1) b) (b % 2 ^ (n - 1)) (b % 2 ^ n) two (bit-lt (n - 1) b) low parts
