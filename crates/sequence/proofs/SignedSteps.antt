-- The steps of the signed division: each word up to SDIVLAST1 acts on the selected bits as the step on numbers does.
use mathlib.Core.Path.{◌≡◌, refl, sym, ap, ap₂, ◌∙◌, subst}
use mathlib.Core.Logic.{◌≢◌}
use mathlib.Core.List.{[], ◌∷◌}
use Prim.Native.Nat.{ℕ, suc, ◌+◌, ◌-◌, ◌*◌, ◌%◌, ◌^◌, ◌≤◌, ◌<◌}
use native.Mathlib.Nat.{mod-lt}
use native.Mathlib.Omega.{arith}
use lib.Pow.{pow_pos}
use lib.ListN.{length}
use Rattle.bits.specs.Bits.{selected, choose, xor, sign_of, merged, not_of}
use Rattle.bits.proofs.BitByBit.{by_flag}
use Rattle.machine.specs.declared.Status.{Status}
use Rattle.machine.specs.declared.Inputs.{Inputs}
use Rattle.machine.specs.Inputs.{bits_of}
use Rattle.divide.specs.Steps.{formed, upshifted, sign_q, signed_bit}
use Rattle.divide.specs.Divide.{SDIVFIRST, SDIVSTEP, SDIVLAST1}
use Rattle.chip.specs.Glossary.{perform_of}
use Rattle.chip.specs.Lists.{State, read_at, inputs_of, step_of, execs}
use Rattle.sequence.specs.Sequences.{Ignored, bits_in, code_of, word_of, words_of, signed_divide_opcodes}
use Rattle.sequence.specs.Results.{register, low_q, Untouched}
use Rattle.sequence.proofs.Lists.{Work, view, before, after, Acts, acts-from, carried_back, Reached, start, next, repeated, in_file, word-status, word-y, merged-low, merged-high, bits_of_bytes, sign_top, not-cut, cut_sum, halved}
use Rattle.sequence.proofs.TopBit.{top}
use Rattle.sequence.proofs.DivideNumbers.{operand_of}
use Rattle.sequence.proofs.Divide.{upshifted-cut, steady, Asked, FlagM}
use Rattle.sequence.proofs.SignedDivideNumbers.{signed_f, like_signs, signed_first, signed_step, signed_last, Divisor, Out, Left, step_left, first_left, flag_m, Done, last_done}

-- ---- F, for n selected bits
pub low_sum : (n a b m : ℕ) → n ≤ 32 → a < 2 ^ 32 → m < 2 → (b + choose m a (not_of a) + m) % 2 ^ n ≡ (b % 2 ^ n + operand_of (2 ^ n) (a % 2 ^ n) m) % 2 ^ n
unfolding operand_of
low_sum n a b m hn ha hm =
    by_flag (λ (m : ℕ). (b + choose m a (not_of a) + m) % 2 ^ n ≡ (b % 2 ^ n + operand_of (2 ^ n) (a % 2 ^ n) m) % 2 ^ n)
    (cut_sum (2 ^ n) b a 0 0 ∙ ap (λ (v : ℕ). v % 2 ^ n) (omega arith))
    (cut_sum (2 ^ n) b (not_of a) 1 0 ∙ ap (λ (v : ℕ). (b % 2 ^ n + v + 1 + 0 * 2 ^ n) % 2 ^ n) (not-cut n a hn ha) ∙ ap (λ (v : ℕ). v % 2 ^ n) taken)
    m hm
  where
    taken : b % 2 ^ n + ((2 ^ n - 1) - a % 2 ^ n) + 1 + 0 * 2 ^ n ≡ b % 2 ^ n + (2 ^ n - a % 2 ^ n)
    taken = let h : a % 2 ^ n < 2 ^ n = mod-lt a (pow_pos n) in omega arith

-- ---- the words
module _ (x : Inputs) (fits : Asked (bits_of x) x.a) where
  abbrev n : ℕ
  n = bits_of x

  abbrev W : ℕ
  W = 2 ^ bits_of x

  abbrev A : ℕ
  A = x.a % 2 ^ bits_of x

  top_of : (v : ℕ) → sign_of n v ≡ top W (v % W)
  top_of v = sign_top n v fits.0

  -- the new quotient bit, from a value v
  bit_is : (v f : ℕ) → v % W ≡ f → signed_bit x v ≡ like_signs W A f
  bit_is v f e = ap₂ (λ (s t : ℕ). 1 - xor s t) (top_of x.a) (top_of v ∙ ap (top W) e)

  -- Y and Q shifted up
  up-y : (v f : ℕ) → v % W ≡ f → merged n (upshifted v (sign_q x)) x.b % W ≡ (2 * f + top W (x.q % W)) % W
  up-y v f e = merged-low n _ x.b ∙ upshifted-cut W v (sign_q x) ∙ ap₂ (λ (s t : ℕ). (2 * s + t) % W) e (top_of x.q)

  up-q : (b c : ℕ) → b ≡ c → merged n (upshifted x.q b) x.q % W ≡ (2 * (x.q % W) + c) % W
  up-q b c e = merged-low n _ x.q ∙ upshifted-cut W x.q b ∙ ap (λ (v : ℕ). (2 * (x.q % W) + v) % W) e

  first_sees : after n (perform_of 0x4e x) ≡ signed_first W A (before n x)
  unfolding perform_of SDIVFIRST signed_first
  first_sees = λ i. record { B = up-y x.b _ refl i; Q = up-q _ _ (bit_is x.b _ refl) i; M = bit_is x.b _ refl i; S = top_of x.b i }

  module _ (hm : x.status.m < 2) where
    f-low : formed x x.status.m % W ≡ signed_f W A (before n x)
    f-low = low_sum n x.a x.b x.status.m fits.1 fits.2 hm

    step_sees : after n (perform_of 0x50 x) ≡ signed_step W A (before n x)
    unfolding perform_of SDIVSTEP signed_step
    step_sees = λ i. record { B = up-y (formed x x.status.m) _ f-low i; Q = up-q _ _ (bit_is (formed x x.status.m) _ f-low) i; M = bit_is (formed x x.status.m) _ f-low i; S = x.status.s }

    last_sees : after n (perform_of 0x51 x) ≡ signed_last W A (before n x)
    unfolding perform_of SDIVLAST1 signed_last
    last_sees = λ i. record { B = (merged-low n (formed x x.status.m) x.b ∙ f-low) i; Q = up-q 1 1 refl i; M = bit_is (formed x x.status.m) _ f-low i; S = x.status.s }

  -- N is the sign of the remainder that SDIVLAST1 leaves
  last-n : (perform_of 0x51 x).status.n ≡ top W ((perform_of 0x51 x).y % W)
  unfolding perform_of SDIVLAST1
  last-n = top_of (formed x x.status.m) ∙ ap (top W) (sym (merged-low n (formed x x.status.m) x.b))

first_acts : (n A : ℕ) → Asked n A → Acts steady n A 0x4e (λ s. Unit) (signed_first (2 ^ n) (A % 2 ^ n))
unfolding perform_of SDIVFIRST
first_acts n A h = acts-from steady n A 0x4e signed_first Asked (λ s. Unit) h (λ x h g. first_sees x h) (λ x. merged-high (bits_of x) _ x.b) (λ x. merged-high (bits_of x) _ x.q) (λ x. refl)

step_acts : (n A : ℕ) → Asked n A → Acts steady n A 0x50 FlagM (signed_step (2 ^ n) (A % 2 ^ n))
unfolding perform_of SDIVSTEP
step_acts n A h = acts-from steady n A 0x50 signed_step Asked FlagM h step_sees (λ x. merged-high (bits_of x) _ x.b) (λ x. merged-high (bits_of x) _ x.q) (λ x. refl)

last_acts : (n A : ℕ) → Asked n A → Acts steady n A 0x51 FlagM (signed_last (2 ^ n) (A % 2 ^ n))
unfolding perform_of SDIVLAST1
last_acts n A h = acts-from steady n A 0x51 signed_last Asked FlagM h last_sees (λ x. merged-high (bits_of x) _ x.b) (λ x. merged-high (bits_of x) _ x.q) (λ x. refl)

-- ---- one SDIVFIRST, n - 1 SDIVSTEP, one SDIVLAST1, with the divisor in register a and the dividend's high half in register b
pub record Stepped (n a b E δ X : ℕ) (t u : State) : Type 0 where
  pub rest : Untouched n b t u
  pub stays : steady u.core.status ≡ steady t.core.status
  pub done : Done (2 ^ n) (register n a t) E δ X (view n b u)
  pub dividend_sign : u.core.status.s ≡ top (2 ^ n) (register n b t)
  pub remainder-sign : u.core.status.n ≡ top (2 ^ n) (register n b u)

-- S is the dividend's sign from SDIVFIRST on
first-s : (W A : ℕ) (s : Work) → (signed_first W A s).S ≡ top W s.B
unfolding signed_first
first-s W A s = refl

step-s : (W A : ℕ) (s : Work) → (signed_step W A s).S ≡ s.S
unfolding signed_step
step-s W A s = refl

last-s : (W A : ℕ) (s : Work) → (signed_last W A s).S ≡ s.S
unfolding signed_last
last-s W A s = refl

pub signed_steps :
    (w a b : ℕ) (ignored : ℕ → Ignored) (t : State) (E δ r : ℕ) → 1 ≤ w → w ≤ 4 → a ≢ b → b < length t.file → read_at t.file a < 2 ^ 32 →
    Divisor (2 ^ bits_in w) (register (bits_in w) a t) E δ → δ < 2 → r < 2 * E → Out (2 ^ bits_in w) E r (register (bits_in w) b t) →
    Stepped (bits_in w) a b E δ (r * 2 ^ bits_in w + low_q (bits_in w) t) t (execs (words_of (code_of w) a b (signed_divide_opcodes w) ignored) t)
unfolding words_of execs
signed_steps w a b ignored t E δ r h1 h4 ab hb ha d hδ hr o =
    repeated steady n code a b A bits ab t refl hb 0x50 FlagM (signed_step W D) (step_acts n A fits) Going (λ k s p. flag_m W D E δ X k hδ s p.0)
    (λ k s p. (step_left W D E δ X d hδ k s p.0, step-s W D s ∙ p.1)) (0x51 ∷ []) (Stepped n a b E δ X t)
    (λ ignored u p. finished (ignored 0) u p) (n - 1) (λ k. ignored (suc k)) _
    (next steady n code a b A bits ab t refl hb 0x4e (λ s. Unit) (signed_first W D) (first_acts n A fits) (λ s. s ≡ view n b t) (Going (n - 1)) (λ s e. tt)
    (λ s e. subst (λ (v : Work). Going (n - 1) (signed_first W D v)) (sym e)
    (first_left (n - 1) W D E δ r pow d hδ hr (view n b t) (mod-lt t.core.q (pow_pos n)) o, first-s W D (view n b t)))
    (ignored 0) t (start steady n code a b A bits ab t refl hb (λ s. s ≡ view n b t) refl))
  where
    n : ℕ
    n = bits_in w

    code : ℕ
    code = code_of w

    A : ℕ
    A = read_at t.file a

    W : ℕ
    W = 2 ^ bits_in w

    D : ℕ
    D = register (bits_in w) a t

    X : ℕ
    X = r * 2 ^ bits_in w + low_q (bits_in w) t

    bits : selected code ≡ n
    bits = bits_of_bytes w h1 h4

    fits : Asked n A
    fits = (omega arith, omega arith, ha)

    pow : W ≡ 2 * 2 ^ (n - 1)
    pow = halved n (omega arith)

    Going : ℕ → Work → Type 0
    Going k s = Left W D E δ X k s × (s.S ≡ top W (register n b t))

    lasted : Ignored → State → State
    lasted i u = step_of (word_of code a b 0x51 i) u

    finished : (i : Ignored) (u : State) → Reached steady n code a b A bits ab t refl hb (Going 0) u → Stepped n a b E δ X t (lasted i u)
    finished i u p =
        let z : Reached steady n code a b A bits ab t refl hb (λ s. Done W D E δ X s × (s.S ≡ top W (register n b t))) (lasted i u) =
        next steady n code a b A bits ab t refl hb 0x51 FlagM (signed_last W D) (last_acts n A fits) (Going 0) _ (λ s q. flag_m W D E δ X 0 hδ s q.0)
        (λ s q. (last_done W D E δ X d s q.0, last-s W D s ∙ q.1)) i u p
        in
        record { rest = z.rest; stays = z.stays; done = z.holds.0; dividend_sign = z.holds.1; remainder-sign = sign i u (in_file steady n code a b A bits ab t refl hb u p.rest) (p.rest.others a ab) }
      where
        sign : (i : Ignored) (u : State) → b < length u.file → read_at u.file a ≡ A → (lasted i u).core.status.n ≡ top W (register n b (lasted i u))
        sign i u h e =
            let x : Inputs = inputs_of (word_of code a b 0x51 i) u in
            ap (λ (s : Status). s.n) (word-status n code a b bits i 0x51 u h)
            ∙ subst (λ (k : ℕ). (perform_of 0x51 x).status.n ≡ top (2 ^ k) ((perform_of 0x51 x).y % 2 ^ k)) bits (last-n x (carried_back x n A bits e Asked fits))
            ∙ ap (λ (y : ℕ). top W (y % W)) (sym (word-y n code a b bits i 0x51 u h))
