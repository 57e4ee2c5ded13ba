-- The divide sequence comes out exact: each word acts on the selected bits as the step on numbers does.
use mathlib.Core.Path.{◌≡◌, refl, sym, ap, ap₂, ◌∙◌, subst}
use mathlib.Core.Logic.{◌≢◌, ◌⊎◌, inl, inr}
use mathlib.Core.List.{[], ◌∷◌}
use Prim.Native.Nat.{ℕ, suc, ◌+◌, ◌-◌, ◌*◌, ◌/◌, ◌%◌, ◌^◌, ◌≤◌, ◌<◌}
use native.Mathlib.Nat.{mod-lt, pos_of_ne-zero, mul-add-mod_self_right, div-add-mod', mul_comm}
use native.Mathlib.Omega.{arith}
use lib.Dec.{eqb}
use lib.Arith.{digits_div, digits_mod}
use lib.Pow.{pow_pos, pow-add, mod-mod-pow}
use lib.ListN.{length}
use Rattle.bits.specs.Bits.{selected, choose, flag, sign_of, zero_of, merged, not_of, carry_of}
use Rattle.bits.proofs.BitByBit.{by_flag}
use Rattle.machine.specs.declared.Status.{Status}
use Rattle.machine.specs.declared.Inputs.{Inputs}
use Rattle.machine.specs.Status.{with_c, with_n, with_z, with_l, with_m, with_s}
use Rattle.machine.specs.Inputs.{bits_of}
use Rattle.divide.specs.Steps.{formed, carry_out, upshifted, sign_q, unsigned_bit, extended_sign, remainder_test}
use Rattle.divide.specs.Divide.{UDIVFIRST, UDIVSTEP, UDIVLAST, REMCORR}
use Rattle.chip.specs.Glossary.{perform_of}
use Rattle.chip.specs.Lists.{State, read_at, inputs_of, step_of, execs}
use Rattle.sequence.specs.Sequences.{Ignored, bits_in, code_of, word_of, words_of, divide_words}
use Rattle.sequence.specs.Results.{register, low_q, odd_q, Divided}
use Rattle.sequence.proofs.Lists.{Work, view, before, after, Acts, acts-from, carried, carried_back, Reached, start, next, repeated, in_file, untouched_then, word-rest, word-status, word-y, merged-low, merged-high, bits_of_bytes, sign_top, not-cut, cut_sum, halved}
use Rattle.sequence.proofs.TopBit.{top}
use Rattle.sequence.proofs.DivideNumbers.{div_sum, div_f, operand_of, div_c, new_bit, div_first, div_step, div_last, Left, first_left, step_left, flag_m, Whole, Less, Done, last_done, sign_is}

-- ---- numbers modulo W
-- a value shifted up by one, by its remainder
double_cut : (W f t : ℕ) → (2 * f + t) % W ≡ (2 * (f % W) + t) % W
double_cut W f t =
    ap (λ (v : ℕ). v % W) (shape W f t (f / W) (f % W) (sym (div-add-mod' f W)))
    ∙ mul-add-mod_self_right (2 * (f / W)) W (2 * (f % W) + t)
  where
    shape : (W f t p r : ℕ) → f ≡ p * W + r → 2 * f + t ≡ 2 * p * W + (2 * r + t)
    shape W f t p r e = omega arith

pub upshifted-cut : (W f t : ℕ) → (f * 2 + t) % W ≡ (2 * (f % W) + t) % W
upshifted-cut W f t = ap (λ (v : ℕ). (v + t) % W) (mul_comm f 2) ∙ double_cut W f t

-- ---- F, its carry and its sign, for n selected bits
module _ (n a b m : ℕ) (hn : n ≤ 32) (ha : a < 2 ^ 32) where
  low-f : (s : ℕ) → m < 2 → (b + choose m a (not_of a) + m) % 2 ^ n ≡ (b % 2 ^ n + s * 2 ^ n + div_sum (2 ^ n) (a % 2 ^ n) m) % (2 * 2 ^ n) % 2 ^ n
  unfolding div_sum
  low-f s hm =
      by_flag (λ (m : ℕ). (b + choose m a (not_of a) + m) % 2 ^ n ≡ (b % 2 ^ n + s * 2 ^ n + div_sum (2 ^ n) (a % 2 ^ n) m) % 2 ^ n)
      (cut_sum (2 ^ n) b a 0 s ∙ ap (λ (v : ℕ). v % 2 ^ n) (omega arith))
      (cut_sum (2 ^ n) b (not_of a) 1 (s + 1) ∙ ap (λ (v : ℕ). (b % 2 ^ n + v + 1 + (s + 1) * 2 ^ n) % 2 ^ n) (not-cut n a hn ha) ∙ ap (λ (v : ℕ). v % 2 ^ n) taken)
      m hm
      ∙ sym (ap (λ (w : ℕ). (b % 2 ^ n + s * 2 ^ n + div_sum (2 ^ n) (a % 2 ^ n) m) % w % 2 ^ n) (sym (pow-add 2 1 n)) ∙ mod-mod-pow (b % 2 ^ n + s * 2 ^ n + div_sum (2 ^ n) (a % 2 ^ n) m) 1 n)
    where
      taken : b % 2 ^ n + ((2 ^ n - 1) - a % 2 ^ n) + 1 + (s + 1) * 2 ^ n ≡ b % 2 ^ n + s * 2 ^ n + (2 * 2 ^ n - a % 2 ^ n)
      taken = let h : a % 2 ^ n < 2 ^ n = mod-lt a (pow_pos n) in omega arith

  pub carry_is : m < 2 → carry_of n b (choose m a (not_of a)) m ≡ div_c (2 ^ n) (a % 2 ^ n) (b % 2 ^ n) m
  unfolding carry_of operand_of
  carry_is hm =
      by_flag (λ (m : ℕ). (b % 2 ^ n + choose m a (not_of a) % 2 ^ n + m) / 2 ^ n ≡ div_c (2 ^ n) (a % 2 ^ n) (b % 2 ^ n) m)
      (ap (λ (v : ℕ). v / 2 ^ n) (omega arith))
      (ap (λ (v : ℕ). (b % 2 ^ n + v + 1) / 2 ^ n) (not-cut n a hn ha) ∙ ap (λ (v : ℕ). v / 2 ^ n) taken)
      m hm
    where
      taken : b % 2 ^ n + ((2 ^ n - 1) - a % 2 ^ n) + 1 ≡ b % 2 ^ n + (2 ^ n - a % 2 ^ n)
      taken = let h : a % 2 ^ n < 2 ^ n = mod-lt a (pow_pos n) in omega arith

-- ---- the words
-- they leave V, the nibble bits, position and width alone, as the signed ones do
abbrev pub steady : Status → Status
steady s = with_c 0 (with_n 0 (with_m 0 (with_z 0 (with_s 0 (with_l 0 s)))))

-- what is asked of the number of selected bits and of the divisor
abbrev pub Asked : ℕ → ℕ → Type 0
Asked n A = (1 ≤ n) × (n ≤ 32) × (A < 2 ^ 32)

abbrev pub FlagM : Work → Type 0
FlagM s = s.M < 2

module _ (x : Inputs) (fits : Asked (bits_of x) x.a) (hm : x.status.m < 2) where
  abbrev n : ℕ
  n = bits_of x

  abbrev W : ℕ
  W = 2 ^ bits_of x

  abbrev F : ℕ
  F = div_f (2 ^ bits_of x) (x.a % 2 ^ bits_of x) (before (bits_of x) x)

  f-low : formed x x.status.m % W ≡ F % W
  f-low = low-f n x.a x.b x.status.m fits.1 fits.2 x.status.s hm

  sign-f : extended_sign x (carry_out x n x.status.m) ≡ F / W
  sign-f =
      ap (λ (c : ℕ). (x.status.m + x.status.s + c) % 2) (carry_is n x.a x.b x.status.m fits.1 fits.2 hm)
      ∙ sym (sign_is W (x.a % W) (before n x) (mod-lt x.a (pow_pos n)) hm)

  bit-f : unsigned_bit x (carry_out x n x.status.m) ≡ new_bit W F
  bit-f = ap (λ (v : ℕ). 1 - v) sign-f

  top-q : sign_q x ≡ top W (x.q % W)
  top-q = sign_top n x.q fits.0

  top-f : sign_of n (formed x x.status.m) ≡ top W (F % W)
  top-f = sign_top n (formed x x.status.m) fits.0 ∙ ap (top W) f-low

  up-f : merged n (upshifted (formed x x.status.m) (sign_q x)) x.b % W ≡ (2 * F + top W (x.q % W)) % W
  up-f =
      merged-low n _ x.b ∙ upshifted-cut W (formed x x.status.m) (sign_q x)
      ∙ ap₂ (λ (u v : ℕ). (2 * u + v) % W) f-low top-q ∙ sym (double_cut W F (top W (x.q % W)))

  up-q : merged n (upshifted x.q (unsigned_bit x (carry_out x n x.status.m))) x.q % W ≡ (2 * (x.q % W) + new_bit W F) % W
  up-q = merged-low n _ x.q ∙ upshifted-cut W x.q _ ∙ ap (λ (v : ℕ). (2 * (x.q % W) + v) % W) bit-f

  step_sees : after n (perform_of 0x54 x) ≡ div_step W (x.a % W) (before n x)
  unfolding perform_of UDIVSTEP div_step
  step_sees = λ i. record { B = up-f i; Q = up-q i; M = bit-f i; S = top-f i }

  last_sees : after n (perform_of 0x55 x) ≡ div_last W (x.a % W) (before n x)
  unfolding perform_of UDIVLAST div_last
  last_sees = λ i. record { B = (merged-low n (formed x x.status.m) x.b ∙ f-low) i; Q = up-q i; M = bit-f i; S = 0 }

  last-n : (perform_of 0x55 x).status.n ≡ F / W
  unfolding perform_of UDIVLAST
  last-n = sign-f

  last-z : (perform_of 0x55 x).status.z ≡ flag (eqb (F % W) 0)
  unfolding perform_of UDIVLAST zero_of
  last-z = ap (λ (v : ℕ). flag (eqb v 0)) f-low

first_sees : (x : Inputs) → 1 ≤ bits_of x → after (bits_of x) (perform_of 0x4f x) ≡ div_first (2 ^ bits_of x) (x.a % 2 ^ bits_of x) (before (bits_of x) x)
unfolding perform_of UDIVFIRST div_first
first_sees x h = λ i. record { B = e_b i; Q = e_q i; M = 1; S = 0 }
  where
    e_b : merged (bits_of x) (upshifted x.b (sign_q x)) x.b % 2 ^ bits_of x ≡ (2 * (x.b % 2 ^ bits_of x) + top (2 ^ bits_of x) (x.q % 2 ^ bits_of x)) % 2 ^ bits_of x
    e_b =
        merged-low (bits_of x) _ x.b ∙ upshifted-cut (2 ^ bits_of x) x.b (sign_q x)
        ∙ ap (λ (v : ℕ). (2 * (x.b % 2 ^ bits_of x) + v) % 2 ^ bits_of x) (sign_top (bits_of x) x.q h)

    e_q : merged (bits_of x) (upshifted x.q 0) x.q % 2 ^ bits_of x ≡ (2 * (x.q % 2 ^ bits_of x) + 0) % 2 ^ bits_of x
    e_q = merged-low (bits_of x) _ x.q ∙ upshifted-cut (2 ^ bits_of x) x.q 0

first_acts : (n A : ℕ) → Asked n A → Acts steady n A 0x4f (λ s. Unit) (div_first (2 ^ n) (A % 2 ^ n))
unfolding perform_of UDIVFIRST
first_acts n A h = acts-from steady n A 0x4f div_first Asked (λ s. Unit) h (λ x h g. first_sees x h.0) (λ x. merged-high (bits_of x) _ x.b) (λ x. merged-high (bits_of x) _ x.q) (λ x. refl)

step_acts : (n A : ℕ) → Asked n A → Acts steady n A 0x54 FlagM (div_step (2 ^ n) (A % 2 ^ n))
unfolding perform_of UDIVSTEP
step_acts n A h = acts-from steady n A 0x54 div_step Asked FlagM h step_sees (λ x. merged-high (bits_of x) _ x.b) (λ x. merged-high (bits_of x) _ x.q) (λ x. refl)

last_acts : (n A : ℕ) → Asked n A → Acts steady n A 0x55 FlagM (div_last (2 ^ n) (A % 2 ^ n))
unfolding perform_of UDIVLAST
last_acts n A h = acts-from steady n A 0x55 div_last Asked FlagM h last_sees (λ x. merged-high (bits_of x) _ x.b) (λ x. merged-high (bits_of x) _ x.q) (λ x. refl)

-- ---- REMCORR: B where the sign is 0, else B plus the divisor
abbrev corrected_b : Inputs → ℕ
corrected_b x = choose (remainder_test x) x.b (formed x x.status.m)

module _ (x : Inputs) (X : ℕ) (h_d : 0 < x.a % 2 ^ bits_of x) (done : Done (x.a % 2 ^ bits_of x) X (2 ^ bits_of x) x.status.n x.status.z (before (bits_of x) x)) where
  abbrev WholeB : Type 0
  WholeB = Whole (x.a % 2 ^ bits_of x) X x.status.n x.status.z (before (bits_of x) x)

  abbrev LessB : Type 0
  LessB = Less (x.a % 2 ^ bits_of x) X (2 ^ bits_of x) x.status.n x.status.z (before (bits_of x) x)

  -- where the divisor is added back, the sum is the remainder and a carry
  added_back : LessB → x.b % 2 ^ bits_of x + x.a % 2 ^ bits_of x + 0 ≡ 1 * 2 ^ bits_of x + X % (x.a % 2 ^ bits_of x)
  added_back h = omega (arith, h.0)

  small : X % (x.a % 2 ^ bits_of x) < 2 ^ bits_of x
  small = omega (arith, mod-lt X h_d, mod-lt x.a (pow_pos (bits_of x)))

  s : x.status.s ≡ 0
  s = done.sign

  corrected : corrected_b x % 2 ^ bits_of x ≡ X % (x.a % 2 ^ bits_of x)
  corrected = tell done.end
    where
      tell : WholeB ⊎ LessB → corrected_b x % 2 ^ bits_of x ≡ X % (x.a % 2 ^ bits_of x)
      tell (inl h) = rw (h.1, s) h.0
      tell (inr h) =
          rw (h.1, s, h.2, h.3)
          (cut_sum (2 ^ bits_of x) x.b x.a 0 0 ∙ ap (λ (v : ℕ). v % 2 ^ bits_of x) (omega (arith, added_back h)) ∙ digits_mod 1 {m = 2 ^ bits_of x} {r = X % (x.a % 2 ^ bits_of x)} small)

  -- C is N
  carried_out : choose (remainder_test x) 0 (carry_out x (bits_of x) x.status.m) ≡ x.status.n
  unfolding carry_of
  carried_out = tell done.end
    where
      tell : WholeB ⊎ LessB → choose (remainder_test x) 0 (carry_out x (bits_of x) x.status.m) ≡ x.status.n
      tell (inl h) = rw (h.1, s) refl
      tell (inr h) = rw (h.1, s, h.2, h.3) (ap (λ (v : ℕ). v / 2 ^ bits_of x) (added_back h) ∙ digits_div 1 small)

  rem_status : (perform_of 0x58 x).status ≡ with_c x.status.n x.status
  unfolding perform_of REMCORR
  rem_status = ap (λ (c : ℕ). with_c c x.status) carried_out

  rem_y : (perform_of 0x58 x).y % 2 ^ bits_of x ≡ X % (x.a % 2 ^ bits_of x)
  unfolding perform_of REMCORR
  rem_y = merged-low (bits_of x) (corrected_b x) x.b ∙ corrected

rem_above : (x : Inputs) → (perform_of 0x58 x).y / 2 ^ bits_of x ≡ x.b / 2 ^ bits_of x
unfolding perform_of REMCORR
rem_above x = merged-high (bits_of x) (corrected_b x) x.b

rem_q : (x : Inputs) → (perform_of 0x58 x).q ≡ x.q
unfolding perform_of REMCORR
rem_q x = refl

-- ---- the last two words, from a state u in which no step is left
module _ (n code a b : ℕ) (bits : selected code ≡ n) (ab : a ≢ b) (t : State) (hb : b < length t.file)
    (fits : Asked n (read_at t.file a)) (h_d : 0 < register n a t) (i j : Ignored) (u : State)
    (r : Reached steady n code a b (read_at t.file a) bits ab t refl hb (Left (2 ^ n) (register n a t) (low_q n t) 0) u) where
  abbrev x₁ : Inputs
  x₁ = inputs_of (word_of code a b 0x55 i) u

  abbrev v : State
  v = step_of (word_of code a b 0x55 i) u

  abbrev x₂ : Inputs
  x₂ = inputs_of (word_of code a b 0x58 j) v

  abbrev z : State
  z = step_of (word_of code a b 0x58 j) v

  abbrev F₁ : ℕ
  F₁ = div_f (2 ^ n) (register n a t) (view n b u)

  a₁ : read_at u.file a ≡ read_at t.file a
  a₁ = r.rest.others a ab

  fits₁ : Asked (bits_of x₁) x₁.a
  fits₁ = carried_back x₁ n (read_at t.file a) bits a₁ Asked fits

  hm : u.core.status.m < 2
  hm = flag_m (2 ^ n) (register n a t) (low_q n t) 0 (view n b u) r.holds

  reached : Reached steady n code a b (read_at t.file a) bits ab t refl hb (λ s. s ≡ div_last (2 ^ n) (register n a t) (view n b u)) v
  reached =
      next steady n code a b (read_at t.file a) bits ab t refl hb 0x55 FlagM (div_last (2 ^ n) (register n a t)) (last_acts n (read_at t.file a) fits)
      (λ s. s ≡ view n b u) (λ s. s ≡ div_last (2 ^ n) (register n a t) (view n b u))
      (λ s e. subst FlagM (sym e) hm) (λ s e. ap (div_last (2 ^ n) (register n a t)) e) i u (record { rest = r.rest; stays = r.stays; holds = refl })

  n-after : v.core.status.n ≡ F₁ / 2 ^ n
  unfolding step_of
  n-after = carried x₁ n (read_at t.file a) bits a₁ (λ k y. (perform_of 0x55 x₁).status.n ≡ div_f (2 ^ k) (y % 2 ^ k) (before k x₁) / 2 ^ k) (last-n x₁ fits₁ hm)

  z-after : v.core.status.z ≡ flag (eqb (F₁ % 2 ^ n) 0)
  unfolding step_of
  z-after = carried x₁ n (read_at t.file a) bits a₁ (λ k y. (perform_of 0x55 x₁).status.z ≡ flag (eqb (div_f (2 ^ k) (y % 2 ^ k) (before k x₁) % 2 ^ k) 0)) (last-z x₁ fits₁ hm)

  done : Done (register n a t) (low_q n t) (2 ^ n) v.core.status.n v.core.status.z (view n b v)
  done =
      subst (λ (s : Work). Done (register n a t) (low_q n t) (2 ^ n) v.core.status.n v.core.status.z s) (sym reached.holds)
      (subst (λ (N : ℕ). Done (register n a t) (low_q n t) (2 ^ n) N v.core.status.z (div_last (2 ^ n) (register n a t) (view n b u))) (sym n-after)
      (subst (λ (Z : ℕ). Done (register n a t) (low_q n t) (2 ^ n) (F₁ / 2 ^ n) Z (div_last (2 ^ n) (register n a t) (view n b u))) (sym z-after)
      (last_done (2 ^ n) (register n a t) (low_q n t) (mod-lt (read_at t.file a) (pow_pos n)) (mod-lt t.core.q (pow_pos n)) (view n b u) r.holds)))

  a₂ : read_at v.file a ≡ read_at t.file a
  a₂ = reached.rest.others a ab

  in_file-v : b < length v.file
  in_file-v = in_file steady n code a b (read_at t.file a) bits ab t refl hb v reached.rest

  -- what REMCORR finds
  done₂ : Done (x₂.a % 2 ^ bits_of x₂) (low_q n t) (2 ^ bits_of x₂) v.core.status.n v.core.status.z (before (bits_of x₂) x₂)
  done₂ = carried_back x₂ n (read_at t.file a) bits a₂ (λ k y. Done (y % 2 ^ k) (low_q n t) (2 ^ k) v.core.status.n v.core.status.z (before k x₂)) done

  h_d₂ : 0 < x₂.a % 2 ^ bits_of x₂
  h_d₂ = carried_back x₂ n (read_at t.file a) bits a₂ (λ k y. 0 < y % 2 ^ k) h_d

  remainder_is : register n b z ≡ low_q n t % register n a t
  remainder_is =
      ap (λ (y : ℕ). y % 2 ^ n) (word-y n code a b bits j 0x58 v in_file-v)
      ∙ carried x₂ n (read_at t.file a) bits a₂ (λ k y. (perform_of 0x58 x₂).y % 2 ^ k ≡ low_q n t % (y % 2 ^ k))
      (rem_y x₂ (low_q n t) h_d₂ done₂)

  q-after : z.core.q ≡ v.core.q
  unfolding step_of
  q-after = rem_q x₂

  quotient_is : low_q n z ≡ low_q n t / register n a t
  quotient_is = ap (λ (q : ℕ). q % 2 ^ n) q-after ∙ done.quotient

  -- the flags that UDIVLAST leaves, by the quotient and the remainder
  odd_is : v.core.status.m ≡ odd_q n z
  odd_is = done.bit ∙ sym (ap (λ (q : ℕ). q % 2) quotient_is)

  abbrev WholeV : Type 0
  WholeV = Whole (register n a t) (low_q n t) v.core.status.n v.core.status.z (view n b v)

  abbrev LessV : Type 0
  LessV = Less (register n a t) (low_q n t) (2 ^ n) v.core.status.n v.core.status.z (view n b v)

  sign-left : v.core.status.n ≡ 1 - odd_q n z
  sign-left = tell done.end
    where
      tell : WholeV ⊎ LessV → v.core.status.n ≡ 1 - odd_q n z
      tell (inl h) = omega (arith, h.1, h.2, odd_is)
      tell (inr h) = omega (arith, h.1, h.2, odd_is)

  zero_left_lem : v.core.status.z ≡ choose (odd_q n z) 0 (zero_of n (read_at z.file b))
  unfolding zero_of
  zero_left_lem = tell done.end
    where
      tell : WholeV ⊎ LessV → v.core.status.z ≡ choose (odd_q n z) 0 (flag (eqb (register n b z) 0))
      tell (inl h) = h.3 ∙ sym (ap₂ (λ (o r : ℕ). choose o 0 (flag (eqb r 0))) (sym odd_is ∙ h.2) remainder_is)
      tell (inr h) = h.3 ∙ sym (ap (λ (o : ℕ). choose o 0 (flag (eqb (register n b z) 0))) (sym odd_is ∙ h.2))

  status-after : z.core.status ≡ with_c v.core.status.n v.core.status
  status-after = word-status n code a b bits j 0x58 v in_file-v ∙ rem_status x₂ (low_q n t) h_d₂ done₂

  divided : Divided n a b t z
  divided =
      record {
        quotient = quotient_is;
        remainder = remainder_is;
        below = subst (λ (y : ℕ). y < register n a t) (sym remainder_is) (mod-lt (low_q n t) h_d);
        rest =
            untouched_then n b t v z reached.rest
            (word-rest n code a b bits j 0x58 v in_file-v (subst (λ (k : ℕ). (perform_of 0x58 x₂).y / 2 ^ k ≡ x₂.b / 2 ^ k) bits (rem_above x₂)) (ap (λ (q : ℕ). q / 2 ^ n) (rem_q x₂)));
        status =
            status-after ∙ ap (λ (s : Status). with_c f.n (with_n f.n (with_m f.m (with_z f.z (with_s f.s (with_l f.l s)))))) reached.stays
            ∙ (λ i. with_c (sign-left i) (with_n (sign-left i) (with_m (odd_is i) (with_z (zero_left_lem i) (with_s (done.sign i) (with_l (link_left i) t.core.status))))));
      }
    where
      f : Status
      f = v.core.status

      link_left : v.core.status.l ≡ z.core.status.l
      link_left = sym (ap (λ (s : Status). s.l) status-after)

-- DIVIDE. On one to four bytes, with the dividend in Q, a divisor that is not 0 in register a, and b another register of the file whose
-- selected bytes are 0: after one UDIVFIRST, n - 1 UDIVSTEP, one UDIVLAST and REMCORR, whatever the status register held before, Q holds the
-- quotient and register b the remainder, which is below the divisor; every other register and all unselected bytes are as before, and the status
-- register is as `divided_status` has it.
pub divide-exact :
    (w a b : ℕ) (ignored : ℕ → Ignored) (t : State) → 1 ≤ w → w ≤ 4 → a ≢ b → b < length t.file →
    read_at t.file a < 2 ^ 32 → register (bits_in w) a t ≢ 0 → register (bits_in w) b t ≡ 0 →
    Divided (bits_in w) a b t (execs (divide_words w a b ignored) t)
unfolding words_of execs
divide-exact w a b ignored t h1 h4 ab hb ha hd h0 =
    repeated steady n code a b A bits ab t refl hb 0x54 FlagM (div_step W D) (step_acts n A fits) (Left W D X) (flag_m W D X) (step_left W D X h_d) (0x55 ∷ 0x58 ∷ [])
    (Divided n a b t)
    (λ ignored u r. divided n code a b bits ab t hb fits pos (ignored 0) (ignored 1) u r)
    (n - 1) (λ k. ignored (suc k)) _
    (next steady n code a b A bits ab t refl hb 0x4f (λ s. Unit) (div_first W D) (first_acts n A fits) (λ s. (s.B ≡ 0) × (s.Q ≡ X)) (Left W D X (n - 1)) (λ s e. tt)
    (λ s e. first_left (n - 1) W D X pow pos (mod-lt t.core.q (pow_pos n)) s e.0 e.1) (ignored 0) t
    (start steady n code a b A bits ab t refl hb (λ s. (s.B ≡ 0) × (s.Q ≡ X)) (h0, refl)))
  where
    n : ℕ
    n = bits_in w

    code : ℕ
    code = code_of w

    A : ℕ
    A = read_at t.file a

    W : ℕ
    W = 2 ^ bits_in w

    D : ℕ
    D = register (bits_in w) a t

    X : ℕ
    X = low_q (bits_in w) t

    bits : selected code ≡ n
    bits = bits_of_bytes w h1 h4

    fits : Asked n A
    fits = (omega arith, omega arith, ha)

    h_d : D < W
    h_d = mod-lt A (pow_pos n)

    pos : 0 < D
    pos = pos_of_ne-zero hd

    pow : W ≡ 2 * 2 ^ (n - 1)
    pow = halved n (omega arith)
