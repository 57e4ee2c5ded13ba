-- The five words after SDIVLAST1 that write nothing: they set N and Z for the corrections.
use mathlib.Core.Path.{◌≡◌, sym, ap, ap₂, ◌∙◌, subst}
use mathlib.Core.List.{[], ◌∷◌}
use Prim.Native.Nat.{ℕ, ◌+◌, ◌-◌, ◌*◌, ◌/◌, ◌%◌, ◌^◌, ◌≤◌, ◌<◌, max}
use native.Mathlib.Nat.{mod-lt, mod-eq_of_lt, mod-mod}
use native.Mathlib.Omega.{arith}
use lib.Dec.{eqb}
use lib.Arith.{digits_div, digits_mod}
use lib.Pow.{pow_pos}
use Rattle.bits.specs.Bits.{selected, choose, flag, xor, bit_of, sign_of, zero_of, not_of, put_bit}
use Rattle.bits.proofs.BitByBit.{by_flag}
use Rattle.bits.proofs.Bounds.{flag-lt, xor_lt, zero_flag}
use Rattle.machine.specs.declared.Status.{Status}
use Rattle.machine.specs.Status.{SIGNED-LE, worked_out, gathered, carry_mode, as_read, loaded, Good, with_n, with_v, with_z, with_l}
use Rattle.machine.proofs.Kept.{good_v, good_z}
use Rattle.machine.proofs.Round.{worked-out-lt, fields_of_lem}
use Rattle.shifts.specs.SingleBit.{downshifted, down}
use Rattle.divide.specs.Divide.{SDIVLAST2}
use Rattle.fields.specs.BitManipulation.{put_status, EXTBIT-STAT}
use Rattle.chip.specs.Glossary.{perform_of}
use Rattle.chip.specs.Lists.{State, state, read_at, step_of, execs}
use Rattle.sequence.specs.Sequences.{Registers, Unread, looking, on_status}
use Rattle.sequence.proofs.Lists.{sign_top, halved}
use Rattle.sequence.proofs.Relational.{relational}
use Rattle.sequence.proofs.TopBit.{top}
use Rattle.sequence.proofs.DivideNumbers.{operand_of}
use Rattle.sequence.proofs.SignedSteps.{low_sum}
use Rattle.sequence.proofs.SignedCorrections.{sign_for, special_z}

-- ---- the status register
-- RSTBIT-STAT of bit 18 sets V to 0
v-reset : (s : Status) → Good s → loaded (put_bit 18 0 (as_read carry_mode s)) ≡ with_v 0 s
unfolding as_read put_bit
v-reset s g =
    let d : worked_out carry_mode s < 8 = worked-out-lt carry_mode s g in
    ap loaded (cut (s.position + s.width * 2 ^ 8 + worked_out carry_mode s * 2 ^ 13 + s.c * 2 ^ 16 + s.n * 2 ^ 17) s.v (s.z + s.l * 2 + s.m * 2 ^ 2 + s.s * 2 ^ 3 + gathered 8 s.nibbles * 2 ^ 5) _
    (omega (arith, g.position, g.width, g.c, g.n)) g.v (omega arith) ∙ omega arith)
    ∙ fields_of_lem s.position s.width (worked_out carry_mode s) s.c s.n 0 s.z s.l s.m s.s (gathered 8 s.nibbles) g.position g.width d g.c g.n (omega arith) g.z g.l g.m g.s
    ∙ ap (λ (k : ℕ). record { position = s.position; width = s.width; c = s.c; n = s.n; v = 0; z = s.z; l = s.l; m = s.m; s = s.s; nibbles = k }) g.nibbles
  where
    cut : (lo f hi x : ℕ) → lo < 2 ^ 18 → f < 2 → x ≡ lo + f * 2 ^ 18 + hi * 2 ^ 19 → x / 2 ^ 19 * 2 ^ 19 + 0 * 2 ^ 18 + x % 2 ^ 18 ≡ lo + hi * 2 ^ 19
    cut lo f hi x hl hf e = omega arith

flags : (f g : ℕ) → f < 2 → g < 2 → max f g < 2
flags f g hf hg = omega arith

pub xor-none : (f : ℕ) → f < 2 → xor f 0 ≡ f
xor-none f h = omega arith

-- ---- the five words that write nothing, n bits being selected; b, a and o are the words in the registers of remainder, divisor and zero
-- what SDIVLAST2 adds to b, and the Z that it leaves
abbrev taken : ℕ → ℕ → ℕ → ℕ
taken d a b = b + choose d a (not_of a) + d

abbrev pub zero_left : ℕ → ℕ → ℕ → ℕ → ℕ → ℕ
zero_left n a b q s = choose s 0 (zero_of n (taken (xor (sign_of n q) s) a b))

-- N and Z in place of those that SDIVLAST1 left
abbrev pub linked : ℕ → ℕ → ℕ → ℕ → Status → ℕ
linked n o b q s = SIGNED-LE (with_v 0 (with_z (zero_left n o b q s.s) s))

abbrev pub flagged : ℕ → ℕ → ℕ → ℕ → ℕ → Status → Status
flagged n o a b q s = with_z (zero_left n a b q s.s) (with_l (b % 2) (with_n (sign_of n (downshifted n b (linked n o b q s))) (with_v 0 s)))

module _ (code : ℕ) (r : Registers) (free : ℕ → Unread) (u : State) (good : Good u.core.status) where
  abbrev n : ℕ
  n = selected code

  abbrev at : ℕ → ℕ
  at k = read_at u.file k

  abbrev q : ℕ
  q = u.core.q

  abbrev kept : Status → State
  kept s = state u.file (record { q = u.core.q; status = s })

  abbrev s₀ : Status
  s₀ = u.core.status

  abbrev s₁ : Status
  s₁ = with_z (zero_left n (at r.O) (at r.R) q s₀.s) s₀

  zero-lt : (m v s : ℕ) → s < 2 → choose s 0 (zero_of m v) < 2
  zero-lt m v s hs = by_flag (λ (s : ℕ). choose s 0 (zero_of m v) < 2) (omega arith) (zero_flag m v) s hs

  good₁ : Good s₁
  good₁ = good_z _ s₀ (zero-lt n _ s₀.s good.s) good

  link_is : xor (bit_of 15 (as_read carry_mode (with_v 0 s₁))) 0 ≡ linked n (at r.O) (at r.R) q s₀
  link_is = ap (λ (v : ℕ). xor v 0) (relational carry_mode (with_v 0 s₁) (good_v 0 s₁ (omega arith) good₁)).2 ∙ xor-none _ (flags _ _ (xor_lt s₀.n 0) (zero-lt n _ s₀.s good.s))

  abbrev last₂ : State → State
  last₂ t = step_of (looking code r.D r.R 0x5a (free 4).ignored) (step_of (looking code (free 3).a r.R 0x29 (free 3).ignored) t)

  pub five : execs (looking code r.O r.R 0x5a (free 0).ignored ∷ on_status 18 (free 1).a (free 1).b 0x6d (free 1).ignored ∷ on_status 15 (free 2).a (free 2).b 0x7e (free 2).ignored
      ∷ looking code (free 3).a r.R 0x29 (free 3).ignored ∷ looking code r.D r.R 0x5a (free 4).ignored ∷ []) u
      ≡ kept (flagged n (at r.O) (at r.D) (at r.R) q s₀)
  unfolding execs step_of perform_of SDIVLAST2 put_status EXTBIT-STAT down
  five =
      ap (λ (s : Status). last₂ (step_of (on_status 15 (free 2).a (free 2).b 0x7e (free 2).ignored) (kept s))) (v-reset s₁ good₁)
      ∙ ap (λ (l : ℕ). last₂ (kept (with_l l (with_v 0 s₁)))) link_is

-- ---- what that is on numbers
-- Z, by what is left of the selected bits
pub special_is : (n a b q s : ℕ) → 1 ≤ n → n ≤ 32 → a < 2 ^ 32 → zero_left n a b q s ≡ special_z (2 ^ n) (a % 2 ^ n) s (b % 2 ^ n) (q % 2 ^ n)
unfolding zero_of
special_is n a b q s h l ha =
    ap (λ (v : ℕ). choose s 0 (flag (eqb v 0)))
    (low_sum n a b (xor (sign_of n q) s) l ha (xor_lt (sign_of n q) s) ∙ ap (λ (d : ℕ). (b % 2 ^ n + operand_of (2 ^ n) (a % 2 ^ n) (xor d s)) % 2 ^ n) (sign_top n q h))

-- with zero for the divisor it is the remainder that is looked at
zero_is : (n o b q s : ℕ) → 1 ≤ n → n ≤ 32 → o < 2 ^ 32 → o % 2 ^ n ≡ 0 → zero_left n o b q s ≡ choose s 0 (flag (eqb (b % 2 ^ n) 0))
unfolding operand_of
zero_is n o b q s h l ho e =
    special_is n o b q s h l ho
    ∙ ap (λ (v : ℕ). choose s 0 (flag (eqb v 0))) (ap (λ (v : ℕ). (b % 2 ^ n + operand_of (2 ^ n) v (xor (top (2 ^ n) (q % 2 ^ n)) s)) % 2 ^ n) e ∙ nothing (xor (top (2 ^ n) (q % 2 ^ n)) s) (xor_lt _ s))
  where
    nothing : (d : ℕ) → d < 2 → (b % 2 ^ n + operand_of (2 ^ n) 0 d) % 2 ^ n ≡ b % 2 ^ n
    nothing =
        by_flag (λ (d : ℕ). (b % 2 ^ n + operand_of (2 ^ n) 0 d) % 2 ^ n ≡ b % 2 ^ n)
        (ap (λ (v : ℕ). v % 2 ^ n) (omega arith) ∙ mod-mod b (2 ^ n))
        (ap (λ (v : ℕ). v % 2 ^ n) (omega arith) ∙ digits_mod 1 {m = 2 ^ n} {r = b % 2 ^ n} (mod-lt b (pow_pos n)))

-- the bit shifted in is the sign
sign-down : (n b f : ℕ) → 1 ≤ n → f < 2 → sign_of n (downshifted n b f) ≡ f
unfolding downshifted
sign-down n b f h hf =
    let p : 2 ^ n ≡ 2 * 2 ^ (n - 1) = halved n (omega arith) in
    let l : b % 2 ^ n < 2 ^ n = mod-lt b (pow_pos n) in
    ap (λ (v : ℕ). v % 2) (ap (λ (v : ℕ). v / 2 ^ (n - 1)) (omega arith) ∙ digits_div f {m = 2 ^ (n - 1)} {r = b % 2 ^ n / 2} (omega arith)) ∙ mod-eq_of_lt hf

-- N: the remainder's sign, or 1 where the dividend is negative and the remainder zero
pub sign_for_lem : (n o b q : ℕ) (s : Status) → Good s → 1 ≤ n → n ≤ 32 → o < 2 ^ 32 → o % 2 ^ n ≡ 0 → s.n ≡ top (2 ^ n) (b % 2 ^ n)
    → sign_of n (downshifted n b (linked n o b q s)) ≡ sign_for (2 ^ n) s.s (b % 2 ^ n)
sign_for_lem n o b q s g h l ho e en =
    sign-down n b (linked n o b q s) h (flags _ _ (xor_lt s.n 0) (subst (λ (v : ℕ). v < 2) (sym is) small))
    ∙ ap₂ max (xor-none s.n g.n ∙ en) is
  where
    is : zero_left n o b q s.s ≡ choose s.s 0 (flag (eqb (b % 2 ^ n) 0))
    is = zero_is n o b q s.s h l ho e

    small : choose s.s 0 (flag (eqb (b % 2 ^ n) 0)) < 2
    small = by_flag (λ (f : ℕ). choose f 0 (flag (eqb (b % 2 ^ n) 0)) < 2) (omega arith) (flag-lt (eqb (b % 2 ^ n) 0)) s.s g.s
