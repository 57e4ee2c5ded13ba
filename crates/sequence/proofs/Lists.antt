-- From one word on numbers to lists of words on registers: what a word of a sequence does is seen through the selected bits of register b and
-- of Q, and the flags M and S; all else stays.
use mathlib.Core.Path.{◌≡◌, refl, sym, ap, ◌∙◌, subst}
use mathlib.Core.Logic.{◌≢◌}
use mathlib.Core.List.{List}
use Prim.Native.Nat.{ℕ, zero, suc, ◌+◌, ◌-◌, ◌*◌, ◌/◌, ◌%◌, ◌^◌, ◌≤◌, ◌<◌}
use native.Mathlib.Nat.{mod-lt, mul-div-mul_left, mul-add-mod_self_right, add-mul-mod_self_right, div-add-mod'}
use native.Mathlib.Omega.{arith}
use lib.Pow.{pow_pos, pow-add, split, shr_lt, high, low, field, mod-mod-pow}
use lib.ListN.{length}
use lib.Dec.{eqb}
use Rattle.bits.specs.Bits.{selected, flag, bit_of, sign_of, zero_of, merged, not_of}
use Rattle.bits.proofs.BitByBit.{complement_parts}
use Rattle.machine.specs.declared.Status.{Status}
use Rattle.machine.specs.declared.Inputs.{Inputs}
use Rattle.machine.specs.declared.Outputs.{Outputs}
use Rattle.machine.specs.Status.{with_n, with_z}
use Rattle.machine.specs.Inputs.{bits_of, zero_sign}
use Rattle.chip.specs.Glossary.{perform_of}
use Rattle.chip.specs.Lists.{State, read_at, inputs_of, step_of, execs}
use Rattle.chip.proofs.Files.{store_length, read_same, read-other}
use Rattle.sequence.specs.Sequences.{Ignored, word_of, words_of, times}
use Rattle.sequence.specs.Results.{Untouched}

-- ---- selected and unselected bits of a merged word
pub merged-low : (n s u : ℕ) → merged n s u % 2 ^ n ≡ s % 2 ^ n
unfolding merged
merged-low n s u = low (u / 2 ^ n) n (mod-lt s (pow_pos n))

pub merged-high : (n s u : ℕ) → merged n s u / 2 ^ n ≡ u / 2 ^ n
unfolding merged
merged-high n s u = high (u / 2 ^ n) n (mod-lt s (pow_pos n))

-- the low digit (to the base 4), the bit above the lowest, and the top bit of the selected bits
pub low_digit : (n q : ℕ) → 2 ≤ n → q % 2 ^ n % 4 ≡ q % 4
low_digit n q h = subst (λ (k : ℕ). q % 2 ^ k % 4 ≡ q % 4) (omega arith) (mod-mod-pow q (n - 2) 2)

pub second-bit : (n q : ℕ) → 2 ≤ n → bit_of 1 q ≡ q % 2 ^ n / 2 % 2
second-bit n q h = sym (field q 1 1) ∙ ap (λ (d : ℕ). d / 2) (sym (low_digit n q h)) ∙ field (q % 2 ^ n) 1 1

pub halved : (n : ℕ) → 1 ≤ n → 2 ^ n ≡ 2 * 2 ^ (n - 1)
halved n h = ap (λ (k : ℕ). 2 ^ k) (omega arith) ∙ pow-add 2 1 (n - 1)

pub sign_top : (n b : ℕ) → 1 ≤ n → sign_of n b ≡ 2 * (b % 2 ^ n) / 2 ^ n
sign_top n b h =
    let e : 1 + (n - 1) ≡ n = omega arith in
    let p : 2 ^ n ≡ 2 * 2 ^ (n - 1) = halved n h in
    sym (field b 1 (n - 1)) ∙ ap (λ (k : ℕ). b % 2 ^ k / 2 ^ (n - 1)) e
    ∙ sym (ap (λ (w : ℕ). 2 * (b % 2 ^ n) / w) p ∙ mul-div-mul_left (b % 2 ^ n) (2 ^ (n - 1)) (omega arith))

-- Z and N look at the selected bits alone
pub zero-low : (n x y : ℕ) → x % 2 ^ n ≡ y % 2 ^ n → zero_of n x ≡ zero_of n y
unfolding zero_of
zero-low n x y e = ap (λ (v : ℕ). flag (eqb v 0)) e

pub zero-sign-low : (n x y : ℕ) (s : Status) → 1 ≤ n → x % 2 ^ n ≡ y % 2 ^ n → zero_sign n x s ≡ zero_sign n y s
zero-sign-low n x y s h e = λ i. with_z (zero-low n x y e i) (with_n (sign i) s)
  where
    sign : sign_of n x ≡ sign_of n y
    sign = sign_top n x h ∙ ap (λ (v : ℕ). 2 * v / 2 ^ n) e ∙ sym (sign_top n y h)

-- the selected bits of a complement
pub not-cut : (n a : ℕ) → n ≤ 32 → a < 2 ^ 32 → not_of a % 2 ^ n ≡ (2 ^ n - 1) - a % 2 ^ n
not-cut n a h ha =
    let e : (32 - n) + n ≡ 32 = omega arith in
    let p : 2 ^ 32 ≡ 2 ^ (32 - n) * 2 ^ n = ap (λ (k : ℕ). 2 ^ k) (sym e) ∙ pow-add 2 (32 - n) n in
    let l : a % 2 ^ n < 2 ^ n = mod-lt a (pow_pos n) in
    let q : a / 2 ^ n < 2 ^ (32 - n) = shr_lt (32 - n) n (subst (λ (k : ℕ). a < 2 ^ k) (sym e) ha) in
    ap (λ (v : ℕ). v % 2 ^ n) (complement_parts (2 ^ (32 - n)) (2 ^ n) (2 ^ 32) a (a / 2 ^ n) (a % 2 ^ n) p (split a n) l q)
    ∙ low ((2 ^ (32 - n) - 1) - a / 2 ^ n) n (omega arith)

-- a sum, by the remainders of its parts
pub cut_sum : (W x y c k : ℕ) → (x + y + c) % W ≡ (x % W + y % W + c + k * W) % W
cut_sum W x y c k =
    ap (λ (v : ℕ). v % W) (shape W x y c (x / W) (y / W) (x % W) (y % W) (sym (div-add-mod' x W)) (sym (div-add-mod' y W)))
    ∙ mul-add-mod_self_right (x / W + y / W) W (x % W + y % W + c)
    ∙ sym (add-mul-mod_self_right (x % W + y % W + c) k W)
  where
    shape : (W x y c p q r s : ℕ) → x ≡ p * W + r → y ≡ q * W + s → x + y + c ≡ (p + q) * W + (r + s + c)
    shape W x y c p q r s e f = omega arith

-- w bytes: the byte code selects 8 w bits
pub bits_of_bytes : (w : ℕ) → 1 ≤ w → w ≤ 4 → selected (w % 4) ≡ 8 * w
bits_of_bytes zero h l = absurd (omega arith)
bits_of_bytes (suc zero) h l = refl
bits_of_bytes (suc (suc zero)) h l = refl
bits_of_bytes (suc (suc (suc zero))) h l = refl
bits_of_bytes (suc (suc (suc (suc zero)))) h l = refl
bits_of_bytes (suc (suc (suc (suc (suc w))))) h l = absurd (omega arith)

-- ---- what a sequence works on
pub record Work : Type 0 where
  pub B : ℕ
  pub Q : ℕ
  pub M : ℕ
  pub S : ℕ

abbrev pub view : ℕ → ℕ → State → Work
view n b t = record { B = read_at t.file b % 2 ^ n; Q = t.core.q % 2 ^ n; M = t.core.status.m; S = t.core.status.s }

abbrev pub before : ℕ → Inputs → Work
before n x = record { B = x.b % 2 ^ n; Q = x.q % 2 ^ n; M = x.status.m; S = x.status.s }

abbrev pub after : ℕ → Outputs → Work
after n o = record { B = o.y % 2 ^ n; Q = o.q % 2 ^ n; M = o.status.m; S = o.status.s }

-- an opcode acts on the selected bits as f, where fine holds of them and A is the word at the A input; the unselected bits of B go to Y and
-- those of Q stay. Of the status register the steady parts stay: steady is the register with the parts at zero that a sequence works with
pub record Acts (steady : Status → Status) (n A opcode : ℕ) (fine : Work → Type 0) (f : Work → Work) : Type 0 where
  pub sees : (x : Inputs) → bits_of x ≡ n → x.a ≡ A → fine (before n x) → after n (perform_of opcode x) ≡ f (before n x)
  pub above-y : (x : Inputs) → bits_of x ≡ n → (perform_of opcode x).y / 2 ^ n ≡ x.b / 2 ^ n
  pub above-q : (x : Inputs) → bits_of x ≡ n → (perform_of opcode x).q / 2 ^ n ≡ x.q / 2 ^ n
  pub stays : (x : Inputs) → steady (perform_of opcode x).status ≡ steady x.status

-- what holds at the number of selected bits and the word at the A input holds at n and A
pub carried : (x : Inputs) (n A : ℕ) → bits_of x ≡ n → x.a ≡ A → (P : ℕ → ℕ → Type 0) → P (bits_of x) x.a → P n A
carried x n A e ea P p = subst (λ (v : ℕ). P n v) ea (subst (λ (k : ℕ). P k x.a) e p)

pub carried_back : (x : Inputs) (n A : ℕ) → bits_of x ≡ n → x.a ≡ A → (P : ℕ → ℕ → Type 0) → P n A → P (bits_of x) x.a
carried_back x n A e ea P p = subst (λ (k : ℕ). P k x.a) (sym e) (subst (λ (v : ℕ). P n v) (sym ea) p)

-- an opcode's action for every number of selected bits at once; ok is what is asked of it and of the word at the A input
pub acts-from :
    (steady : Status → Status) (n A opcode : ℕ) (f : ℕ → ℕ → Work → Work) (ok : ℕ → ℕ → Type 0) (fine : Work → Type 0) → ok n A →
    ((x : Inputs) → ok (bits_of x) x.a → fine (before (bits_of x) x) → after (bits_of x) (perform_of opcode x) ≡ f (2 ^ bits_of x) (x.a % 2 ^ bits_of x) (before (bits_of x) x)) →
    ((x : Inputs) → (perform_of opcode x).y / 2 ^ bits_of x ≡ x.b / 2 ^ bits_of x) → ((x : Inputs) → (perform_of opcode x).q / 2 ^ bits_of x ≡ x.q / 2 ^ bits_of x) →
    ((x : Inputs) → steady (perform_of opcode x).status ≡ steady x.status) →
    Acts steady n A opcode fine (f (2 ^ n) (A % 2 ^ n))
acts-from steady n A opcode f ok fine h sees hy hq hs =
    record {
      sees =
          λ x e ea g.
          carried x n A e ea (λ k v. after k (perform_of opcode x) ≡ f (2 ^ k) (v % 2 ^ k) (before k x))
          (sees x (carried_back x n A e ea ok h) (carried_back x n A e ea (λ k v. fine (before k x)) g));
      above-y = λ x e. subst (λ (k : ℕ). (perform_of opcode x).y / 2 ^ k ≡ x.b / 2 ^ k) e (hy x);
      above-q = λ x e. subst (λ (k : ℕ). (perform_of opcode x).q / 2 ^ k ≡ x.q / 2 ^ k) e (hq x);
      stays = hs;
    }

pub untouched_then : (n b : ℕ) (t u v : State) → Untouched n b t u → Untouched n b u v → Untouched n b t v
untouched_then n b t u v p q =
    record {
      registers = q.registers ∙ p.registers;
      others = λ r e. q.others r e ∙ p.others r e;
      above-b = q.above-b ∙ p.above-b;
      above-q = q.above-q ∙ p.above-q;
    }

module _ (n code a b : ℕ) (bits : selected code ≡ n) (i : Ignored) (opcode : ℕ) (t : State) (hb : b < length t.file) where
  -- what a word leaves outside the selected bits
  pub word-rest :
      (perform_of opcode (inputs_of (word_of code a b opcode i) t)).y / 2 ^ n ≡ read_at t.file b / 2 ^ n →
      (perform_of opcode (inputs_of (word_of code a b opcode i) t)).q / 2 ^ n ≡ t.core.q / 2 ^ n →
      Untouched n b t (step_of (word_of code a b opcode i) t)
  unfolding step_of
  word-rest hy hq =
      record {
        registers = store_length t.file b _;
        others = λ r e. read-other t.file b _ r e;
        above-b = ap (λ (x : ℕ). x / 2 ^ n) (read_same t.file b _ hb) ∙ hy;
        above-q = hq;
      }

  -- the status register afterwards
  pub word-status : (step_of (word_of code a b opcode i) t).core.status ≡ (perform_of opcode (inputs_of (word_of code a b opcode i) t)).status
  unfolding step_of
  word-status = refl

  -- register b afterwards is Y
  pub word-y : read_at (step_of (word_of code a b opcode i) t).file b ≡ (perform_of opcode (inputs_of (word_of code a b opcode i) t)).y
  unfolding step_of
  word-y = read_same t.file b _ hb

  pub word-view : view n b (step_of (word_of code a b opcode i) t) ≡ after n (perform_of opcode (inputs_of (word_of code a b opcode i) t))
  unfolding step_of
  word-view = ap (λ (y : ℕ). record { B = y % 2 ^ n; Q = (perform_of opcode (inputs_of (word_of code a b opcode i) t)).q % 2 ^ n; M = (perform_of opcode (inputs_of (word_of code a b opcode i) t)).status.m; S = (perform_of opcode (inputs_of (word_of code a b opcode i) t)).status.s }) (read_same t.file b _ hb)

-- ---- a sequence from the state t₀, register a holding A
module _ (steady : Status → Status) (n code a b A : ℕ) (bits : selected code ≡ n) (ab : a ≢ b) (t₀ : State) (hA : read_at t₀.file a ≡ A) (hb : b < length t₀.file) where
  -- a state on the way: P holds of the selected bits, all else is as it was
  pub record Reached (P : Work → Type 0) (t : State) : Type 0 where
    pub rest : Untouched n b t₀ t
    pub stays : steady t.core.status ≡ steady t₀.core.status
    pub holds : P (view n b t)

  pub start : (P : Work → Type 0) → P (view n b t₀) → Reached P t₀
  start P h = record { rest = record { registers = refl; others = λ r e. refl; above-b = refl; above-q = refl }; stays = refl; holds = h }

  pub in_file : (t : State) → Untouched n b t₀ t → b < length t.file
  in_file t u = subst (λ (k : ℕ). b < k) (sym u.registers) hb

  pub next :
      (opcode : ℕ) (fine : Work → Type 0) (f : Work → Work) → Acts steady n A opcode fine f →
      (P R : Work → Type 0) → ((s : Work) → P s → fine s) → ((s : Work) → P s → R (f s)) →
      (i : Ignored) (t : State) → Reached P t → Reached R (step_of (word_of code a b opcode i) t)
  next opcode fine f acts P R g h i t p =
      record {
        rest =
            untouched_then n b t₀ t _ p.rest
            (word-rest n code a b bits i opcode t (in_file t p.rest)
            (acts.above-y (inputs_of (word_of code a b opcode i) t) bits) (acts.above-q (inputs_of (word_of code a b opcode i) t) bits));
        stays = ap steady (word-status n code a b bits i opcode t (in_file t p.rest)) ∙ acts.stays (inputs_of (word_of code a b opcode i) t) ∙ p.stays;
        holds =
            subst R
            (sym (word-view n code a b bits i opcode t (in_file t p.rest) ∙ acts.sees (inputs_of (word_of code a b opcode i) t) bits (p.rest.others a ab ∙ hA) (g (view n b t) p.holds)))
            (h (view n b t) p.holds);
      }

  -- a word repeated, P counting what is left of it, and then the others
  pub repeated :
      (opcode : ℕ) (fine : Work → Type 0) (f : Work → Work) → Acts steady n A opcode fine f →
      (P : ℕ → Work → Type 0) → ((k : ℕ) (s : Work) → P k s → fine s) → ((k : ℕ) (s : Work) → P (suc k) s → P k (f s)) →
      (opcodes : List ℕ) (End : State → Type 0) → ((ignored : ℕ → Ignored) (t : State) → Reached (P 0) t → End (execs (words_of code a b opcodes ignored) t)) →
      (k : ℕ) (ignored : ℕ → Ignored) (t : State) → Reached (P k) t → End (execs (words_of code a b (times k opcode opcodes) ignored) t)
  unfolding times words_of execs
  repeated opcode fine f acts P g h opcodes End end zero ignored t p = end ignored t p
  repeated opcode fine f acts P g h opcodes End end (suc k) ignored t p =
      repeated opcode fine f acts P g h opcodes End end k (λ j. ignored (suc j)) (step_of (word_of code a b opcode (ignored 0)) t)
      (next opcode fine f acts (P (suc k)) (P k) (g (suc k)) (h k) (ignored 0) t p)
