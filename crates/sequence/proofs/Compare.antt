-- SUB and SUBR compare, at every width and whatever the operands. N xor V is 'signed less than': the low bits say whether the sign bits are borrowed from,
-- and the rest is a table of two sign bits and that. C tells in either mode, once its switch is known, whether anything was borrowed, Z whether the
-- operands are the same; 'less or equal' is one of the two.
use mathlib.Core.Path.{◌≡◌, refl, sym, ap, ap₂, subst, ◌∙◌}
use mathlib.Core.Bool.{Bool, true, false}
use Prim.Native.Nat.{ℕ, suc, ◌+◌, ◌-◌, ◌*◌, ◌/◌, ◌%◌, ◌^◌, ◌≤◌, ◌<◌, max}
use native.Mathlib.Nat.{mod-lt, mod-eq_of_lt}
use native.Mathlib.Omega.{arith}
use lib.Dec.{ltb, leb, eqb, lit<}
use lib.IntN.{ℤ, pos, negsuc}
use lib.Signed.{lt_z, le_z}
use lib.Arith.{digits_div, digits_mod}
use lib.Pow.{pow_pos, pow-add, mod-pow-add}
use borrow.Author.Tests.{leb-true, leb-false, eqb-true, eqb-false, lt-ltb, le-ltb, le-leb, lt-leb, eq-eqb, ne_eqb}
use Rattle.bits.specs.Bits.{selected, choose, flag, xor, bit_of, sign_of, zero_of, not_of, carry_of, overflow_of}
use Rattle.bits.proofs.BitByBit.{bit-lt, by_flag, bit_not}
use Rattle.bits.proofs.Adder.{full_sum, full_carry}
use Rattle.bits.proofs.Bounds.{selected_bounds, flag-lt}
use Rattle.machine.specs.declared.Status.{Status}
use Rattle.machine.specs.declared.Inputs.{Inputs}
use Rattle.machine.specs.Status.{as_read}
use Rattle.machine.specs.Inputs.{bits_of, read_by, Sound}
use Rattle.machine.proofs.Kept.{bits-le}
use Rattle.arithmetic.specs.Arithmetic.{difference, SUB, SUBR}
use Rattle.arithmetic.proofs.Kept.{difference-kept}
use Rattle.fields.specs.BitManipulation.{EXTBIT-STAT}
use Rattle.chip.specs.declared.Word.{Word}
use Rattle.chip.specs.Glossary.{perform_of}
use Rattle.chip.specs.Lists.{State, inputs_of, shown_of, step_of}
use Rattle.sheet.specs.Sheet.{WordReady}
use Rattle.run.specs.Run.{Sane}
use Rattle.run.proofs.Laws.{word_sound}
use Rattle.sequence.specs.Signed.{signed}
use Rattle.sequence.specs.Compare.{unsigned_at_most, signed_less, Compared, Compares, Compares.by_SUB, Compares.by_SUBR, Picks}
use Rattle.sequence.proofs.Integers.{sub-less, signed_once, signed_same}
use Rattle.sequence.proofs.Lists.{not-cut}
use Rattle.sequence.proofs.Relational.{relational}
use Rattle.sequence.proofs.DivideNumbers.{operand_of}
use Rattle.sequence.proofs.SignedSteps.{low_sum}
use Rattle.sequence.proofs.SignedFlags.{xor-none}

-- ---- on numbers
-- two numbers by sign bit and low bits, where k says that nothing is borrowed from the sign bits
module _ (P la lb : ℕ) (ha : la < P) (hb : lb < P) where
  -- a number of sign bit x and low bits l, in an order with one of sign bit y: what y takes off the other is put onto this
  abbrev side : ℕ → ℕ → ℕ → ℕ
  side l x y = x * P + l + y * (2 * P)

  -- sign bits x and y: N xor V, beside the order of the numbers
  abbrev Row : ℕ → ℕ → ℕ → Type 0
  Row k x y = xor ((x + (1 - y) + k) % 2) (xor k ((x + (1 - y) + k) / 2)) ≡ flag (ltb (side la x y) (side lb y x))

  by_signs : (k : ℕ) → Row k 0 0 → Row k 0 1 → Row k 1 0 → Row k 1 1 → (x y : ℕ) → x < 2 → y < 2 → Row k x y
  by_signs k r₀ r₁ r₂ r₃ x y hx hy =
      by_flag (λ (x : ℕ). Row k x y) (by_flag (Row k 0) r₀ r₁ y hy) (by_flag (Row k 1) r₂ r₃ y hy) x hx

  is : (x y : ℕ) → side la x y < side lb y x → 1 ≡ flag (ltb (side la x y) (side lb y x))
  is x y h = sym (ap flag (lt-ltb _ _ h))

  is_not : (x y : ℕ) → side lb y x ≤ side la x y → 0 ≡ flag (ltb (side la x y) (side lb y x))
  is_not x y h = sym (ap flag (le-ltb _ _ h))

  table : (t : Bool) → leb lb la ≡ t → (x y : ℕ) → x < 2 → y < 2 → Row (flag t) x y
  table true e =
      let h : lb ≤ la = leb-true lb la e in
      by_signs 1 (is_not 0 0 (omega arith)) (is_not 0 1 (omega arith)) (is 1 0 (omega arith)) (is_not 1 1 (omega arith))
  table false e =
      let h : la < lb = leb-false lb la e in
      by_signs 0 (is 0 0 (omega arith)) (is_not 0 1 (omega arith)) (is 1 0 (omega arith)) (is 1 1 (omega arith))

  -- the carry out of the low bits of la - lb
  kept : (t : Bool) → leb lb la ≡ t → (la + ((P - 1) - lb) + 1) / P ≡ flag t
  kept true e =
      let h : lb ≤ la = leb-true lb la e in
      let shape : la + ((P - 1) - lb) + 1 ≡ 1 * P + (la - lb) = omega arith in
      ap (λ (v : ℕ). v / P) shape ∙ digits_div 1 (omega arith)
  kept false e =
      let h : la < lb = leb-false lb la e in
      let shape : la + ((P - 1) - lb) + 1 ≡ 0 * P + ((la + P) - lb) = omega arith in
      ap (λ (v : ℕ). v / P) shape ∙ digits_div 0 (omega arith)

-- the carry out of the low i bits of a - b
low-carry : (i a b : ℕ) → i ≤ 32 → b < 2 ^ 32 → carry_of i a (not_of b) 1 ≡ flag (leb (b % 2 ^ i) (a % 2 ^ i))
unfolding carry_of
low-carry i a b hi hb =
    ap (λ (v : ℕ). (a % 2 ^ i + v + 1) / 2 ^ i) (not-cut i b hi hb)
    ∙ kept (2 ^ i) (a % 2 ^ i) (b % 2 ^ i) (mod-lt a (pow_pos i)) (mod-lt b (pow_pos i)) (leb (b % 2 ^ i) (a % 2 ^ i)) refl

-- N xor V of a - b at 1 + i bits
less-numbers : (i a b : ℕ) → i < 32 → b < 2 ^ 32
    → xor (bit_of i (a + not_of b + 1)) (xor (carry_of i a (not_of b) 1) (carry_of (suc i) a (not_of b) 1))
    ≡ flag (ltb (bit_of i a * 2 ^ i + a % 2 ^ i + bit_of i b * (2 * 2 ^ i)) (bit_of i b * 2 ^ i + b % 2 ^ i + bit_of i a * (2 * 2 ^ i)))
less-numbers i a b hi hb =
    ap₂ (λ (f c : ℕ). xor f (xor (carry_of i a (not_of b) 1) c)) (full_sum i a (not_of b) 1) (full_carry i a (not_of b) 1)
    ∙ ap (λ (y : ℕ). xor ((bit_of i a + y + carry_of i a (not_of b) 1) % 2) (xor (carry_of i a (not_of b) 1) ((bit_of i a + y + carry_of i a (not_of b) 1) / 2))) (bit_not i b hi hb)
    ∙ ap (λ (k : ℕ). xor ((bit_of i a + (1 - bit_of i b) + k) % 2) (xor k ((bit_of i a + (1 - bit_of i b) + k) / 2))) (low-carry i a b (omega arith) hb)
    ∙ table (2 ^ i) (a % 2 ^ i) (b % 2 ^ i) (mod-lt a (pow_pos i)) (mod-lt b (pow_pos i)) (leb (b % 2 ^ i) (a % 2 ^ i)) refl (bit_of i a) (bit_of i b) (bit-lt i a) (bit-lt i b)

-- at n bits, as the definitions have it
less-bits : (n a b : ℕ) → 1 ≤ n → n ≤ 32 → b < 2 ^ 32 → xor (sign_of n (a + not_of b + 1)) (overflow_of n a (not_of b) 1) ≡ signed_less n a b
unfolding overflow_of
less-bits n a b h l hb =
    ap (λ (k : ℕ). xor (sign_of n (a + not_of b + 1)) (xor (carry_of (n - 1) a (not_of b) 1) (carry_of k a (not_of b) 1))) (omega arith)
    ∙ less-numbers (n - 1) a b (omega arith) hb
    ∙ sym (ap flag (sub-less (a % 2 ^ n) (sign_of n a * 2 ^ n) (b % 2 ^ n) (sign_of n b * 2 ^ n) ∙ ap₂ ltb (parts a b) (parts b a)))
  where
    parts : (x y : ℕ) → x % 2 ^ n + sign_of n y * 2 ^ n ≡ sign_of n x * 2 ^ (n - 1) + x % 2 ^ (n - 1) + sign_of n y * (2 * 2 ^ (n - 1))
    parts x y =
        ap (λ (k : ℕ). x % 2 ^ k + sign_of n y * 2 ^ k) (omega arith)
        ∙ ap₂ (λ (v w : ℕ). v + sign_of n y * w) (mod-pow-add x 1 (n - 1)) (pow-add 2 1 (n - 1))

-- ---- Z and C, and less or equal by them
-- two numbers in their order
data Order (A B : ℕ) : Type 0 where
  less : A < B → Order A B
  same : A ≡ B → Order A B
  more : B < A → Order A B

order : (A B : ℕ) → Order A B
order A B = go (leb B A) refl (eqb A B) refl
  where
    go : (t : Bool) → leb B A ≡ t → (u : Bool) → eqb A B ≡ u → Order A B
    go false e u f = less (leb-false B A e)
    go true e true f = same (eqb-true A B f)
    go true e false f = let h : B ≤ A = leb-true B A e in let d : A ≡ B → ⊥ = eqb-false A B f in more (omega arith)

-- Z of a - b at n bits: whether the selected bits are the same
zero_bits : (n a b : ℕ) → n ≤ 32 → b < 2 ^ 32 → zero_of n (a + not_of b + 1) ≡ flag (eqb (a % 2 ^ n) (b % 2 ^ n))
unfolding zero_of operand_of
zero_bits n a b l hb =
    ap (λ (v : ℕ). flag (eqb v 0)) (low_sum n b a 1 l hb (lit< tt))
    ∙ ap flag (go (2 ^ n) (a % 2 ^ n) (b % 2 ^ n) (mod-lt a (pow_pos n)) (mod-lt b (pow_pos n)) (order (a % 2 ^ n) (b % 2 ^ n)))
  where
    go : (P A B : ℕ) → A < P → B < P → Order A B → eqb ((A + (P - B)) % P) 0 ≡ eqb A B
    go P A B hA hB (less h) =
        ap (λ (v : ℕ). eqb v 0) (mod-eq_of_lt {m = P} (omega arith)) ∙ ne_eqb (A + (P - B)) 0 (λ e. omega arith) ∙ sym (ne_eqb A B (λ e. omega arith))
    go P A B hA hB (same e) =
        ap (λ (v : ℕ). eqb v 0) (ap (λ (v : ℕ). v % P) (omega arith) ∙ digits_mod 1 {m = P} {r = 0} (omega arith)) ∙ sym (eq-eqb A B e)
    go P A B hA hB (more h) =
        ap (λ (v : ℕ). eqb v 0) (ap (λ (v : ℕ). v % P) (omega arith) ∙ digits_mod 1 {m = P} {r = A - B} (omega arith)) ∙ ne_eqb (A - B) 0 (λ e. omega arith) ∙ sym (ne_eqb A B (λ e. omega arith))

-- unsigned: something borrowed, or the same
at_most : (A B : ℕ) → max (1 - flag (leb B A)) (flag (eqb A B)) ≡ flag (leb A B)
at_most A B = go (order A B)
  where
    go : Order A B → max (1 - flag (leb B A)) (flag (eqb A B)) ≡ flag (leb A B)
    go (less h) = rw (lt-leb B A h, ne_eqb A B (λ e. omega arith), le-leb A B (omega arith)) refl
    go (same e) = rw (le-leb B A (omega arith), eq-eqb A B e, le-leb A B (omega arith)) refl
    go (more h) = rw (le-leb B A (omega arith), ne_eqb A B (λ e. omega arith), lt-leb A B h) refl

-- signed: less, or the same
at_most_signed : (y z : ℤ) (t : Bool) → (t ≡ true → y ≡ z) → (t ≡ false → y ≡ z → ⊥) → max (flag (lt_z y z)) (flag t) ≡ flag (le_z y z)
at_most_signed y z true f g = subst (λ (v : ℤ). max (flag (lt_z y v)) 1 ≡ flag (le_z y v)) (f refl) (itself y)
  where
    equal : (a : ℕ) → max (flag (ltb a a)) 1 ≡ flag (leb a a)
    equal a = rw (le-ltb a a (omega arith), le-leb a a (omega arith)) refl

    itself : (y : ℤ) → max (flag (lt_z y y)) 1 ≡ flag (le_z y y)
    itself (pos a) = equal a
    itself (negsuc a) = equal a
at_most_signed y z false f g = apart y z (g refl)
  where
    by_order : (a b : ℕ) → (a ≡ b → ⊥) → Order a b → max (flag (ltb a b)) 0 ≡ flag (leb a b)
    by_order a b d (less h) = rw (lt-ltb a b h, le-leb a b (omega arith)) refl
    by_order a b d (same e) = absurd (d e)
    by_order a b d (more h) = rw (le-ltb a b (omega arith), lt-leb a b h) refl

    apart : (y z : ℤ) → (y ≡ z → ⊥) → max (flag (lt_z y z)) 0 ≡ flag (le_z y z)
    apart (pos a) (pos b) d = by_order a b (λ e. d (ap pos e)) (order a b)
    apart (pos a) (negsuc b) d = refl
    apart (negsuc a) (pos b) d = refl
    apart (negsuc a) (negsuc b) d = by_order b a (λ e. d (ap negsuc (sym e))) (order b a)

-- ---- on the chip
-- p - r at the selected bits, nothing borrowed before
module _ (x : Inputs) (sound : Sound x) (q : x.q < 2 ^ 32) (p r u : ℕ) (hr : r < 2 ^ 32) (hu : u < 2 ^ 32) where
  abbrev n : ℕ
  n = bits_of x

  n_pos : 1 ≤ n
  n_pos = let w : 8 ≤ n = (selected_bounds x.code sound.code).0 in omega arith

  n-le : n ≤ 32
  n-le = bits-le x sound

  abbrev left : Status
  left = (difference x p r 1 u).status

  carried : carry_of n p (not_of r) 1 ≡ flag (leb (r % 2 ^ n) (p % 2 ^ n))
  carried = low-carry n p r n-le hr

  -- in borrow mode C is 1 where something is borrowed, in carry mode where nothing is
  unsigned : (borrow k z : ℕ) → borrow < 2 → k < 2 → choose borrow (max (1 - xor k borrow) z) (max (xor k borrow) z) ≡ max (1 - k) z
  unsigned borrow k z hb hk =
      by_flag (λ (f : ℕ). choose f (max (1 - xor k f) z) (max (xor k f) z) ≡ max (1 - k) z)
      (ap (λ (v : ℕ). max (1 - v) z) (omega arith)) (ap (λ (v : ℕ). max v z) (omega arith)) borrow hb

  compared : Compared n p r (read_by x left)
  unfolding difference
  compared =
      let bits = relational x.borrow left (difference-kept x sound q p r 1 u hu).status in
      record {
        unsigned-le =
            bits.0
            ∙ unsigned x.borrow (carry_of n p (not_of r) 1) (zero_of n (p + not_of r + 1)) sound.borrow (subst (λ (v : ℕ). v < 2) (sym carried) (flag-lt (leb (r % 2 ^ n) (p % 2 ^ n))))
            ∙ ap₂ (λ (k z : ℕ). max (1 - k) z) carried (zero_bits n p r n-le hr)
            ∙ at_most (p % 2 ^ n) (r % 2 ^ n);
        signed_lt = bits.1 ∙ less-bits n p r n_pos n-le hr;
        signed_le =
            bits.2
            ∙ ap₂ max (less-bits n p r n_pos n-le hr) (zero_bits n p r n-le hr)
            ∙ at_most_signed (signed n p) (signed n r) (eqb (p % 2 ^ n) (r % 2 ^ n))
            (λ e. signed_same n p r n_pos (eqb-true _ _ e)) (λ e d. eqb-false _ _ e (signed_once n p r n_pos d));
      }

-- COMPARE. SUB compares A with B, and SUBR B with A, on one to four bytes and in either mode: the first operand is less than or equal to the second as
-- unsigned numbers exactly where bit 13 is 1, less than it as signed numbers where bit 14 is, less than or equal to it where bit 15 is.
module _ (x : Inputs) (sound : Sound x) (a : x.a < 2 ^ 32) (b : x.b < 2 ^ 32) (q : x.q < 2 ^ 32) where
  pub compare_exact : Compared (bits_of x) x.a x.b (read_by x (SUB x).status)
  compare_exact = compared x sound q x.a x.b x.b b b

  pub compare_reverse_exact : Compared (bits_of x) x.b x.a (read_by x (SUBR x).status)
  compare_reverse_exact = compared x sound q x.b x.a x.b a b

-- ---- as words of a sheet
module _ {m : ℕ} (w : Word) (t : State) (fits : WordReady m w) (sane : Sane t) where
  abbrev x : Inputs
  x = inputs_of w t

  sound : Sound x
  sound = word_sound m w t fits sane.status

  pub word_compares : {a b : ℕ} → Compares w t a b → Compared (selected w.code) a b (as_read w.borrow (step_of w t).core.status)
  unfolding step_of perform_of
  word_compares (by_SUB e) = rw e (compare_exact x sound (sane.file w.a) (sane.file w.b) sane.q)
  word_compares (by_SUBR e) = rw e (compare_reverse_exact x sound (sane.file w.a) (sane.file w.b) sane.q)

  -- EXTBIT-STAT of bit 13 with the same switch brings that to bit 0 of Y, and to L
  module _ (v : Word) {a b : ℕ} (c : Compares w t a b) (p : Picks w.borrow v) where
    bit : xor (bit_of 13 (as_read w.borrow (step_of w t).core.status)) 0 ≡ unsigned_at_most (selected w.code) a b
    bit = ap (λ (f : ℕ). xor f 0) (word_compares c).unsigned-le ∙ xor-none (unsigned_at_most (selected w.code) a b) (flag-lt (leb (a % 2 ^ selected w.code) (b % 2 ^ selected w.code)))

    pub word_picks : (shown_of v (step_of w t)).y ≡ unsigned_at_most (selected w.code) a b
    unfolding perform_of EXTBIT-STAT
    word_picks = rw (p.opcode, p.code, p.position, p.mode) bit

    pub word_links : (step_of v (step_of w t)).core.status.l ≡ unsigned_at_most (selected w.code) a b
    unfolding step_of perform_of EXTBIT-STAT
    word_links = rw (p.opcode, p.code, p.position, p.mode) bit
