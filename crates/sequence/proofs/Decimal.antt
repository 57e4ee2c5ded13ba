-- Decimal sums and differences come out exact on registers.
use mathlib.Core.Path.{◌≡◌, refl, sym, ap, ◌∙◌, subst}
use mathlib.Core.List.{List, [], ◌∷◌}
use Prim.Native.Nat.{ℕ, zero, suc, ◌+◌, ◌-◌, ◌*◌, ◌/◌, ◌%◌, ◌^◌, ◌≤◌, ◌<◌}
use native.Mathlib.Omega.{arith}
use lib.ListN.{length}
use Rattle.bits.specs.Bits.{selected, choose, xor, bit_of, merged, not_of}
use Rattle.bits.proofs.BitByBit.{bit-lt}
use Rattle.bits.proofs.Bounds.{selected_bounds}
use Rattle.machine.specs.declared.Inputs.{Inputs}
use Rattle.machine.specs.declared.Outputs.{Outputs}
use Rattle.machine.specs.Status.{with_c, with_v, with_nibbles}
use Rattle.machine.specs.Inputs.{carry_in, zero_sign, Sound}
use Rattle.arithmetic.specs.Nibbles.{nibble_carries, nibble_borrows}
use Rattle.arithmetic.specs.Arithmetic.{sum, difference, borrow_in}
use Rattle.arithmetic.specs.Decimal.{sum_correct, diff_correct}
use Rattle.chip.specs.Glossary.{perform_of}
use Rattle.chip.specs.Lists.{State, state, read_at, store_at, inputs_of, step_of, execs}
use Rattle.sequence.specs.Decimal.{Digits, value, decimal_carry, decimal_borrow, DecimalOperation, additions, subtractions, Side, Side.at_A, Side.at_B, Layout, word_with, calculation, correction_at, sum_words, difference_words, selected_bits, selected_digits, facing, OfDigits, Elsewhere, DecimalSum, DecimalDifference, Summed, TakenAway, SumExact, DifferenceExact, Each}
use Rattle.chip.proofs.Files.{store_length, read_same, read-other}
use Rattle.sequence.proofs.Lists.{merged-low, merged-high, zero-sign-low}
use Rattle.sequence.proofs.DecimalNumbers.{SumCorrected, DiffCorrected, borrow_is, digits-fewer}
use Rattle.sequence.proofs.DecimalWords.{sum-at, difference-at}

-- ---- the two words on registers
-- what the first word leaves, from its outputs
abbrev left : Layout → Outputs → State → State
left d o t = state (store_at t.file d.y o.y) (record { q = o.q; status = o.status })

-- what stands at the chip for the correction, but for the side at which it takes the word to correct
abbrev facing₂ : Layout → State → Inputs
facing₂ d v = inputs_of (word_with d 0 d.y d.other d.z d.fields₂) v

-- what a correction f leaves
abbrev fixed : Layout → (Inputs → ℕ → Outputs) → State → State
fixed d f v =
    let o : Outputs = f (facing₂ d v) (read_at v.file d.y) in
    state (store_at v.file d.z o.y) (record { q = o.q; status = o.status })

calculated : (opcode : ℕ) (d : Layout) (t : State) → step_of (calculation opcode d) t ≡ left d (perform_of opcode (inputs_of (calculation opcode d) t)) t
unfolding step_of
calculated opcode d t = refl

sum-fixed : (side : Side) (d : Layout) (v : State) → step_of (correction_at side 0x48 d) v ≡ fixed d sum_correct v
unfolding step_of perform_of sum_correct
sum-fixed at_A d v = refl
sum-fixed at_B d v = refl

difference-fixed : (side : Side) (d : Layout) (v : State) → step_of (correction_at side 0x4a d) v ≡ fixed d diff_correct v
unfolding step_of perform_of diff_correct
difference-fixed at_A d v = refl
difference-fixed at_B d v = refl

module _ (d : Layout) (t : State) (hy : d.y < length t.file) (hz : d.z < length t.file) (o : Outputs) (f : Inputs → ℕ → Outputs) where
  abbrev after₁ : State
  after₁ = left d o t

  abbrev after₂ : State
  after₂ = fixed d f (left d o t)

  taken : read_at (left d o t).file d.y ≡ o.y
  taken = read_same t.file d.y o.y hy

  given : read_at after₂.file d.z ≡ (f (facing₂ d after₁) o.y).y
  given =
      read_same after₁.file d.z _ (subst (λ (k : ℕ). d.z < k) (sym (store_length t.file d.y o.y)) hz)
      ∙ ap (λ (s : ℕ). (f (facing₂ d after₁) s).y) taken

  -- the selected bits of register z are those of the value r that f leaves there
  given-low : (n r : ℕ) → ((f (facing₂ d after₁) o.y).y ≡ merged n r o.y) → read_at after₂.file d.z % 2 ^ n ≡ r % 2 ^ n
  given-low n r e = ap (λ (v : ℕ). v % 2 ^ n) (given ∙ e) ∙ merged-low n r o.y

  elsewhere : (n passing : ℕ) → after₂.core.q ≡ t.core.q → (f (facing₂ d after₁) o.y).y / 2 ^ n ≡ passing / 2 ^ n → Elsewhere n d.y d.z passing t after₂
  elsewhere n passing hq ha =
      record {
        registers = store_length after₁.file d.z _ ∙ store_length t.file d.y o.y;
        others = λ r ey ez. read-other after₁.file d.z _ r ez ∙ read-other t.file d.y o.y r ey;
        q = hq;
        above = ap (λ (v : ℕ). v / 2 ^ n) given ∙ ha;
      }

-- the digits of a byte code: two, four, six or eight, of four bits each
module _ (d : Layout) (code : d.code < 4) where
  four : selected_bits d ≡ 4 * selected_digits d
  four = go d.code
    where
      go : (c : ℕ) → selected c ≡ 4 * (selected c / 4)
      go zero = refl
      go (suc c) = omega arith

  two : 2 ≤ selected_digits d
  two = let h : 8 ≤ selected_bits d = (selected_bounds d.code code).0 in omega arith

  eight : selected_digits d ≤ 8
  eight = let h : selected_bits d ≤ 32 = (selected_bounds d.code code).1 in omega arith

  -- the same without the top digit
  four-less : selected_bits d - 4 ≡ 4 * (selected_digits d - 1)
  four-less = let h : selected_bits d ≡ 4 * selected_digits d = four in omega arith

  next_place : (selected_bits d - 4) - 4 ≡ selected_bits d - 8
  next_place = omega arith

-- ---- additions
-- an operation that is a sum of its operands
record IsSum (o : DecimalOperation) : Type 0 where
  inverted : Inputs → ℕ
  is : (x : Inputs) → perform_of o.opcode x ≡ sum x (o.first x) (o.second x) (o.third x) (inverted x) (o.passing x)
  flagged : (x : Inputs) → Sound x → o.third x < 2

module _ (o : DecimalOperation) (s : IsSum o) (d : Layout) (t : State) (hy : d.y < length t.file) (hz : d.z < length t.file)
    (sound : Sound (facing o d t)) (v : OfDigits o d t) where
  abbrev x : Inputs
  x = facing o d t

  abbrev n : ℕ
  n = selected_bits d

  abbrev k : ℕ
  k = selected_digits d

  abbrev out : Outputs
  out = sum x (o.first x) (o.second x) (o.third x) (s.inverted x) (o.passing x)

  abbrev carries : ℕ
  carries = nibble_carries 8 (o.first x) (o.second x) (o.third x)

  abbrev Y : ℕ
  Y = merged n (o.first x + o.second x + o.third x) (o.passing x)

  numbers : SumCorrected k (o.third x) (o.first x) (o.second x) (merged n (Y + 6 * carries) Y) (bit_of (n - 4) carries)
  numbers =
      let h : 2 ≤ k = two d sound.code in
      sum-at k n (o.first x) (o.second x) (o.third x) (o.passing x) (omega arith) (eight d sound.code) (four d sound.code) (s.flagged x sound) v.0 v.1

  -- the carry into the top digit
  next : bit_of (n - 8) carries ≡ decimal_carry (k - 1) (o.first x) (o.second x) (o.third x)
  next =
      let h : 2 ≤ k = two d sound.code in
      let h8 : k ≤ 8 = eight d sound.code in
      ap (λ (i : ℕ). bit_of i carries) (sym (next_place d sound.code))
      ∙ (sum-at (k - 1) (n - 4) (o.first x) (o.second x) (o.third x) (o.passing x) (omega arith) (omega arith) (four-less d sound.code) (s.flagged x sound)
      (digits-fewer (k - 1) k _ (omega arith) v.0) (digits-fewer (k - 1) k _ (omega arith) v.1)).carry

  abbrev end : State
  end = fixed d sum_correct (left d out t)

  run_is : execs (sum_words o d) t ≡ end
  unfolding execs
  run_is = sum-fixed d.side d _ ∙ ap (fixed d sum_correct) (calculated o.opcode d t ∙ ap (λ (p : Outputs). left d p t) (s.is x))

  -- Z and N
  of_digits : zero_sign n (read_at (left d out t).file d.y + 6 * carries) t.core.status ≡ zero_sign (4 * k) (read_at end.file d.z) t.core.status
  unfolding sum sum_correct
  of_digits =
      let h : 2 ≤ k = two d sound.code in
      zero-sign-low n _ _ t.core.status (omega arith)
      (ap (λ (y : ℕ). (y + 6 * carries) % 2 ^ n) (taken d t hy hz out sum_correct) ∙ sym (given-low d t hy hz out sum_correct n (Y + 6 * carries) refl))
      ∙ ap (λ (i : ℕ). zero_sign i (read_at end.file d.z) t.core.status) (four d sound.code)

  summed : DecimalSum k d.z (o.first x) (o.second x) (o.third x) t end
  unfolding sum sum_correct
  summed =
      record {
        digits = subst (λ (y : ℕ). Digits k y) (sym (given d t hy hz out sum_correct)) numbers.valid;
        sum = ap (λ (y : ℕ). value k y) (given d t hy hz out sum_correct) ∙ numbers.sum;
        status = λ i. with_nibbles carries (with_v (xor (numbers.carry i) (next i)) (with_c (numbers.carry i) (of_digits i)));
      }

  summed_elsewhere : Elsewhere n d.y d.z (o.passing x) t end
  unfolding sum sum_correct
  summed_elsewhere = elsewhere d t hy hz out sum_correct n (o.passing x) refl (merged-high n _ _ ∙ merged-high n _ (o.passing x))

  sum_exact_of : Summed o d t (execs (sum_words o d) t)
  sum_exact_of = subst (Summed o d t) (sym run_is) (summed, summed_elsewhere)

-- ---- subtractions
-- an operation that is a difference of its operands; entering is the carry into the adder
record IsDifference (o : DecimalOperation) : Type 0 where
  entering : Inputs → ℕ
  is : (x : Inputs) → perform_of o.opcode x ≡ difference x (o.first x) (o.second x) (entering x) (o.passing x)
  third_is : (x : Inputs) → 1 - entering x ≡ o.third x
  flagged : (x : Inputs) → Sound x → entering x < 2
  a_word : (x : Inputs) → x.a < 2 ^ 32 → x.b < 2 ^ 32 → o.second x < 2 ^ 32

module _ (o : DecimalOperation) (s : IsDifference o) (d : Layout) (t : State) (hy : d.y < length t.file) (hz : d.z < length t.file)
    (sound : Sound (facing o d t)) (ha : read_at t.file d.a < 2 ^ 32) (hb : read_at t.file d.b < 2 ^ 32) (v : OfDigits o d t) where
  abbrev xₛ : Inputs
  xₛ = facing o d t

  abbrev nₛ : ℕ
  nₛ = selected_bits d

  abbrev kₛ : ℕ
  kₛ = selected_digits d

  abbrev c : ℕ
  c = s.entering (facing o d t)

  abbrev borrows : ℕ
  borrows = nibble_borrows 8 (o.first xₛ) (o.second xₛ) (1 - s.entering xₛ)

  abbrev outₛ : Outputs
  outₛ = difference xₛ (o.first xₛ) (o.second xₛ) (s.entering xₛ) (o.passing xₛ)

  abbrev Yₛ : ℕ
  Yₛ = merged nₛ (o.first xₛ + not_of (o.second xₛ) + c) (o.passing xₛ)

  numbersₛ : DiffCorrected kₛ (1 - c) (o.first xₛ) (o.second xₛ) (merged nₛ (Yₛ + not_of (6 * borrows) + 1) Yₛ) (bit_of (nₛ - 4) borrows)
  numbersₛ =
      let h : 2 ≤ kₛ = two d sound.code in
      difference-at kₛ nₛ (o.first xₛ) (o.second xₛ) c (o.passing xₛ) (omega arith) (eight d sound.code) (four d sound.code) (s.flagged xₛ sound) v.0 v.1 (s.a_word xₛ ha hb)

  -- the borrow out of the top digit, and the one from it
  topₛ : bit_of (nₛ - 4) borrows ≡ decimal_borrow kₛ (o.first xₛ) (o.second xₛ) (1 - c)
  topₛ = borrow_is kₛ (1 - c) (o.first xₛ) (o.second xₛ) _ _ (bit-lt (nₛ - 4) borrows) numbersₛ

  nextₛ : bit_of (nₛ - 8) borrows ≡ decimal_borrow (kₛ - 1) (o.first xₛ) (o.second xₛ) (1 - c)
  nextₛ =
      let h : 2 ≤ kₛ = two d sound.code in
      let h8 : kₛ ≤ 8 = eight d sound.code in
      ap (λ (i : ℕ). bit_of i borrows) (sym (next_place d sound.code))
      ∙ borrow_is (kₛ - 1) (1 - c) (o.first xₛ) (o.second xₛ) _ _ (bit-lt ((nₛ - 4) - 4) borrows)
      (difference-at (kₛ - 1) (nₛ - 4) (o.first xₛ) (o.second xₛ) c (o.passing xₛ) (omega arith) (omega arith) (four-less d sound.code) (s.flagged xₛ sound)
      (digits-fewer (kₛ - 1) kₛ _ (omega arith) v.0) (digits-fewer (kₛ - 1) kₛ _ (omega arith) v.1) (s.a_word xₛ ha hb))

  abbrev endₛ : State
  endₛ = fixed d diff_correct (left d outₛ t)

  run_isₛ : execs (difference_words o d) t ≡ endₛ
  unfolding execs
  run_isₛ = difference-fixed d.side d _ ∙ ap (fixed d diff_correct) (calculated o.opcode d t ∙ ap (λ (p : Outputs). left d p t) (s.is xₛ))

  -- Z and N
  of-digitsₛ :
      zero_sign nₛ (read_at (left d outₛ t).file d.y + not_of (6 * borrows) + 1) t.core.status
      ≡ zero_sign (4 * kₛ) (read_at endₛ.file d.z) t.core.status
  unfolding difference diff_correct
  of-digitsₛ =
      let h : 2 ≤ kₛ = two d sound.code in
      zero-sign-low nₛ _ _ t.core.status (omega arith)
      (ap (λ (y : ℕ). (y + not_of (6 * borrows) + 1) % 2 ^ nₛ) (taken d t hy hz outₛ diff_correct) ∙ sym (given-low d t hy hz outₛ diff_correct nₛ (Yₛ + not_of (6 * borrows) + 1) refl))
      ∙ ap (λ (i : ℕ). zero_sign i (read_at endₛ.file d.z) t.core.status) (four d sound.code)

  taken_away : DecimalDifference kₛ d.z (o.first xₛ) (o.second xₛ) (1 - c) d.borrow t endₛ
  unfolding difference diff_correct
  taken_away =
      record {
        digits = subst (λ (y : ℕ). Digits kₛ y) (sym (given d t hy hz outₛ diff_correct)) numbersₛ.valid;
        difference = ap (λ (y : ℕ). value kₛ y) (given d t hy hz outₛ diff_correct) ∙ numbersₛ.difference;
        balance =
            ap (λ (y : ℕ). value kₛ y + value kₛ (o.second xₛ) + (1 - c)) (given d t hy hz outₛ diff_correct) ∙ numbersₛ.balance
            ∙ ap (λ (w : ℕ). value kₛ (o.first xₛ) + 10 ^ kₛ * w) topₛ;
        status = λ i. with_nibbles borrows (with_v (xor (topₛ i) (nextₛ i)) (with_c (1 - xor (topₛ i) d.borrow) (of-digitsₛ i)));
      }

  taken_elsewhere : Elsewhere nₛ d.y d.z (o.passing xₛ) t endₛ
  unfolding difference diff_correct
  taken_elsewhere = elsewhere d t hy hz outₛ diff_correct nₛ (o.passing xₛ) refl (merged-high nₛ _ _ ∙ merged-high nₛ _ (o.passing xₛ))

  difference_exact_of : TakenAway o d t (execs (difference_words o d) t)
  difference_exact_of =
      subst (TakenAway o d t) (sym run_isₛ)
      (subst (λ (b : ℕ). DecimalDifference kₛ d.z (o.first xₛ) (o.second xₛ) b d.borrow t endₛ) (s.third_is xₛ) taken_away, taken_elsewhere)

-- ---- the tables
pub each : {P Q : DecimalOperation → Type 0} → ((o : DecimalOperation) → P o → Q o) → (os : List DecimalOperation) → Each P os → Each Q os
each f [] e = tt
each f (o ∷ os) e = (f o e.0, each f os e.1)

choose-lt : (f a b : ℕ) → a < 2 → b < 2 → choose f a b < 2
choose-lt zero a b ha hb = ha
choose-lt (suc f) a b ha hb = hb

carry_in-lt : (x : Inputs) → Sound x → carry_in x < 2
carry_in-lt x s = choose-lt x.select x.status.c x.carry s.status.c s.carry

borrow_in-lt : (x : Inputs) → borrow_in x < 2
borrow_in-lt x = omega arith

sums_are : Each IsSum additions
unfolding perform_of
sums_are = (
  record { inverted = λ x. x.borrow; is = λ x. refl; flagged = λ x s. omega arith },
  (
    record { inverted = λ x. x.borrow; is = λ x. refl; flagged = λ x s. omega arith },
    (
      record { inverted = λ x. x.borrow; is = λ x. refl; flagged = λ x s. omega arith },
      (
        record { inverted = λ x. x.borrow; is = λ x. refl; flagged = λ x s. omega arith },
        (
          record { inverted = λ x. x.borrow; is = λ x. refl; flagged = λ x s. omega arith },
          (
            record { inverted = λ x. x.borrow; is = λ x. refl; flagged = λ x s. omega arith },
            (
              record { inverted = λ x. 0; is = λ x. refl; flagged = λ x s. omega arith },
              (
                record { inverted = λ x. 0; is = λ x. refl; flagged = carry_in-lt },
                tt,
              ),
            ),
          ),
        ),
      ),
    ),
  ),
)

small : (k : ℕ) → k < 5 → k < 2 ^ 32
small k h = omega arith

differences_are : Each IsDifference subtractions
unfolding perform_of
differences_are = (
  record { entering = λ x. 1; is = λ x. refl; third_is = λ x. refl; flagged = λ x s. omega arith; a_word = λ x ha hb. ha },
  (
    record { entering = λ x. 1; is = λ x. refl; third_is = λ x. refl; flagged = λ x s. omega arith; a_word = λ x ha hb. hb },
    (
      record { entering = λ x. 1; is = λ x. refl; third_is = λ x. refl; flagged = λ x s. omega arith; a_word = λ x ha hb. small 1 (omega arith) },
      (
        record { entering = λ x. 1; is = λ x. refl; third_is = λ x. refl; flagged = λ x s. omega arith; a_word = λ x ha hb. small 1 (omega arith) },
        (
          record { entering = λ x. 1; is = λ x. refl; third_is = λ x. refl; flagged = λ x s. omega arith; a_word = λ x ha hb. small 2 (omega arith) },
          (
            record { entering = λ x. 1; is = λ x. refl; third_is = λ x. refl; flagged = λ x s. omega arith; a_word = λ x ha hb. small 2 (omega arith) },
            (
              record { entering = λ x. 1; is = λ x. refl; third_is = λ x. refl; flagged = λ x s. omega arith; a_word = λ x ha hb. small 4 (omega arith) },
              (
                record { entering = λ x. 1; is = λ x. refl; third_is = λ x. refl; flagged = λ x s. omega arith; a_word = λ x ha hb. small 4 (omega arith) },
                (
                  record { entering = λ x. 1; is = λ x. refl; third_is = λ x. refl; flagged = λ x s. omega arith; a_word = λ x ha hb. hb },
                  (
                    record { entering = borrow_in; is = λ x. refl; third_is = λ x. refl; flagged = λ x s. borrow_in-lt x; a_word = λ x ha hb. hb },
                    (
                      record { entering = λ x. 1; is = λ x. refl; third_is = λ x. refl; flagged = λ x s. omega arith; a_word = λ x ha hb. ha },
                      (
                        record { entering = borrow_in; is = λ x. refl; third_is = λ x. refl; flagged = λ x s. borrow_in-lt x; a_word = λ x ha hb. ha },
                        tt,
                      ),
                    ),
                  ),
                ),
              ),
            ),
          ),
        ),
      ),
    ),
  ),
)

-- DECIMAL SUMS. Each addition of the table, followed by SUM-CORR of its Y with the same byte code, on one to four bytes, gives the decimal sum
-- of its operands and carry in where their selected nibbles are digits: the corrected word's digits are that sum modulo 10 to their number, C is
-- the decimal carry, and V, Z, N and the nibble bits are as `summed_status` has them; position, width, L, M and S, Q, the unselected bytes, and every
-- register that neither word writes are as before.
pub decimal_sums_exact : Each SumExact additions
decimal_sums_exact = each (λ o s. sum_exact_of o s) additions sums_are

-- DECIMAL DIFFERENCES. Each subtraction of the table, followed by DIFF-CORR of its Y with the same byte code and borrow switch, gives the
-- decimal difference likewise; C tells what is borrowed, and the status register is as `taken_away_status` has it.
pub decimal_differences_exact : Each DifferenceExact subtractions
decimal_differences_exact = each (λ o s. difference_exact_of o s) subtractions differences_are
