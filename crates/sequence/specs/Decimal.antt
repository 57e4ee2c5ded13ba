-- Decimal sums and differences: an addition or a subtraction, then at once the matching correction of its Y, on one to four bytes.
use Rattle.std.specs.Prelude.{◌≡◌, ◌≢◌, List, [], ◌∷◌, ℕ, zero, suc, ◌+◌, ◌-◌, ◌*◌, ◌/◌, ◌%◌, ◌^◌, ◌<◌, length, ltb}
use Rattle.bits.specs.Bits.{selected, flag, xor}
use Rattle.machine.specs.declared.Status.{Status}
use Rattle.machine.specs.declared.Inputs.{Inputs}
use Rattle.machine.specs.Status.{with_c, with_v, with_nibbles}
use Rattle.machine.specs.Inputs.{carry_in, zero_sign, Sound}
use Rattle.arithmetic.specs.Nibbles.{nibble_carries, nibble_borrows}
use Rattle.arithmetic.specs.Arithmetic.{borrow_in}
use Rattle.chip.specs.declared.Word.{Word}
use Rattle.chip.specs.Lists.{State, read_at, inputs_of, execs}

-- ---- what decimal means
-- each of the k low nibbles is a digit, 0 to 9
abbrev pub Digits : ℕ → ℕ → Type 0
Digits zero x = Unit
Digits (suc k) x = (x % 16 < 10) × Digits k (x / 16)

-- the number that the k low nibbles stand for
unfoldable pub value : ℕ → ℕ → ℕ
value zero x = 0
value (suc k) x = x % 16 + 10 * value k (x / 16)

-- the carry out of the k low digits of a + b + c, and the borrow out of those of a - b - c: 1 where more is taken away than there is
abbrev pub decimal_carry : ℕ → ℕ → ℕ → ℕ → ℕ
decimal_carry k a b c = (value k a + value k b + c) / 10 ^ k

abbrev pub decimal_borrow : ℕ → ℕ → ℕ → ℕ → ℕ
decimal_borrow k a b c = flag (ltb (value k a) (value k b + c))

-- ---- the operations: the opcode, the two operands, the carry or borrow in, and the operand whose unselected bytes pass, as they stand at the
-- chip
pub record DecimalOperation : Type 0 where
  pub opcode : ℕ
  pub first : Inputs → ℕ
  pub second : Inputs → ℕ
  pub third : Inputs → ℕ
  pub passing : Inputs → ℕ

abbrev pub operation : ℕ → (Inputs → ℕ) → (Inputs → ℕ) → (Inputs → ℕ) → (Inputs → ℕ) → DecimalOperation
operation opcode first second third passing = record { opcode = opcode; first = first; second = second; third = third; passing = passing }

abbrev pub input_a : Inputs → ℕ
input_a x = x.a

abbrev pub input_b : Inputs → ℕ
input_b x = x.b

abbrev pub always : ℕ → Inputs → ℕ
always k x = k

-- what SUBC and SUBRC take away besides: 1 where the carry that enters the adder is 0
abbrev pub borrowed_in : Inputs → ℕ
borrowed_in x = 1 - borrow_in x

-- INCR, INCR2 and INCR4 of A and of B, ADD, ADDC: the two operands and the carry in are added
abbrev pub additions : List DecimalOperation
additions =
    operation 0x12 input_a (always 1) (always 0) input_a
    ∷ operation 0x13 input_b (always 1) (always 0) input_b
    ∷ operation 0x16 input_a (always 2) (always 0) input_a
    ∷ operation 0x17 input_b (always 2) (always 0) input_b
    ∷ operation 0x1a input_a (always 4) (always 0) input_a
    ∷ operation 0x1b input_b (always 4) (always 0) input_b
    ∷ operation 0x42 input_a input_b (always 0) input_b
    ∷ operation 0x43 input_a input_b carry_in input_b
    ∷ []

-- NEG, DECR, DECR2 and DECR4 of A and of B, SUB, SUBC, SUBR, SUBRC: the second operand and the borrow in are taken from the first
abbrev pub subtractions : List DecimalOperation
subtractions =
    operation 0x0a (always 0) input_a (always 0) input_a
    ∷ operation 0x0b (always 0) input_b (always 0) input_b
    ∷ operation 0x10 input_a (always 1) (always 0) input_a
    ∷ operation 0x11 input_b (always 1) (always 0) input_b
    ∷ operation 0x14 input_a (always 2) (always 0) input_a
    ∷ operation 0x15 input_b (always 2) (always 0) input_b
    ∷ operation 0x18 input_a (always 4) (always 0) input_a
    ∷ operation 0x19 input_b (always 4) (always 0) input_b
    ∷ operation 0x44 input_a input_b (always 0) input_b
    ∷ operation 0x45 input_a input_b borrowed_in input_b
    ∷ operation 0x46 input_b input_a (always 0) input_b
    ∷ operation 0x47 input_b input_a borrowed_in input_b
    ∷ []

-- ---- the two words
-- the fields of a word that are as they come
pub record Fields : Type 0 where
  pub position : ℕ
  pub width : ℕ
  pub select : ℕ
  pub carry : ℕ
  pub link : ℕ

-- the input at which the correction takes the Y before it
pub data Side : Type 0 where
  at_A : Side
  at_B : Side

-- the first word reads registers a and b and writes Y to register y; the correction takes register y at one input and another register at the
-- other, and writes to register z; byte code and borrow switch are the same in both
pub record Layout : Type 0 where
  pub code : ℕ
  pub a : ℕ
  pub b : ℕ
  pub y : ℕ
  pub side : Side
  pub other : ℕ
  pub z : ℕ
  pub borrow : ℕ
  pub fields₁ : Fields
  pub fields₂ : Fields

abbrev pub word_with : Layout → ℕ → ℕ → ℕ → ℕ → Fields → Word
word_with d opcode a b y f =
    record {
      opcode = opcode;
      code = d.code;
      position = f.position;
      width = f.width;
      a = a;
      b = b;
      y = y;
      write = 1;
      select = f.select;
      carry = f.carry;
      link = f.link;
      borrow = d.borrow;
    }

abbrev pub calculation : ℕ → Layout → Word
calculation opcode d = word_with d opcode d.a d.b d.y d.fields₁

-- SUM-CORR-A and SUM-CORR-B are 48 and 49, DIFF-CORR-A and DIFF-CORR-B 4A and 4B
abbrev pub correction_at : Side → ℕ → Layout → Word
correction_at at_A opcode d = word_with d opcode d.y d.other d.z d.fields₂
correction_at at_B opcode d = word_with d (opcode + 1) d.other d.y d.z d.fields₂

abbrev pub decimal_words : ℕ → ℕ → Layout → List Word
decimal_words opcode correction d = calculation opcode d ∷ correction_at d.side correction d ∷ []

-- each operation with the correction that matches it
abbrev pub sum_words : DecimalOperation → Layout → List Word
sum_words o d = decimal_words o.opcode 0x48 d

abbrev pub difference_words : DecimalOperation → Layout → List Word
difference_words o d = decimal_words o.opcode 0x4a d

-- the selected bits, and the digits in them
abbrev pub selected_bits : Layout → ℕ
selected_bits d = selected d.code

abbrev pub selected_digits : Layout → ℕ
selected_digits d = selected_bits d / 4

-- what stands at the chip for the first word
abbrev pub facing : DecimalOperation → Layout → State → Inputs
facing o d t = inputs_of (calculation o.opcode d) t

-- the selected nibbles of both operands are digits
abbrev pub OfDigits : DecimalOperation → Layout → State → Type 0
OfDigits o d t = Digits (selected_digits d) (o.first (facing o d t)) × Digits (selected_digits d) (o.second (facing o d t))

-- ---- what comes out, from the state t before to the state u after
-- Q and all registers but y and z are as before, and the unselected bytes of register z are those of the operand that passes
pub record Elsewhere (n y z passing : ℕ) (t u : State) : Type 0 where
  pub registers : length u.file ≡ length t.file
  pub others : (r : ℕ) → r ≢ y → r ≢ z → read_at u.file r ≡ read_at t.file r
  pub q : u.core.q ≡ t.core.q
  pub above : read_at u.file z / 2 ^ n ≡ passing / 2 ^ n

-- The status register after a sum of k digits, from s before it. C is the decimal carry, and V that xor the decimal carry into the top digit; Z is 1
-- exactly where the k digits of Y are zero, and N is their top bit; the nibble bits are the nibble carries that the addition leaves, of the whole
-- words. Position, width, L, M and S are as before.
abbrev pub summed_status : ℕ → ℕ → ℕ → ℕ → ℕ → Status → Status
summed_status k A B c y s =
    with_nibbles (nibble_carries 8 A B c)
    (with_v (xor (decimal_carry k A B c) (decimal_carry (k - 1) A B c))
    (with_c (decimal_carry k A B c)
    (zero_sign (4 * k) y s)))

-- register z holds the k digits of A + B + c modulo 10 ^ k
pub record DecimalSum (k z A B c : ℕ) (t u : State) : Type 0 where
  pub digits : Digits k (read_at u.file z)
  pub sum : value k (read_at u.file z) ≡ (value k A + value k B + c) % 10 ^ k
  pub status : u.core.status ≡ summed_status k A B c (read_at u.file z) t.core.status

-- After a difference: C is the complement of what is borrowed, or that itself in borrow mode, and V what is borrowed xor the decimal borrow from the
-- top digit; the nibble bits are the nibble borrows that the subtraction leaves. Z, N and all else as after a sum.
abbrev pub taken_away_status : ℕ → ℕ → ℕ → ℕ → ℕ → ℕ → Status → Status
taken_away_status k A B c mode y s =
    with_nibbles (nibble_borrows 8 A B c)
    (with_v (xor (decimal_borrow k A B c) (decimal_borrow (k - 1) A B c))
    (with_c (1 - xor (decimal_borrow k A B c) mode)
    (zero_sign (4 * k) y s)))

-- register z holds the k digits of A - B - c modulo 10 ^ k: where that is below zero, 1 is borrowed, of weight 10 ^ k
pub record DecimalDifference (k z A B c mode : ℕ) (t u : State) : Type 0 where
  pub digits : Digits k (read_at u.file z)
  pub difference : value k (read_at u.file z) ≡ (value k A + (10 ^ k - (value k B + c))) % 10 ^ k
  pub balance : value k (read_at u.file z) + value k B + c ≡ value k A + 10 ^ k * decimal_borrow k A B c
  pub status : u.core.status ≡ taken_away_status k A B c mode (read_at u.file z) t.core.status

-- an addition and its correction
abbrev pub Summed : DecimalOperation → Layout → State → State → Type 0
Summed o d t u =
    DecimalSum (selected_digits d) d.z (o.first (facing o d t)) (o.second (facing o d t)) (o.third (facing o d t)) t u
    × Elsewhere (selected_bits d) d.y d.z (o.passing (facing o d t)) t u

-- a subtraction and its correction
abbrev pub TakenAway : DecimalOperation → Layout → State → State → Type 0
TakenAway o d t u =
    DecimalDifference (selected_digits d) d.z (o.first (facing o d t)) (o.second (facing o d t)) (o.third (facing o d t)) d.borrow t u
    × Elsewhere (selected_bits d) d.y d.z (o.passing (facing o d t)) t u

-- an addition and its correction come out exact, for every layout and state in which the operands' selected nibbles are digits
abbrev pub SumExact : DecimalOperation → Type 0
SumExact o =
    (d : Layout) (t : State) → d.y < length t.file → d.z < length t.file → Sound (facing o d t) →
    OfDigits o d t → Summed o d t (execs (sum_words o d) t)

-- a subtraction and its correction likewise
abbrev pub DifferenceExact : DecimalOperation → Type 0
DifferenceExact o =
    (d : Layout) (t : State) → d.y < length t.file → d.z < length t.file → Sound (facing o d t) →
    read_at t.file d.a < 2 ^ 32 → read_at t.file d.b < 2 ^ 32 →
    OfDigits o d t → TakenAway o d t (execs (difference_words o d) t)

-- a claim for each operation of a list
abbrev pub Each : (DecimalOperation → Type 0) → List DecimalOperation → Type 0
Each P [] = Unit
Each P (o ∷ os) = P o × Each P os
