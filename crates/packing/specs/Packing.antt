-- A word of a sheet: six bytes, which are one number of 48 bits, most significant first; its fields; packing and unpacking with their
-- reasons (document 01, 'Sheets and words' and 'Reasons given'; Idle is document 02's, request 5).
use Rattle.std.specs.Prelude.{List, [], ◌∷◌, ◌++◌, Bool, false, not, ◌&&◌, ◌||◌, ℕ, ◌+◌, ◌*◌, ◌/◌, ◌%◌, ◌^◌, ◌<◌, length, get_or, drop, eqb, ltb, Result, Ok, Err}
use Rattle.reasons.specs.Reasons.{Row, ◌gives◌at◌, Check, good, first_of}
use Rattle.reasons.specs.declared.Reason.TheVariants.{Opcode, Inputs, Spare, Room, Idle}
use Rattle.reasons.specs.declared.Refusal.{Refusal}
use Rattle.chip.specs.declared.Word.{Word}
use Rattle.chip.specs.Single.{lacks_page, out_of_range}

-- ---- the number and its fields
-- six bytes as one number
abbrev pub number6 : List ℕ → ℕ
number6 s =
    get_or s 0 0 * 2 ^ 40 + get_or s 1 0 * 2 ^ 32 + get_or s 2 0 * 2 ^ 24 + get_or s 3 0 * 2 ^ 16 + get_or s 4 0 * 2 ^ 8 + get_or s 5 0

-- the fields: opcode 7, byte code 2, position 6, width 5, A 6, B 6, Y 6, write 1, macro select 1, macro carry 1, macro link 1, borrow 1
unfoldable pub fields_of : ℕ → Word
fields_of v =
    record {
      opcode = v / 2 ^ 41;
      code = v / 2 ^ 39 % 4;
      position = v / 2 ^ 33 % 64;
      width = v / 2 ^ 28 % 32;
      a = v / 2 ^ 22 % 64;
      b = v / 2 ^ 16 % 64;
      y = v / 2 ^ 10 % 64;
      write = v / 2 ^ 9 % 2;
      select = v / 2 ^ 8 % 2;
      carry = v / 2 ^ 7 % 2;
      link = v / 2 ^ 6 % 2;
      borrow = v / 2 ^ 5 % 2;
    }

-- zero 5
abbrev pub spare_of : ℕ → ℕ
spare_of v = v % 32

-- the other way: each field times its weight
abbrev pub packed_number : Word → ℕ
packed_number w =
    w.opcode * 2 ^ 41 + w.code * 2 ^ 39 + w.position * 2 ^ 33 + w.width * 2 ^ 28 + w.a * 2 ^ 22 + w.b * 2 ^ 16 + w.y * 2 ^ 10
    + w.write * 2 ^ 9 + w.select * 2 ^ 8 + w.carry * 2 ^ 7 + w.link * 2 ^ 6 + w.borrow * 2 ^ 5

abbrev pub bytes6 : ℕ → List ℕ
bytes6 v = v / 2 ^ 40 % 256 ∷ v / 2 ^ 32 % 256 ∷ v / 2 ^ 24 % 256 ∷ v / 2 ^ 16 % 256 ∷ v / 2 ^ 8 % 256 ∷ v % 256 ∷ []

-- ---- conditions of the reasons; Opcode's is the chip's, `lacks_page`
-- the fields that hold a register's number
abbrev pub register_fields : Word → List ℕ
register_fields w = w.a ∷ w.b ∷ w.y ∷ []

-- one of the numbers passes the test
abbrev pub some : (ℕ → Bool) → List ℕ → Bool
some p [] = false
some p (x ∷ xs) = p x || some p xs

-- Inputs: what is out of range in a single word (byte code above 3, position above 63, width above 31, a switch above 1), or register
-- above 63, or the write switch above 1
unfoldable pub too_large : Word → Bool
too_large w =
    out_of_range w.code w.position w.width w.select w.carry w.link w.borrow
    || some (ltb 63) (register_fields w)
    || ltb 1 w.write

-- two numbers are not the same
abbrev pub differ : ℕ → ℕ → Bool
differ m n = not (eqb m n)

-- Idle: a word with write 0 whose Y field is not 0
unfoldable pub left_idle : Word → Bool
left_idle w = eqb w.write 0 && differ w.y 0

-- a word whose fields its bits hold
pub record InRange (w : Word) : Type 0 where
  pub opcode : w.opcode < 128
  pub code : w.code < 4
  pub position : w.position < 64
  pub width : w.width < 32
  pub a : w.a < 64
  pub b : w.b < 64
  pub y : w.y < 64
  pub write : w.write < 2
  pub select : w.select < 2
  pub carry : w.carry < 2
  pub link : w.link < 2
  pub borrow : w.borrow < 2

-- ---- packing: 1, 2, 17, 14
abbrev pub pack_rows : Word → ℕ → List Row
pack_rows w room =
    (lacks_page w.opcode gives Opcode at 0)
    ∷ (too_large w gives Inputs at 0)
    ∷ (left_idle w gives Idle at 0)
    ∷ (ltb room 6 gives Room at 0)
    ∷ []

-- what a buffer holds once the word is packed into it: its bytes past the sixth stay
abbrev pub packed_into : Word → List ℕ → List ℕ
packed_into w d = bytes6 (packed_number w) ++ drop 6 d

-- the answer, and the buffer afterwards
pub record Packed : Type 0 where
  pub check : Check
  pub bytes : List ℕ

abbrev pub ended : Check → List ℕ → Packed
ended c d = record { check = c; bytes = d }

-- a refusal changes no byte
abbrev pub packed_by : Check → Word → List ℕ → Packed
packed_by (Ok done) w d = ended good (packed_into w d)
packed_by (Err refusal) w d = ended (Err refusal) d

unfoldable pub pack_of : Word → List ℕ → Packed
pack_of w d = packed_by (first_of (pack_rows w (length d))) w d

-- ---- unpacking: 14, 8, 17, 1
abbrev pub unpack_rows : List ℕ → List Row
unpack_rows s =
    (ltb (length s) 6 gives Room at 0)
    ∷ (differ (spare_of (number6 s)) 0 gives Spare at 0)
    ∷ (left_idle (fields_of (number6 s)) gives Idle at 0)
    ∷ (lacks_page (fields_of (number6 s)).opcode gives Opcode at 0)
    ∷ []

-- all fields 0, which a refusal leaves
abbrev pub blank : Word
blank =
    record {
      opcode = 0;
      code = 0;
      position = 0;
      width = 0;
      a = 0;
      b = 0;
      y = 0;
      write = 0;
      select = 0;
      carry = 0;
      link = 0;
      borrow = 0;
    }

-- the word of an unpacking
abbrev pub word_or_blank : Result Word Refusal → Word
word_or_blank (Ok w) = w
word_or_blank (Err refusal) = blank

abbrev pub unpacked_by : Check → Word → Result Word Refusal
unpacked_by (Ok done) w = Ok w
unpacked_by (Err refusal) w = Err refusal

unfoldable pub unpack_of : List ℕ → Result Word Refusal
unpack_of s = unpacked_by (first_of (unpack_rows s)) (fields_of (number6 s))
