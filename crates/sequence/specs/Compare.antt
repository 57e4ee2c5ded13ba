-- Comparison as the scoring boards and the branch picker do it: SUB or SUBR, and then the relational bits of the status register, which the word that
-- subtracted shows, and which a later word finds that has the same borrow switch.
use Rattle.std.specs.Prelude.{◌≡◌, ℕ, ◌%◌, ◌^◌, leb}
use Rattle.std.specs.Int.Signed.{lt_z, le_z}
use Rattle.bits.specs.Bits.{flag, bit_of}
use Rattle.chip.specs.declared.Word.{Word}
use Rattle.chip.specs.Lists.{State, read_at}
use Rattle.sequence.specs.Signed.{signed}

-- 1 where a is less than or equal to b, as unsigned numbers of n bits
abbrev pub unsigned_at_most : ℕ → ℕ → ℕ → ℕ
unsigned_at_most n a b = flag (leb (a % 2 ^ n) (b % 2 ^ n))

-- 1 where a is less than b, and where it is less than or equal to b, as signed numbers of n bits
abbrev pub signed_less : ℕ → ℕ → ℕ → ℕ
signed_less n a b = flag (lt_z (signed n a) (signed n b))

abbrev pub signed_at_most : ℕ → ℕ → ℕ → ℕ
signed_at_most n a b = flag (le_z (signed n a) (signed n b))

-- a status register as it is read, in bits 13, 14 and 15: how n bits of a, the first operand, compare with those of b
pub record Compared (n a b status : ℕ) : Type 0 where
  pub unsigned-le : bit_of 13 status ≡ unsigned_at_most n a b
  pub signed_lt : bit_of 14 status ≡ signed_less n a b
  pub signed_le : bit_of 15 status ≡ signed_at_most n a b

-- ---- as words of a sheet
-- a word that compares what stands in two registers: SUB register A with register B, SUBR the other way round
pub data Compares (w : Word) (t : State) : ℕ → ℕ → Type 0 where
  by_SUB : w.opcode ≡ 0x44 → Compares w t (read_at t.file w.a) (read_at t.file w.b)
  by_SUBR : w.opcode ≡ 0x46 → Compares w t (read_at t.file w.b) (read_at t.file w.a)

-- a word that picks bit 13 for a branch, EXTBIT-STAT of that bit, with the given borrow switch
pub record Picks (borrow : ℕ) (v : Word) : Type 0 where
  pub opcode : v.opcode ≡ 0x7e
  pub code : v.code ≡ 0
  pub position : v.position ≡ 13
  pub mode : v.borrow ≡ borrow
