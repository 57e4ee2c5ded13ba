-- Sets of registers as numbers, register r with weight 2 ^ r, and which registers a word names (document 01, 'The handler's form': A and B
-- count, used or not; document 02, request 5: Y counts where the word writes).
use Rattle.std.specs.Prelude.{List, [], ◌∷◌, Bool, ℕ, ◌^◌, ◌<◌, eqb}
use Rattle.std.specs.Int.Bits.{bit_and, bit_or}
use Rattle.bits.specs.Bits.{bit_of, choose}
use Rattle.chip.specs.declared.Word.{Word}
use Rattle.packing.specs.Packing.{differ}

-- register r alone
abbrev pub only : ℕ → ℕ
only r = 2 ^ r

-- register r is in a set
unfoldable pub is_in : ℕ → ℕ → Bool
is_in set r = eqb (bit_of r set) 1

-- two sets have a register in common
unfoldable pub common : ℕ → ℕ → Bool
common s t = differ (bit_and s t) 0

-- ---- the registers that a word names
-- as sources: A and B
unfoldable pub sources_of : Word → ℕ
sources_of w = bit_or (only w.a) (only w.b)

-- as destination: Y, and none where write is 0
unfoldable pub destination_of : Word → ℕ
destination_of w = choose w.write 0 (only w.y)

unfoldable pub names_of : Word → ℕ
names_of w = bit_or (sources_of w) (destination_of w)

-- words one after another
unfoldable pub names_all : List Word → ℕ
names_all [] = 0
names_all (w ∷ ws) = bit_or (names_of w) (names_all ws)

-- its register fields have six bits, and write one
pub record Narrow (w : Word) : Type 0 where
  pub a : w.a < 64
  pub b : w.b < 64
  pub y : w.y < 64
  pub write : w.write < 2
