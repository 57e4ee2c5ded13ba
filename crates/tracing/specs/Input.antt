-- What the trace program reads (document 01, its last example): a sheet and then its declared registers.
use Rattle.std.specs.Prelude.{List, [], ◌∷◌, ℕ, zero, suc, ◌+◌, ◌*◌}
use Rattle.bits.specs.Bits.{bytes4_at}
use Rattle.sheet.specs.Sheet.{words_of, declared_of}

-- the bytes of the sheet: a header, and six for each word
unfoldable pub size_of : List ℕ → ℕ
size_of x = 4 + 6 * words_of x

-- n registers from register k on, of those that start at a place, four bytes each, high first
unfoldable pub registers_from : List ℕ → ℕ → ℕ → ℕ → List ℕ
registers_from x i k zero = []
registers_from x i k (suc n) = bytes4_at x (i + 4 * k) ∷ registers_from x i (k + 1) n

-- as many as the sheet declares
abbrev pub file_in : List ℕ → List ℕ
file_in x = registers_from x (size_of x) 0 (declared_of x)
