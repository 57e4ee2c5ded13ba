-- A register named by both main list and handler, as the table of reason 12.
use Rattle.std.specs.Prelude.{List, [], ◌∷◌, ℕ}
use Rattle.reasons.specs.Reasons.{Check, Row, ◌gives◌at◌, first_of, rows_by}
use Rattle.reasons.specs.declared.Reason.TheVariants.{Overlap}
use Rattle.packing.specs.Registers.{common, names_of}
use Rattle.sheet.specs.Sheet.{words_of, word_at, names_in}

-- main word k names a register of the handler's
abbrev pub overlap_row : List ℕ → ℕ → ℕ → List Row
overlap_row main theirs k = (common (names_of (word_at main k)) theirs gives Overlap at k) ∷ []

-- 12: the first main word that does
unfoldable pub overlap_of : List ℕ → List ℕ → Check
overlap_of main h = first_of (rows_by (overlap_row main (names_in h)) 0 (words_of main))
