-- The header of a sheet, read from its first four bytes: what follows it is not looked at.
use Rattle.std.specs.Prelude.{List, ◌∷◌, ℕ, length, ltb, Result, Ok, Err}
use Rattle.reasons.specs.Reasons.{Row, ◌gives◌at◌, Check, first_of}
use Rattle.reasons.specs.declared.Reason.TheVariants.{Short}
use Rattle.reasons.specs.declared.Refusal.{Refusal}
use Rattle.sheet.specs.declared.Heading.{Heading}
use Rattle.sheet.specs.Sheet.{number4, version_of, count_of, registers_of, opening_rows}

-- 3, 4, 5
abbrev pub heading_rows : List ℕ → List Row
heading_rows s = (ltb (length s) 4 gives Short at 0) ∷ opening_rows (number4 s)

-- its version, word count and register count, or the refusal
abbrev pub headed_by : Check → ℕ → Result Heading Refusal
headed_by (Ok done) h = Ok (record { version = version_of h; words = count_of h; registers = registers_of h })
headed_by (Err refusal) h = Err refusal

unfoldable pub heading_of : List ℕ → Result Heading Refusal
heading_of s = headed_by (first_of (heading_rows s)) (number4 s)
