-- The reader: the sheet that a text stands for, into a lent buffer, or the reason why not and the line (document 02, requests 2 and 5).
use Rattle.std.specs.Prelude.{List, [], ◌∷◌, ◌++◌, Bool, true, not, ◌||◌, ℕ, ◌+◌, ◌*◌, ◌/◌, ◌%◌, ◌^◌, length, get_or, drop, eqb, ltb, leb, Option, Some, None}
use Rattle.reasons.specs.Reasons.{Row, ◌gives◌at◌, first_of}
use Rattle.reasons.specs.declared.Reason.TheVariants.{Inputs, Version, Header, Register, Room, Text, Count, Idle}
use Rattle.text.specs.Ascii.{newline}
use Rattle.chip.specs.declared.Word.{Word}
use Rattle.packing.specs.Packing.{packed_number, bytes6, some, register_fields, too_large, left_idle, differ, InRange, blank}
use Rattle.reasons.specs.Output.{Wrote, wrote_by}
use Rattle.grammar.specs.declared.Head.{Head}
use Rattle.grammar.specs.Grammar.{lines_of, head_in, word_in}

-- ---- what the lines say
-- no line feed
abbrev pub in_line : ℕ → Bool
in_line c = not (eqb newline c)

-- the first line; an empty text has an empty one
abbrev pub first_in : List ℕ → Option Head
first_in text = head_in (get_or (lines_of text) 0 [])

-- the lines after it
abbrev pub word_lines_in : List ℕ → List (List ℕ)
word_lines_in text = drop 1 (lines_of text)

abbrev pub version_by : Option Head → ℕ
version_by (Some head) = head.version
version_by None = 0

abbrev pub registers_by : Option Head → ℕ
registers_by (Some head) = head.registers
registers_by None = 0

-- ---- reasons
-- the first line: 15; 4, 5
abbrev pub head_rows : Option Head → List Row
head_rows None = (true gives Text at 0) ∷ []
head_rows (Some head) =
    (differ head.version 1 gives Version at 0) ∷ ((eqb head.registers 0 || ltb 64 head.registers) gives Header at 0) ∷ []

-- line k, a word's, of a sheet of n registers: 15; 2, 17, 9
abbrev pub line_rows : ℕ → ℕ → Option Word → List Row
line_rows n k None = (true gives Text at k) ∷ []
line_rows n k (Some w) =
    (too_large w gives Inputs at k)
    ∷ (left_idle w gives Idle at k)
    ∷ (some (leb n) (register_fields w) gives Register at k)
    ∷ []

-- the words' lines in order, from line k on
unfoldable pub lines_rows : ℕ → ℕ → List (List ℕ) → List Row
lines_rows n k [] = []
lines_rows n k (l ∷ ls) = line_rows n k (word_in l) ++ lines_rows n (k + 1) ls

-- of so many word lines, into so much room: 16, 14
abbrev pub size_rows : ℕ → ℕ → List Row
size_rows count room = (ltb 4095 count gives Count at 0) ∷ (ltb room (4 + 6 * count) gives Room at 0) ∷ []

unfoldable pub read_rows : List ℕ → ℕ → List Row
read_rows text room =
    head_rows (first_in text)
    ++ (lines_rows (registers_by (first_in text)) 1 (word_lines_in text) ++ size_rows (length (word_lines_in text)) room)

-- ---- the sheet
-- its header: version 4, word count 12, register count 7, zero 9
abbrev pub header4 : ℕ → ℕ → ℕ → ℕ
header4 version count registers = version * 2 ^ 28 + count * 2 ^ 16 + registers * 2 ^ 9

abbrev pub split4 : ℕ → List ℕ
split4 h = h / 2 ^ 24 % 256 ∷ h / 2 ^ 16 % 256 ∷ h / 2 ^ 8 % 256 ∷ h % 256 ∷ []

abbrev pub word_by : Option Word → Word
word_by (Some w) = w
word_by None = blank

-- its words, six bytes each
abbrev pub packed_line : List ℕ → List ℕ
packed_line l = bytes6 (packed_number (word_by (word_in l)))

unfoldable pub packed_lines : List (List ℕ) → List ℕ
packed_lines [] = []
packed_lines (l ∷ ls) = packed_line l ++ packed_lines ls

unfoldable pub sheet_in : List ℕ → List ℕ
sheet_in text =
    split4 (header4 (version_by (first_in text)) (length (word_lines_in text)) (registers_by (first_in text)))
    ++ packed_lines (word_lines_in text)

-- ---- the whole
unfoldable pub read_of : List ℕ → List ℕ → Wrote
read_of text d = wrote_by (first_of (read_rows text (length d))) (sheet_in text) d

-- lines that were checked: the fields of each fit a word
abbrev pub AllFit : List (List ℕ) → Type 0
AllFit [] = Unit
AllFit (l ∷ ls) = InRange (word_by (word_in l)) × AllFit ls
