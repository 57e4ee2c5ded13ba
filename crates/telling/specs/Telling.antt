-- A refusal in words: the line that the trace would end in, and after it the reason's name, the place, and what was expected.
use Rattle.std.specs.Prelude.{◌≡◌, List, [], ◌∷◌, ◌++◌, Bool, true, false, ℕ, ◌%◌, ltb, Result, Ok, Err}
use Prim.Native.String.{String}
use Rattle.reasons.specs.declared.Reason.{Reason}
use Rattle.reasons.specs.declared.Reason.TheVariants.{Done, Opcode, Inputs, Short, Version, Header, Length, File, Spare, Register, Start, Form, Overlap, Schedule, Room, Text, Count, Idle}
use Rattle.reasons.specs.declared.Refusal.{Refusal}
use Rattle.reasons.specs.Reasons.{number_of}
use Rattle.text.specs.Text.{either, hex_of, decimal_of}
use Rattle.text.specs.Ascii.{ascii, space, newline}
use Rattle.text.specs.Fill.{Written}

-- document 01's and 02's name of a reason
abbrev pub name_of : Reason → String
name_of Done = "Done"
name_of Opcode = "Opcode"
name_of Inputs = "Inputs"
name_of Short = "Short"
name_of Version = "Version"
name_of Header = "Header"
name_of Length = "Length"
name_of File = "File"
name_of Spare = "Spare"
name_of Register = "Register"
name_of Start = "Start"
name_of Form = "Form"
name_of Overlap = "Overlap"
name_of Schedule = "Schedule"
name_of Room = "Room"
name_of Text = "Text"
name_of Count = "Count"
name_of Idle = "Idle"

-- what was expected where it is given
abbrev pub expected_of : Reason → String
expected_of Done = "nothing else"
expected_of Opcode = "an opcode that has a page in the manual"
expected_of Inputs = "code 0 to 3, position 0 to 63, width 0 to 31, registers 0 to 63, switches 0 or 1"
expected_of Short = "4 bytes or more"
expected_of Version = "version 1"
expected_of Header = "1 to 64 registers, and in a sheet zero bits after their number"
expected_of Length = "4 bytes, and 6 for each word that the header counts"
expected_of File = "as many registers as the sheet declares"
expected_of Spare = "a word that ends in five zero bits"
expected_of Register = "registers below the number that is declared"
expected_of Start = "a start that is not past the last word"
expected_of Form = "a handler of the form"
expected_of Overlap = "no register that both sheets name"
expected_of Schedule = "boundaries that do not fall, within the main list"
expected_of Room = "an output that fits its buffer, and an input that fits the program's"
expected_of Text = "MNEMONIC code= position= width= A= B= Y= and the switches that are on; in line 0 version= registers="
expected_of Count = "4,095 words or fewer"
expected_of Idle = "register Y 0 in a word without write"

-- whether its place is a word, or the line of one
abbrev pub placed : Reason → Bool
placed Done = false
placed Opcode = true
placed Inputs = true
placed Short = false
placed Version = false
placed Header = false
placed Length = false
placed File = false
placed Spare = true
placed Register = true
placed Start = false
placed Form = false
placed Overlap = false
placed Schedule = false
placed Room = false
placed Text = true
placed Count = false
placed Idle = true

-- a number below 100,000 in decimal, without zeros in front; of a larger one its last five digits. No place that is told is larger: the longest text
-- that the programs read has fewer lines
abbrev pub digits_in : ℕ → ℕ
digits_in n = either (ltb n 10) 1 (either (ltb n 100) 2 (either (ltb n 1000) 3 (either (ltb n 10000) 4 5)))

abbrev pub plain_of : ℕ → List ℕ
plain_of n = decimal_of (digits_in (n % 100000)) (n % 100000)

-- its place, with what is counted from 0: words of a sheet, or lines of a text
abbrev pub place_by : Bool → List ℕ → ℕ → List ℕ
place_by false counted place = []
place_by true counted place = ascii " in " ++ counted ++ ascii " " ++ plain_of place

-- reason and place in numbers, as the trace's last line has them
unfoldable pub numbers_of : Reason → ℕ → List ℕ
numbers_of reason place = decimal_of 2 (number_of reason) ++ space ∷ hex_of 4 (place % 65536) ++ space ∷ []

-- the line: in numbers, then in words
unfoldable pub told_of : Reason → ℕ → List ℕ → List ℕ
told_of reason place counted =
    numbers_of reason place
    ++ ascii (name_of reason)
    ++ place_by (placed reason) counted place
    ++ ascii ": expected "
    ++ ascii (expected_of reason)
    ++ newline ∷ []

-- what is shown of an answer: the output, which stands at the buffer's start already, or the line of the refusal in its place
abbrev pub ShownBy : Result ℕ Refusal → List ℕ → List ℕ → ℕ → List ℕ → Type 0
ShownBy (Ok bytes) counted before n after = (n ≡ bytes) × (after ≡ before)
ShownBy (Err refusal) counted before n after = Written (told_of refusal.reason refusal.place counted) before n after
