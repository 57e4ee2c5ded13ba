-- What the trace program writes: a line for each execution, and a last line of its own kind.
use Rattle.std.specs.Prelude.{List, [], ◌∷◌, ◌++◌, ℕ, ◌+◌, ◌*◌, length, Ok, Err}
use Rattle.machine.specs.declared.Shown.{Shown}
use Rattle.machine.specs.Core.{fresh_of, shown_status}
use Rattle.machine.specs.Pins.{pins_of}
use Rattle.reasons.specs.declared.Reason.{Reason}
use Rattle.reasons.specs.declared.Reason.TheVariants.{Done}
use Rattle.reasons.specs.Reasons.{Check, number_of}
use Rattle.text.specs.Text.{hex_of, decimal_of, binary_of}
use Rattle.text.specs.Ascii.{space, newline}
use Rattle.chip.specs.declared.Word.{Word}
use Rattle.chip.specs.Lists.{State, shown_of, step_of}
use Rattle.sheet.specs.Sheet.{executions_of, input_of}
use Rattle.run.specs.Run.{entering}
use Rattle.tracing.specs.Input.{file_in}

-- an execution's line: its index in four hex digits, then Y, Q and status in eight each, then the pins in five binary ones, one space between; the
-- status as its word reads it
unfoldable pub line_of : ℕ → Shown → List ℕ
line_of index x =
    hex_of 4 index
    ++ space ∷ hex_of 8 x.y
    ++ space ∷ hex_of 8 x.core.q
    ++ space ∷ hex_of 8 (shown_status x)
    ++ space ∷ binary_of 5 (pins_of x.core.status)
    ++ newline ∷ []

-- its bytes
abbrev pub line_length : ℕ
line_length = 38

-- the lines of executions one after another, from an index on
unfoldable pub lines_of : ℕ → List Word → State → List ℕ
lines_of index [] t = []
lines_of index (w ∷ ws) t = line_of index (shown_of w t) ++ lines_of (index + 1) ws (step_of w t)

-- the last line: the reason as two decimal digits, the place as four hex digits
unfoldable pub last_of : Reason → ℕ → List ℕ
last_of reason place = decimal_of 2 (number_of reason) ++ space ∷ hex_of 4 place ++ newline ∷ []

-- its bytes
abbrev pub last_length : ℕ
last_length = 8

-- the bytes of the longest text: 4,095 lines, and the last one
abbrev pub most_length : ℕ
most_length = 4095 * line_length + last_length

-- ---- the whole text: a refused input runs nothing; else a fresh machine runs the sheet from its first execution to its last
unfoldable pub traced_of : List ℕ → List ℕ
traced_of x = lines_of 0 (executions_of x) (entering (file_in x) fresh_of)

abbrev pub text_by : Check → List ℕ → List ℕ
text_by (Err refusal) x = last_of refusal.reason refusal.place
text_by (Ok done) x = traced_of x ++ last_of Done (length (executions_of x))

unfoldable pub text_of : List ℕ → List ℕ
text_of x = text_by (input_of x) x
