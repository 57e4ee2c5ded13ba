-- The sequences as they stand in a sheet, and what a run of them leaves.
use Rattle.std.specs.Prelude.{◌≡◌, List, ℕ, ◌^◌, ◌<◌, length, Some}
use Rattle.machine.specs.declared.Machine.{Machine}
use Rattle.reasons.specs.Reasons.{good}
use Rattle.chip.specs.declared.Word.{Word}
use Rattle.chip.specs.Lists.{State, read_at}
use Rattle.sheet.specs.Sheet.{check_of}
use Rattle.run.specs.Run.{Ended, entering, executed, run_of}
use Rattle.sequence.specs.Decimal.{DecimalOperation, Layout, sum_words, difference_words, OfDigits, Summed, TakenAway}

-- the executions of sheet s from `start` on are ws: they unpack from its bytes
abbrev pub Stands : List ℕ → ℕ → List Word → Type 0
Stands s start ws = executed s start (length ws) ≡ ws

-- a call that is not refused, on registers and Q of 32 bits
pub record Accepted (s file : List ℕ) (m : Machine) (start : ℕ) : Type 0 where
  pub passed : check_of s (Some (length file)) (Some start) ≡ good
  pub registers : (r : ℕ) → read_at file r < 2 ^ 32
  pub q : m.q < 2 ^ 32

-- the state that a run hands back: the file, Q and status
abbrev pub handed : Ended → State
handed e = entering e.file e.answer.machine

-- a run of just the words ws
abbrev pub run_on : List ℕ → List ℕ → Machine → ℕ → List Word → Ended
run_on s file m start ws = run_of s file m start (length ws)

-- an addition and its correction come out exact where they stand in the sheet and the operands' selected nibbles are digits
abbrev pub SumOnSheet : List ℕ → List ℕ → Machine → ℕ → DecimalOperation → Type 0
SumOnSheet s file m start o =
    (d : Layout) → Stands s start (sum_words o d) → OfDigits o d (entering file m) →
    Summed o d (entering file m) (handed (run_on s file m start (sum_words o d)))

-- a subtraction and its correction likewise
abbrev pub DifferenceOnSheet : List ℕ → List ℕ → Machine → ℕ → DecimalOperation → Type 0
DifferenceOnSheet s file m start o =
    (d : Layout) → Stands s start (difference_words o d) → OfDigits o d (entering file m) →
    TakenAway o d (entering file m) (handed (run_on s file m start (difference_words o d)))
