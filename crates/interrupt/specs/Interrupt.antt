-- The interrupted run (document 01, 'The handler's form' and 'Reasons given'): its refusals in their order, each with the mark of the sheet
-- that the fault is in, and what it leaves.
use Rattle.std.specs.Prelude.{◌≡◌, List, ℕ, length, Option, Some, None, Result, Ok, Err}
use Rattle.machine.specs.declared.Machine.{Machine}
use Rattle.reasons.specs.Reasons.{Check, outcome_of}
use Rattle.reasons.specs.declared.Outcome.{Outcome}
use Rattle.reasons.specs.declared.Reason.TheVariants.{Done}
use Rattle.chip.specs.declared.Word.{Word}
use Rattle.chip.specs.Lists.{State, execs}
use Rattle.machine.specs.Core.{handed_back}
use Rattle.sheet.specs.Sheet.{executions_of, check_of}
use Rattle.sheet.specs.declared.Which.{Which}
use Rattle.sheet.specs.declared.Which.TheVariants.{Main, Handler}
use Rattle.run.specs.Run.{entering}
use Rattle.handler.specs.Form.{form_of}
use Rattle.handler.specs.Overlap.{overlap_of}
use Rattle.handler.specs.Schedule.{schedule_of}
use Rattle.interrupt.specs.declared.Fault.{Fault}
use Rattle.interrupt.specs.declared.Served.{Served}
use Rattle.interrupt.specs.Serve.{lineup}

-- the marks: the fault is in neither sheet, in the main one, in the handler's
abbrev pub in_neither : Option Which
in_neither = None

abbrev pub in_main : Option Which
in_main = Some Main

abbrev pub in_handler : Option Which
in_handler = Some Handler

-- in numbers
abbrev pub mark_number : Option Which → ℕ
mark_number None = 0
mark_number (Some Main) = 1
mark_number (Some Handler) = 2

-- what is said of the two sheets and the schedule: they are fine, or the first fault
abbrev pub Verdict : Type 0
Verdict = Result (Unit {0}) Fault

abbrev pub fine : Verdict
fine = Ok tt

-- a check with its mark, and what follows where it refuses nothing
abbrev pub marking : Option Which → Check → Verdict → Verdict
marking k (Ok good) v = v
marking k (Err x) v = Err (record { mark = k; refusal = x })

-- 11, 12, 13
unfoldable pub pair_of : List ℕ → List ℕ → List ℕ → Verdict
pair_of main h schedule =
    marking in_handler (form_of h)
    (marking in_main (overlap_of main h)
    (marking in_neither (schedule_of schedule (length (executions_of main)))
    fine))

-- the main sheet's own reasons, the handler sheet's own, then 11, 12, 13; so many registers are lent, and there is no start word
unfoldable pub verdict_of : List ℕ → List ℕ → List ℕ → ℕ → Verdict
verdict_of main h schedule lent =
    marking in_main (check_of main (Some lent) None) (marking in_handler (check_of h (Some lent) None) (pair_of main h schedule))

-- the answer and the file, together
pub record Left : Type 0 where
  pub answer : Served
  pub file : List ℕ

abbrev pub left : Served → List ℕ → Left
left a file = record { answer = a; file = file }

-- done: the number of executions, those of main list and handler together
abbrev pub served_by : List Word → State → Left
served_by ws t = left (record { outcome = Ok (length ws); machine = handed_back (execs ws t).core }) (execs ws t).file

-- refused: registers, Q and status are as they were, bit for bit
abbrev pub unless_refused : Verdict → List ℕ → Machine → Left → Left
unless_refused (Ok fine) file m e = e
unless_refused (Err fault) file m e = left (record { outcome = Err fault; machine = m }) file

-- the executions of both sheets, in one line
abbrev pub line_of : List ℕ → List ℕ → List ℕ → List Word
line_of main h schedule = lineup (executions_of main) (executions_of h) 0 schedule

unfoldable pub interrupted_of : List ℕ → List ℕ → List ℕ → List ℕ → Machine → Left
interrupted_of main h schedule file m =
    unless_refused (verdict_of main h schedule (length file)) file m (served_by (line_of main h schedule) (entering file m))

-- in numbers: the mark; and 0 with the executions that ran, or the number and the place of a refusal
abbrev pub mark_of : Verdict → ℕ
mark_of (Ok fine) = mark_number in_neither
mark_of (Err fault) = mark_number fault.mark

abbrev pub served_outcome : Verdict → ℕ → Outcome
served_outcome (Ok fine) n = outcome_of Done n
served_outcome (Err fault) n = outcome_of fault.refusal.reason fault.refusal.place

-- an answer's mark and numbers
abbrev pub mark_in : Result ℕ Fault → ℕ
mark_in (Ok n) = mark_number in_neither
mark_in (Err fault) = mark_number fault.mark

abbrev pub served_numbers : Result ℕ Fault → Outcome
served_numbers (Ok n) = outcome_of Done n
served_numbers (Err fault) = outcome_of fault.refusal.reason fault.refusal.place

-- they are these
abbrev pub Numbered : List ℕ → List ℕ → List ℕ → ℕ → Served → Type 0
Numbered main h schedule lent a =
    (mark_in a.outcome ≡ mark_of (verdict_of main h schedule lent))
    × (served_numbers a.outcome ≡ served_outcome (verdict_of main h schedule lent) (length (line_of main h schedule)))
