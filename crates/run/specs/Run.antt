-- A run of a sheet on a lent file of registers (document 01, 'Sheets and words' and 'Reasons given'): refused with all as it was, or its
-- executions one after another from a start on.
use Rattle.std.specs.Prelude.{◌≡◌, List, ℕ, ◌+◌, ◌^◌, ◌<◌, length, take, drop, Some, Result, Ok, Err}
use Rattle.machine.specs.declared.Machine.{Machine}
use Rattle.machine.specs.declared.Shown.{Shown}
use Rattle.machine.specs.Status.{Good}
use Rattle.machine.specs.Core.{taken, handed_back}
use Rattle.reasons.specs.Reasons.{Check, answer_numbers}
use Rattle.reasons.specs.declared.Outcome.{Outcome}
use Rattle.reasons.specs.declared.Refusal.{Refusal}
use Rattle.chip.specs.declared.Word.{Word}
use Rattle.chip.specs.Lists.{State, state, read_at, shown_of, step_of, execs}
use Rattle.sheet.specs.Sheet.{executions_of, check_of}
use Rattle.run.specs.declared.Going.{Going}
use Rattle.run.specs.declared.RunAnswer.{RunAnswer}

-- ---- states
-- a file, and Q and status as they are handed in
abbrev pub entering : List ℕ → Machine → State
entering file m = state file (taken m)

-- a state in range: every register and Q a word of 32 bits, each field of the status within its bits
pub record Sane (t : State) : Type 0 where
  pub file : (r : ℕ) → read_at t.file r < 2 ^ 32
  pub q : t.core.q < 2 ^ 32
  pub status : Good t.core.status

-- ---- the answer and the file, together
pub record Ended : Type 0 where
  pub answer : RunAnswer
  pub file : List ℕ

abbrev pub ended : RunAnswer → List ℕ → Ended
ended a file = record { answer = a; file = file }

-- done: the number of steps
abbrev pub ran : List Word → State → Ended
ran ws t = ended (record { outcome = Ok (length ws); machine = handed_back (execs ws t).core }) (execs ws t).file

-- refused: registers, Q and status are as they were, bit for bit
abbrev pub unless : Check → List ℕ → Machine → Ended → Ended
unless (Ok passed) file m e = e
unless (Err refusal) file m e = ended (record { outcome = Err refusal; machine = m }) file

-- from the start on, the smaller of the allowance and the executions left
abbrev pub executed : List ℕ → ℕ → ℕ → List Word
executed s start allowance = take allowance (drop start (executions_of s))

unfoldable pub run_of : List ℕ → List ℕ → Machine → ℕ → ℕ → Ended
run_of s file m start allowance =
    unless (check_of s (Some (length file)) (Some start)) file m (ran (executed s start allowance) (entering file m))

-- in numbers: 0 and the executions that ran, or the number and the place of a refusal
abbrev pub outcome_after : Check → ℕ → Outcome
outcome_after (Ok passed) n = answer_numbers (Ok n)
outcome_after (Err refusal) n = answer_numbers (Err refusal)

abbrev pub run_outcome : List ℕ → ℕ → ℕ → ℕ → Outcome
run_outcome s lent start allowance = outcome_after (check_of s (Some lent) (Some start)) (length (executed s start allowance))

-- ---- running in parts
-- how many executions ran; of a refusal, its place
abbrev pub count_in : Result ℕ Refusal → ℕ
count_in (Ok n) = n
count_in (Err refusal) = refusal.place

-- as many more
abbrev pub more : ℕ → Result ℕ Refusal → Result ℕ Refusal
more k (Ok n) = Ok (k + n)
more k (Err refusal) = Err (record { reason = refusal.reason; place = k + refusal.place })

-- a run from what another left, from the execution after its last on
abbrev pub afterwards : List ℕ → ℕ → Ended → ℕ → Ended
afterwards s start first allowance = run_of s first.file first.answer.machine (start + count_in first.answer.outcome) allowance

-- two runs as one: what the second left, and the executions of both
abbrev pub together : Ended → Ended → Ended
together first second =
    ended (record { outcome = more (count_in first.answer.outcome) second.answer.outcome; machine = second.answer.machine }) second.file

-- a run of at most a executions, and from what it left one of at most b more
abbrev pub in_parts : List ℕ → List ℕ → Machine → ℕ → ℕ → ℕ → Ended
in_parts s file m start a b = together (run_of s file m start a) (afterwards s start (run_of s file m start a) b)

-- ---- inside a run
-- one word ran: what it shows, and the state after it
pub record Stepped (w : Word) (t : State) (file : List ℕ) (x : Shown) : Type 0 where
  pub shown : x ≡ shown_of w t
  pub state : state file x.core ≡ step_of w t
  pub status : Good x.core.status

-- the state while words run and are counted
abbrev pub state_of : List ℕ → Going → State
state_of file g = state file g.core

-- words ws ran: the state is that after them, and they are counted, each once
pub record Went (ws : List Word) (file₀ : List ℕ) (g₀ : Going) (file : List ℕ) (g : Going) : Type 0 where
  pub state : state_of file g ≡ execs ws (state_of file₀ g₀)
  pub count : g.count ≡ g₀.count + length ws
  pub status : Good g.core.status
