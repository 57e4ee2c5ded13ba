-- One word of a sheet on a lent file of registers, for a front panel or a debugger: checked as a run is, answered as a single word is.
use Rattle.std.specs.Prelude.{List, [], ◌∷◌, ℕ, length, drop, Some, Result, Ok, Err}
use Rattle.machine.specs.declared.Machine.{Machine}
use Rattle.machine.specs.Core.{taken, handed_back}
use Rattle.machine.specs.Status.{loaded}
use Rattle.machine.specs.Pins.{pins_of}
use Rattle.reasons.specs.Reasons.{Check}
use Rattle.reasons.specs.declared.Refusal.{Refusal}
use Rattle.chip.specs.declared.Word.{Word}
use Rattle.chip.specs.declared.SingleWord.{SingleWord}
use Rattle.chip.specs.declared.SingleAnswer.{SingleAnswer}
use Rattle.chip.specs.Single.{single_of}
use Rattle.chip.specs.Lists.{read_at, written}
use Rattle.sheet.specs.Sheet.{executions_of, check_of}
use Rattle.run.specs.declared.StepAnswer.{StepAnswer}

-- ---- the answer and the file, together
pub record Halted : Type 0 where
  pub answer : StepAnswer
  pub file : List ℕ

abbrev pub halted : StepAnswer → List ℕ → Halted
halted a file = record { answer = a; file = file }

-- ---- no word ran
-- Y and parity are 0, and the pins show the status
abbrev pub no_word : Result ℕ Refusal → Machine → StepAnswer
no_word outcome m = record { outcome = outcome; y = 0; parity = 0; machine = m; pins = pins_of (loaded m.status) }

-- ---- a word ran
-- what stands at the chip: the word's fields, the registers that it names as A and B, Q and status as they were handed in
abbrev pub standing : Word → List ℕ → Machine → SingleWord
standing w file m =
    record {
      opcode = w.opcode;
      code = w.code;
      position = w.position;
      width = w.width;
      select = w.select;
      carry = w.carry;
      link = w.link;
      borrow = w.borrow;
      a = read_at file w.a;
      b = read_at file w.b;
      q = m.q;
      status = m.status;
    }

-- Y, parity, Q, status and pins are the single word's
abbrev pub ran_as : SingleAnswer → StepAnswer
ran_as a =
    record { outcome = Ok 1; y = a.y; parity = a.parity; machine = record { q = a.q; status = a.status }; pins = a.pins }

-- and Y is stored only when write is 1
abbrev pub left_by : Word → List ℕ → SingleAnswer → Halted
left_by w file a = halted (ran_as a) (written w a.y file)

abbrev pub performed_on : Word → List ℕ → Machine → Halted
performed_on w file m = left_by w file (single_of (standing w file m))

-- ---- a step
-- the first of the executions left; where none is left, Q and status are handed back as a run of no word does
abbrev pub first_on : List Word → List ℕ → Machine → Halted
first_on [] file m = halted (no_word (Ok 0) (handed_back (taken m))) file
first_on (w ∷ ws) file m = performed_on w file m

-- refused: registers, Q and status are as they were, bit for bit
abbrev pub unless : Check → List ℕ → Machine → Halted → Halted
unless (Ok passed) file m e = e
unless (Err refusal) file m e = halted (no_word (Err refusal) m) file

unfoldable pub one_word_of : List ℕ → List ℕ → Machine → ℕ → Halted
one_word_of s file m start =
    unless (check_of s (Some (length file)) (Some start)) file m (first_on (drop start (executions_of s)) file m)
