-- What the C interface answers: the numbers of the reason and its place, and what else an answer holds.
use Rattle.std.specs.Prelude.{List, ℕ, Result, Ok, Err}
use Rattle.std.specs.Result.{result_unwrap_or}
use Rattle.reasons.specs.Reasons.{outcome_of, answer_numbers, check_numbers}
use Rattle.reasons.specs.declared.Outcome.{Outcome}
use Rattle.reasons.specs.declared.Refusal.{Refusal}
use Rattle.reasons.specs.declared.Reason.TheVariants.{Done}
use Rattle.reasons.specs.Output.{Wrote as WroteBuffer}
use Rattle.chip.specs.declared.SingleAnswer.{SingleAnswer}
use Rattle.chip.specs.declared.Word.{Word}
use Rattle.packing.specs.Packing.{Packed, word_or_blank}
use Rattle.sheet.specs.declared.Heading.{Heading as SheetHeading}
use Rattle.run.specs.Run.{Ended}
use Rattle.run.specs.Step.{Halted}
use Rattle.interrupt.specs.Interrupt.{Left, mark_in, served_numbers}
use Rattle.am29332.specs.declared.Answer.{Answer}
use Rattle.am29332.specs.declared.Unpacked.{Unpacked}
use Rattle.am29332.specs.declared.Heading.{Heading}
use Rattle.am29332.specs.declared.Wrote.{Wrote}
use Rattle.am29332.specs.declared.Ran.{Ran}
use Rattle.am29332.specs.declared.Stepped.{Stepped}
use Rattle.am29332.specs.declared.Interrupted.{Interrupted}

-- a single word's answer: Y, parity, Q, status and pins besides
abbrev pub single_numbers : SingleAnswer → Answer
single_numbers a =
    record { outcome = check_numbers a.check; y = a.y; parity = a.parity; q = a.q; status = a.status; pins = a.pins }

-- an unpacked word: its fields besides, which are 0 where it is refused
abbrev pub unpack_numbers : Result Word Refusal → Unpacked
unpack_numbers u = record { outcome = check_numbers u; word = word_or_blank u }

-- a header: its version and its two counts besides, which are 0 where it is refused
abbrev pub heading_numbers : Result SheetHeading Refusal → Heading
heading_numbers (Ok h) = record { outcome = outcome_of Done 0; version = h.version; words = h.words; registers = h.registers }
heading_numbers (Err refusal) = record { outcome = outcome_of refusal.reason refusal.place; version = 0; words = 0; registers = 0 }

-- ---- an answer and what was lent, together
pub record Leaves (A : Type 0) : Type 0 where
  pub answer : A
  pub lent : List ℕ

abbrev pub leaves : {A : Type 0} → A → List ℕ → Leaves A
leaves a lent = record { answer = a; lent = lent }

-- packing: the buffer
abbrev pub pack_numbers : Packed → Leaves Outcome
pack_numbers p = leaves (check_numbers p.check) p.bytes

-- listing and reading: how many bytes were written, 0 of a refusal, and the buffer
abbrev pub wrote_numbers : WroteBuffer → Leaves Wrote
wrote_numbers w = leaves (record { outcome = check_numbers w.answer; bytes = result_unwrap_or w.answer 0 }) w.buffer

-- a run: Q and status, and the file of registers
abbrev pub run_numbers : Ended → Leaves Ran
run_numbers e = leaves (record { outcome = answer_numbers e.answer.outcome; machine = e.answer.machine }) e.file

-- one word of a sheet: Y, parity and pins besides
abbrev pub step_numbers : Halted → Leaves Stepped
step_numbers e =
    leaves
    (record {
      outcome = answer_numbers e.answer.outcome;
      y = e.answer.y;
      parity = e.answer.parity;
      machine = e.answer.machine;
      pins = e.answer.pins;
    })
    e.file

-- an interrupted run: the mark besides
abbrev pub interrupted_numbers : Left → Leaves Interrupted
interrupted_numbers e =
    leaves
    (record { outcome = served_numbers e.answer.outcome; machine = e.answer.machine; mark = mark_in e.answer.outcome })
    e.file
