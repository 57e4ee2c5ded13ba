-- No second result meets a promise of the C interface: each is an equation with a definition, over the answer and what was lent together. One law for
-- each export.
use mathlib.Core.Path.{◌≡◌, sym, ap, ◌∙◌}
use mathlib.Core.List.{List}
use Prim.Native.Nat.{ℕ}
use Rattle.reasons.specs.Reasons.{check_numbers}
use Rattle.machine.specs.declared.Machine.{Machine}
use Rattle.machine.specs.Core.{fresh_of}
use Rattle.chip.specs.declared.Word.{Word}
use Rattle.chip.specs.declared.SingleWord.{SingleWord}
use Rattle.chip.specs.Single.{single_of}
use Rattle.packing.specs.Packing.{pack_of, unpack_of}
use Rattle.sheet.specs.Sheet.{check_of}
use Rattle.sheet.specs.Heading.{heading_of}
use Rattle.std.proofs.Common.{None}
use Rattle.handler.specs.Form.{handler_of}
use Rattle.listing.specs.Lister.{list_of}
use Rattle.reading.specs.Reader.{read_of}
use Rattle.run.specs.Run.{run_of}
use Rattle.run.specs.Step.{one_word_of}
use Rattle.interrupt.specs.Interrupt.{interrupted_of}
use Rattle.am29332.specs.Numbers.{Leaves, leaves, single_numbers, pack_numbers, unpack_numbers, heading_numbers, wrote_numbers, run_numbers, step_numbers, interrupted_numbers}
use Rattle.am29332.specs.Version.{library_version}

-- where nothing is lent to be changed
abbrev OneAnswer : {A : Type 0} → A → Type 0
OneAnswer {A} d = (a b : A) → a ≡ d → b ≡ d → a ≡ b

one_answer : {A : Type 0} (d : A) → OneAnswer d
one_answer d a b e f = e ∙ sym f

pub one-fresh : OneAnswer fresh_of
one-fresh = one_answer fresh_of

pub one-library_version : OneAnswer library_version
one-library_version = one_answer library_version

pub one-single-word : (s : SingleWord) → OneAnswer (single_numbers (single_of s))
one-single-word s = one_answer (single_numbers (single_of s))

pub one-unpack : (bytes : List ℕ) → OneAnswer (unpack_numbers (unpack_of bytes))
one-unpack bytes = one_answer (unpack_numbers (unpack_of bytes))

pub one-read-header : (sheet : List ℕ) → OneAnswer (heading_numbers (heading_of sheet))
one-read-header sheet = one_answer (heading_numbers (heading_of sheet))

pub one-check_sheet : (sheet : List ℕ) → OneAnswer (check_numbers (check_of sheet None None))
one-check_sheet sheet = one_answer (check_numbers (check_of sheet None None))

pub one-check_handler : (sheet : List ℕ) → OneAnswer (check_numbers (handler_of sheet))
one-check_handler sheet = one_answer (check_numbers (handler_of sheet))

-- the answer, and each byte or register
abbrev OneOutcome : {A : Type 0} → Leaves A → Type 0
OneOutcome {A} d = (a b : A) (l m : List ℕ) → leaves a l ≡ d → leaves b m ≡ d → (a ≡ b) × (l ≡ m)

one-outcome : {A : Type 0} (d : Leaves A) → OneOutcome d
one-outcome {A} d a b l m e f = (ap (λ (x : Leaves A). x.answer) (e ∙ sym f), ap (λ (x : Leaves A). x.lent) (e ∙ sym f))

pub one-pack : (w : Word) (bytes : List ℕ) → OneOutcome (pack_numbers (pack_of w bytes))
one-pack w bytes = one-outcome (pack_numbers (pack_of w bytes))

pub one-list_sheet : (sheet text : List ℕ) → OneOutcome (wrote_numbers (list_of sheet text))
one-list_sheet sheet text = one-outcome (wrote_numbers (list_of sheet text))

pub one-read_listing : (text sheet : List ℕ) → OneOutcome (wrote_numbers (read_of text sheet))
one-read_listing text sheet = one-outcome (wrote_numbers (read_of text sheet))

pub one-run : (sheet file : List ℕ) (m : Machine) (start allowance : ℕ) → OneOutcome (run_numbers (run_of sheet file m start allowance))
one-run sheet file m start allowance = one-outcome (run_numbers (run_of sheet file m start allowance))

pub one-step : (sheet file : List ℕ) (m : Machine) (start : ℕ) → OneOutcome (step_numbers (one_word_of sheet file m start))
one-step sheet file m start = one-outcome (step_numbers (one_word_of sheet file m start))

pub one-interrupted-run : (main h schedule file : List ℕ) (m : Machine) → OneOutcome (interrupted_numbers (interrupted_of main h schedule file m))
one-interrupted-run main h schedule file m = one-outcome (interrupted_numbers (interrupted_of main h schedule file m))
