-- Demand 3: an interrupt leaves no trace, said with the runs of a sheet by itself.
use Rattle.std.specs.Prelude.{◌≡◌, List, true, false, ℕ, zero, suc, length}
use Rattle.machine.specs.declared.Machine.{Machine}
use Rattle.chip.specs.Lists.{read_at}
use Rattle.packing.specs.Registers.{is_in}
use Rattle.sheet.specs.Sheet.{executions_of, names_in}
use Rattle.run.specs.Run.{Ended, run_of}
use Rattle.handler.specs.Form.{saves_status, saves_q}

-- the whole sheet by itself
abbrev pub alone : List ℕ → List ℕ → Machine → Ended
alone s file m = run_of s file m 0 (length (executions_of s))

-- the whole sheet by itself n times, one whole run after another: the registers that this leaves
unfoldable pub again : ℕ → List ℕ → List ℕ → Machine → List ℕ
again zero s file m = file
again (suc n) s file m = again n s (alone s file m).file (alone s file m).answer.machine

-- the registers that a handler names, s and q apart
pub record Own (h : List ℕ) (r : ℕ) : Type 0 where
  pub named : is_in (names_in h) r ≡ true
  pub not-s : r ≡ saves_status h → ⊥
  pub not-q : r ≡ saves_q h → ⊥

-- Q and status `after` and the file l that an interrupted run handed back, beside the runs of main list and handler by themselves from the same start
pub record NoTrace (main h schedule file : List ℕ) (m after : Machine) (l : List ℕ) : Type 0 where
  -- (a) every register that the main list names, Q and status end as in its undisturbed run
  pub main-registers : (r : ℕ) → is_in (names_in main) r ≡ true → read_at l r ≡ read_at (alone main file m).file r
  pub machine : after ≡ (alone main file m).answer.machine
  -- (b) every register that the handler names, s and q apart, ends as if the handler had run that often by itself
  pub handler_registers : (r : ℕ) → Own h r → read_at l r ≡ read_at (again (length schedule) h file m) r
  -- (c) registers that neither names are as they were
  pub other-registers : (r : ℕ) → is_in (names_in main) r ≡ false → is_in (names_in h) r ≡ false → read_at l r ≡ read_at file r
