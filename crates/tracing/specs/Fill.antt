-- What is written into a lent text: an execution's line, and the lines of a sheet.
use Rattle.std.specs.Prelude.{◌≡◌, List, ℕ, ◌*◌}
use Rattle.machine.specs.Status.{Good}
use Rattle.machine.specs.Core.{fresh_of}
use Rattle.text.specs.Fill.{Put, Written}
use Rattle.chip.specs.declared.Word.{Word}
use Rattle.chip.specs.Lists.{State, shown_of, step_of}
use Rattle.sheet.specs.Sheet.{executions_of}
use Rattle.run.specs.Run.{entering}
use Rattle.tracing.specs.Lines.{line_of, line_length, lines_of}

-- execution `index`, w, took the state t to u, and its line stands in its place
pub record Traced (w : Word) (index : ℕ) (t : State) (before : List ℕ) (u : State) (after : List ℕ) : Type 0 where
  pub state : u ≡ step_of w t
  pub status : Good u.core.status
  pub line : Put (line_of index (shown_of w t)) (line_length * index) before after

-- the lines of a sheet's executions
abbrev pub Filled : List ℕ → List ℕ → List ℕ → ℕ → List ℕ → Type 0
Filled s file before n after = Written (lines_of 0 (executions_of s) (entering file fresh_of)) before n after
