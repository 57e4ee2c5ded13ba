-- Lists of words on a file of registers.
use Rattle.std.specs.Prelude.{List, [], ◌∷◌, ℕ, get_or, set}
use Rattle.bits.specs.Bits.{choose}
use Rattle.machine.specs.declared.Core.{Core}
use Rattle.machine.specs.declared.Inputs.{Inputs}
use Rattle.machine.specs.declared.Shown.{Shown}
use Rattle.machine.specs.Core.{shown_by}
use Rattle.chip.specs.declared.Word.{Word}
use Rattle.chip.specs.Glossary.{perform_of}

-- register r of a file, and a file with y stored in register r
unfoldable pub read_at : List ℕ → ℕ → ℕ
read_at file r = get_or file r 0

unfoldable pub store_at : List ℕ → ℕ → ℕ → List ℕ
store_at file r y = set file r y

-- all that a word reads and writes: the file of registers, and what the chip keeps
pub record State : Type 0 where
  pub file : List ℕ
  pub core : Core

abbrev pub state : List ℕ → Core → State
state file core = record { file = file; core = core }

-- what stands at the chip for a word: its fields, the registers that it names as A and B, Q and the status register
abbrev pub inputs_of : Word → State → Inputs
inputs_of w t =
    record {
      code = w.code;
      position = w.position;
      width = w.width;
      select = w.select;
      carry = w.carry;
      link = w.link;
      borrow = w.borrow;
      a = read_at t.file w.a;
      b = read_at t.file w.b;
      q = t.core.q;
      status = t.core.status;
    }

-- Y is stored only when write is 1
abbrev pub written : Word → ℕ → List ℕ → List ℕ
written w y file = choose w.write file (store_at file w.y y)

-- what a word shows: Y, its borrow switch, and the core after it
abbrev pub shown_of : Word → State → Shown
shown_of w t = shown_by w.borrow (perform_of w.opcode (inputs_of w t))

-- one word
unfoldable pub step_of : Word → State → State
step_of w t = state (written w (shown_of w t).y t.file) (shown_of w t).core

-- words one after another
unfoldable pub execs : List Word → State → State
execs [] t = t
execs (w ∷ ws) t = execs ws (step_of w t)
