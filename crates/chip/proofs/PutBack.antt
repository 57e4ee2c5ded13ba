-- Why the form puts Q back before the status (document 01, 'Readings of the manual that go wrong'): LOADQ changes Z and N, so the other order
-- leaves a trace.
use mathlib.Core.Path.{◌≡◌, refl}
use mathlib.Core.List.{List, [], ◌∷◌}
use Prim.Native.Nat.{ℕ}
use Rattle.bits.specs.Bits.{zero_of, merged}
use Rattle.machine.specs.Core.{handed_back}
use Rattle.machine.specs.Status.{gathered, spread_out, as_read, loaded}
use Rattle.movement.specs.DataMovement.{load_q, load_status}
use Rattle.chip.specs.declared.Word.{Word}
use Rattle.chip.specs.Glossary.{perform_of}
use Rattle.chip.specs.Lists.{state, read_at, store_at, step_of, execs}

-- a word of four bytes that takes register a and does not write
abbrev giving : ℕ → ℕ → Word
giving opcode a =
    record { opcode = opcode; code = 0; position = 0; width = 0; a = a; b = 0; y = 0; write = 0; select = 0; carry = 0; link = 0; borrow = 0 }

-- the status saved in register 0 and Q in register 1, given back by two words
abbrev status_after : List Word → List ℕ → ℕ
status_after ws saved = (handed_back (execs ws (state saved (record { q = 5; status = loaded 0 }))).core).status

-- LOADQ-A, then LDSTAT-A: the status is the saved one, here without any flag; bit 13 is not C
pub q-before-status : status_after (giving 0x06 1 ∷ giving 0x1c 0 ∷ []) (0 ∷ 0x8000_0000 ∷ []) ≡ 0x0000_2000
unfolding read_at store_at step_of execs load_q load_status zero_of merged as_read loaded gathered spread_out perform_of
q-before-status = refl

-- LDSTAT-A, then LOADQ-A: N is set by a negative Q, and Z by a Q of zero
pub status-before-q : status_after (giving 0x1c 0 ∷ giving 0x06 1 ∷ []) (0 ∷ 0x8000_0000 ∷ []) ≡ 0x0002_e000
unfolding read_at store_at step_of execs load_q load_status zero_of merged as_read loaded gathered spread_out perform_of
status-before-q = refl

pub status-before-q_of_zero : status_after (giving 0x1c 0 ∷ giving 0x06 1 ∷ []) (0 ∷ 0 ∷ []) ≡ 0x0008_a000
unfolding read_at store_at step_of execs load_q load_status zero_of merged as_read loaded gathered spread_out perform_of
status-before-q_of_zero = refl
