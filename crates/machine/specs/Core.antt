-- What the chip keeps between two words, how it is handed in and out, and what one executed word shows.
use Rattle.std.specs.Prelude.{ℕ}
use Rattle.machine.specs.declared.Machine.{Machine}
use Rattle.machine.specs.declared.Core.{Core}
use Rattle.machine.specs.declared.Outputs.{Outputs}
use Rattle.machine.specs.declared.Shown.{Shown}
use Rattle.machine.specs.Status.{carry_mode, as_read, loaded}

-- Q and the status register at zero
abbrev pub fresh_of : Machine
fresh_of = record { q = 0; status = 0 }

-- handed in as two words: bits 13, 14, 15 and 23 of the status are ignored
abbrev pub taken : Machine → Core
taken m = record { q = m.q; status = loaded m.status }

-- and handed back as two words: those four bits are worked out, in carry mode whatever words ran (M27)
abbrev pub handed_back : Core → Machine
handed_back c = record { q = c.q; status = as_read carry_mode c.status }

-- what one executed word shows: Y, its borrow switch, and the core after it
abbrev pub shown_by : ℕ → Outputs → Shown
shown_by borrow o = record { y = o.y; borrow = borrow; core = record { q = o.q; status = o.status } }

-- the status register as the word that ran reads it
abbrev pub shown_status : Shown → ℕ
shown_status x = as_read x.borrow x.core.status
