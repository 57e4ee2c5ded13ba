-- No row of any word holds exactly where no row of the words left, from the next on, holds.
use mathlib.Core.Path.{◌≡◌}
use Prim.Native.Nat.{◌-◌}
use Rattle.reasons.specs.Reasons.{none_hold, rows_by}
use Rattle.sheet.specs.Sheet.{word_rows}
use Rattle.sheet.proofs.all_sound.Given as goal

abbrev pub invariant-loop-next : goal.invariant-loop-next
invariant-loop-next l = none_hold (rows_by (word_rows l.s l.n) 0 l.count) ≡ none_hold (rows_by (word_rows l.s l.n) l.next (l.count - l.next))
