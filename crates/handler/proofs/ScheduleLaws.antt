-- One entry more of a schedule.
use mathlib.Core.Path.{◌≡◌, refl}
use mathlib.Core.List.{List, ◌∷◌}
use Prim.Native.Nat.{ℕ, ◌+◌}
use native.Mathlib.Numerals.{add-one}
use lib.ListN.{get_or}
use Rattle.reasons.proofs.Rows.{rows_bad, rows_good}

-- what stands before the next entry is this one
pub last-next : (l : List ℕ) (j : ℕ) → get_or l j 0 ≡ get_or (0 ∷ l) (j + 1) 0
last-next l j = rw add-one refl

pub ruleset scheduling = (rows_bad, rows_good, last-next)
