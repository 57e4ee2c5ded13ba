-- The places from i on hold the lowest digits, and what is left is the number without them (`Lowest`).
use Rattle.text.proofs.Lowest.{Lowest}
use Rattle.text.proofs.digits.Given as goal

abbrev pub invariant-loop-i : goal.invariant-loop-i
invariant-loop-i g l = Lowest g.row.BASE g.row.N l.x l.i l.left l.out
