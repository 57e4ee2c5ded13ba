-- A case a turn, each right or missed, and no more missed than counted.
use Rattle.std.proofs.Common.{◌≡◌, ◌≤◌}
use Rattle.std.specs.Fn.{FnReturnsAt}
use Rattle.lines.specs.Lines.{Tallied}
use Rattle.lines.proofs.tallied.Given as goal

abbrev pub invariant-loop : goal.invariant-loop
invariant-loop g l = record {
  missed_le_cases : l.tally.missed ≤ l.tally.cases;
  a_case_a_turn : l.tally.cases ≡ l.counter;
  tallied : Tallied (FnReturnsAt g.F.Fn l.right) l.tally;
}
