-- The numbers read so far are the list's first, and the others are as they were.
use Rattle.std.proofs.Common.{◌≡◌, take, drop}
use Rattle.lines.specs.Lines.{list_as}
use Rattle.lines.proofs.numbers.Given as goal

abbrev pub invariant-loop-k : goal.invariant-loop-k
invariant-loop-k g l = record {
  done : take l.k l.to ≡ list_as g.T.Listed.DIGITS g.T.Listed.kept l.list l.k;
  rest : drop l.k l.to ≡ drop l.k l.initial.to;
}
