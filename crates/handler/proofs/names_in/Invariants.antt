-- What was met, and what is left, is the whole (`Gathering`).
use Rattle.handler.proofs.OverlapLaws.{Gathering}
use Rattle.handler.proofs.names_in.Given as goal

abbrev pub invariant-loop-k : goal.invariant-loop-k
invariant-loop-k l = Gathering l.s l.n l.set l.k
