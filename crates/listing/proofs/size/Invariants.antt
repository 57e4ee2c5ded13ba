-- The bytes so far and those of the lines left are all (`Counting`).
use Rattle.listing.proofs.Lines.{Counting}
use Rattle.listing.proofs.size.Given as goal

abbrev pub invariant-loop-k : goal.invariant-loop-k
invariant-loop-k l = Counting l.sheet l.bytes l.k
