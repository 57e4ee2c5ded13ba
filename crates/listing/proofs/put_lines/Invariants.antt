-- The lines so far stand in the text, and with those left they are all (`Adding`).
use Rattle.listing.proofs.Lines.{Adding}
use Rattle.listing.proofs.put_lines.Given as goal

abbrev pub invariant-loop-k : goal.invariant-loop-k
invariant-loop-k l = Adding l.sheet l.initial.text l.«from» l.text l.at l.k
