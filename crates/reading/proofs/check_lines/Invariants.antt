-- The whole table answers as what is left of it (`Checking`).
use Rattle.std.specs.Iterator.Adapters.{enumerate_source, enumerate_count}
use Rattle.grammar.specs.Grammar.{lines_of}
use Rattle.reading.proofs.Table.{Checking}
use Rattle.reading.proofs.check_lines.Given as goal

abbrev pub invariant-loop-k : goal.invariant-loop-k
invariant-loop-k l = Checking l.n (lines_of l.text) (lines_of (enumerate_source l.k-iterator).0.now) (enumerate_count l.k-iterator)
