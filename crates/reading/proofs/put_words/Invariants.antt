-- The words so far stand after the header, and with those left they are all (`Putting`).
use Rattle.grammar.specs.Grammar.{lines_of}
use Rattle.reading.proofs.Sheets.{Putting}
use Rattle.reading.proofs.put_words.Given as goal

abbrev pub invariant-loop-line : goal.invariant-loop-line
invariant-loop-line l = Putting l.initial.sheet l.sheet (lines_of l.text) (lines_of l.line-iterator.0.now) l.to
