-- The words so far stand after the header, and with those left they are all (`Putting`).
use Rattle.reading.proofs.Sheets.{putting_more, putting_done}
use Rattle.reading.proofs.put_words.Goals as goal

pub loop-line-preserved : goal.loop-line-preserved
loop-line-preserved c = putting_more c.loop-line.invariant c.in-Some.ensures.steps c.put_word-to.ensures c.put_word-to.auto.sheet

pub returns : goal.returns
returns c = putting_done c.loop-line.invariant c.in-None.ensures.steps.0
