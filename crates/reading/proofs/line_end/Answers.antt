-- As many as std counts.
use Rattle.std.proofs.Common.{rules, tests}
use Rattle.std.proofs.lemmas.Iterator.{YieldsList-from_slice}
use Rattle.std.proofs.lemmas.Iterator.Consumers.{YieldsList-at, count_from_yields_List}
use Rattle.std.proofs.lemmas.Iterator.Search.{YieldsList-from_take_while}
use Rattle.reading.specs.Reader.{in_line}
use Rattle.reading.proofs.FirstLine.{line_counted}
use Rattle.reading.proofs.line_end.Goals as goal

pub returns : goal.returns
returns c =
    line_counted c.args.text.now
    (count_from_yields_List c.take_while.result _ c.count.ensures.ran
    (YieldsList-from_take_while _ in_line (YieldsList-at c.take_while.ensures.source (YieldsList-from_slice _ c.iter.ensures.rest)) c.take_while.ensures.closure c.take_while.ensures.done (λ x b q k. search (rules, tests))))
