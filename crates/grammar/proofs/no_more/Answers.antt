-- All that is left is blank where the blanks end with the line.
use Rattle.grammar.proofs.Passing.{no_more_is}
use Rattle.grammar.proofs.no_more.Goals as goal

pub returns : goal.returns
returns c = let z = c in
    no_more_is z.args.line.now z.args.at z.requires c.past_blanks.ensures
