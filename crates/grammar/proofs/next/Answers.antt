-- Past the blanks, then past the part.
use Rattle.grammar.proofs.Passing.{start_within}
use Rattle.grammar.proofs.next.Goals as goal

pub past_part-requires : goal.past_part-requires
past_part-requires c = let z = c in rw c.past_blanks-from.ensures (start_within z.args.line.now z.args.at z.requires)
