-- The part that is lent is the definition's, and within the line.
use Rattle.std.proofs.Common.{◌≡◌, ◌∙◌, rules}
use Rattle.grammar.specs.Grammar.{labelled}
use Rattle.grammar.specs.Scan.{taken_by}
use Rattle.grammar.proofs.Passing.{part_within}
use Rattle.grammar.proofs.Scan.{taken-part}
use Rattle.grammar.proofs.take_number.Goals as goal

pub slice_bounds-labelled-end : goal.slice_bounds-labelled-end
slice_bounds-labelled-end c = (part_within c.args.line.now c.args.at c.requires c.next-part.ensures).1

pub returns : goal.returns
returns c =
    let a = c.args in
    let taken : c.map.result ≡ taken_by c.labelled.result c.next-part.result.to = search rules in
    taken ∙ taken-part a.line.now a.at c.next-part.ensures (labelled a.name.now) c.labelled.ensures
