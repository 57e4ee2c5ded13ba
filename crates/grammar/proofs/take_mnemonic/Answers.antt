-- The part that is lent is the definition's, and within the line.
use Rattle.std.proofs.Common.{◌≡◌, ◌∙◌, rules}
use Rattle.grammar.specs.Grammar.{opcode_of}
use Rattle.grammar.specs.Scan.{taken_by}
use Rattle.grammar.proofs.Passing.{part_within}
use Rattle.grammar.proofs.Scan.{taken-part}
use Rattle.grammar.proofs.take_mnemonic.Goals as goal

pub slice_bounds-opcode-end : goal.slice_bounds-opcode-end
slice_bounds-opcode-end c = (part_within c.args.line.now c.args.at c.requires c.next-part.ensures).1

pub returns : goal.returns
returns c =
    let a = c.args in
    let taken : c.map.result ≡ taken_by c.opcode.result c.next-part.result.to = search rules in
    taken ∙ taken-part a.line.now a.at c.next-part.ensures opcode_of c.opcode.ensures
