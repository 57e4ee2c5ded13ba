-- The part that is lent is the definition's, and within the line.
use mathlib.Core.Path.{sym, ◌∙◌}
use Rattle.grammar.proofs.Passing.{part_within}
use Rattle.grammar.proofs.Scan.{switch_part}
use Rattle.grammar.proofs.take_switch.Goals as goal

pub returns-then-is_name : goal.returns-then-is_name
returns-then-is_name c = let n = c in
    let a = n.args in
    switch_part a.line.now a.at n.next-part.ensures a.name.now (sym c.is_name.ensures ∙ c.if-is_name.true)

pub returns : goal.returns
returns c = let n = c in
    let a = n.args in
    switch_part a.line.now a.at n.next-part.ensures a.name.now (sym c.is_name.ensures ∙ c.if-is_name.false)

pub slice_bounds-is_name-end : goal.slice_bounds-is_name-end
slice_bounds-is_name-end c = (part_within c.args.line.now c.args.at c.requires c.next-part.ensures).1
