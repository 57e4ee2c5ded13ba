-- The definition's two cases.
use mathlib.Core.Path.{sym, ◌∙◌}
use Rattle.grammar.proofs.Names.{labelled-room, labelled_is, labelled-not}
use Rattle.grammar.proofs.labelled.Goals as goal

pub returns-then-not-starts_with : goal.returns-then-not-starts_with
returns-then-not-starts_with c = let a = c.args in
    labelled-not a.name.now a.part.now (sym c.starts_with.ensures ∙ c.if-not-starts_with.true)

pub slice_bounds-number-count : goal.slice_bounds-number-count
slice_bounds-number-count c = let a = c.args in
    labelled-room a.name.now a.part.now (sym c.starts_with.ensures ∙ c.if-not-starts_with.false)

pub slice_bounds-number-start : goal.slice_bounds-number-start
slice_bounds-number-start c = let a = c.args in
    labelled-room a.name.now a.part.now (sym c.starts_with.ensures ∙ c.if-not-starts_with.false)

pub returns : goal.returns
returns c = let a = c.args in
    c.number.ensures ∙ labelled_is a.name.now a.part.now (sym c.starts_with.ensures ∙ c.if-not-starts_with.false)
