-- A name is a start of its own length.
use Rattle.grammar.proofs.Names.{same_capitals}
use Rattle.grammar.proofs.is_name.Goals as goal

pub returns : goal.returns
returns c = let a = c.args in
    same_capitals a.part.now a.name.now c.starts_with.ensures
