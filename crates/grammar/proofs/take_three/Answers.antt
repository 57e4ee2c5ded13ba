-- A number that is missing, or three.
use Rattle.std.proofs.Common.{◌≤◌, length, rules}
use Rattle.grammar.specs.Grammar.{labelled}
use Rattle.grammar.specs.Scan.{three_at}
use Rattle.grammar.proofs.Lines.{taken_ends}
use Rattle.grammar.proofs.take_three.Goals as goal

pub returns-in_err-x : goal.returns-in_err-x
unfolding three_at
returns-in_err-x c = rw (← c.in_err-x.ensures) (search rules)

pub take_number-requires-2 : goal.take_number-requires-2
take_number-requires-2 c = taken_ends (labelled c.args.first.now) c.args.line.now c.args.at c.requires c.in_ok-x.ensures

pub returns-in_err-y : goal.returns-in_err-y
unfolding three_at
returns-in_err-y c = rw (← c.in_ok-x.ensures, ← c.in_err-y.ensures) (search rules)

pub take_number-requires-3 : goal.take_number-requires-3
take_number-requires-3 c =
    let a = c.args in
    let one : c.in_ok-x.x_to ≤ length a.line.now = taken_ends (labelled a.first.now) a.line.now a.at c.requires c.in_ok-x.ensures in
    taken_ends (labelled a.second.now) a.line.now _ one c.in_ok-y.ensures

pub returns-in_err-z : goal.returns-in_err-z
unfolding three_at
returns-in_err-z c = rw (← c.in_ok-x.ensures, ← c.in_ok-y.ensures, ← c.in_err-z.ensures) (search rules)

pub returns : goal.returns
unfolding three_at
returns c = rw (← c.in_ok-x.ensures, ← c.in_ok-y.ensures, ← c.in_ok-z.ensures)
