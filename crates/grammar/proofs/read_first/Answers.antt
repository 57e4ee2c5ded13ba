-- What is missing, or what the line declares.
use Rattle.std.proofs.Common.{◌≤◌, length, arith, rules}
use Rattle.text.specs.Ascii.{ascii}
use Rattle.grammar.specs.Grammar.{labelled}
use Rattle.grammar.proofs.Lines.{head_at_lem, taken_ends}
use Rattle.grammar.proofs.read_first.Goals as goal

-- ---- the version
pub returns-in_err-version : goal.returns-in_err-version
returns-in_err-version c = rw (head_at_lem c.args.line.now, ← c.in_err-version.ensures) (search rules)

pub take_number-requires-2 : goal.take_number-requires-2
take_number-requires-2 c = taken_ends (labelled (ascii "VERSION=")) c.args.line.now 0 (omega arith) c.in_ok-version.ensures

-- ---- the register count
pub returns-in_err-registers : goal.returns-in_err-registers
returns-in_err-registers c = rw (head_at_lem c.args.line.now, ← c.in_ok-version.ensures, ← c.in_err-registers.ensures) (search rules)

pub no_more-requires : goal.no_more-requires
no_more-requires c =
    let l = c.args.line.now in
    let versioned : c.in_ok-version.version_to ≤ length l = taken_ends (labelled (ascii "VERSION=")) l 0 (omega arith) c.in_ok-version.ensures in
    taken_ends (labelled (ascii "REGISTERS=")) l _ versioned c.in_ok-registers.ensures

-- ---- nothing else
pub returns : goal.returns
returns c = rw (head_at_lem c.args.line.now, ← c.in_ok-version.ensures, ← c.in_ok-registers.ensures, ← c.no_more.ensures) c.then_some.ensures
