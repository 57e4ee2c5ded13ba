-- What is missing, or the word that the line says.
use Rattle.std.proofs.Common.{rules}
use Rattle.grammar.proofs.Lines.{line-at, mnemonic_ends, kind_ends, registers_end, switches_within}
use Rattle.grammar.proofs.read_word.Goals as goal

-- ---- the mnemonic
pub returns-in_err-opcode : goal.returns-in_err-opcode
returns-in_err-opcode c = rw (line-at c.args.line.now, ← c.in_err-opcode.ensures) (search rules)

pub take_three-requires : goal.take_three-requires
take_three-requires c = mnemonic_ends c.args.line.now c.in_ok-opcode.ensures

-- ---- byte code, position and width
pub returns-in_err-code : goal.returns-in_err-code
returns-in_err-code c = rw (line-at c.args.line.now, ← c.in_ok-opcode.ensures, ← c.in_err-code.ensures) (search rules)

pub take_three-requires-2 : goal.take_three-requires-2
take_three-requires-2 c = kind_ends c.args.line.now c.in_ok-opcode.ensures c.in_ok-code.ensures

-- ---- A, B and Y
pub returns-in_err-a : goal.returns-in_err-a
returns-in_err-a c = rw (line-at c.args.line.now, ← c.in_ok-opcode.ensures, ← c.in_ok-code.ensures, ← c.in_err-a.ensures) (search rules)

pub take_switches-s-requires : goal.take_switches-s-requires
take_switches-s-requires c = registers_end c.args.line.now c.in_ok-opcode.ensures c.in_ok-code.ensures c.in_ok-a.ensures

-- ---- the switches
pub no_more-requires : goal.no_more-requires
no_more-requires c =
    let l = c.args.line.now in
    rw c.take_switches-s.ensures (switches_within l _ (registers_end l c.in_ok-opcode.ensures c.in_ok-code.ensures c.in_ok-a.ensures))

pub returns : goal.returns
returns c =
    rw (
      line-at c.args.line.now,
      ← c.in_ok-opcode.ensures,
      ← c.in_ok-code.ensures,
      ← c.in_ok-a.ensures,
      ← c.take_switches-s.ensures,
      ← c.no_more.ensures,
    )
    c.then_some.ensures
