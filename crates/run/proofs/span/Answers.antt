-- What is left, run and counted from here, ends as the whole does from its start (`Running`).
use mathlib.Core.Path.{sym, subst}
use native.Mathlib.Omega.{arith}
use Rattle.sheet.specs.Sheet.{sheet_of, Ready}
use Rattle.sheet.proofs.Positions.{executions-length}
use Rattle.run.proofs.Laws.{running_more, running_done}
use Rattle.run.proofs.span.Goals as goal

pub advance-at-requires : goal.advance-at-requires
advance-at-requires c = let s = sheet_of c.args.of c.args.main.now c.args.handler.now in
    let l = c.loop-index in record { ready = (subst (Ready s) (sym l.invariant.size) c.requires.ready.0, l.invariant.status); index_bound = (omega (arith, c.requires.from_le_to.1, executions-length s), omega (arith, l.invariant.count, c.requires.from_le_to.2)) }

pub loop-index-preserved : goal.loop-index-preserved
loop-index-preserved c = running_more c.requires.from_le_to.1 c.loop-index.invariant _ _ (omega arith) c.advance-at.auto.file c.advance-at.ensures

pub returns : goal.returns
returns c = running_done c.requires.from_le_to.1 c.loop-index.invariant (omega arith)
