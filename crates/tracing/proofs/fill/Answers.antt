-- The lines so far stand at the start, and with those left they are all (`Filling`).
use mathlib.Core.Path.{sym, subst}
use native.Mathlib.Omega.{arith}
use Rattle.sheet.specs.Sheet.{Ready}
use Rattle.sheet.proofs.Positions.{executions-length}
use Rattle.tracing.proofs.Lines.{filling_start, filling_more, filling_done}
use Rattle.tracing.proofs.fill.Goals as goal

pub loop-index-init : goal.loop-index-init
loop-index-init c = let a = c.args in
    filling_start a.sheet.now a.file.now a.text.now _ c.enter-core.ensures c.fresh.ensures

pub trace_word-core-requires-clause-ready : goal.trace_word-core-requires-clause-ready
trace_word-core-requires-clause-ready c = let s = c.args.sheet.now in
    let l = c.loop-index in
    (subst (Ready s) (sym l.auto.file) c.requires.0, omega (arith, c.loop-index-test.true, c.executions-n.ensures, executions-length s), l.invariant.status)

pub trace_word-core-requires-clause-line_length_in_bounds : goal.trace_word-core-requires-clause-line_length_in_bounds
trace_word-core-requires-clause-line_length_in_bounds c =
    omega (arith, c.loop-index-test.true, c.executions-n.ensures, executions-length c.args.sheet.now, c.requires.1, c.loop-index.auto.text)

pub loop-index-preserved : goal.loop-index-preserved
loop-index-preserved c =
    filling_more c.loop-index.invariant _ _ (omega (arith, c.loop-index-test.true, c.executions-n.ensures)) c.trace_word-core.ensures

pub returns : goal.returns
returns c = filling_done c.loop-index.invariant _ (omega arith) (omega (arith, c.executions-n.ensures))
    (omega (arith, c.executions-n.ensures, executions-length c.args.sheet.now, c.requires.1))
