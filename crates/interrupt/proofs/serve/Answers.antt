-- What is left, run and counted from here, ends as the whole does from its start (`Serving`).
use Prim.Native.Nat.{◌≤◌, ◌<◌}
use lib.ListN.{length, drop}
use native.Mathlib.Omega.{arith}
use Rattle.sheet.specs.Sheet.{executions_of}
use Rattle.interrupt.proofs.Lines.{rising_le}
use Rattle.interrupt.proofs.Serving.{ready_size, rising_next, turn-room, serving_more, last-room, serving_done}
use Rattle.interrupt.proofs.serve.Goals as goal

pub turn-on-requires : goal.turn-on-requires
turn-on-requires c = let a = c.args in
    let l = c.loop-j in
    let i : l.j < length a.schedule.now = omega arith in
    let e = c.boundary-b.ensures in
    let r = rising_next (length (executions_of a.main.now)) l.at a.schedule.now l.j _ i e l.invariant.rising in record { ready = (ready_size a.main.now l.invariant.size c.requires.ready.0, ready_size a.handler.now l.invariant.size c.requires.ready.1, l.invariant.status); at_le_b = (r.0, rising_le _ _ _ r.1, c.executions-n.ensures); handler_bound = turn-room l.invariant _ i e c.requires.rising.1 }

pub loop-j-preserved : goal.loop-j-preserved
loop-j-preserved c = serving_more c.loop-j.invariant _ (omega arith) c.boundary-b.ensures _ _ c.turn-on.auto.file c.turn-on.ensures

pub span-requires : goal.span-requires
span-requires c = let a = c.args in
    let l = c.loop-j in
    let n = c.executions-end.ensures in
    let i : l.at ≤ length (executions_of a.main.now) = rising_le _ _ (drop l.j a.schedule.now) l.invariant.rising in record { ready = (ready_size a.main.now l.invariant.size c.requires.ready.0, l.invariant.status); from_le_to = (omega (arith, n), omega (arith, n), omega (arith, n, last-room l.invariant (omega arith) c.requires.rising.1)) }

pub returns : goal.returns
returns c = serving_done c.loop-j.invariant (omega arith) _ _ _ c.executions-end.ensures c.span.ensures
