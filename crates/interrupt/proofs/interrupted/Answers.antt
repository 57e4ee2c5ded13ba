-- Refused as judged; or served, and what went is what the one line of executions gives.
use mathlib.Core.Path.{sym, ◌∙◌}
use lib.ListN.{length}
use native.Mathlib.Omega.{arith}
use Rattle.chip.proofs.Files.{read_small}
use Rattle.interrupt.proofs.Demand3.{promised}
use Rattle.interrupt.proofs.Verdicts.{interrupted-refused, interrupted_done, serve_ready}
use Rattle.interrupt.proofs.interrupted.Goals as goal

pub returns-in-Err : goal.returns-in-Err
returns-in-Err c =
    let a = c.args in
    let p =
    promised a.main.now a.handler.now a.schedule.now a.file.now a.machine (read_small a.file.now (λ r. (c.slice_known-1.given r).fits)) (omega arith) _ _
    (interrupted-refused a.main.now a.handler.now a.schedule.now a.file.now a.machine _ (sym c.judge.ensures ∙ c.in-Err.is)) in
    record { file_after = p.0; numbers = p.1.0; no_trace = p.1.1 }

pub serve-last-requires : goal.serve-last-requires
serve-last-requires c =
    let a = c.args in
    let p = serve_ready a.main.now a.handler.now a.schedule.now (length a.file.now) a.machine _ (sym c.judge.ensures ∙ c.in_default.is) c.enter.ensures in
    record { ready = p.0; rising = p.1 }

pub returns : goal.returns
returns c =
    let a = c.args in
    let p =
    promised a.main.now a.handler.now a.schedule.now a.file.now a.machine (read_small a.file.now (λ r. (c.slice_known-1.given r).fits)) (omega arith) _ _
    (interrupted_done a.main.now a.handler.now a.schedule.now a.file.now a.machine _ _ _ _
    (sym c.judge.ensures ∙ c.in_default.is) c.enter.ensures c.serve-last.ensures c.leave.ensures) in
    record { file_after = p.0; numbers = p.1.0; no_trace = p.1.1 }
