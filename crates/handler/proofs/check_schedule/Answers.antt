-- An entry that is refused; the check finds the rest.
use Rattle.std.proofs.Common.{length, sym, ◌∙◌, arith}
use Rattle.reasons.proofs.Rows.{passed_on, rows_bad}
use Rattle.handler.specs.Schedule.{schedule_row, schedule_of}
use Rattle.handler.proofs.check_schedule.Goals as goal

pub returns-in_err-check_entry : goal.returns-in_err-check_entry
unfolding schedule_of
returns-in_err-check_entry c =
    passed_on _ _ c.from_residual.ensures.1
    ∙ sym (c.loop-j.invariant.1
    ∙ rows_bad (schedule_row c.args.schedule.now c.args.n) c.loop-j.j (length c.args.schedule.now) _ (omega arith)
    (rw (← c.loop-j.invariant.0, ← c.boundary-b.ensures) (sym c.check_entry.ensures ∙ c.in_err-check_entry.was)))
