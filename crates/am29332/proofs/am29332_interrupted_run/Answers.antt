-- What the interrupted run leaves, its answer as numbers.
use mathlib.Core.Path.{◌≡◌, sym, ap, subst, ◌∙◌}
use Rattle.std.specs.Prelude.{IsOk}
use Rattle.reasons.specs.declared.Outcome.{Outcome}
use Rattle.interrupt.specs.Interrupt.{Left, served_numbers}
use Rattle.interrupt.proofs.Told.{zero_ok}
use Rattle.am29332.specs.Numbers.{interrupted_numbers}
use Rattle.am29332.proofs.am29332_interrupted_run.Goals as goal

pub returns : goal.returns
returns c =
    let a = c.args in
    let e = c.interrupted-answer.ensures in
    let ok = λ (d : c.numbered.result.reason ≡ 0). subst (λ (x : Left). IsOk x.answer.outcome) (sym e.file_after)
    (zero_ok a.main.now a.handler.now a.schedule.now a.file.now a.machine
    (ap (λ (x : Left). (served_numbers x.answer.outcome).reason) (sym e.file_after) ∙ sym (ap (λ (o : Outcome). o.reason) c.numbered.ensures) ∙ d)) in
    record {
      file_after = rw (c.numbered.ensures, c.mark.ensures) (ap interrupted_numbers e.file_after);
      no_trace = λ d. e.no_trace (ok d);
    }
