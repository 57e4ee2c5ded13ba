-- What the run leaves, its answer as numbers.
use mathlib.Core.Path.{◌≡◌, sym, ap, subst, ◌∙◌}
use Rattle.std.specs.Prelude.{IsOk}
use Rattle.reasons.specs.declared.Outcome.{Outcome}
use Rattle.reasons.specs.Reasons.{answer_numbers}
use Rattle.run.specs.Run.{Ended}
use Rattle.run.proofs.Parts.{zero_ok}
use Rattle.am29332.specs.Numbers.{run_numbers}
use Rattle.am29332.proofs.am29332_run.Goals as goal

pub returns : goal.returns
returns c =
    let a = c.args in
    let e = c.run-answer.ensures in
    let ok = λ (d : c.numbered_answer.result.reason ≡ 0). subst (λ (x : Ended). IsOk x.answer.outcome) (sym e.file_after)
    (zero_ok a.sheet.now a.file.now a.machine a.start a.allowance
    (ap (λ (x : Ended). (answer_numbers x.answer.outcome).reason) (sym e.file_after) ∙ sym (ap (λ (o : Outcome). o.reason) c.numbered_answer.ensures) ∙ d)) in
    record {
      file_after = rw c.numbered_answer.ensures (ap run_numbers e.file_after);
      in_parts = λ d x y h. rw c.numbered_answer.ensures (ap run_numbers (e.in_parts (ok d) x y h));
    }
