-- A refusal leaves all as it was; else the span goes over the executions of the run, which it counts.
use mathlib.Core.Path.{sym, subst, ◌∙◌}
use native.Mathlib.Omega.{arith}
use lib.ListN.{length}
use Rattle.machine.specs.declared.Core.{Core}
use Rattle.machine.specs.Status.{Good}
use Rattle.machine.proofs.Handed.{taken_good}
use Rattle.chip.proofs.Files.{read_small}
use Rattle.std.proofs.Common.{Some}
use Rattle.sheet.proofs.Table.{ready, start_within}
use Rattle.run.proofs.Parts.{run-refused, run_is, went_ran, went_list, executed_is, promised}
use Rattle.run.proofs.run.Goals as goal

pub returns-in-Err : goal.returns-in-Err
returns-in-Err c =
    let a = c.args in
    let p =
    promised a.sheet.now a.file.now a.machine a.start a.allowance (read_small a.file.now (λ r. (c.slice_known-1.given r).fits)) (omega (arith, c.well_formed.1.1.0)) _ _
    (run-refused a.sheet.now a.file.now a.machine a.start a.allowance _ (sym c.check_start.ensures.value ∙ c.in-Err.is)) in
    record { file_after = p.0; numbers = p.1.0; in_parts = p.1.1 }

pub executions-requires : goal.executions-requires
executions-requires c = let a = c.args in
    (ready a.sheet.now (length a.file.now) (Some a.start) (sym c.check_start.ensures.value ∙ c.in_default.is)).long

pub overflow_sub-executions : goal.overflow_sub-executions
overflow_sub-executions c = let a = c.args in
    omega (arith, c.executions.ensures, start_within a.sheet.now (Some (length a.file.now)) a.start (sym c.check_start.ensures.value ∙ c.in_default.is))

pub span-last-requires : goal.span-last-requires
span-last-requires c = let a = c.args in
    let passed = sym c.check_start.ensures.value ∙ c.in_default.is in
    let h = start_within a.sheet.now (Some (length a.file.now)) a.start passed in record { ready = (ready a.sheet.now (length a.file.now) (Some a.start) passed, subst (λ (x : Core). Good x.status) (sym c.enter.ensures) (taken_good a.machine)); from_le_to = (omega arith, omega (arith, c.executions.ensures, c.min-count.ensures), omega (arith, c.min-count.type_inv)) }

pub returns : goal.returns
returns c =
    let a = c.args in
    let s = a.sheet.now in
    let p =
    promised s a.file.now a.machine a.start a.allowance (read_small a.file.now (λ r. (c.slice_known-1.given r).fits)) (omega (arith, c.well_formed.1.1.0)) _ _
    (went_ran _ a.file.now a.machine _ _ _ _ c.enter.ensures
    (went_list (executed_is s a.start a.allowance _ _ c.executions.ensures c.min-count.ensures) c.span-last.ensures) c.leave.ensures
    ∙ sym (run_is s a.file.now a.machine a.start a.allowance (sym c.check_start.ensures.value ∙ c.in_default.is))) in
    record { file_after = p.0; numbers = p.1.0; in_parts = p.1.1 }
