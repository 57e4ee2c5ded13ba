-- A refusal leaves all as it was; past the last word none runs; else the word runs that is next.
use mathlib.Core.Path.{ap, sym, subst, ◌∙◌}
use Prim.Native.Nat.{◌≤◌}
use native.Mathlib.Omega.{arith}
use lib.ListN.{length, drop_of_length-le}
use Rattle.machine.specs.declared.Core.{Core}
use Rattle.machine.specs.Status.{Good}
use Rattle.machine.specs.Core.{handed_back}
use Rattle.machine.proofs.Handed.{taken_good}
use Rattle.chip.specs.declared.Word.{Word}
use Rattle.chip.proofs.Files.{read_small}
use Rattle.std.proofs.Common.{Some, Ok}
use Rattle.sheet.specs.Sheet.{executions_of, WordReady}
use Rattle.sheet.proofs.Positions.{executions-length, executions-next}
use Rattle.sheet.proofs.Table.{ready}
use Rattle.run.specs.declared.StepAnswer.{StepAnswer}
use Rattle.run.specs.Step.{halted, no_word, performed_on}
use Rattle.run.proofs.Laws.{word_ready}
use Rattle.run.proofs.Stepping.{step-refused, step_is, promised}
use Rattle.run.proofs.one_word.Goals as goal

pub returns-in-Err : goal.returns-in-Err
returns-in-Err c =
    let a = c.args in
    let p =
    promised a.sheet.now a.file.now a.machine a.start (read_small a.file.now (λ r. (c.slice_known-1.given r).fits)) (omega (arith, c.well_formed.1.1.0)) _
    (ap (λ (x : StepAnswer). halted x a.file.now) c.no_word.ensures
    ∙ step-refused a.sheet.now a.file.now a.machine a.start _ (sym c.check_start.ensures.value ∙ c.in-Err.is)) in
    record { file_after = p.0; numbers = p.1.0; pins = p.1.1 }

pub executions-requires : goal.executions-requires
executions-requires c = let a = c.args in
    (ready a.sheet.now (length a.file.now) (Some a.start) (sym c.check_start.ensures.value ∙ c.in_default.is)).long

pub leave-requires : goal.leave-requires
leave-requires c = subst (λ (x : Core). Good x.status) (sym c.enter.ensures) (taken_good c.args.machine)

pub returns-then-executions-start : goal.returns-then-executions-start
returns-then-executions-start c =
    let a = c.args in
    let s = a.sheet.now in
    let past : length (executions_of s) ≤ a.start = omega (arith, c.executions.ensures, c.if-executions-start.true) in
    let p =
    promised s a.file.now a.machine a.start (read_small a.file.now (λ r. (c.slice_known-1.given r).fits)) (omega (arith, c.well_formed.1.1.0)) _
    (ap (λ (y : StepAnswer). halted y a.file.now)
    (c.no_word-then-executions-start.ensures ∙ ap (no_word (Ok 0)) (c.leave.ensures ∙ ap handed_back c.enter.ensures))
    ∙ step_is s a.file.now a.machine a.start _ (sym c.check_start.ensures.value ∙ c.in_default.is)
    (drop_of_length-le (executions_of s) past)) in
    record { file_after = p.0; numbers = p.1.0; pins = p.1.1 }

pub word_at-requires : goal.word_at-requires
word_at-requires c = let a = c.args in
    let s = a.sheet.now in
    let r = ready s (length a.file.now) (Some a.start) (sym c.check_start.ensures.value ∙ c.in_default.is) in
    omega (arith, c.executions.ensures, executions-length s, c.if-executions-start.false, r.whole)

pub perform-requires : goal.perform-requires
perform-requires c = let a = c.args in
    let s = a.sheet.now in
    let n = length a.file.now in
    subst (WordReady n) (sym c.word_at.ensures.0)
    (word_ready s n a.start (ready s n (Some a.start) (sym c.check_start.ensures.value ∙ c.in_default.is))
    (omega (arith, c.executions.ensures, executions-length s, c.if-executions-start.false)))

pub returns : goal.returns
returns c =
    let a = c.args in
    let s = a.sheet.now in
    let p =
    promised s a.file.now a.machine a.start (read_small a.file.now (λ r. (c.slice_known-1.given r).fits)) (omega (arith, c.well_formed.1.1.0)) _
    (c.perform.ensures
    ∙ ap (λ (w : Word). performed_on w a.file.now a.machine) c.word_at.ensures.0
    ∙ step_is s a.file.now a.machine a.start _ (sym c.check_start.ensures.value ∙ c.in_default.is)
    (executions-next s a.start (omega (arith, c.executions.ensures, c.if-executions-start.false)))) in
    record { file_after = p.0; numbers = p.1.0; pins = p.1.1 }
