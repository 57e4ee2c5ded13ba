-- Refused for its own reason, or for want of room, or listed.
use mathlib.Core.Path.{sym, ◌∙◌}
use native.Mathlib.Omega.{arith}
use borrow.Author.Tests.{ltb-true, ltb-false}
use Rattle.std.proofs.Common.{None}
use Rattle.reasons.proofs.Rows.{passed_on}
use Rattle.sheet.proofs.Table.{ready_alone}
use Rattle.listing.proofs.Answers.{list_sheet, list-room, list_done, list-numbers}
use Rattle.listing.proofs.list.Goals as goal

pub returns-in_err-check_sheet : goal.returns-in_err-check_sheet
returns-in_err-check_sheet c =
    let p = list-numbers c.args.sheet.now c.args.text.now _ _ (rw (passed_on _ _ c.from_residual.ensures.1) (list_sheet c.args.sheet.now c.args.text.now _ (sym c.check_sheet.ensures.value ∙ c.in_err-check_sheet.was))) in
    record { text_after = p.0; numbers = p.1 }

pub size-requires : goal.size-requires
size-requires c = ready_alone 0 c.args.sheet.now None (sym c.check_sheet.ensures.value ∙ c.in_ok-check_sheet.was)

pub returns-in_err-refuse_if : goal.returns-in_err-refuse_if
returns-in_err-refuse_if c =
    let p = list-numbers c.args.sheet.now c.args.text.now _ _
    (rw (passed_on _ _ c.from_residual-in_err-refuse_if.ensures.1, c.in_err-refuse_if.ensures.held.1)
    (list-room c.args.sheet.now c.args.text.now (sym c.check_sheet.ensures.value ∙ c.in_ok-check_sheet.was) (omega (arith, ltb-true _ _ c.in_err-refuse_if.ensures.held.0, c.size.ensures)))) in
    record { text_after = p.0; numbers = p.1 }

pub fill-requires : goal.fill-requires
fill-requires c = (
  ready_alone 0 c.args.sheet.now None (sym c.check_sheet.ensures.value ∙ c.in_ok-check_sheet.was),
  omega (arith, ltb-false _ _ c.in_ok-refuse_if.ensures.passed, c.size.ensures),
)

pub returns : goal.returns
returns c =
    let p = list-numbers c.args.sheet.now c.args.text.now _ _ (list_done c.args.sheet.now c.args.text.now (sym c.check_sheet.ensures.value ∙ c.in_ok-check_sheet.was) c.fill.ensures) in
    record { text_after = p.0; numbers = p.1 }
