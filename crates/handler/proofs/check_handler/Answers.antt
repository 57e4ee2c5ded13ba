-- What a sheet that passed has.
use Rattle.std.proofs.Common.{None, sym, ◌∙◌}
use Rattle.sheet.proofs.Table.{ready_alone}
use Rattle.handler.proofs.check_handler.Goals as goal

pub form-requires : goal.form-requires
form-requires c =
    let ready = ready_alone 0 c.args.s.now None (sym c.check_sheet.ensures.value ∙ c.in_ok-check_sheet.was) in
    (ready.long, ready.whole)
