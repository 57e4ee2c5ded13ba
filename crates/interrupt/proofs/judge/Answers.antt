-- What two sheets that passed have.
use Rattle.std.proofs.Common.{None, sym, ◌∙◌}
use Rattle.sheet.proofs.Table.{ready}
use Rattle.interrupt.specs.Interrupt.{in_main, in_handler, fine}
use Rattle.interrupt.proofs.Verdicts.{marking_good}
use Rattle.interrupt.proofs.judge.Goals as goal

pub judge_pair-requires : goal.judge_pair-requires
judge_pair-requires c = (
  ready c.args.main.now c.args.lent None (sym c.check_on_file.ensures.value ∙ marking_good in_main _ fine (sym c.marked.ensures ∙ c.in_ok-marked.was)),
  ready c.args.handler.now c.args.lent None (sym c.check_on_file-2.ensures.value ∙ marking_good in_handler _ fine (sym c.marked-2.ensures ∙ c.in_ok-marked-2.was)),
)
