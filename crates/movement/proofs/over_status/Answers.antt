-- With all four bytes selected nothing of the register is left.
use Rattle.std.proofs.Common.{ℕ, sym, ap, ◌∙◌}
use Rattle.bits.specs.Bits.{selected, merged}
use Rattle.bits.proofs.Laws.{merged-whole}
use Rattle.machine.specs.Inputs.{read_by}
use Rattle.machine.proofs.Round.{read-lt}
use Rattle.movement.proofs.over_status.Goals as goal

pub returns-then-x-eq0 : goal.returns-then-x-eq0
returns-then-x-eq0 c = let x = c.args.x in
    let s = c.args.s in
    let old : ℕ = read_by x x.status in
    sym (merged-whole s old c.ranges.s.fits (read-lt x.borrow x.status c.requires.status)) ∙ ap (λ (k : ℕ). merged (selected k) s old) (sym c.if-x-eq0.true)
