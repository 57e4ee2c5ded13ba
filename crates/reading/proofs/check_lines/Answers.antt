-- The whole table answers as what is left of it (`Checking`).
use mathlib.Core.Path.{sym, ◌∙◌}
use mathlib.Core.Logic.{inl}
use native.Mathlib.Omega.{arith}
use Rattle.reasons.proofs.Rows.{passed_on}
use Rattle.reading.proofs.FirstLine.{lines_few}
use Rattle.reading.proofs.Table.{checking_bad, checking_more, checking_done}
use Rattle.reading.proofs.check_lines.Goals as goal

pub loop-k-init-derived : goal.loop-k-init-derived
loop-k-init-derived c =
    let w = c.well_formed in
    let e = c.enumerate-k-items.ensures in
    ((tt, tt, inl (rw (c.into_iter-k-iterator.ensures.into_iter_gives, e.count, e.source) (omega (arith, lines_few c.args.text.now)))), tt)

pub returns-in_err-check_line : goal.returns-in_err-check_line
returns-in_err-check_line c =
    let s = c.in-Some.ensures.steps in
    passed_on _ _ c.from_residual.ensures.1 ∙ checking_bad c.loop-k.invariant s.0 s.1 _ (sym c.check_line.ensures ∙ c.in_err-check_line.was)

pub loop-k-preserved : goal.loop-k-preserved
loop-k-preserved c =
    let s = c.in-Some.ensures.steps in
    checking_more c.loop-k.invariant s.0 s.1 s.2 (sym c.check_line.ensures ∙ c.in_ok-check_line.was)

pub returns : goal.returns
returns c = checking_done c.loop-k.invariant c.in-None.ensures.steps.0.0
