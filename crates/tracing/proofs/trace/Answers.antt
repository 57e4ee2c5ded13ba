-- Refused, or run on as many of 64 registers as are declared.
use mathlib.Core.Path.{sym, ◌∙◌}
use native.Mathlib.Omega.{arith}
use Rattle.tracing.proofs.Lines.{text_refused}
use Rattle.tracing.proofs.trace.Goals as goal

pub returns-in-Err : goal.returns-in-Err
returns-in-Err c = let p = c.put_last in
    text_refused c.args.input.now (sym c.check_input.ensures ∙ c.in-Err.is) (omega (arith, c.requires)) p.ensures.put p.ensures.ends
