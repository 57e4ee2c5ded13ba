-- The registers are those of the input, so the lines are those of its run (`text_done`).
use native.Mathlib.Omega.{arith}
use Rattle.tracing.proofs.Input.{words_few, input_file}
use Rattle.tracing.proofs.Lines.{filled_length, text_done}
use Rattle.tracing.proofs.trace_run.Goals as goal

pub put_last-requires : goal.put_last-requires
put_last-requires c = let f = c.fill-at in
    omega (arith, f.auto.text, filled_length _ _ f.ensures, words_few c.args.input.now, c.requires.2)

pub returns : goal.returns
returns c = let x = c.args.input.now in
    let f = c.fill-at in
    let p = c.put_last in
    text_done x _ c.requires.0 (input_file x c.requires.0 _ _ c.sheet_size.ensures c.requires.1 c.load.ensures) c.executions.ensures f.ensures
    (omega (arith, filled_length _ _ f.ensures, words_few x, c.requires.2)) p.ensures.put p.ensures.ends
