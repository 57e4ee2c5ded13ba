-- The lines so far stand in the text, and with those left they are all (`Adding`).
use mathlib.Core.Path.{sym, subst, ap}
use Prim.Native.Nat.{◌<◌}
use native.Mathlib.Omega.{arith}
use lib.ListN.{length}
use Rattle.text.proofs.Fill.{added_as}
use Rattle.chip.specs.declared.Word.{Word}
use Rattle.sheet.specs.Sheet.{words_of}
use Rattle.listing.specs.Lines.{word_line, ended}
use Rattle.listing.proofs.Lines.{adding-room, adding-more, adding_done}
use Rattle.listing.proofs.put_lines.Goals as goal

pub put_line-at-requires : goal.put_line-at-requires
put_line-at-requires c = let h : c.loop-k.k < words_of c.args.sheet.now = omega (arith, c.loop-k-test.true, c.words-count.ensures) in (
  subst (λ (x : Word). x.opcode < 128) (sym c.word_at.ensures.0) (c.requires.0.word c.loop-k.k h).range.opcode,
  omega (arith, adding-room c.loop-k.invariant h c.requires.1, ap (λ (x : Word). length (ended (word_line x))) c.word_at.ensures.0),
)

pub loop-k-preserved : goal.loop-k-preserved
loop-k-preserved c = adding-more c.loop-k.invariant (omega (arith, c.loop-k-test.true, c.words-count.ensures)) (omega (arith, c.requires.1)) c.put_line-at.auto.text
    (added_as (ap (λ (x : Word). ended (word_line x)) c.word_at.ensures.0) c.put_line-at.ensures)

pub returns : goal.returns
returns c = adding_done c.loop-k.invariant (omega (arith, c.loop-k-test.false, c.words-count.ensures))
