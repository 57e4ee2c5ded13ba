-- The bytes so far and those of the lines left are all (`Counting`).
use mathlib.Core.Path.{sym, subst, ap, ◌∙◌}
use Prim.Native.Nat.{◌<◌}
use native.Mathlib.Omega.{arith}
use lib.ListN.{length}
use Rattle.chip.specs.declared.Word.{Word}
use Rattle.packing.specs.Packing.{InRange}
use Rattle.sheet.specs.Sheet.{words_of}
use Rattle.listing.specs.Lines.{word_line, ended}
use Rattle.listing.proofs.Lines.{counting_start, counting_more, counting_done, line-length, words_few}
use Rattle.listing.proofs.size.Goals as goal

pub loop-k-init : goal.loop-k-init
loop-k-init c = counting_start c.args.sheet.now

pub overflow_add-bytes : goal.overflow_add-bytes
overflow_add-bytes c = let r = subst InRange (sym c.word_at.ensures.0) (c.requires.word _ (omega (arith, c.loop-k-test.true, c.words-count.ensures))).range in
    omega (arith, c.loop-k.invariant.small, c.loop-k.invariant.upto, c.line_length-bytes.ensures, line-length c.word_at.result r, r.write, r.select, r.carry, r.link, r.borrow, words_few c.args.sheet.now)

pub loop-k-preserved : goal.loop-k-preserved
loop-k-preserved c = let h : c.loop-k.k < words_of c.args.sheet.now = omega (arith, c.loop-k-test.true, c.words-count.ensures) in
    counting_more c.loop-k.invariant h (c.requires.word _ h).range (c.line_length-bytes.ensures ∙ ap (λ (x : Word). length (ended (word_line x))) c.word_at.ensures.0)

pub returns : goal.returns
returns c = counting_done c.loop-k.invariant (omega (arith, c.loop-k-test.false, c.words-count.ensures))
