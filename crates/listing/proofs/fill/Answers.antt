-- The first line, then the words'.
use mathlib.Core.Path.{ap, ap₂, ◌∙◌}
use Prim.Native.Nat.{ℕ}
use native.Mathlib.Omega.{arith}
use lib.ListN.{length}
use Rattle.text.proofs.Fill.{added_as}
use Rattle.listing.specs.Lines.{first_line, ended}
use Rattle.listing.proofs.Lines.{first-length, listing_parts, listing_written}
use Rattle.listing.proofs.fill.Goals as goal

pub put-at-requires : goal.put-at-requires
put-at-requires c = omega (arith, c.requires.1, ap length c.first_line-first.ensures ∙ first-length _ _, listing_parts c.args.sheet.now)

pub put_lines-requires : goal.put_lines-requires
put_lines-requires c = (c.requires.0, omega (arith, c.requires.1, ap length c.first_line-first.ensures ∙ first-length _ _, listing_parts c.args.sheet.now, c.put-at.ensures.ends, c.put-at.auto.text))

pub returns : goal.returns
returns c = listing_written c.args.sheet.now c.requires.1
    (added_as (c.first_line-first.ensures ∙ ap₂ (λ (i j : ℕ). ended (first_line i j)) c.version.ensures c.declared.ensures) c.put-at.ensures) c.put_lines.ensures
