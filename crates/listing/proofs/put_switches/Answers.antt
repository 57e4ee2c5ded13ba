-- One name after another.
use Prim.Native.Nat.{◌≤◌}
use native.Mathlib.Omega.{arith}
use lib.ListN.{length}
use Rattle.text.proofs.Fill.{added_on}
use Rattle.listing.specs.Lines.{switches_of}
use Rattle.listing.proofs.Lines.{switches_parts}
use Rattle.listing.proofs.put_switches.Goals as goal

pub put_switch-write-requires : goal.put_switch-write-requires
put_switch-write-requires c = omega (arith, c.requires, switches_parts c.args.w)

pub put_switch-select-requires : goal.put_switch-select-requires
put_switch-select-requires c = omega (arith, c.requires, switches_parts c.args.w, c.put_switch-write.ensures.ends, c.put_switch-write.auto.text)

pub put_switch-carry-requires : goal.put_switch-carry-requires
put_switch-carry-requires c = omega (arith, c.requires, switches_parts c.args.w, c.put_switch-write.ensures.ends, c.put_switch-write.auto.text, c.put_switch-select.ensures.ends, c.put_switch-select.auto.text)

pub put_switch-link-requires : goal.put_switch-link-requires
put_switch-link-requires c = omega (arith, c.requires, switches_parts c.args.w, c.put_switch-write.ensures.ends, c.put_switch-write.auto.text, c.put_switch-select.ensures.ends, c.put_switch-select.auto.text, c.put_switch-carry.ensures.ends, c.put_switch-carry.auto.text)

pub put_switch-requires : goal.put_switch-requires
put_switch-requires c = omega (arith, c.requires, switches_parts c.args.w, c.put_switch-write.ensures.ends, c.put_switch-write.auto.text, c.put_switch-select.ensures.ends, c.put_switch-select.auto.text, c.put_switch-carry.ensures.ends, c.put_switch-carry.auto.text, c.put_switch-link.ensures.ends, c.put_switch-link.auto.text)

pub returns : goal.returns
unfolding switches_of
returns c = let h : c.args.at ≤ length c.args.text.now = omega (arith, c.requires) in
    added_on h (added_on h (added_on h (added_on h c.put_switch-write.ensures c.put_switch-select.ensures) c.put_switch-carry.ensures) c.put_switch-link.ensures) c.put_switch.ensures
