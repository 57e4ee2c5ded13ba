-- The pins are bits of the status word, as it is handed in and as it is read, under whichever switch.
use mathlib.Core.Path.{◌≡◌, refl, sym, ap, ◌∙◌}
use Prim.Native.Nat.{ℕ}
use Rattle.machine.specs.declared.Status.{Status}
use Rattle.machine.specs.Status.{as_read, loaded, Good}
use Rattle.machine.specs.Pins.{pins_of, pins_in}
use Rattle.machine.proofs.Round.{loaded-read}

pub pins-loaded : (x : ℕ) → pins_of (loaded x) ≡ pins_in x
unfolding loaded
pins-loaded x = refl

pub pins-read : (borrow : ℕ) (s : Status) → Good s → pins_of s ≡ pins_in (as_read borrow s)
pins-read borrow s g = ap pins_of (sym (loaded-read borrow s g)) ∙ pins-loaded (as_read borrow s)
