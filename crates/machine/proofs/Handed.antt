-- What is handed back can be handed in again, and what is taken in is in range.
use mathlib.Core.Path.{◌≡◌, sym, ap, ◌∙◌}
use Rattle.machine.specs.declared.Status.{Status}
use Rattle.machine.specs.declared.Machine.{Machine}
use Rattle.machine.specs.declared.Core.{Core}
use Rattle.machine.specs.Status.{carry_mode, Good}
use Rattle.machine.specs.Core.{fresh_of, taken, handed_back}
use Rattle.machine.proofs.Round.{loaded-read, loaded_good}

pub taken_back : (c : Core) → Good c.status → taken (handed_back c) ≡ c
taken_back c g = ap (λ (s : Status). record { q = c.q; status = s }) (loaded-read carry_mode c.status g)

pub taken_good : (m : Machine) → Good (taken m).status
taken_good m = loaded_good m.status

-- no second answer meets the promise of `fresh`
pub one-fresh : (m k : Machine) → m ≡ fresh_of → k ≡ fresh_of → m ≡ k
one-fresh m k e f = e ∙ sym f
