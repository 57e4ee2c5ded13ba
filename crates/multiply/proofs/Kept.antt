-- A multiply word on words leaves words, and a status register within its bits.
use Prim.Native.Nat.{ℕ, ◌^◌, ◌≤◌, ◌<◌}
use lib.ListN.{get_or}
use Rattle.bits.proofs.BitByBit.{bit-lt}
use Rattle.machine.specs.declared.Inputs.{Inputs}
use Rattle.machine.specs.Inputs.{bits_of, Sound, Kept}
use Rattle.multiply.specs.Multiply.{shifted_by2, first_step, step, SMULFIRST, UMULLAST, multiplies}
use Rattle.bits.proofs.Bounds.{zero_flag, merged-lt}
use Rattle.machine.proofs.Kept.{bits-le, good_m, good_z, kept_at}

module _ (x : Inputs) (sound : Sound x) (hb : x.b < 2 ^ 32) (hq : x.q < 2 ^ 32) where
  bits : bits_of x ≤ 32
  bits = bits-le x sound

  shifted-kept : (f : ℕ) → Kept (shifted_by2 x f)
  shifted-kept f = record { y = merged-lt _ _ _ bits hb; q = merged-lt _ _ _ bits hq; status = good_m _ _ (bit-lt 1 x.q) sound.status }

  pub first-kept : (a : ℕ) → Kept (first_step x a)
  unfolding first_step
  first-kept a = shifted-kept _

  pub step_kept : (a : ℕ) → Kept (step x a)
  unfolding step
  step_kept a = shifted-kept _

  pub last-kept : Kept (UMULLAST x)
  unfolding UMULLAST
  last-kept = record { y = merged-lt _ _ _ bits hb; q = hq; status = good_z _ _ (zero_flag _ _) sound.status }

  -- the family
  pub multiplies-kept : (k : ℕ) → Kept (get_or multiplies k SMULFIRST x)
  multiplies-kept k = kept_at x multiplies SMULFIRST (first-kept _, (step_kept _, (last-kept, (step_kept _, (first-kept _, tt))))) (first-kept _) k
