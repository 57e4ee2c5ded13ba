-- What most words leave is in range.
use mathlib.Core.List.{List, [], ◌∷◌}
use Prim.Native.Nat.{ℕ, zero, suc, ◌^◌, ◌≤◌, ◌<◌}
use lib.ListN.{get_or}
use Rattle.bits.specs.Bits.{zero_of, sign_of}
use Rattle.bits.proofs.Bounds.{selected_bounds, zero_flag, sign-flag, merged-lt}
use Rattle.machine.specs.declared.Status.{Status}
use Rattle.machine.specs.declared.Inputs.{Inputs}
use Rattle.machine.specs.declared.Outputs.{Outputs}
use Rattle.machine.specs.Status.{Good, with_position, with_c, with_n, with_v, with_z, with_l, with_m, with_s}
use Rattle.machine.specs.Inputs.{bits_of, zero_sign, result_of, Sound, Kept}

pub bits-le : (x : Inputs) → Sound x → bits_of x ≤ 32
bits-le x h = (selected_bounds x.code h.code).1

-- a good register with one part changed is good
pub good_position : (f : ℕ) (s : Status) → f < 256 → Good s → Good (with_position f s)
good_position f s h g = record { position = h; width = g.width; c = g.c; n = g.n; v = g.v; z = g.z; l = g.l; m = g.m; s = g.s; nibbles = g.nibbles }

pub good_c : (f : ℕ) (s : Status) → f < 2 → Good s → Good (with_c f s)
good_c f s h g = record { position = g.position; width = g.width; c = h; n = g.n; v = g.v; z = g.z; l = g.l; m = g.m; s = g.s; nibbles = g.nibbles }

pub good_n : (f : ℕ) (s : Status) → f < 2 → Good s → Good (with_n f s)
good_n f s h g = record { position = g.position; width = g.width; c = g.c; n = h; v = g.v; z = g.z; l = g.l; m = g.m; s = g.s; nibbles = g.nibbles }

pub good_v : (f : ℕ) (s : Status) → f < 2 → Good s → Good (with_v f s)
good_v f s h g = record { position = g.position; width = g.width; c = g.c; n = g.n; v = h; z = g.z; l = g.l; m = g.m; s = g.s; nibbles = g.nibbles }

pub good_z : (f : ℕ) (s : Status) → f < 2 → Good s → Good (with_z f s)
good_z f s h g = record { position = g.position; width = g.width; c = g.c; n = g.n; v = g.v; z = h; l = g.l; m = g.m; s = g.s; nibbles = g.nibbles }

pub good_l : (f : ℕ) (s : Status) → f < 2 → Good s → Good (with_l f s)
good_l f s h g = record { position = g.position; width = g.width; c = g.c; n = g.n; v = g.v; z = g.z; l = h; m = g.m; s = g.s; nibbles = g.nibbles }

pub good_m : (f : ℕ) (s : Status) → f < 2 → Good s → Good (with_m f s)
good_m f s h g = record { position = g.position; width = g.width; c = g.c; n = g.n; v = g.v; z = g.z; l = g.l; m = h; s = g.s; nibbles = g.nibbles }

pub good_s : (f : ℕ) (s : Status) → f < 2 → Good s → Good (with_s f s)
good_s f s h g = record { position = g.position; width = g.width; c = g.c; n = g.n; v = g.v; z = g.z; l = g.l; m = g.m; s = h; nibbles = g.nibbles }

pub good_zero-sign : (n r : ℕ) (s : Status) → Good s → Good (zero_sign n r s)
good_zero-sign n r s g = good_z (zero_of n r) _ (zero_flag n r) (good_n (sign_of n r) s (sign-flag n r) g)

pub result-kept : (x : Inputs) (r u : ℕ) → Sound x → x.q < 2 ^ 32 → u < 2 ^ 32 → Kept (result_of x r u)
result-kept x r u h hq hu = record {
  y = merged-lt (bits_of x) r u (bits-le x h) hu;
  q = hq;
  status = good_zero-sign (bits_of x) r x.status h.status;
}

-- every operation of a list, entry by entry
abbrev pub EachKept : Inputs → List (Inputs → Outputs) → Type 0
EachKept x [] = Unit
EachKept x (f ∷ fs) = Kept (f x) × EachKept x fs

pub kept_at : (x : Inputs) (fs : List (Inputs → Outputs)) (d : Inputs → Outputs) → EachKept x fs → Kept (d x) → (k : ℕ) → Kept (get_or fs k d x)
kept_at x [] d e h k = h
kept_at x (f ∷ fs) d e h zero = e.0
kept_at x (f ∷ fs) d e h (suc k) = kept_at x fs d e.1 h k
