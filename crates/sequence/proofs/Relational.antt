-- Bits 13, 14 and 15 of the status register as it is read are the three relational bits, the first under the borrow switch of whatever reads it.
use mathlib.Core.Path.{◌≡◌}
use Prim.Native.Nat.{ℕ, zero, suc, ◌+◌, ◌-◌, ◌*◌, ◌/◌, ◌%◌, ◌^◌, ◌<◌, max}
use native.Mathlib.Nat.{mod-lt}
use native.Mathlib.Omega.{arith}
use Rattle.bits.specs.Bits.{bit_of}
use Rattle.machine.specs.declared.Status.{Status}
use Rattle.machine.specs.Status.{UNSIGNED-LE, SIGNED-LT, SIGNED-LE, worked_out, gathered, as_read, Good}
use Rattle.machine.proofs.Round.{worked-out-lt, field_at}

-- the three together
worked-out-read : (borrow : ℕ) (s : Status) → Good s → as_read borrow s / 2 ^ 13 % 2 ^ 3 ≡ worked_out borrow s
unfolding as_read
worked-out-read borrow s g =
    field_at 13 3 (s.c + s.n * 2 + s.v * 2 ^ 2 + s.z * 2 ^ 3 + s.l * 2 ^ 4 + s.m * 2 ^ 5 + s.s * 2 ^ 6 + gathered 8 s.nibbles * 2 ^ 8) (worked_out borrow s)
    (s.position + s.width * 2 ^ 8) (as_read borrow s) (omega arith) (omega (arith, g.position, g.width)) (worked-out-lt borrow s g)

pub relational : (borrow : ℕ) (s : Status) → Good s
    → (bit_of 13 (as_read borrow s) ≡ UNSIGNED-LE borrow s) × (bit_of 14 (as_read borrow s) ≡ SIGNED-LT s) × (bit_of 15 (as_read borrow s) ≡ SIGNED-LE s)
relational borrow s g =
    apart (as_read borrow s) (UNSIGNED-LE borrow s) (SIGNED-LT s) (SIGNED-LE s) (le borrow) lt (flags (SIGNED-LT s) s.z lt g.z) (worked-out-read borrow s g)
  where
    lt : SIGNED-LT s < 2
    lt = mod-lt (s.n + s.v) (omega arith)

    flags : (f g : ℕ) → f < 2 → g < 2 → max f g < 2
    flags f g hf hg = omega arith

    le : (borrow : ℕ) → UNSIGNED-LE borrow s < 2
    le zero = flags (1 - s.c) s.z (omega arith) g.z
    le (suc k) = flags s.c s.z g.c g.z

    apart : (x e f g : ℕ) → e < 2 → f < 2 → g < 2 → x / 2 ^ 13 % 2 ^ 3 ≡ e + f * 2 + g * 4 → (bit_of 13 x ≡ e) × (bit_of 14 x ≡ f) × (bit_of 15 x ≡ g)
    apart x e f g he hf hg w = (omega arith, omega arith, omega arith)
