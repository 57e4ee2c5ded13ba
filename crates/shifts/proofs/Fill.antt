-- A flag shifted in at the top of n bits stays within the data word.
use mathlib.Core.Path.{◌≡◌}
use Prim.Native.Nat.{ℕ, ◌-◌, ◌*◌, ◌%◌, ◌^◌, ◌≤◌, ◌<◌}
use native.Mathlib.Nat.{mod-eq_of_lt, zero-mul, one-mul}
use native.Mathlib.Omega.{arith}
use lib.Pow.{pow_mono}
use Rattle.bits.proofs.BitByBit.{by_flag}
use Rattle.bits.proofs.Laws.{merged_wrap, zero_wrap, bit_wrap}
use Rattle.machine.proofs.Kept.{bits-le}

pub top-le : (n f : ℕ) → n ≤ 32 → f < 2 → f * 2 ^ (n - 1) ≤ 2 ^ 31
top-le n f h hf =
    let i : n - 1 ≤ 31 = omega arith in
    let p : 2 ^ (n - 1) ≤ 2 ^ 31 = pow_mono i in
    let z : 0 * 2 ^ (n - 1) ≡ 0 = zero-mul (2 ^ (n - 1)) in
    let o : 1 * 2 ^ (n - 1) ≡ 2 ^ (n - 1) = one-mul (2 ^ (n - 1)) in
    by_flag (λ (f : ℕ). f * 2 ^ (n - 1) ≤ 2 ^ 31) (omega arith) (omega arith) f hf

pub top_wrap : (n f : ℕ) → n ≤ 32 → f < 2 → f * 2 ^ (n - 1) % 2 ^ 32 ≡ f * 2 ^ (n - 1)
top_wrap n f h hf = let l : f * 2 ^ (n - 1) ≤ 2 ^ 31 = top-le n f h hf in mod-eq_of_lt (omega arith)

pub ruleset filled = (top-le, top_wrap)

-- the selected bits of a word are those of the number before it wraps
pub ruleset wrapped = (bits-le, merged_wrap, zero_wrap, bit_wrap)
