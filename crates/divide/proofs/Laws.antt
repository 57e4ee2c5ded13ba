-- F is a number in the definitions and a data word in the code: on the selected bits there is no difference, upshifted or not.
use mathlib.Core.Path.{◌≡◌, refl, sym, ap, ◌∙◌}
use Prim.Native.Nat.{ℕ, zero, suc, ◌-◌, ◌%◌, ◌^◌, ◌≤◌, ◌<◌}
use native.Mathlib.Omega.{arith}
use lib.Pow.{split}
use Rattle.bits.specs.Bits.{sign_of, zero_of, merged, choose}
use Rattle.bits.proofs.Laws.{choose-zero, choose_one, merged_wrap, zero_wrap, bit_wrap, carry-lt}
use Rattle.bits.proofs.BitByBit.{bit-lt}
use Rattle.machine.proofs.Kept.{bits-le}
use Rattle.divide.specs.Steps.{upshifted}

pub sign_wrap : (n v : ℕ) → n ≤ 32 → sign_of n (v % 2 ^ 32) ≡ sign_of n v
sign_wrap n v h = bit_wrap (n - 1) v (omega arith)

pub up_wrap : (v f : ℕ) → upshifted (v % 2 ^ 32) f % 2 ^ 32 ≡ upshifted v f % 2 ^ 32
up_wrap v f = omega arith

pub merged-up : (n v f u : ℕ) → n ≤ 32 → merged n (upshifted (v % 2 ^ 32) f) u ≡ merged n (upshifted v f) u
merged-up n v f u h =
    sym (merged_wrap n _ u h) ∙ ap (λ (r : ℕ). merged n r u) (up_wrap v f) ∙ merged_wrap n _ u h

pub zero-up : (n v f : ℕ) → n ≤ 32 → zero_of n (upshifted (v % 2 ^ 32) f) ≡ zero_of n (upshifted v f)
zero-up n v f h = sym (zero_wrap n _ h) ∙ ap (zero_of n) (up_wrap v f) ∙ zero_wrap n _ h

-- a word over itself
pub merged-same : (n u : ℕ) → merged n u u ≡ u
unfolding merged
merged-same n u = split u n

-- a choice by the complement of a flag
pub choose-not {ℓ} : {A : Type ℓ} (f : ℕ) (a b : A) → f < 2 → choose (1 - f) a b ≡ choose f b a
choose-not zero a b h = refl
choose-not (suc zero) a b h = refl
choose-not (suc (suc f)) a b h = absurd (omega arith)

-- ---- what the code of each step asks for
pub ruleset wrapping = (merged_wrap, zero_wrap, sign_wrap, up_wrap, merged-up, zero-up, bits-le)

pub ruleset correcting = (choose-zero, choose_one, choose-not, merged-same)

pub ruleset flags = (carry-lt, bit-lt)
