-- The nibble bits are at their places, and what is cut, carried and wrapped is in range.
use Prim.Native.Nat.{ℕ, zero, suc, ◌+◌, ◌/◌, ◌%◌}
use lib.Dec.{ltb}
use Rattle.bits.specs.Bits.{flag}
use Rattle.bits.proofs.Laws.{merged_wrap, zero_wrap, bit_wrap, carry-lt}
use Rattle.bits.proofs.BitByBit.{bit-lt}
use Rattle.bits.proofs.Bounds.{flag-lt, selected_bounds}
use Rattle.machine.proofs.Nibbles.{Apart, apart_none, apart-suc, apart-le}
use Rattle.arithmetic.specs.Nibbles.{nibble_carries, nibble_borrows}

pub carries-apart : (k a b c : ℕ) → Apart k (nibble_carries k a b c)
unfolding nibble_carries
carries-apart zero a b c = apart_none
carries-apart (suc k) a b c = apart-suc k _ _ (flag-lt (ltb 9 (a % 16 + b % 16 + c))) (carries-apart k (a / 16) (b / 16) (flag (ltb 9 (a % 16 + b % 16 + c))))

pub borrows-apart : (k a b w : ℕ) → Apart k (nibble_borrows k a b w)
unfolding nibble_borrows
borrows-apart zero a b w = apart_none
borrows-apart (suc k) a b w = apart-suc k _ _ (flag-lt (ltb (a % 16) (b % 16 + w))) (borrows-apart k (a / 16) (b / 16) (flag (ltb (a % 16) (b % 16 + w))))

-- bits that are four apart, times six, fit the word
pub ruleset spread_six = (apart-le)

-- a result may be wrapped at 32 bits before it is cut to the selected bytes: Y, Z and N are the same
pub ruleset wrapping = (merged_wrap, zero_wrap, bit_wrap, selected_bounds, carry-lt, bit-lt)
