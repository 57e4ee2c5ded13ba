-- Every arithmetic instruction leaves words and a status register in range.
use Prim.Native.Nat.{ℕ, ◌+◌, ◌-◌, ◌^◌, ◌<◌}
use native.Mathlib.Omega.{arith}
use lib.ListN.{get_or}
use Rattle.bits.specs.Bits.{xor, not_of, carry_of}
use Rattle.bits.proofs.BitByBit.{bit-lt}
use Rattle.bits.proofs.Bounds.{xor_lt, zero_flag, sign-flag, overflow-flag, merged-lt}
use Rattle.machine.specs.declared.Inputs.{Inputs}
use Rattle.machine.specs.Inputs.{bits_of, Sound, Kept}
use Rattle.machine.proofs.Nibbles.{Apart}
use Rattle.machine.proofs.Kept.{bits-le, kept_at}
use Rattle.arithmetic.specs.Nibbles.{nibble_carries, nibble_borrows}
use Rattle.arithmetic.specs.Arithmetic.{added, sum, difference}
use Rattle.arithmetic.specs.Decimal.{top_nibble, next_nibble, correction, corrected, sum_correct, diff_correct, DIFF-CORR-B, decimals}
use Rattle.arithmetic.proofs.Bounds.{carries-apart, borrows-apart}

module _ (x : Inputs) (s : Sound x) (lq : x.q < 2 ^ 32) where
  added-kept : (p r c i nibbles u : ℕ) → Apart 8 nibbles → u < 2 ^ 32 → Kept (added x p r c i nibbles u)
  added-kept p r c i nibbles u h l =
      record {
        y = merged-lt (bits_of x) (p + r + c) u (bits-le x s) l;
        q = lq;
        status =
            record {
              position = s.status.position;
              width = s.status.width;
              c = xor_lt (carry_of (bits_of x) p r c) i;
              n = sign-flag (bits_of x) (p + r + c);
              v = overflow-flag (bits_of x) p r c;
              z = zero_flag (bits_of x) (p + r + c);
              l = s.status.l;
              m = s.status.m;
              s = s.status.s;
              nibbles = h;
            };
      }

  pub sum_kept : (p r c i u : ℕ) → u < 2 ^ 32 → Kept (sum x p r c i u)
  unfolding sum
  sum_kept p r c i u l = added-kept p r c i (nibble_carries 8 p r c) u (carries-apart 8 p r c) l

  pub difference-kept : (p r c u : ℕ) → u < 2 ^ 32 → Kept (difference x p r c u)
  unfolding difference
  difference-kept p r c u l = added-kept p (not_of r) c x.borrow (nibble_borrows 8 p r (1 - c)) u (borrows-apart 8 p r (1 - c)) l

  corrected-kept : (r c o : ℕ) → c < 2 → o < 2 ^ 32 → Kept (corrected x r c o)
  corrected-kept r c o h l =
      record {
        y = merged-lt (bits_of x) r o (bits-le x s) l;
        q = lq;
        status =
            record {
              position = s.status.position;
              width = s.status.width;
              c = h;
              n = sign-flag (bits_of x) r;
              v = xor_lt (top_nibble x) (next_nibble x);
              z = zero_flag (bits_of x) r;
              l = s.status.l;
              m = s.status.m;
              s = s.status.s;
              nibbles = s.status.nibbles;
            };
      }

  pub sum_correct-kept : (o : ℕ) → o < 2 ^ 32 → Kept (sum_correct x o)
  unfolding sum_correct
  sum_correct-kept o l = corrected-kept (o + correction x) (top_nibble x) o (bit-lt (bits_of x - 4) x.status.nibbles) l

  pub diff_correct-kept : (o : ℕ) → o < 2 ^ 32 → Kept (diff_correct x o)
  unfolding diff_correct
  diff_correct-kept o l =
      corrected-kept (o + not_of (correction x) + 1) (1 - xor (top_nibble x) x.borrow) o (below (xor (top_nibble x) x.borrow)) l
    where
      below : (f : ℕ) → 1 - f < 2
      below f = omega arith

  -- the family
  pub decimals-kept : x.a < 2 ^ 32 → x.b < 2 ^ 32 → (k : ℕ) → Kept (get_or decimals k DIFF-CORR-B x)
  decimals-kept ha hb k =
      kept_at x decimals DIFF-CORR-B
      (sum_correct-kept x.a ha, (sum_correct-kept x.b hb, (diff_correct-kept x.a ha, (diff_correct-kept x.b hb, tt))))
      (diff_correct-kept x.b hb) k
