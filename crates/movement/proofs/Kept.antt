-- Every operation of this crate leaves Y, Q and the status register in range.
use Prim.Native.Nat.{ℕ, ◌-◌, ◌^◌, ◌≤◌, ◌<◌}
use native.Mathlib.Omega.{arith}
use Rattle.bits.specs.Bits.{sign_of, zero_of, merged, copies, priority_of}
use Rattle.bits.proofs.Bounds.{zero_flag, sign-flag, merged-lt, copies-lt, priority-le}
use Rattle.machine.specs.declared.Inputs.{Inputs}
use Rattle.machine.specs.Inputs.{bits_of, read_by, Sound, Kept}
use Rattle.machine.proofs.Round.{loaded_good, read-lt}
use Rattle.machine.proofs.Kept.{bits-le, good_z, good_position, good_zero-sign, result-kept}
use Rattle.movement.specs.DataMovement.{zero_extend, sign_extend, PASS-STAT, PASS-Q, load_q, load_status}
use Rattle.movement.specs.Logical.{SIGN}
use Rattle.movement.specs.Prioritize.{prioritize}

module _ (x : Inputs) (h : Sound x) (hb : x.b < 2 ^ 32) (hq : x.q < 2 ^ 32) where
  pub zero_extend-kept : (s : ℕ) → Kept (zero_extend x s)
  unfolding zero_extend
  zero_extend-kept s = result-kept x s 0 h hq (omega arith)

  pub sign_extend-kept : (s : ℕ) → Kept (sign_extend x s)
  unfolding sign_extend
  sign_extend-kept s = record {
    y = merged-lt (bits_of x) s (copies (sign_of (bits_of x) s)) (bits-le x h) (copies-lt (sign_of (bits_of x) s) (sign-flag (bits_of x) s));
    q = hq;
    status = good_zero-sign 32 _ x.status h.status;
  }

  pub pass_status-kept : Kept (PASS-STAT x)
  unfolding PASS-STAT
  pass_status-kept = record { y = merged-lt (bits_of x) (read_by x x.status) x.b (bits-le x h) hb; q = hq; status = h.status }

  pub pass_q-kept : Kept (PASS-Q x)
  unfolding PASS-Q
  pass_q-kept = record { y = merged-lt (bits_of x) x.q x.b (bits-le x h) hb; q = hq; status = h.status }

  pub load-q-kept : (s : ℕ) → Kept (load_q x s)
  unfolding load_q
  load-q-kept s = record {
    y = merged-lt (bits_of x) s x.q (bits-le x h) hq;
    q = merged-lt (bits_of x) s x.q (bits-le x h) hq;
    status = good_zero-sign (bits_of x) s x.status h.status;
  }

  pub load-status-kept : (s : ℕ) → Kept (load_status x s)
  unfolding load_status
  load-status-kept s = record {
    y = merged-lt (bits_of x) s (read_by x x.status) (bits-le x h) (read-lt x.borrow x.status h.status);
    q = hq;
    status = loaded_good (merged (bits_of x) s (read_by x x.status));
  }

  pub sign_kept : Kept (SIGN x)
  unfolding SIGN
  sign_kept = record {
    y = merged-lt (bits_of x) (copies x.status.n) x.b (bits-le x h) hb;
    q = hq;
    status = good_z (1 - x.status.n) x.status (omega arith) h.status;
  }

  pub prioritize-kept : (s : ℕ) → Kept (prioritize x s)
  unfolding prioritize
  prioritize-kept s =
      let l : priority_of (bits_of x) s ≤ bits_of x = priority-le (bits_of x) s in
      let b : bits_of x ≤ 32 = bits-le x h in
      let c : priority_of (bits_of x) s < 256 = small (priority_of (bits_of x) s) (bits_of x) l b in
      record {
        y = wide (priority_of (bits_of x) s) c;
        q = hq;
        status = good_position (priority_of (bits_of x) s) _ c (good_z (zero_of (bits_of x) s) x.status (zero_flag (bits_of x) s) h.status);
      }
    where
      small : (p n : ℕ) → p ≤ n → n ≤ 32 → p < 256
      small p n l b = omega arith

      wide : (p : ℕ) → p < 256 → p < 2 ^ 32
      wide p h = omega arith
