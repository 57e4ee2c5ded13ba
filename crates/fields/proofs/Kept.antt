-- Every operation of the quarter leaves Y and Q below 2 ^ 32 and the status register in range, where the operands are below 2 ^ 32.
use Prim.Native.Nat.{ℕ, zero, suc, ◌+◌, ◌-◌, ◌%◌, ◌^◌, ◌≤◌, ◌<◌}
use native.Mathlib.Nat.{mod-lt, le_of_lt}
use native.Mathlib.Omega.{arith}
use lib.Dec.{lit<}
use lib.ListN.{get_or}
use lib.Bits.{bit_and, bit_or, bit_xor, and_lt, or_lt, xor_lt}
use Rattle.bits.specs.Bits.{bit_of, sign_of, zero_of, not_of, up_by, rotated_up, masked_of, put_bit}
use Rattle.bits.proofs.BitByBit.{bit-lt}
use Rattle.bits.proofs.Bounds.{zero_flag, choose-lt, not-lt, cut-lt, up_lt, mask_lt, rotated_lt, masked-lt, put-bit-lt}
use Rattle.machine.specs.declared.Inputs.{Inputs}
use Rattle.machine.specs.Status.{loaded, with_n, with_z}
use Rattle.machine.specs.Inputs.{position_of, given_width, full_width, width_of, read_by, leaving, Sound, Kept}
use Rattle.machine.proofs.Round.{loaded_good, read-lt}
use Rattle.machine.proofs.Kept.{good_n, good_z, good_l, kept_at}
use Rattle.fields.specs.Position.{place_of, sixth_of, displaced, whole_result}
use Rattle.fields.specs.NBit.{down_by, shift, rotate}
use Rattle.fields.specs.BitManipulation.{extracted, extract_bit, put_into, put_status, EXTBIT-STAT}
use Rattle.fields.specs.Field.{aligned_field, moved_field, moved, in_field, beside, rotated_pair, extract_pair, PASS-MASK, fields}
use Rattle.fields.proofs.Laws.{down_lt}

-- a flag is a data word
word : (f : ℕ) → f < 2 → f < 2 ^ 32
word f h = omega arith

module _ (x : Inputs) (sound : Sound x) (hq : x.q < 2 ^ 32) where
  place-lt : place_of x < 32
  place-lt = mod-lt (position_of x) (lit< tt)

  width-le : width_of x ≤ 32
  width-le = full (given_width x) (choose-lt (x.code % 2) x.width x.status.width 32 sound.width sound.status.width)
    where
      full : (w : ℕ) → w < 32 → full_width w ≤ 32
      full zero h = omega arith
      full (suc w) h = omega arith

  -- y and a Z
  leaving-kept : (y z : ℕ) → y < 2 ^ 32 → z < 2 → Kept (leaving x y (with_z z (with_n (sign_of 32 y) x.status)))
  leaving-kept y z hy hz = record { y = hy; q = hq; status = good_z z _ hz (good_n (sign_of 32 y) x.status (bit-lt 31 y) sound.status) }

  whole-kept : (y : ℕ) → y < 2 ^ 32 → Kept (whole_result x y)
  whole-kept y hy = leaving-kept y (zero_of 32 y) hy (zero_flag 32 y)

  extracted-lt : (s : ℕ) → extracted x s < 2
  extracted-lt s = mod-lt (bit_of (place_of x) s + sixth_of x) (lit< tt)

  moved-lt : (s : ℕ) → s < 2 ^ 32 → moved x s < 2 ^ 32
  moved-lt s hs =
      choose-lt (sixth_of x) (up_by (position_of x) s) (rotated_up (32 - (64 - position_of x)) s) (2 ^ 32) (up_lt (position_of x) s)
      (rotated_lt (32 - (64 - position_of x)) s (omega arith) hs)

  pub shift_kept : (s f : ℕ) → s < 2 ^ 32 → f < 2 → Kept (shift x s f)
  unfolding shift
  shift_kept s f hs hf =
      whole-kept (displaced x (λ k. up_by k s) (λ k. down_by k s f))
      (choose-lt (sixth_of x) (up_by (position_of x) s) (down_by (64 - position_of x) s f) (2 ^ 32) (up_lt (position_of x) s) (down_lt (64 - position_of x) s f hs hf))

  pub rotate-kept : (s : ℕ) → s < 2 ^ 32 → Kept (rotate x s)
  unfolding rotate
  rotate-kept s hs = whole-kept (rotated_up (place_of x) s) (rotated_lt (place_of x) s (le_of_lt place-lt) hs)

  pub extract_bit-kept : (s : ℕ) → Kept (extract_bit x s)
  unfolding extract_bit
  extract_bit-kept s =
      record {
        y = word (extracted x s) (extracted-lt s);
        q = hq;
        status = good_l (extracted x s) (with_z (zero_of 32 (extracted x s)) x.status) (extracted-lt s) (good_z (zero_of 32 (extracted x s)) x.status (zero_flag 32 (extracted x s)) sound.status);
      }

  pub put_into-kept : (s f z : ℕ) → s < 2 ^ 32 → f < 2 → z < 2 → Kept (put_into x s f z)
  unfolding put_into
  put_into-kept s f z hs hf hz = leaving-kept (put_bit (place_of x) f s) z (put-bit-lt (place_of x) f s place-lt hf hs) hz

  pub put_status-kept : (f : ℕ) → Kept (put_status x f)
  unfolding put_status
  put_status-kept f =
      let w : ℕ = put_bit (place_of x) f (read_by x x.status) in
      record { y = read-lt x.borrow (loaded w) (loaded_good w); q = hq; status = loaded_good w }

  pub EXTBIT-STAT-kept : Kept (EXTBIT-STAT x)
  unfolding EXTBIT-STAT
  EXTBIT-STAT-kept =
      let f : ℕ = extracted x (read_by x x.status) in
      record { y = word f (extracted-lt (read_by x x.status)); q = hq; status = good_l f x.status (extracted-lt (read_by x x.status)) sound.status }

  pub in_field-kept : (field r u : ℕ) → r < 2 ^ 32 → u < 2 ^ 32 → Kept (in_field x field r u)
  unfolding in_field
  in_field-kept field r u hr hu =
      leaving-kept (masked_of field r u) (zero_of 32 (bit_and (masked_of field r u) field)) (masked-lt field r u hr hu) (zero_flag 32 (bit_and (masked_of field r u) field))

  pub extract_pair-kept : (high low : ℕ) → Kept (extract_pair x high low)
  unfolding extract_pair
  extract_pair-kept high low = whole-kept _ (cut-lt (width_of x) (displaced x (λ k. rotated_pair k (beside high low)) (λ k. rotated_pair (64 - k) (beside high low))) width-le)

  pub PASS-MASK-kept : Kept (PASS-MASK x)
  unfolding PASS-MASK
  PASS-MASK-kept =
      record {
        y = choose-lt (sixth_of x) (aligned_field x) (not_of (aligned_field x)) (2 ^ 32) (mask_lt (place_of x) (width_of x)) (not-lt (aligned_field x));
        q = hq;
        status = sound.status;
      }

-- ---- all 32 at once
module _ (x : Inputs) (sound : Sound x) (ha : x.a < 2 ^ 32) (hb : x.b < 2 ^ 32) (hq : x.q < 2 ^ 32) where
  sign-filled : (s : ℕ) → s < 2 ^ 32 → Kept (shift x s (sign_of 32 s))
  sign-filled s hs = shift_kept x sound hq s (sign_of 32 s) hs (bit-lt 31 s)

  zero-filled : (s : ℕ) → s < 2 ^ 32 → Kept (shift x s 0)
  zero-filled s hs = shift_kept x sound hq s 0 hs (lit< tt)

  set-kept : (s : ℕ) → s < 2 ^ 32 → Kept (put_into x s 1 0)
  set-kept s hs = put_into-kept x sound hq s 1 0 hs (lit< tt) (lit< tt)

  reset-kept : (s : ℕ) → s < 2 ^ 32 → Kept (put_into x s 0 1)
  reset-kept s hs = put_into-kept x sound hq s 0 1 hs (lit< tt) (lit< tt)

  -- r in a field of B
  over-b : (field r : ℕ) → r < 2 ^ 32 → Kept (in_field x field r x.b)
  over-b field r hr = in_field-kept x sound hq field r x.b hr hb

  extract-kept : (s : ℕ) → s < 2 ^ 32 → Kept (in_field x (moved_field x) (moved x s) 0)
  extract-kept s hs = in_field-kept x sound hq (moved_field x) (moved x s) 0 (moved-lt x sound hq s hs) (lit< tt)

  pub fields-kept : (k : ℕ) → Kept (get_or fields k PASS-MASK x)
  fields-kept =
      let A : ℕ = x.a in
      let B : ℕ = x.b in
      let M : ℕ = moved x A in
      let hm : M < 2 ^ 32 = moved-lt x sound hq A ha in
      kept_at x fields PASS-MASK (
        sign-filled A ha,
        (
          sign-filled B hb,
          (
            zero-filled A ha,
            (
              zero-filled B hb,
              (
                rotate-kept x sound hq A ha,
                (
                  rotate-kept x sound hq B hb,
                  (
                    extract_bit-kept x sound hq A,
                    (
                      extract_bit-kept x sound hq B,
                      (
                        set-kept A ha,
                        (
                          set-kept B hb,
                          (
                            reset-kept A ha,
                            (
                              reset-kept B hb,
                              (
                                put_status-kept x sound hq 1,
                                (
                                  put_status-kept x sound hq 0,
                                  (
                                    over-b (aligned_field x) (not_of B) (not-lt B),
                                    (
                                      over-b (aligned_field x) B hb,
                                      (
                                        over-b (moved_field x) (not_of M) (not-lt M),
                                        (
                                          over-b (aligned_field x) (not_of A) (not-lt A),
                                          (
                                            over-b (moved_field x) M hm,
                                            (
                                              over-b (aligned_field x) A ha,
                                              (
                                                over-b (moved_field x) (bit_or M B) (or_lt 32 M B hm hb),
                                                (
                                                  over-b (aligned_field x) (bit_or A B) (or_lt 32 A B ha hb),
                                                  (
                                                    over-b (moved_field x) (bit_xor M B) (xor_lt 32 M B hm hb),
                                                    (
                                                      over-b (aligned_field x) (bit_xor A B) (xor_lt 32 A B ha hb),
                                                      (
                                                        over-b (moved_field x) (bit_and M B) (and_lt 32 M B hm hb),
                                                        (
                                                          over-b (aligned_field x) (bit_and A B) (and_lt 32 A B ha hb),
                                                          (
                                                            extract-kept A ha,
                                                            (
                                                              extract-kept B hb,
                                                              (
                                                                extract_pair-kept x sound hq A B,
                                                                (
                                                                  extract_pair-kept x sound hq B A,
                                                                  (EXTBIT-STAT-kept x sound hq, (PASS-MASK-kept x sound hq, tt)),
                                                                ),
                                                              ),
                                                            ),
                                                          ),
                                                        ),
                                                      ),
                                                    ),
                                                  ),
                                                ),
                                              ),
                                            ),
                                          ),
                                        ),
                                      ),
                                    ),
                                  ),
                                ),
                              ),
                            ),
                          ),
                        ),
                      ),
                    ),
                  ),
                ),
              ),
            ),
          ),
        ),
      )
      (PASS-MASK-kept x sound hq)
