-- Every divide instruction leaves data words and a status register in range.
use Prim.Native.Nat.{ℕ, ◌-◌, ◌%◌, ◌^◌, ◌<◌}
use native.Mathlib.Nat.{mod-lt}
use native.Mathlib.Omega.{arith}
use lib.Dec.{lit<}
use lib.ListN.{get_or}
use Rattle.bits.specs.Bits.{merged}
use Rattle.bits.proofs.Laws.{carry-lt}
use Rattle.bits.proofs.Bounds.{xor_lt, sign-flag, zero_flag, overflow-flag, merged-lt, choose-lt, put-bit-lt}
use Rattle.machine.specs.declared.Inputs.{Inputs}
use Rattle.machine.specs.Status.{Good}
use Rattle.machine.specs.Inputs.{bits_of, zero_sign, Sound, Kept}
use Rattle.machine.proofs.Kept.{bits-le, good_c, good_n, good_v, good_z, good_l, good_m, good_s, good_zero-sign, kept_at}
use Rattle.divide.specs.Steps.{step_carry, printed_test, remainder_test}
use Rattle.divide.specs.Divide.{SDIVFIRST, UDIVFIRST, SDIVSTEP, SDIVLAST1, MPDIVSTEP1, MPSDIVSTEP3, UDIVSTEP, UDIVLAST, MPDIVSTEP2, MPUDIVSTP3, REMCORR, QUOCORR, SDIVLAST2, divides}

word : (r : ℕ) → r % 2 ^ 32 < 2 ^ 32
word r = mod-lt r (lit< tt)

not_flag : (f : ℕ) → 1 - f < 2
not_flag f = omega arith

module _ (x : Inputs) (sound : Sound x) (hb : x.b < 2 ^ 32) (hq : x.q < 2 ^ 32) where
  over-b : (r : ℕ) → merged (bits_of x) r x.b < 2 ^ 32
  over-b r = merged-lt (bits_of x) r x.b (bits-le x sound) hb

  over-q : (r : ℕ) → merged (bits_of x) r x.q < 2 ^ 32
  over-q r = merged-lt (bits_of x) r x.q (bits-le x sound) hq

  flags : (r : ℕ) → Good (zero_sign (bits_of x) r x.status)
  flags r = good_zero-sign (bits_of x) r x.status sound.status

  step-carry : step_carry x < 2
  step-carry = choose-lt x.select _ _ 2 sound.carry sound.status.c

  pub SDIVFIRST-kept : Kept (SDIVFIRST x)
  unfolding SDIVFIRST
  SDIVFIRST-kept =
      record {
        y = over-b _;
        q = over-q _;
        status = good_s _ _ (sign-flag _ _) (good_m _ _ (not_flag _) (good_l _ _ (sign-flag _ _) (flags _)));
      }

  pub UDIVFIRST-kept : Kept (UDIVFIRST x)
  unfolding UDIVFIRST
  UDIVFIRST-kept =
      record {
        y = over-b _;
        q = over-q _;
        status = good_s _ _ (lit< tt) (good_m _ _ (lit< tt) (good_l _ _ (sign-flag _ _) (flags _)));
      }

  pub SDIVSTEP-kept : Kept (SDIVSTEP x)
  unfolding SDIVSTEP
  SDIVSTEP-kept =
      record {
        y = over-b _;
        q = over-q _;
        status = good_m _ _ (not_flag _) (good_l _ _ (sign-flag _ _) (good_c _ _ (carry-lt _ _ _ _ sound.status.m) (flags _)));
      }

  pub SDIVLAST1-kept : Kept (SDIVLAST1 x)
  unfolding SDIVLAST1
  SDIVLAST1-kept =
      record {
        y = over-b _;
        q = over-q _;
        status = good_m _ _ (not_flag _) (good_c _ _ (carry-lt _ _ _ _ sound.status.m) (flags _));
      }

  pub MPDIVSTEP1-kept : Kept (MPDIVSTEP1 x)
  unfolding MPDIVSTEP1
  MPDIVSTEP1-kept =
      record {
        y = word _;
        q = over-q _;
        status = good_l _ _ (sign-flag 32 _) (good_c _ _ (carry-lt _ _ _ _ sound.status.m) (good_z _ _ (zero_flag _ _) sound.status));
      }

  pub MPSDIVSTEP3-kept : Kept (MPSDIVSTEP3 x)
  unfolding MPSDIVSTEP3
  MPSDIVSTEP3-kept =
      record {
        y = over-b _;
        q = put-bit-lt _ _ _ (lit< tt) (not_flag _) hq;
        status = good_m _ _ (not_flag _) (good_l _ _ (sign-flag _ _) (good_c _ _ (carry-lt _ _ _ _ step-carry) (good_z _ _ (zero_flag _ _) sound.status)));
      }

  pub UDIVSTEP-kept : Kept (UDIVSTEP x)
  unfolding UDIVSTEP
  UDIVSTEP-kept =
      record {
        y = over-b _;
        q = over-q _;
        status = good_s _ _ (sign-flag _ _) (good_m _ _ (not_flag _) (good_l _ _ (sign-flag _ _) (good_c _ _ (carry-lt _ _ _ _ sound.status.m) (good_z _ _ (zero_flag _ _) sound.status))));
      }

  pub UDIVLAST-kept : Kept (UDIVLAST x)
  unfolding UDIVLAST
  UDIVLAST-kept =
      record {
        y = over-b _;
        q = over-q _;
        status = good_s _ _ (lit< tt) (good_m _ _ (not_flag _) (good_c _ _ (carry-lt _ _ _ _ sound.status.m) (good_z _ _ (zero_flag _ _) (good_n _ _ (xor_lt _ _) sound.status))));
      }

  pub MPDIVSTEP2-kept : Kept (MPDIVSTEP2 x)
  unfolding MPDIVSTEP2
  MPDIVSTEP2-kept =
      record {
        y = word _;
        q = hq;
        status = good_l _ _ (sign-flag 32 _) (good_c _ _ (carry-lt _ _ _ _ step-carry) (good_z _ _ (zero_flag _ _) sound.status));
      }

  pub MPUDIVSTP3-kept : Kept (MPUDIVSTP3 x)
  unfolding MPUDIVSTP3
  MPUDIVSTP3-kept =
      record {
        y = over-b _;
        q = put-bit-lt _ _ _ (lit< tt) (not_flag _) hq;
        status = good_s _ _ (sign-flag _ _) (good_m _ _ (not_flag _) (good_l _ _ (sign-flag _ _) (good_c _ _ (carry-lt _ _ _ _ step-carry) (good_z _ _ (zero_flag _ _) sound.status))));
      }

  pub REMCORR-kept : Kept (REMCORR x)
  unfolding REMCORR
  REMCORR-kept =
      record {
        y = over-b _;
        q = hq;
        status = good_c _ _ (choose-lt (remainder_test x) _ _ 2 (lit< tt) (carry-lt _ _ _ _ sound.status.m)) sound.status;
      }

  pub QUOCORR-kept : Kept (QUOCORR x)
  unfolding QUOCORR
  QUOCORR-kept =
      record {
        y = over-b _;
        q = hq;
        status = good_v _ _ (choose-lt (printed_test x) _ _ 2 (lit< tt) (overflow-flag _ _ _ _)) (good_c _ _ (choose-lt (printed_test x) _ _ 2 (lit< tt) (carry-lt _ _ _ _ (not_flag _))) sound.status);
      }

  pub SDIVLAST2-kept : Kept (SDIVLAST2 x)
  unfolding SDIVLAST2
  SDIVLAST2-kept =
      record {
        y = over-b _;
        q = hq;
        status = good_z _ _ (choose-lt x.status.s _ _ 2 (lit< tt) (zero_flag _ _)) sound.status;
      }

  -- the family
  pub divides-kept : (k : ℕ) → Kept (get_or divides k SDIVLAST2 x)
  divides-kept k =
      kept_at x divides SDIVLAST2
      (SDIVFIRST-kept, (UDIVFIRST-kept, (SDIVSTEP-kept, (SDIVLAST1-kept, (MPDIVSTEP1-kept, (MPSDIVSTEP3-kept, (UDIVSTEP-kept, (UDIVLAST-kept, (MPDIVSTEP2-kept, (MPUDIVSTP3-kept, (REMCORR-kept, (QUOCORR-kept, (SDIVLAST2-kept, tt)))))))))))))
      SDIVLAST2-kept k
