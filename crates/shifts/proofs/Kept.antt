-- Every single-bit shift leaves Y, Q and the status register in range.
use Prim.Native.Nat.{ℕ, ◌%◌, ◌^◌, ◌<◌}
use native.Mathlib.Nat.{mod-lt}
use lib.Dec.{lit<}
use lib.ListN.{get_or}
use Rattle.bits.specs.Bits.{merged}
use Rattle.bits.proofs.Bounds.{xor_lt, sign-flag, merged-lt}
use Rattle.machine.specs.declared.Inputs.{Inputs}
use Rattle.machine.specs.Status.{Good}
use Rattle.machine.specs.Inputs.{bits_of, zero_sign, Sound, Kept}
use Rattle.machine.proofs.Kept.{bits-le, good_v, good_l, good_zero-sign, kept_at}
use Rattle.shifts.specs.SingleBit.{down, down_q, up_status, up, up_q, shifts, UP1-LF-BQ}

low-flag : (s : ℕ) → s % 2 < 2
low-flag s = mod-lt s (lit< tt)

-- the four operations: the merge cuts whatever is shifted, so no bound on the bit shifted in is needed
module _ (x : Inputs) (h : Sound x) (hq : x.q < 2 ^ 32) where
  word : (r u : ℕ) → u < 2 ^ 32 → merged (bits_of x) r u < 2 ^ 32
  word r u hu = merged-lt (bits_of x) r u (bits-le x h) hu

  flags : (r : ℕ) → Good (zero_sign (bits_of x) r x.status)
  flags r = good_zero-sign (bits_of x) r x.status h.status

  up-flags : (s r : ℕ) → Good (up_status x s r)
  up-flags s r = good_l _ _ (sign-flag (bits_of x) s) (good_v _ _ (xor_lt _ _) (flags r))

  pub down-kept : (s f : ℕ) → s < 2 ^ 32 → Kept (down x s f)
  unfolding down
  down-kept s f hs = record { y = word _ s hs; q = hq; status = good_l _ _ (low-flag s) (flags _) }

  pub down-q-kept : (s f : ℕ) → s < 2 ^ 32 → Kept (down_q x s f)
  unfolding down_q
  down-q-kept s f hs = record { y = word _ s hs; q = word _ x.q hq; status = good_l _ _ (low-flag x.q) (flags _) }

  pub up_kept : (s f : ℕ) → s < 2 ^ 32 → Kept (up x s f)
  unfolding up
  up_kept s f hs = record { y = word _ s hs; q = hq; status = up-flags s _ }

  pub up-q-kept : (s f : ℕ) → s < 2 ^ 32 → Kept (up_q x s f)
  unfolding up_q
  up-q-kept s f hs = record { y = word _ s hs; q = word _ x.q hq; status = up-flags s _ }

  -- four entries of one fill: f for A, g for B
  module _ (ha : x.a < 2 ^ 32) (hb : x.b < 2 ^ 32) where
    downs : (f g : ℕ) {E : Type 0} → E → Kept (down x x.a f) × (Kept (down x x.b g) × (Kept (down_q x x.a f) × (Kept (down_q x x.b g) × E)))
    downs f g e = (down-kept x.a f ha, (down-kept x.b g hb, (down-q-kept x.a f ha, (down-q-kept x.b g hb, e))))

    ups : (f : ℕ) {E : Type 0} → E → Kept (up x x.a f) × (Kept (up x x.b f) × (Kept (up_q x x.a f) × (Kept (up_q x x.b f) × E)))
    ups f e = (up_kept x.a f ha, (up_kept x.b f hb, (up-q-kept x.a f ha, (up-q-kept x.b f hb, e))))

    pub shifts-kept : (k : ℕ) → Kept (get_or shifts k UP1-LF-BQ x)
    shifts-kept k = kept_at x shifts UP1-LF-BQ (downs _ _ (downs _ _ (downs _ _ (downs _ _ (ups _ (ups _ (ups _ tt))))))) (up-q-kept _ _ hb) k
