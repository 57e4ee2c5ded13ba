-- Single-bit shift instructions (tables 8-1 and 8-2), in opcode order. Unselected bytes of Y are the source's, unselected bytes of Q are not
-- affected; Z and N are of the selected bytes of Y, over Q too (M25).
use Rattle.std.specs.Prelude.{List, [], ◌∷◌, ℕ, ◌+◌, ◌-◌, ◌*◌, ◌/◌, ◌%◌, ◌^◌}
use Rattle.bits.specs.Bits.{xor, sign_of, merged}
use Rattle.machine.specs.declared.Status.{Status}
use Rattle.machine.specs.declared.Inputs.{Inputs}
use Rattle.machine.specs.declared.Outputs.{Outputs}
use Rattle.machine.specs.Status.{with_v, with_l}
use Rattle.machine.specs.Inputs.{bits_of, link_in, leaving, zero_sign}

-- n selected bits downshifted by one bit, with f shifted in at the top
unfoldable pub downshifted : ℕ → ℕ → ℕ → ℕ
downshifted n s f = s % 2 ^ n / 2 + f * 2 ^ (n - 1)

-- upshifted by one bit, with f shifted in at bit 0
abbrev pub upshifted : ℕ → ℕ → ℕ
upshifted s f = s * 2 + f

-- The L flag gets the least significant bit of the source.
unfoldable pub down : Inputs → ℕ → ℕ → Outputs
down x s f =
    let r : ℕ = downshifted (bits_of x) s f in
    leaving x (merged (bits_of x) r s) (with_l (s % 2) (zero_sign (bits_of x) r x.status))

-- Double precision: the least significant bit of the source is the fill bit of Q, and the L flag gets the least significant bit of Q.
unfoldable pub down_q : Inputs → ℕ → ℕ → Outputs
down_q x s f =
    let r : ℕ = downshifted (bits_of x) s f in
    record {
      y = merged (bits_of x) r s;
      q = merged (bits_of x) (downshifted (bits_of x) x.q (s % 2)) x.q;
      status = with_l (x.q % 2) (zero_sign (bits_of x) r x.status);
    }

-- what an upshift of s to r leaves in the status: L gets the sign bit of the source, V that bit xor the sign bit of Y
abbrev pub up_status : Inputs → ℕ → ℕ → Status
up_status x s r = with_l (sign_of (bits_of x) s) (with_v (xor (sign_of (bits_of x) s) (sign_of (bits_of x) r)) (zero_sign (bits_of x) r x.status))

unfoldable pub up : Inputs → ℕ → ℕ → Outputs
up x s f =
    let r : ℕ = upshifted s f in
    leaving x (merged (bits_of x) r s) (up_status x s r)

-- Double precision: the sign bit of Q is shifted into the source, and f into Q.
unfoldable pub up_q : Inputs → ℕ → ℕ → Outputs
up_q x s f =
    let r : ℕ = upshifted s (sign_of (bits_of x) x.q) in
    record {
      y = merged (bits_of x) r s;
      q = merged (bits_of x) (upshifted x.q f) x.q;
      status = up_status x s r;
    }

-- 20 to 23: zero fill
abbrev pub DN1-0F-A : Inputs → Outputs
DN1-0F-A x = down x x.a 0

abbrev pub DN1-0F-B : Inputs → Outputs
DN1-0F-B x = down x x.b 0

abbrev pub DN1-0F-AQ : Inputs → Outputs
DN1-0F-AQ x = down_q x x.a 0

abbrev pub DN1-0F-BQ : Inputs → Outputs
DN1-0F-BQ x = down_q x x.b 0

-- 24 to 27: one fill
abbrev pub DN1-1F-A : Inputs → Outputs
DN1-1F-A x = down x x.a 1

abbrev pub DN1-1F-B : Inputs → Outputs
DN1-1F-B x = down x x.b 1

abbrev pub DN1-1F-AQ : Inputs → Outputs
DN1-1F-AQ x = down_q x x.a 1

abbrev pub DN1-1F-BQ : Inputs → Outputs
DN1-1F-BQ x = down_q x x.b 1

-- 28 to 2B: link fill. Macro select 1 takes the macro link instead of the L bit of the status register.
abbrev pub DN1-LF-A : Inputs → Outputs
DN1-LF-A x = down x x.a (link_in x)

abbrev pub DN1-LF-B : Inputs → Outputs
DN1-LF-B x = down x x.b (link_in x)

abbrev pub DN1-LF-AQ : Inputs → Outputs
DN1-LF-AQ x = down_q x x.a (link_in x)

abbrev pub DN1-LF-BQ : Inputs → Outputs
DN1-LF-BQ x = down_q x x.b (link_in x)

-- 2C to 2F: the sign bit of the operand is shifted in, not the N flag (M23)
abbrev pub DN1-AR-A : Inputs → Outputs
DN1-AR-A x = down x x.a (sign_of (bits_of x) x.a)

abbrev pub DN1-AR-B : Inputs → Outputs
DN1-AR-B x = down x x.b (sign_of (bits_of x) x.b)

abbrev pub DN1-AR-AQ : Inputs → Outputs
DN1-AR-AQ x = down_q x x.a (sign_of (bits_of x) x.a)

abbrev pub DN1-AR-BQ : Inputs → Outputs
DN1-AR-BQ x = down_q x x.b (sign_of (bits_of x) x.b)

-- 30 to 33: zero fill
abbrev pub UP1-0F-A : Inputs → Outputs
UP1-0F-A x = up x x.a 0

abbrev pub UP1-0F-B : Inputs → Outputs
UP1-0F-B x = up x x.b 0

abbrev pub UP1-0F-AQ : Inputs → Outputs
UP1-0F-AQ x = up_q x x.a 0

abbrev pub UP1-0F-BQ : Inputs → Outputs
UP1-0F-BQ x = up_q x x.b 0

-- 34 to 37: one fill
abbrev pub UP1-1F-A : Inputs → Outputs
UP1-1F-A x = up x x.a 1

abbrev pub UP1-1F-B : Inputs → Outputs
UP1-1F-B x = up x x.b 1

abbrev pub UP1-1F-AQ : Inputs → Outputs
UP1-1F-AQ x = up_q x x.a 1

abbrev pub UP1-1F-BQ : Inputs → Outputs
UP1-1F-BQ x = up_q x x.b 1

-- 38 to 3B: link fill, from the L flag; these pages have no macro note (M24)
abbrev pub UP1-LF-A : Inputs → Outputs
UP1-LF-A x = up x x.a x.status.l

abbrev pub UP1-LF-B : Inputs → Outputs
UP1-LF-B x = up x x.b x.status.l

abbrev pub UP1-LF-AQ : Inputs → Outputs
UP1-LF-AQ x = up_q x x.a x.status.l

abbrev pub UP1-LF-BQ : Inputs → Outputs
UP1-LF-BQ x = up_q x x.b x.status.l

-- the family, from 20 on
abbrev pub shifts : List (Inputs → Outputs)
shifts =
    DN1-0F-A ∷ DN1-0F-B ∷ DN1-0F-AQ ∷ DN1-0F-BQ ∷
    DN1-1F-A ∷ DN1-1F-B ∷ DN1-1F-AQ ∷ DN1-1F-BQ ∷
    DN1-LF-A ∷ DN1-LF-B ∷ DN1-LF-AQ ∷ DN1-LF-BQ ∷
    DN1-AR-A ∷ DN1-AR-B ∷ DN1-AR-AQ ∷ DN1-AR-BQ ∷
    UP1-0F-A ∷ UP1-0F-B ∷ UP1-0F-AQ ∷ UP1-0F-BQ ∷
    UP1-1F-A ∷ UP1-1F-B ∷ UP1-1F-AQ ∷ UP1-1F-BQ ∷
    UP1-LF-A ∷ UP1-LF-B ∷ UP1-LF-AQ ∷ UP1-LF-BQ ∷ []
