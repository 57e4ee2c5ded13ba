-- Field logical instructions (table 15, figure 6) and the mask instruction (table 16), in opcode order.
use Rattle.std.specs.Prelude.{List, [], ◌∷◌, ℕ, ◌+◌, ◌-◌, ◌*◌, ◌/◌, ◌%◌, ◌^◌}
use Rattle.std.specs.Int.Bits.{bit_and, bit_or, bit_xor}
use Rattle.bits.specs.Bits.{choose, sign_of, zero_of, not_of, up_by, rotated_down, field_mask, masked_of}
use Rattle.machine.specs.declared.Inputs.{Inputs}
use Rattle.machine.specs.declared.Outputs.{Outputs}
use Rattle.machine.specs.Status.{with_n, with_z}
use Rattle.machine.specs.Inputs.{width_of, leaving}
use Rattle.fields.specs.Position.{place_of, sixth_of, displaced, whole_result}
use Rattle.fields.specs.NBit.{NB-SN-SHA, NB-SN-SHB, NB-0F-SHA, NB-0F-SHB, NBROT-A, NBROT-B}
use Rattle.fields.specs.BitManipulation.{EXTBIT-A, EXTBIT-B, SETBIT-A, SETBIT-B, RSTBIT-A, RSTBIT-B, SETBIT-STAT, RSTBIT-STAT, EXTBIT-STAT}

-- an aligned field starts at the low five position bits, whatever the sixth is (M41)
abbrev pub aligned_field : Inputs → ℕ
aligned_field x = field_mask (place_of x) (width_of x)

-- a non-aligned field starts at the position, or, where that is negative, at bit 0
abbrev pub moved_field : Inputs → ℕ
moved_field x = displaced x (λ k. field_mask k (width_of x)) (λ k. field_mask 0 (width_of x))

-- and its source is upshifted to the position, or, where that is negative, rotated down, not shifted (M36)
abbrev pub moved : Inputs → ℕ → ℕ
moved x s = displaced x (λ k. up_by k s) (λ k. rotated_down k s)

-- r in the field, u in the remaining bits of Y; Z according to the contents of the field, N to the most significant bit of Y (M37)
unfoldable pub in_field : Inputs → ℕ → ℕ → ℕ → Outputs
in_field x field r u =
    let y : ℕ = masked_of field r u in
    leaving x y (with_z (zero_of 32 (bit_and y field)) (with_n (sign_of 32 y) x.status))

-- 6E
abbrev pub NOTF-AL-B : Inputs → Outputs
NOTF-AL-B x = in_field x (aligned_field x) (not_of x.b) x.b

-- 6F
abbrev pub PASSF-AL-B : Inputs → Outputs
PASSF-AL-B x = in_field x (aligned_field x) x.b x.b

-- 70
abbrev pub NOTF-A : Inputs → Outputs
NOTF-A x = in_field x (moved_field x) (not_of (moved x x.a)) x.b

-- 71
abbrev pub NOTF-AL-A : Inputs → Outputs
NOTF-AL-A x = in_field x (aligned_field x) (not_of x.a) x.b

-- 72
abbrev pub PASSF-A : Inputs → Outputs
PASSF-A x = in_field x (moved_field x) (moved x x.a) x.b

-- 73
abbrev pub PASSF-AL-A : Inputs → Outputs
PASSF-AL-A x = in_field x (aligned_field x) x.a x.b

-- 74
abbrev pub ORF-A : Inputs → Outputs
ORF-A x = in_field x (moved_field x) (bit_or (moved x x.a) x.b) x.b

-- 75
abbrev pub ORF-AL-A : Inputs → Outputs
ORF-AL-A x = in_field x (aligned_field x) (bit_or x.a x.b) x.b

-- 76
abbrev pub XORF-A : Inputs → Outputs
XORF-A x = in_field x (moved_field x) (bit_xor (moved x x.a) x.b) x.b

-- 77
abbrev pub XORF-AL-A : Inputs → Outputs
XORF-AL-A x = in_field x (aligned_field x) (bit_xor x.a x.b) x.b

-- 78
abbrev pub ANDF-A : Inputs → Outputs
ANDF-A x = in_field x (moved_field x) (bit_and (moved x x.a) x.b) x.b

-- 79
abbrev pub ANDF-AL-A : Inputs → Outputs
ANDF-AL-A x = in_field x (aligned_field x) (bit_and x.a x.b) x.b

-- 7A. The remaining bits of Y contain zeros.
abbrev pub EXTF-A : Inputs → Outputs
EXTF-A x = in_field x (moved_field x) (moved x x.a) 0

-- 7B
abbrev pub EXTF-B : Inputs → Outputs
EXTF-B x = in_field x (moved_field x) (moved x x.b) 0

-- two words side by side, and 64 bits rotated up by k, 0 to 64
abbrev pub beside : ℕ → ℕ → ℕ
beside high low = high * 2 ^ 32 + low

unfoldable pub rotated_pair : ℕ → ℕ → ℕ
rotated_pair k v = v % 2 ^ (64 - k) * 2 ^ k + v / 2 ^ (64 - k)

-- The concatenation is rotated up or down by position; the low bits that the width names appear on Y, the rest being zero (M39).
unfoldable pub extract_pair : Inputs → ℕ → ℕ → Outputs
extract_pair x high low =
    whole_result x (displaced x (λ k. rotated_pair k (beside high low)) (λ k. rotated_pair (64 - k) (beside high low)) % 2 ^ width_of x)

-- 7C. A is the high word.
abbrev pub EXTF-AB : Inputs → Outputs
EXTF-AB x = extract_pair x x.a x.b

-- 7D. B is the high word.
abbrev pub EXTF-BA : Inputs → Outputs
EXTF-BA x = extract_pair x x.b x.a

-- 7F. Ones in the field, zeros elsewhere; the sixth position bit inverts all 32 bits (M41). No flag changes.
unfoldable pub PASS-MASK : Inputs → Outputs
PASS-MASK x = leaving x (choose (sixth_of x) (aligned_field x) (not_of (aligned_field x))) x.status

-- the variable-length quarter, from 60 on
abbrev pub fields : List (Inputs → Outputs)
fields =
    NB-SN-SHA ∷ NB-SN-SHB ∷ NB-0F-SHA ∷ NB-0F-SHB ∷ NBROT-A ∷ NBROT-B ∷ EXTBIT-A ∷ EXTBIT-B ∷
    SETBIT-A ∷ SETBIT-B ∷ RSTBIT-A ∷ RSTBIT-B ∷ SETBIT-STAT ∷ RSTBIT-STAT ∷ NOTF-AL-B ∷ PASSF-AL-B ∷
    NOTF-A ∷ NOTF-AL-A ∷ PASSF-A ∷ PASSF-AL-A ∷ ORF-A ∷ ORF-AL-A ∷ XORF-A ∷ XORF-AL-A ∷
    ANDF-A ∷ ANDF-AL-A ∷ EXTF-A ∷ EXTF-B ∷ EXTF-AB ∷ EXTF-BA ∷ EXTBIT-STAT ∷ PASS-MASK ∷ []
