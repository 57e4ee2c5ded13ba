-- Bit-manipulation instructions (tables 14-1 and 14-2), in opcode order. The low five position bits name the bit.
use Rattle.std.specs.Prelude.{ℕ}
use Rattle.bits.specs.Bits.{xor, bit_of, sign_of, zero_of, put_bit}
use Rattle.machine.specs.declared.Status.{Status}
use Rattle.machine.specs.declared.Inputs.{Inputs}
use Rattle.machine.specs.declared.Outputs.{Outputs}
use Rattle.machine.specs.Status.{loaded, with_n, with_z, with_l}
use Rattle.machine.specs.Inputs.{read_by, leaving}
use Rattle.fields.specs.Position.{place_of, sixth_of}

-- The sign bit of position, if true, inverts the extracted bit, which the low five bits name (M40).
abbrev pub extracted : Inputs → ℕ → ℕ
extracted x s = xor (bit_of (place_of x) s) (sixth_of x)

-- The extracted bit appears on bit 0 of the Y bus, the others being zero, and is loaded into L. Z reflects the state of the Y bus.
unfoldable pub extract_bit : Inputs → ℕ → Outputs
extract_bit x s = leaving x (extracted x s) (with_l (extracted x s) (with_z (zero_of 32 (extracted x s)) x.status))

-- 66
abbrev pub EXTBIT-A : Inputs → Outputs
EXTBIT-A x = extract_bit x x.a

-- 67
abbrev pub EXTBIT-B : Inputs → Outputs
EXTBIT-B x = extract_bit x x.b

-- the source with the bit set to f; the given Z, which does not test the result (M34); N is bit 31 of Y
unfoldable pub put_into : Inputs → ℕ → ℕ → ℕ → Outputs
put_into x s f z =
    let y : ℕ = put_bit (place_of x) f s in
    leaving x y (with_z z (with_n (sign_of 32 y) x.status))

-- 68. The Z flag is reset.
abbrev pub SETBIT-A : Inputs → Outputs
SETBIT-A x = put_into x x.a 1 0

-- 69
abbrev pub SETBIT-B : Inputs → Outputs
SETBIT-B x = put_into x x.b 1 0

-- 6A. The Z flag is set.
abbrev pub RSTBIT-A : Inputs → Outputs
RSTBIT-A x = put_into x x.a 0 1

-- 6B
abbrev pub RSTBIT-B : Inputs → Outputs
RSTBIT-B x = put_into x x.b 0 1

-- The bit of the status register is set to f, the others are unaffected, and bits 13, 14, 15 and 23 are read-only (M31). The new value also
-- appears on the Y bus, as this word reads it (M27).
unfoldable pub put_status : Inputs → ℕ → Outputs
put_status x f =
    let s : Status = loaded (put_bit (place_of x) f (read_by x x.status)) in
    leaving x (read_by x s) s

-- 6C
abbrev pub SETBIT-STAT : Inputs → Outputs
SETBIT-STAT x = put_status x 1

-- 6D
abbrev pub RSTBIT-STAT : Inputs → Outputs
RSTBIT-STAT x = put_status x 0

-- 7E. As EXTBIT, of the status register as this word reads it (M27); no bit of it other than L changes, Z neither (M28).
unfoldable pub EXTBIT-STAT : Inputs → Outputs
EXTBIT-STAT x =
    let f : ℕ = extracted x (read_by x x.status) in
    leaving x f (with_l f x.status)
