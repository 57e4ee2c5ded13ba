-- Data movement instructions (tables 6-1 to 6-3), in opcode order. Their unselected bytes follow rules of their own (M43).
use Rattle.std.specs.Prelude.{ℕ}
use Rattle.bits.specs.Bits.{sign_of, merged, copies}
use Rattle.machine.specs.declared.Inputs.{Inputs}
use Rattle.machine.specs.declared.Outputs.{Outputs}
use Rattle.machine.specs.Status.{loaded}
use Rattle.machine.specs.Inputs.{bits_of, read_by, leaving, zero_sign, result_of}

-- The unselected most significant bytes contain zeroes. Z and N are of the selected bytes.
unfoldable pub zero_extend : Inputs → ℕ → Outputs
zero_extend x s = result_of x s 0

-- 00
abbrev pub ZERO-EXTA : Inputs → Outputs
ZERO-EXTA x = zero_extend x x.a

-- 01
abbrev pub ZERO-EXTB : Inputs → Outputs
ZERO-EXTB x = zero_extend x x.b

-- The unselected most significant bytes contain the sign extension. Z is set if the Y bus equals zero, N if Y31 equals one.
unfoldable pub sign_extend : Inputs → ℕ → Outputs
sign_extend x s =
    let y : ℕ = merged (bits_of x) s (copies (sign_of (bits_of x) s)) in
    leaving x y (zero_sign 32 y x.status)

-- 02
abbrev pub SIGN-EXTA : Inputs → Outputs
SIGN-EXTA x = sign_extend x x.a

-- 03
abbrev pub SIGN-EXTB : Inputs → Outputs
SIGN-EXTB x = sign_extend x x.b

-- 04. The status register as this word reads it, bit 13 by its borrow mode (M27); unselected bytes from B. No flag changes.
unfoldable pub PASS-STAT : Inputs → Outputs
PASS-STAT x = leaving x (merged (bits_of x) (read_by x x.status) x.b) x.status

-- 05. The Q register; unselected bytes from B. No flag changes.
unfoldable pub PASS-Q : Inputs → Outputs
PASS-Q x = leaving x (merged (bits_of x) x.q x.b) x.status

-- The selected bytes are loaded into Q and pass onto the Y bus; the unselected bytes of Q stay, and pass too. Z and N of the selected bytes,
-- so that Q is put back before the status (M32).
unfoldable pub load_q : Inputs → ℕ → Outputs
load_q x s =
    let q : ℕ = merged (bits_of x) s x.q in
    record { y = q; q = q; status = zero_sign (bits_of x) s x.status }

-- 06
abbrev pub LOADQ-A : Inputs → Outputs
LOADQ-A x = load_q x x.a

-- 07
abbrev pub LOADQ-B : Inputs → Outputs
LOADQ-B x = load_q x x.b

-- 0E. The unselected most significant bytes contain the corresponding bytes of B.
abbrev pub MERGEA-B : Inputs → Outputs
MERGEA-B x = result_of x x.a x.b

-- 0F. The unselected most significant bytes contain the corresponding bytes of A.
abbrev pub MERGEB-A : Inputs → Outputs
MERGEB-A x = result_of x x.b x.a

-- The selected bytes are loaded into the status register, the others of it are not affected; the Y bus shows the operand's selected bytes
-- as they are (M29), and the status register's other bytes as this word reads them. STATUS <13, 14, 15, 23> cannot be written.
unfoldable pub load_status : Inputs → ℕ → Outputs
load_status x s =
    let y : ℕ = merged (bits_of x) s (read_by x x.status) in
    leaving x y (loaded y)

-- 1C
abbrev pub LDSTAT-A : Inputs → Outputs
LDSTAT-A x = load_status x x.a

-- 1D
abbrev pub LDSTAT-B : Inputs → Outputs
LDSTAT-B x = load_status x x.b
