-- Logical instructions (table 7), in opcode order. Z and N are of the selected bytes; unselected bytes come from the source of a one-operand
-- instruction, else from B.
use Rattle.std.specs.Prelude.{◌-◌}
use Rattle.std.specs.Int.Bits.{bit_and, bit_or, bit_xor}
use Rattle.bits.specs.Bits.{merged, not_of, copies}
use Rattle.machine.specs.declared.Inputs.{Inputs}
use Rattle.machine.specs.declared.Outputs.{Outputs}
use Rattle.machine.specs.Status.{with_z}
use Rattle.machine.specs.Inputs.{bits_of, leaving, result_of}

-- 08
abbrev pub NOT-A : Inputs → Outputs
NOT-A x = result_of x (not_of x.a) x.a

-- 09
abbrev pub NOT-B : Inputs → Outputs
NOT-B x = result_of x (not_of x.b) x.b

-- 3C. Z is always set, N always reset.
abbrev pub ZERO : Inputs → Outputs
ZERO x = result_of x 0 x.b

-- 3D. The selected bits are forced to the N flag, whose state is checked in the status register, and not to the sign of B (M33). Z is set if N
-- equals 0; N stays.
unfoldable pub SIGN : Inputs → Outputs
SIGN x = leaving x (merged (bits_of x) (copies x.status.n) x.b) (with_z (1 - x.status.n) x.status)

-- 3E
abbrev pub OR : Inputs → Outputs
OR x = result_of x (bit_or x.a x.b) x.b

-- 3F
abbrev pub XOR : Inputs → Outputs
XOR x = result_of x (bit_xor x.a x.b) x.b

-- 40
abbrev pub AND : Inputs → Outputs
AND x = result_of x (bit_and x.a x.b) x.b

-- 41
abbrev pub XNOR : Inputs → Outputs
XNOR x = result_of x (not_of (bit_xor x.a x.b)) x.b
