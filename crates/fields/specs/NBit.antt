-- N-bit shifts and rotates of the full word (table 13), in opcode order.
use Rattle.std.specs.Prelude.{ℕ, ◌+◌, ◌-◌, ◌*◌, ◌/◌, ◌^◌}
use Rattle.bits.specs.Bits.{sign_of, up_by, rotated_up}
use Rattle.machine.specs.declared.Inputs.{Inputs}
use Rattle.machine.specs.declared.Outputs.{Outputs}
use Rattle.fields.specs.Position.{place_of, displaced, whole_result}

-- a word shifted down by k, 1 to 32, f in the k bits above
unfoldable pub down_by : ℕ → ℕ → ℕ → ℕ
down_by k s f = s / 2 ^ k + f * (2 ^ 32 - 2 ^ (32 - k))

-- an upshift fills with zeros, a downshift with f; neither rotates (M26)
unfoldable pub shift : Inputs → ℕ → ℕ → Outputs
shift x s f = whole_result x (displaced x (λ k. up_by k s) (λ k. down_by k s f))

-- 60. Sign fill.
abbrev pub NB-SN-SHA : Inputs → Outputs
NB-SN-SHA x = shift x x.a (sign_of 32 x.a)

-- 61
abbrev pub NB-SN-SHB : Inputs → Outputs
NB-SN-SHB x = shift x x.b (sign_of 32 x.b)

-- 62. Zero fill.
abbrev pub NB-0F-SHA : Inputs → Outputs
NB-0F-SHA x = shift x x.a 0

-- 63
abbrev pub NB-0F-SHB : Inputs → Outputs
NB-0F-SHB x = shift x x.b 0

-- The sign of the position input is ignored: its low five bits are the magnitude of a circular upshift (M40).
unfoldable pub rotate : Inputs → ℕ → Outputs
rotate x s = whole_result x (rotated_up (place_of x) s)

-- 64
abbrev pub NBROT-A : Inputs → Outputs
NBROT-A x = rotate x x.a

-- 65
abbrev pub NBROT-B : Inputs → Outputs
NBROT-B x = rotate x x.b
