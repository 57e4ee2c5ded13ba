-- Prioritize instructions (tables 4 and 9).
use Rattle.std.specs.Prelude.{ℕ}
use Rattle.bits.specs.Bits.{zero_of, priority_of}
use Rattle.machine.specs.declared.Inputs.{Inputs}
use Rattle.machine.specs.declared.Outputs.{Outputs}
use Rattle.machine.specs.Status.{with_z, with_position}
use Rattle.machine.specs.Inputs.{bits_of, leaving}

-- The location of the highest one among the selected bits, counted from the top one down, on Y and in STATUS <7:0>. Z tells the two zeros
-- apart: it is set if no selected bit is one, whatever Y is (M35).
unfoldable pub prioritize : Inputs → ℕ → Outputs
prioritize x s =
    let code : ℕ = priority_of (bits_of x) s in
    leaving x code (with_position code (with_z (zero_of (bits_of x) s) x.status))

-- 0C
abbrev pub PRIOR-A : Inputs → Outputs
PRIOR-A x = prioritize x x.a

-- 0D
abbrev pub PRIOR-B : Inputs → Outputs
PRIOR-B x = prioritize x x.b
