-- The position and width inputs of the variable-length instructions (tables 1 and 2).
use Rattle.std.specs.Prelude.{ℕ, ◌-◌, ◌/◌, ◌%◌}
use Rattle.bits.specs.Bits.{choose}
use Rattle.machine.specs.declared.Inputs.{Inputs}
use Rattle.machine.specs.declared.Outputs.{Outputs}
use Rattle.machine.specs.Inputs.{position_of, leaving, zero_sign}

-- the low five position bits as an unsigned magnitude, and the sixth
abbrev pub place_of : Inputs → ℕ
place_of x = position_of x % 32

abbrev pub sixth_of : Inputs → ℕ
sixth_of x = position_of x / 32

-- all six as a signed number: up by 0 to 31, or, below zero, down by its two's complement, 1 to 32
abbrev pub displaced {ℓ} : {A : Type ℓ} → Inputs → (ℕ → A) → (ℕ → A) → A
displaced x up down = choose (sixth_of x) (up (position_of x)) (down (64 - position_of x))

-- y on the Y bus, Z and N of the full word; Q as it was
abbrev pub whole_result : Inputs → ℕ → Outputs
whole_result x y = leaving x y (zero_sign 32 y x.status)
