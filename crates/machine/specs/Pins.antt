-- The output pins C, Z, N, V and L ('Output Select', M49).
use Rattle.std.specs.Prelude.{ℕ, ◌+◌, ◌*◌}
use Rattle.bits.specs.Bits.{bit_of}
use Rattle.machine.specs.declared.Status.{Status}

-- the five as one number, C highest: the flags of the register after the word, so that one which the word leaves alone shows the register's bit
abbrev pub pins_of : Status → ℕ
pins_of s = s.c * 16 + s.z * 8 + s.n * 4 + s.v * 2 + s.l

-- for the law that they are bits of the status answered: bits 16, 19, 17, 18 and 20 of a status word, in the order of the pins
abbrev pub pins_in : ℕ → ℕ
pins_in x = bit_of 16 x * 16 + bit_of 19 x * 8 + bit_of 17 x * 4 + bit_of 18 x * 2 + bit_of 20 x
