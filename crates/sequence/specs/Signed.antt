-- Signed numbers: n bits as an integer, in two's complement.
use Rattle.std.specs.Prelude.{ℕ, ◌+◌, ◌-◌, ◌*◌, ◌%◌, ◌^◌, ◌<◌, ℤ}
use Rattle.std.proofs.Math.IntN.{sub_ℕ}
use Rattle.std.specs.Int.Signed.{mag}
use Rattle.bits.specs.Bits.{sign_of}

-- the low n bits of x, less 2 ^ n where their sign bit is 1
abbrev pub signed : ℕ → ℕ → ℤ
signed n x = sub_ℕ (x % 2 ^ n) (sign_of n x * 2 ^ n)

-- an integer that n bits hold: from - 2 ^ (n - 1) up to, but not including, 2 ^ (n - 1). `mag` is k both for k and for - (k + 1)
abbrev pub Fits : ℕ → ℤ → Type 0
Fits n z = mag z < 2 ^ (n - 1)

-- two halves of n bits each, as one number of 2 n bits
abbrev pub together : ℕ → ℕ → ℕ → ℕ
together n high low = high * 2 ^ n + low

abbrev pub signed_long : ℕ → ℕ → ℕ → ℤ
signed_long n high low = signed (2 * n) (together n high low)
