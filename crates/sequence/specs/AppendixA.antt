-- How the BCD nibble-carries are formed during addition, as appendix A prints it.
use Rattle.std.specs.Prelude.{◌&&◌, ◌||◌, ℕ, zero, suc, ◌+◌, ◌*◌, ◌/◌, ◌%◌, ltb, eqb}
use Rattle.bits.specs.Bits.{flag}

-- 1) The two nibbles plus the binary carry from the lower order addition give a nibble sum greater than 9. 2) The two nibbles give a nibble sum of
-- 9, the nibble-carry of the digit to the right is set, and there is no binary carry from it.
unfoldable pub printed_carry : ℕ → ℕ → ℕ → ℕ → ℕ
printed_carry a b binary nibble = flag (ltb 9 (a + b + binary) || (eqb (a + b) 9 && (eqb nibble 1 && eqb binary 0)))

-- of k nibbles, each at its nibble's place; binary and nibble are the two carries into it
unfoldable pub printed_carries : ℕ → ℕ → ℕ → ℕ → ℕ → ℕ
printed_carries zero a b binary nibble = 0
printed_carries (suc k) a b binary nibble =
    let t : ℕ = printed_carry (a % 16) (b % 16) binary nibble in
    t + 16 * printed_carries k (a / 16) (b / 16) ((a % 16 + b % 16 + binary) / 16) t
