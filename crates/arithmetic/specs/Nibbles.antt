-- The nibble bits, STATUS <31:24> (appendix A): a bit for each of k nibbles, at the nibble's place.
use Rattle.std.specs.Prelude.{ℕ, zero, suc, ◌+◌, ◌*◌, ◌/◌, ◌%◌, ltb}
use Rattle.bits.specs.Bits.{flag}

-- of an addition a + b + c: a nibble carry is set when digit, digit and carry in reach ten, not sixteen (M15)
unfoldable pub nibble_carries : ℕ → ℕ → ℕ → ℕ → ℕ
nibble_carries zero a b c = 0
nibble_carries (suc k) a b c =
    let t : ℕ = flag (ltb 9 (a % 16 + b % 16 + c)) in
    t + 16 * nibble_carries k (a / 16) (b / 16) t

-- of a subtraction a - b - w: a nibble borrow occurs if the result of subtracting one nibble, and the borrow in, from the other is less than 0, in
-- either mode (M16)
unfoldable pub nibble_borrows : ℕ → ℕ → ℕ → ℕ → ℕ
nibble_borrows zero a b w = 0
nibble_borrows (suc k) a b w =
    let t : ℕ = flag (ltb (a % 16) (b % 16 + w)) in
    t + 16 * nibble_borrows k (a / 16) (b / 16) t
