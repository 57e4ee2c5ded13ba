-- Numbers as digits, highest digit first: upper-case hex, decimal, and binary.
use Rattle.std.specs.Prelude.{List, [], ◌∷◌, Bool, true, false, ℕ, zero, suc, ◌+◌, ◌/◌, ◌%◌, ◌^◌, ltb}

abbrev pub either : Bool → ℕ → ℕ → ℕ
either true a b = a
either false a b = b

-- the byte of a digit: 0 to 9, then A to F
unfoldable pub digit_of : ℕ → ℕ
digit_of d = either (ltb d 10) (48 + d) (55 + d)

-- k digits of x to a base
abbrev pub digits_of : ℕ → ℕ → ℕ → List ℕ
digits_of base zero x = []
digits_of base (suc k) x = digit_of (x / base ^ k % base) ∷ digits_of base k x

abbrev pub hex_of : ℕ → ℕ → List ℕ
hex_of = digits_of 16

abbrev pub decimal_of : ℕ → ℕ → List ℕ
decimal_of = digits_of 10

abbrev pub binary_of : ℕ → ℕ → List ℕ
binary_of = digits_of 2
