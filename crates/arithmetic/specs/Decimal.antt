-- The decimal corrections (table 10-2, appendix A), in opcode order. The nibble bits themselves are not affected; Z and N are of the selected
-- bytes, unselected bytes are the source's.
use Rattle.std.specs.Prelude.{List, [], ◌∷◌, ℕ, ◌+◌, ◌-◌, ◌*◌}
use Rattle.bits.specs.Bits.{xor, bit_of, merged, not_of}
use Rattle.machine.specs.declared.Inputs.{Inputs}
use Rattle.machine.specs.declared.Outputs.{Outputs}
use Rattle.machine.specs.Status.{with_c, with_v}
use Rattle.machine.specs.Inputs.{bits_of, leaving, zero_sign}

-- the most significant nibble bit of the selected bytes, NC7, NC5, NC3 or NC1, and the one below it
abbrev pub top_nibble : Inputs → ℕ
top_nibble x = bit_of (bits_of x - 4) x.status.nibbles

abbrev pub next_nibble : Inputs → ℕ
next_nibble x = bit_of (bits_of x - 8) x.status.nibbles

-- the correction word: a 6 in each nibble whose bit is set
abbrev pub correction : Inputs → ℕ
correction x = 6 * x.status.nibbles

-- r in the selected bytes; the given C; V is the EX-OR of the two most significant nibble bits
abbrev pub corrected : Inputs → ℕ → ℕ → ℕ → Outputs
corrected x r c s =
    leaving x (merged (bits_of x) r s) (with_v (xor (top_nibble x) (next_nibble x)) (with_c c (zero_sign (bits_of x) r x.status)))

-- The correction word is added to the operand. C is the most significant nibble carry, in either mode (M21).
unfoldable pub sum_correct : Inputs → ℕ → Outputs
sum_correct x s = corrected x (s + correction x) (top_nibble x) s

-- The correction word is subtracted from the operand. C is the EX-NOR of the most significant nibble borrow and borrow mode, not the borrow
-- itself (M21).
unfoldable pub diff_correct : Inputs → ℕ → Outputs
diff_correct x s = corrected x (s + not_of (correction x) + 1) (1 - xor (top_nibble x) x.borrow) s

-- 48
abbrev pub SUM-CORR-A : Inputs → Outputs
SUM-CORR-A x = sum_correct x x.a

-- 49
abbrev pub SUM-CORR-B : Inputs → Outputs
SUM-CORR-B x = sum_correct x x.b

-- 4A
abbrev pub DIFF-CORR-A : Inputs → Outputs
DIFF-CORR-A x = diff_correct x x.a

-- 4B
abbrev pub DIFF-CORR-B : Inputs → Outputs
DIFF-CORR-B x = diff_correct x x.b

-- the family, from 48 on
abbrev pub decimals : List (Inputs → Outputs)
decimals = SUM-CORR-A ∷ SUM-CORR-B ∷ DIFF-CORR-A ∷ DIFF-CORR-B ∷ []
