-- What each opcode number decodes to: a family and a place in it; and the pages that the places stand for.
use Rattle.std.specs.Prelude.{List, [], ◌∷◌, ◌++◌, ℕ, zero, suc, get_or, Result, Ok, Err}
use Rattle.machine.specs.declared.Inputs.{Inputs}
use Rattle.machine.specs.declared.Outputs.{Outputs}
use Rattle.movement.specs.DataMovement.{ZERO-EXTA, ZERO-EXTB, SIGN-EXTA, SIGN-EXTB, PASS-STAT, PASS-Q, LOADQ-A, LOADQ-B, MERGEA-B, MERGEB-A, LDSTAT-A, LDSTAT-B}
use Rattle.movement.specs.Logical.{NOT-A, NOT-B, ZERO, SIGN, OR, XOR, AND, XNOR}
use Rattle.movement.specs.Prioritize.{PRIOR-A, PRIOR-B}
use Rattle.shifts.specs.SingleBit.{shifts, UP1-LF-BQ}
use Rattle.arithmetic.specs.Arithmetic.{NEG-A, NEG-B, DECR-A, DECR-B, INCR-A, INCR-B, DECR2-A, DECR2-B, INCR2-A, INCR2-B, DECR4-A, DECR4-B, INCR4-A, INCR4-B, ADD, ADDC, SUB, SUBC, SUBR, SUBRC}
use Rattle.arithmetic.specs.Decimal.{decimals, DIFF-CORR-B}
use Rattle.multiply.specs.Multiply.{multiplies, SMULFIRST}
use Rattle.divide.specs.Divide.{divides, SDIVLAST2}
use Rattle.fields.specs.Field.{fields, PASS-MASK}
use Rattle.reasons.specs.declared.Reason.{Reason}
use Rattle.reasons.specs.declared.Reason.TheVariants.{Opcode}
use Rattle.chip.specs.declared.Operation.{Operation}
use Rattle.chip.specs.declared.Operation.TheVariants.{Basic, Shift, Decimal, Divide, Multiply, Field}

-- n operations of a family, from its place k on
abbrev pub from : (ℕ → Operation) → ℕ → ℕ → List (Result Operation Reason)
from family k zero = []
from family k (suc n) = Ok (family k) ∷ from family (suc k) n

-- the 128 numbers in order; four have no page
abbrev pub operations : List (Result Operation Reason)
operations =
    -- 00, 1E
    from Basic 0 30 ++ (Err Opcode ∷ Err Opcode ∷ [])
    -- 20, 3C, 48
    ++ from Shift 0 28 ++ from Basic 30 12 ++ from Decimal 0 4 ++ (Err Opcode ∷ Err Opcode ∷ [])
    -- 4E, 5B, 60
    ++ from Divide 0 13 ++ from Multiply 0 5 ++ from Field 0 32

-- what a number decodes to; past 7F there is nothing
abbrev pub decoded_of : ℕ → Result Operation Reason
decoded_of n = get_or operations n (Err Opcode)

-- the basic instructions in their order, each line under its first number
abbrev pub basics : List (Inputs → Outputs)
basics =
    -- 00
    ZERO-EXTA ∷ ZERO-EXTB ∷ SIGN-EXTA ∷ SIGN-EXTB ∷ PASS-STAT ∷ PASS-Q ∷ LOADQ-A ∷ LOADQ-B ∷
    NOT-A ∷ NOT-B ∷ NEG-A ∷ NEG-B ∷ PRIOR-A ∷ PRIOR-B ∷ MERGEA-B ∷ MERGEB-A ∷
    -- 10
    DECR-A ∷ DECR-B ∷ INCR-A ∷ INCR-B ∷ DECR2-A ∷ DECR2-B ∷ INCR2-A ∷ INCR2-B ∷
    DECR4-A ∷ DECR4-B ∷ INCR4-A ∷ INCR4-B ∷ LDSTAT-A ∷ LDSTAT-B ∷
    -- 3C
    ZERO ∷ SIGN ∷ OR ∷ XOR ∷ AND ∷ XNOR ∷
    ADD ∷ ADDC ∷ SUB ∷ SUBC ∷ SUBR ∷ SUBRC ∷ []

-- the page of an operation
abbrev pub meaning_of : Operation → Inputs → Outputs
meaning_of (Basic k) x = get_or basics k SUBRC x
meaning_of (Shift k) x = get_or shifts k UP1-LF-BQ x
meaning_of (Decimal k) x = get_or decimals k DIFF-CORR-B x
meaning_of (Divide k) x = get_or divides k SDIVLAST2 x
meaning_of (Multiply k) x = get_or multiplies k SMULFIRST x
meaning_of (Field k) x = get_or fields k PASS-MASK x
