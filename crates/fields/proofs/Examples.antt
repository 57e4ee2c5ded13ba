-- The worked examples of the field pages and of tables 15 and 16, and f and g of document 01, worked out by the checker from the definitions: one set,
-- one claim. A width of 0 is 32.
use mathlib.Core.Path.{◌≡◌, refl}
use mathlib.Core.List.{List, [], ◌∷◌}
use Prim.Native.Nat.{ℕ}
use Rattle.bits.specs.Bits.{zero_of, rotated_up, field_mask}
use Rattle.machine.specs.declared.Inputs.{Inputs}
use Rattle.machine.specs.declared.Outputs.{Outputs}
use Rattle.machine.specs.Status.{loaded}
use Rattle.fields.specs.Field.{in_field, PASSF-AL-B, NOTF-A, PASSF-A, ORF-A, XORF-A, ANDF-A, EXTF-A, EXTF-B, PASS-MASK}

-- byte code, position, width, A, B and the status register; Q zero and no switch
abbrev inputs : ℕ → ℕ → ℕ → ℕ → ℕ → ℕ → Inputs
inputs code position width a b status =
    record { code = code; position = position; width = width; select = 0; carry = 0; link = 0; borrow = 0; a = a; b = b; q = 0; status = loaded status }

-- what comes out, and what is said of it
pub record Example : Type 0 where
  pub given : ℕ
  pub stated : ℕ

abbrev shows : ℕ → ℕ → Example
shows given stated = record { given = given; stated = stated }

-- Y of an operation with position and width from the word
abbrev gives : (Inputs → Outputs) → ℕ → ℕ → ℕ → ℕ → ℕ → Example
gives op position width a b stated = shows (op (inputs 0 position width a b 0)).y stated

abbrev pub worked : List Example
worked =
    -- ANDF-A's page; the second prints the first's result again
    gives ANDF-A 0x03 0 0x7215_180f 0x8fce_1372 0x8088_0072
    ∷ gives ANDF-A 0x3c 0 0x7215_180f 0x8fce_1372 0x8700_1100
    -- EXTF-A's and EXTF-B's
    ∷ gives EXTF-A 0x03 0 0x7215_1805 0x8fce_1372 0x90a8_c028
    ∷ gives EXTF-A 0x3c 0 0x7172_3fed 0x82ce_1509 0xd717_23fe
    ∷ gives EXTF-B 0x3c 0 0x82ce_1509 0x7172_3fed 0xd717_23fe
    -- NOTF-A's, which are document 01's f
    ∷ gives NOTF-A 0x02 0 0x1234_5678 0x9abc_def0 0xb72e_a61c
    ∷ gives NOTF-A 0x3e 0 0x1234_5678 0x9abc_def0 0xfb72_ea61
    -- ORF-A's positions on ANDF-A's operands: its own figures are lost
    ∷ gives ORF-A 0x03 0 0x7215_180f 0x8fce_1372 0x9fee_d37a
    ∷ gives ORF-A 0x3c 0 0x7215_180f 0x8fce_1372 0xffef_53f2
    -- PASSF-A's, and document 01's g
    ∷ gives PASSF-A 0x03 0 0x7215_1805 0x8fce_1372 0x90a8_c02a
    ∷ gives PASSF-A 0x3c 0 0x7172_3fed 0x82ce_1509 0xd717_23fe
    ∷ gives PASSF-A 0x3c 8 0x1234_5678 0xffff_ff00 0xffff_ff67
    -- XORF-A's
    ∷ gives XORF-A 0x3c 0 0x7172_3fed 0x82ce_1509 0x55d9_36f7
    -- table 15: Z where B20 to B30 are zero, whatever B31 is; bits A7 to A9 on B0 to B2, with position -7 and width 3 from the status register
    ∷ shows (PASSF-AL-B (inputs 0 20 11 0 0x8000_5734 0)).status.z 1
    ∷ shows (XORF-A (inputs 3 0 0 0x6e24_2e6b 0x1c28_ca49 0x03f9)).y 0x1c28_ca4d
    -- table 16: an 8-bit mask from bit 10 on
    ∷ gives PASS-MASK 10 8 0 0 0x0003_fc00
    ∷ []

abbrev pub all_given : List Example → List ℕ
all_given [] = []
all_given (e ∷ es) = e.given ∷ all_given es

abbrev pub all_stated : List Example → List ℕ
all_stated [] = []
all_stated (e ∷ es) = e.stated ∷ all_stated es

pub worked_examples : all_given worked ≡ all_stated worked
unfolding loaded zero_of rotated_up field_mask in_field PASS-MASK
worked_examples = refl
