-- Appendix B's unsigned multiplication on one byte, multiplier 65 and multiplicand 48 (hex), worked out by the checker from the definitions.
use mathlib.Core.Path.{◌≡◌, refl}
use mathlib.Core.List.{List, [], ◌∷◌}
use Prim.Native.Nat.{ℕ}
use Rattle.bits.specs.Bits.{zero_of, merged}
use Rattle.machine.specs.declared.Inputs.{Inputs}
use Rattle.machine.specs.declared.Outputs.{Outputs}
use Rattle.machine.specs.Status.{loaded}
use Rattle.multiply.specs.Multiply.{first_row, step_row, first_partial, partial, first_step, step, UMULFIRST, UMULSTEP, UMULLAST}

-- the multiplicand 48 at the A input, one byte, with the given B and what the word before left in Q and the status register
abbrev facing : ℕ → Outputs → Inputs
facing b o = record { code = 1; position = 0; width = 0; select = 0; carry = 0; link = 0; borrow = 0; a = 0x48; b = b; q = o.q; status = o.status }

-- the multiplier 65 in Q; each word's Y is the next word's B
abbrev before : Outputs
before = record { y = 0; q = 0x65; status = loaded 0 }

abbrev next : (Inputs → Outputs) → Outputs → Outputs
next f o = f (facing o.y o)

abbrev first : Outputs
first = next UMULFIRST before

abbrev second : Outputs
second = next UMULSTEP first

abbrev third : Outputs
third = next UMULSTEP second

abbrev fourth : Outputs
fourth = next UMULSTEP third

abbrev fifth : Outputs
fifth = next UMULLAST fourth

-- Y after each of the five words, and the low byte of the product
abbrev pub given : List ℕ
given = first.y ∷ second.y ∷ third.y ∷ fourth.y ∷ fifth.y ∷ fifth.q ∷ []

abbrev pub stated : List ℕ
stated = 0x12 ∷ 0x16 ∷ 0xe1 ∷ 0x1c ∷ 0x1c ∷ 0x68 ∷ []

pub appendix_b : given ≡ stated
unfolding zero_of merged loaded first_row step_row first_partial partial first_step step UMULLAST
appendix_b = refl
