-- Appendix B's unsigned division, 75 by 02 in one byte, worked out by the checker from the definitions: each row's Y as printed, and at the
-- end N and the quotient; and a signed division likewise.
use mathlib.Core.Path.{◌≡◌, refl}
use mathlib.Core.List.{List, [], ◌∷◌, ◌++◌}
use Prim.Native.Nat.{ℕ}
use Rattle.bits.specs.Bits.{zero_of, merged, carry_of}
use Rattle.machine.specs.declared.Inputs.{Inputs}
use Rattle.machine.specs.declared.Outputs.{Outputs}
use Rattle.machine.specs.Status.{loaded}
use Rattle.divide.specs.Divide.{SDIVFIRST, UDIVFIRST, SDIVSTEP, SDIVLAST1, UDIVSTEP, UDIVLAST, REMCORR}

-- an instruction, and the Y that the appendix prints for it, or would
pub record Row : Type 0 where
  pub instruction : Inputs → Outputs
  pub printed : ℕ

abbrev row : (Inputs → Outputs) → ℕ → Row
row instruction printed = record { instruction = instruction; printed = printed }

abbrev pub division : List Row
division =
    row UDIVFIRST 0x00
    ∷ row UDIVSTEP 0xfd
    ∷ row UDIVSTEP 0xff
    ∷ row UDIVSTEP 0x03
    ∷ row UDIVSTEP 0x02
    ∷ row UDIVSTEP 0x01
    ∷ row UDIVSTEP 0xfe
    ∷ row UDIVSTEP 0x01
    ∷ row UDIVLAST 0xff
    ∷ row REMCORR 0x01
    ∷ []

-- one byte: the divisor at A, the partial remainder at B, the dividend in Q
abbrev pub start : Inputs
start =
    record { code = 1; position = 0; width = 0; select = 0; carry = 0; link = 0; borrow = 0; a = 0x02; b = 0; q = 0x75; status = loaded 0 }

-- Y goes back to B
abbrev next : Inputs → Outputs → Inputs
next x o =
    record { code = x.code; position = x.position; width = x.width; select = x.select; carry = x.carry; link = x.link; borrow = x.borrow; a = x.a; b = o.y; q = o.q; status = o.status }

-- each Y, then N, which UDIVLAST has set, and Q
abbrev pub given : List Row → Inputs → List ℕ
given [] x = x.status.n ∷ x.q ∷ []
given (r ∷ rs) x = (r.instruction x).y ∷ given rs (next x (r.instruction x))

abbrev pub all_printed : List Row → List ℕ
all_printed [] = []
all_printed (r ∷ rs) = r.printed ∷ all_printed rs

pub appendix_b : given division start ≡ all_printed division ++ (1 ∷ 0x3a ∷ [])
unfolding loaded zero_of merged carry_of UDIVFIRST UDIVSTEP UDIVLAST REMCORR
appendix_b = refl

-- A signed division, of which the appendix prints no example: -7 by 2 in one byte, its sign in B at the start. The quotient is -3 and the remainder -1,
-- so that neither is corrected.
abbrev pub signed_division : List Row
signed_division =
    row SDIVFIRST 0xff
    ∷ row SDIVSTEP 0x03
    ∷ row SDIVSTEP 0x03
    ∷ row SDIVSTEP 0x03
    ∷ row SDIVSTEP 0x03
    ∷ row SDIVSTEP 0x02
    ∷ row SDIVSTEP 0x00
    ∷ row SDIVSTEP 0xfd
    ∷ row SDIVLAST1 0xff
    ∷ []

abbrev pub signed_start : Inputs
signed_start =
    record { code = 1; position = 0; width = 0; select = 0; carry = 0; link = 0; borrow = 0; a = 0x02; b = 0xff; q = 0xf9; status = loaded 0 }

pub signed_example : given signed_division signed_start ≡ all_printed signed_division ++ (1 ∷ 0xfd ∷ [])
unfolding loaded zero_of merged carry_of SDIVFIRST SDIVSTEP SDIVLAST1
signed_example = refl
