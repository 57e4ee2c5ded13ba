-- The numbers of an answer lose nothing: no two reasons share one, and a check that never refuses with reason 0 is had back from its numbers.
use mathlib.Core.Path.{◌≡◌, refl, sym, ap, ap₂, ◌∙◌, subst}
use mathlib.Core.List.{List, [], ◌∷◌, ◌++◌}
use mathlib.Core.Bool.{Bool, true, false}
use Prim.Native.Nat.{ℕ, zero, suc, ◌+◌, ◌<◌}
use native.Mathlib.Omega.{arith}
use lib.ListN.{get_or}
use Rattle.std.proofs.Common.{Ok, Err}
use Rattle.reasons.specs.Reasons.{Row, first_of, rows_by, or_else, number_of, refused, Check, check_numbers}
use Rattle.reasons.proofs.Rows.{same_reason}
use Rattle.reasons.specs.declared.Outcome.{Outcome}
use Rattle.reasons.specs.declared.Reason.{Reason}
use Rattle.reasons.specs.declared.Reason.TheVariants.{Done, Opcode, Inputs, Short, Version, Header, Length, File, Spare, Register, Start, Form, Overlap, Schedule, Room, Text, Count, Idle}

-- ---- reasons
-- in the order of their numbers
abbrev in_order : List Reason
in_order =
    Done ∷ Opcode ∷ Inputs ∷ Short ∷ Version ∷ Header ∷ Length ∷ File ∷ Spare ∷ Register ∷ Start ∷ Form ∷ Overlap ∷ Schedule ∷ Room ∷ Text ∷ Count ∷ Idle ∷ []

at-number : (r : Reason) → get_or in_order (number_of r) Done ≡ r
at-number Done = refl
at-number Opcode = refl
at-number Inputs = refl
at-number Short = refl
at-number Version = refl
at-number Header = refl
at-number Length = refl
at-number File = refl
at-number Spare = refl
at-number Register = refl
at-number Start = refl
at-number Form = refl
at-number Overlap = refl
at-number Schedule = refl
at-number Room = refl
at-number Text = refl
at-number Count = refl
at-number Idle = refl

-- no two have the same number
pub number_once : (r q : Reason) → number_of r ≡ number_of q → r ≡ q
number_once r q e = sym (at-number r) ∙ ap (λ (n : ℕ). get_or in_order n Done) e ∙ at-number q

-- ---- checks
-- a check that does not refuse with reason 0
abbrev pub Tells : Check → Type 0
Tells c = (r : Reason) (p : ℕ) → c ≡ refused r p → 0 < number_of r

pub check_once : (c d : Check) → Tells c → Tells d → check_numbers c ≡ check_numbers d → c ≡ d
check_once (Ok done) (Ok also_done) f g e = refl
check_once (Ok done) (Err y) f g e = let n : 0 ≡ number_of y.reason = ap (λ (o : Outcome). o.reason) e in absurd (omega (arith, g y.reason y.place refl))
check_once (Err x) (Ok done) f g e = let n : number_of x.reason ≡ 0 = ap (λ (o : Outcome). o.reason) e in absurd (omega (arith, f x.reason x.place refl))
check_once (Err x) (Err y) f g e =
    ap₂ refused (number_once x.reason y.reason (ap (λ (o : Outcome). o.reason) e)) (ap (λ (o : Outcome). o.place) e)

-- ---- tables
-- no row gives reason 0
abbrev pub Telling : List Row → Type 0
Telling [] = Unit
Telling (r ∷ rs) = (0 < number_of r.reason) × Telling rs

pub telling_first : (rows : List Row) → Telling rows → Tells (first_of rows)
telling_first [] t r p e = absurd (cc)
telling_first (x ∷ xs) t r p e = go x.holds e (telling_first xs t.1 r p)
  where
    go : (b : Bool) → or_else b (refused x.reason x.place) (first_of xs) ≡ refused r p → (first_of xs ≡ refused r p → 0 < number_of r) → 0 < number_of r
    go true f i = subst (λ (y : Reason). 0 < number_of y) (same_reason f) t.0
    go false f i = i f

pub telling_on : (a b : List Row) → Telling a → Telling b → Telling (a ++ b)
telling_on [] b t u = u
telling_on (r ∷ rs) b t u = (t.0, telling_on rs b t.1 u)

pub telling_by : (f : ℕ → List Row) (k m : ℕ) → ((j : ℕ) → Telling (f j)) → Telling (rows_by f k m)
telling_by f k zero g = tt
telling_by f k (suc m) g = telling_on (f k) (rows_by f (k + 1) m) (g k) (telling_by f (k + 1) m g)
