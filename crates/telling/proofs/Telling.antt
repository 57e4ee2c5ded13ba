-- The parts of the line: what each says, and how long it is.
use mathlib.Core.Path.{◌≡◌, refl, sym, ap, ◌∙◌}
use mathlib.Core.List.{List, [], ◌∷◌, ◌++◌}
use mathlib.Core.Bool.{Bool, true, false, not, true≢false}
use Prim.Native.Nat.{ℕ, zero, suc, ◌+◌, ◌%◌, ◌≤◌}
use native.Mathlib.Omega.{arith}
use lib.ListN.{length, get_or, drop, length-append}
use lib.Dec.{ltb}
use Rattle.reasons.specs.declared.Reason.{Reason}
use Rattle.reasons.specs.declared.Reason.TheVariants.{Done, Opcode, Inputs, Short, Version, Header, Length, File, Spare, Register, Start, Form, Overlap, Schedule, Room, Text, Count, Idle}
use Rattle.std.proofs.Common.{Result, Ok, Err, IfOk}
use Rattle.std.specs.Result.{result_unwrap_or}
use Rattle.reasons.specs.declared.Refusal.{Refusal}
use Rattle.reasons.specs.Reasons.{Check, number_of, first_of}
use Rattle.reasons.specs.Output.{Wrote, wrote, wrote_by}
use Rattle.text.specs.Text.{either, hex_of, decimal_of}
use Rattle.text.specs.Ascii.{ascii}
use Rattle.listing.specs.Lines.{listing_of}
use Rattle.listing.specs.Lister.{list_rows, list_of}
use Rattle.reading.specs.Reader.{read_rows, sheet_in, read_of}
use Rattle.telling.specs.Telling.{name_of, expected_of, numbers_of, placed, digits_in, plain_of, place_by, told_of}

-- ---- the numbers
pub numbers_are : (n p : List ℕ) (reason : Reason) (k place : ℕ) → k ≡ number_of reason → n ≡ decimal_of 2 k → p ≡ hex_of 4 (place % 65536)
    → get_or n 0 0 ∷ get_or n 1 0 ∷ 32 ∷ get_or p 0 0 ∷ get_or p 1 0 ∷ get_or p 2 0 ∷ get_or p 3 0 ∷ 32 ∷ [] ≡ numbers_of reason place
unfolding numbers_of
numbers_are n p reason k place e f g = rw (f, g, e) refl

pub numbers-length : (reason : Reason) (place : ℕ) → length (numbers_of reason place) ≡ 8
unfolding numbers_of
numbers-length reason place = refl

-- ---- a number without zeros in front
pub decimal-length : (k n : ℕ) → length (decimal_of k n) ≡ k
decimal-length zero n = refl
decimal-length (suc k) n = ap suc (decimal-length k n)

digits_most : (n : ℕ) → digits_in n ≤ 5
digits_most n = most (ltb n 10) (ltb n 100) (ltb n 1000) (ltb n 10000)
  where
    most : (a b c d : Bool) → either a 1 (either b 2 (either c 3 (either d 4 5))) ≤ 5
    most true b c d = omega arith
    most false true c d = omega arith
    most false false true d = omega arith
    most false false false true = omega arith
    most false false false false = omega arith

pub plain_length : (n : ℕ) → length (plain_of n) ≤ 5
plain_length n = omega (arith, decimal-length (digits_in (n % 100000)) (n % 100000), digits_most (n % 100000))

-- ---- how long the parts are
pub name_length : (reason : Reason) → length (ascii (name_of reason)) ≤ 8
name_length Done = omega arith
name_length Opcode = omega arith
name_length Inputs = omega arith
name_length Short = omega arith
name_length Version = omega arith
name_length Header = omega arith
name_length Length = omega arith
name_length File = omega arith
name_length Spare = omega arith
name_length Register = omega arith
name_length Start = omega arith
name_length Form = omega arith
name_length Overlap = omega arith
name_length Schedule = omega arith
name_length Room = omega arith
name_length Text = omega arith
name_length Count = omega arith
name_length Idle = omega arith

pub expected_length : (reason : Reason) → length (ascii (expected_of reason)) ≤ 100
expected_length Done = omega arith
expected_length Opcode = omega arith
expected_length Inputs = omega arith
expected_length Short = omega arith
expected_length Version = omega arith
expected_length Header = omega arith
expected_length Length = omega arith
expected_length File = omega arith
expected_length Spare = omega arith
expected_length Register = omega arith
expected_length Start = omega arith
expected_length Form = omega arith
expected_length Overlap = omega arith
expected_length Schedule = omega arith
expected_length Room = omega arith
expected_length Text = omega arith
expected_length Count = omega arith
expected_length Idle = omega arith

pub place-length : (p : Bool) (counted : List ℕ) (place : ℕ) → length (place_by p counted place) ≤ length counted + 10
place-length false counted place = omega arith
place-length true counted place =
    omega (
      arith,
      length-append (ascii " in " ++ counted ++ ascii " ") (plain_of place),
      length-append (ascii " in " ++ counted) (ascii " "),
      length-append (ascii " in ") counted,
      plain_length place,
    )

-- numbers, name, place, ': expected ', the sentence, the line feed
pub told-length : (reason : Reason) (place : ℕ) (counted : List ℕ) → length counted ≤ 8 → length (told_of reason place counted) ≤ 256
unfolding told_of
told-length reason place counted h =
    let name : List ℕ = numbers_of reason place ++ ascii (name_of reason) in
    let spot : List ℕ = name ++ place_by (placed reason) counted place in
    let what : List ℕ = spot ++ ascii ": expected " in
    omega (
      arith,
      length-append (what ++ ascii (expected_of reason)) (10 ∷ []),
      length-append what (ascii (expected_of reason)),
      length-append spot (ascii ": expected "),
      length-append name (place_by (placed reason) counted place),
      length-append (numbers_of reason place) (ascii (name_of reason)),
      numbers-length reason place,
      name_length reason,
      place-length (placed reason) counted place,
      expected_length reason,
    )

-- ---- the place, told or not
module _ (counted : List ℕ) (place : ℕ) where
  pub place-off : (p q : Bool) → p ≡ q → not p ≡ true → [] ≡ place_by q counted place
  place-off true true e h = absurd (true≢false (sym h))
  place-off true false e h = refl
  place-off false true e h = absurd (true≢false (sym e))
  place-off false false e h = refl

  pub place_on : (p q : Bool) → p ≡ q → not p ≡ false → ascii " in " ++ counted ++ ascii " " ++ plain_of place ≡ place_by q counted place
  place_on true true e h = refl
  place_on true false e h = absurd (true≢false e)
  place_on false true e h = refl
  place_on false false e h = absurd (true≢false h)

-- ---- answers
-- an output is no longer than its buffer
abbrev Fits : Result ℕ Refusal → List ℕ → Type 0
Fits a d = IfOk a (λ n. n ≤ length d)

output_fits : (c : Check) (out d b : List ℕ) (a : Result ℕ Refusal) → wrote a b ≡ wrote_by c out d → length b ≡ length d → Fits a d
output_fits c out d b (Err refusal) e h = tt
output_fits (Ok done) out d b (Ok n) e h =
    omega (arith, ap (λ (w : Wrote). result_unwrap_or w.answer 0) e, ap (λ (w : Wrote). length w.buffer) e ∙ length-append out (drop (length out) d))
output_fits (Err refusal) out d b (Ok n) e h = omega (arith, ap (λ (w : Wrote). result_unwrap_or w.answer 0) e)

pub list_fits : (s d b : List ℕ) (a : Result ℕ Refusal) → wrote a b ≡ list_of s d → length b ≡ length d → Fits a d
unfolding list_of
list_fits s d b a e h = output_fits (first_of (list_rows s (length d))) (listing_of s) d b a e h

pub read_fits : (t d b : List ℕ) (a : Result ℕ Refusal) → wrote a b ≡ read_of t d → length b ≡ length d → Fits a d
unfolding read_of
read_fits t d b a e h = output_fits (first_of (read_rows t (length d))) (sheet_in t) d b a e h
