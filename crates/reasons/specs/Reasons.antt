-- The reasons given (document 01's table; 15 and 16 are document 02's, request 2, and 17 is of request 5): their numbers, and tables of rows in their order.
use Rattle.std.specs.Prelude.{List, [], ◌∷◌, ◌++◌, Bool, true, false, not, ◌&&◌, ℕ, zero, suc, ◌+◌, Result, Ok, Err}
use Rattle.reasons.specs.declared.Reason.{Reason}
use Rattle.reasons.specs.declared.Reason.TheVariants.{Done, Opcode, Inputs, Short, Version, Header, Length, File, Spare, Register, Start, Form, Overlap, Schedule, Room, Text, Count, Idle}
use Rattle.reasons.specs.declared.Refusal.{Refusal}
use Rattle.reasons.specs.declared.Outcome.{Outcome}

abbrev pub number_of : Reason → ℕ
number_of Done = 0
number_of Opcode = 1
number_of Inputs = 2
number_of Short = 3
number_of Version = 4
number_of Header = 5
number_of Length = 6
number_of File = 7
number_of Spare = 8
number_of Register = 9
number_of Start = 10
number_of Form = 11
number_of Overlap = 12
number_of Schedule = 13
number_of Room = 14
number_of Text = 15
number_of Count = 16
number_of Idle = 17

-- an answer in numbers: the reason's number, and the place
abbrev pub outcome_of : Reason → ℕ → Outcome
outcome_of reason place = record { reason = number_of reason; place = place }

-- what a check answers: there is nothing to refuse, or the reason and its place
abbrev pub Check : Type 0
Check = Result (Unit {0}) Refusal

abbrev pub good : Check
good = Ok tt

abbrev pub refused : Reason → ℕ → Check
refused reason place = Err (record { reason = reason; place = place })

-- of an answer, whether it is refused
abbrev pub check_by : {A : Type 0} → Result A Refusal → Check
check_by (Ok value) = good
check_by (Err refusal) = Err refusal

-- a run's answer in numbers: 0 and the number of words run, or the number and the place of a refusal
abbrev pub answer_numbers : Result ℕ Refusal → Outcome
answer_numbers (Ok count) = outcome_of Done count
answer_numbers (Err refusal) = outcome_of refusal.reason refusal.place

-- a check in numbers: 0 done at place 0, or the number and the place of a refusal
abbrev pub check_numbers : {A : Type 0} → Result A Refusal → Outcome
check_numbers (Ok value) = outcome_of Done 0
check_numbers (Err refusal) = outcome_of refusal.reason refusal.place

-- a row of a table of reasons: its condition, and the reason and place that are given where it holds and no earlier one does
pub record Row : Type 0 where
  pub holds : Bool
  pub reason : Reason
  pub place : ℕ

abbrev pub ◌gives◌at◌ : Bool → Reason → ℕ → Row
b gives r at p = record { holds = b; reason = r; place = p }

infix 30 ◌gives◌at◌
abbrev pub or_else : Bool → Check → Check → Check
or_else true c d = c
or_else false c d = d

-- what the first row that holds says
abbrev pub first_of : List Row → Check
first_of [] = good
first_of (r ∷ rs) = or_else r.holds (refused r.reason r.place) (first_of rs)

-- whether no row holds
abbrev pub none_hold : List Row → Bool
none_hold [] = true
none_hold (r ∷ rs) = not r.holds && none_hold rs

-- the rows of m things one after another, from thing k on
abbrev pub rows_by : (ℕ → List Row) → ℕ → ℕ → List Row
rows_by f k zero = []
rows_by f k (suc m) = f k ++ rows_by f (k + 1) m
