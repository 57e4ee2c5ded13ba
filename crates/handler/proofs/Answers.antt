-- What the checks of a handler, of two sheets' registers and of a schedule answer: a refusal never has number 0, so that nothing is lost in numbers
-- (`check_once` of `reasons`), and no second answer meets the promise of the check of a handler.
use mathlib.Core.Path.{◌≡◌, sym, ◌∙◌}
use mathlib.Core.List.{List}
use Prim.Native.Nat.{ℕ}
use native.Mathlib.Omega.{arith}
use lib.ListN.{length}
use Rattle.reasons.specs.Reasons.{Check, rows_by}
use Rattle.reasons.proofs.Numbers.{Tells, Telling, telling_first, telling_on, telling_by}
use Rattle.sheet.specs.Sheet.{words_of, names_in, sheet_rows}
use Rattle.std.proofs.Common.{None as Nothing}
use Rattle.sheet.proofs.Answers.{rows_tell}
use Rattle.handler.specs.Form.{saves_status, saves_q, form_row, form_rows, form_of, handler_rows, handler_of}
use Rattle.handler.specs.Overlap.{overlap_row, overlap_of}
use Rattle.handler.specs.Schedule.{schedule_row, schedule_of}

rows_of_form : (h : List ℕ) → Telling (form_rows h)
rows_of_form h = (omega arith, telling_by (form_row h (words_of h) (saves_status h) (saves_q h)) 0 (words_of h) (λ j. (omega arith, tt)))

pub form_tells : (h : List ℕ) → Tells (form_of h)
unfolding form_of
form_tells h = telling_first (form_rows h) (rows_of_form h)

pub handler_tells : (h : List ℕ) → Tells (handler_of h)
unfolding handler_of
handler_tells h = telling_first (handler_rows h) (telling_on (sheet_rows h Nothing Nothing) (form_rows h) (rows_tell h Nothing Nothing) (rows_of_form h))

pub overlap_tells : (main h : List ℕ) → Tells (overlap_of main h)
unfolding overlap_of
overlap_tells main h =
    telling_first (rows_by (overlap_row main (names_in h)) 0 (words_of main)) (telling_by (overlap_row main (names_in h)) 0 (words_of main) (λ j. (omega arith, tt)))

pub schedule_tells : (bs : List ℕ) (n : ℕ) → Tells (schedule_of bs n)
unfolding schedule_of
schedule_tells bs n =
    telling_first (rows_by (schedule_row bs n) 0 (length bs)) (telling_by (schedule_row bs n) 0 (length bs) (λ j. (omega arith, (omega arith, (omega arith, tt)))))

-- no second answer of `check_handler`
pub one-check_handler : (h : List ℕ) (c d : Check) → c ≡ handler_of h → d ≡ handler_of h → c ≡ d
one-check_handler h c d e f = e ∙ sym f
