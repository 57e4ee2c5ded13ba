-- How the check of the form goes through its table, and that each reason is given exactly when its condition holds.
use mathlib.Core.Path.{◌≡◌}
use mathlib.Core.List.{List}
use Prim.Native.Nat.{ℕ}
use Rattle.reasons.specs.Reasons.{refused}
use Rattle.reasons.specs.declared.Reason.{Reason}
use Rattle.reasons.proofs.Rows.{First, and_then, first_append, exactly_if, exactly_only}
use Rattle.sheet.specs.Sheet.{sheet_rows, check_beside, check_of}
use Rattle.std.proofs.Common.{None as Nothing}
use Rattle.handler.specs.Form.{form_rows, form_of, handler_rows, handler_of}

-- a handler on its own: the sheet's own table, then that of the form
pub handler_parts : (h : List ℕ) → handler_of h ≡ and_then (check_of h Nothing Nothing) (form_of h)
unfolding handler_of check_beside form_of
handler_parts h = first_append (sheet_rows h Nothing Nothing) (form_rows h)

-- ---- Each reason is given exactly when its condition holds and no earlier one does: a check of a handler answers reason r at place p exactly
-- where some row of the table, the sheet's own rows and then those of the form, gives r at p, its condition holds, and that of no row before it does.
pub handler_given_if : (h : List ℕ) (r : Reason) (p : ℕ) → First (handler_rows h) r p → handler_of h ≡ refused r p
unfolding handler_of
handler_given_if h r p f = exactly_if (handler_rows h) r p f

pub handler_given-only : (h : List ℕ) (r : Reason) (p : ℕ) → handler_of h ≡ refused r p → First (handler_rows h) r p
unfolding handler_of
handler_given-only h r p e = exactly_only (handler_rows h) r p e
