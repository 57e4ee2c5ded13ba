-- A refusal never gives reason 0: an answer with reason 0 was not refused.
use mathlib.Core.Path.{◌≡◌, refl, ap, ◌∙◌, subst}
use mathlib.Core.Bool.{Bool, true, false}
use mathlib.Core.List.{List}
use Prim.Native.Nat.{ℕ, ◌<◌}
use native.Mathlib.Omega.{arith}
use lib.ListN.{length}
use Rattle.std.proofs.Common.{Option, Some, None as Nothing, Ok, Err}
use Rattle.std.specs.Prelude.{IsOk}
use Rattle.std.specs.Result.{is_ok}
use Rattle.machine.specs.declared.Machine.{Machine}
use Rattle.reasons.specs.Reasons.{Check, number_of}
use Rattle.reasons.proofs.Numbers.{Tells}
use Rattle.sheet.specs.declared.Which.{Which}
use Rattle.sheet.specs.Sheet.{executions_of, check_of}
use Rattle.sheet.proofs.Answers.{check_tells}
use Rattle.handler.specs.Form.{form_of}
use Rattle.handler.specs.Overlap.{overlap_of}
use Rattle.handler.specs.Schedule.{schedule_of}
use Rattle.handler.proofs.Answers.{form_tells, overlap_tells, schedule_tells}
use Rattle.interrupt.specs.declared.Fault.{Fault}
use Rattle.interrupt.specs.Interrupt.{Verdict, fine, in_neither, in_main, in_handler, marking, pair_of, verdict_of, Left, served_numbers, interrupted_of}
use Rattle.interrupt.proofs.Verdicts.{interrupted-refused, interrupted_is}

abbrev Fair : Verdict → Type 0
Fair v = (x : Fault) → v ≡ Err x → 0 < number_of x.refusal.reason

fault_in : Fault → Verdict → Fault
fault_in y (Ok done) = y
fault_in y (Err x) = x

fair_marking : (k : Option Which) (c : Check) (v : Verdict) → Tells c → Fair v → Fair (marking k c v)
unfolding fault_in
fair_marking k (Ok done) v f g = g
fair_marking k (Err x) v f g = λ y e. subst (λ (z : Fault). 0 < number_of z.refusal.reason) (ap (fault_in y) e) (f x.reason x.place refl)

fair_fine : Fair fine
fair_fine x e = cc

verdict_fair : (main h schedule : List ℕ) (lent : ℕ) → Fair (verdict_of main h schedule lent)
unfolding verdict_of pair_of
verdict_fair main h schedule lent =
    let n : ℕ = length (executions_of main) in
    fair_marking in_main (check_of main (Some lent) Nothing) (marking in_handler (check_of h (Some lent) Nothing) (pair_of main h schedule)) (check_tells main (Some lent) Nothing)
    (fair_marking in_handler (check_of h (Some lent) Nothing) (pair_of main h schedule) (check_tells h (Some lent) Nothing)
    (fair_marking in_handler (form_of h) (marking in_main (overlap_of main h) (marking in_neither (schedule_of schedule n) fine)) (form_tells h)
    (fair_marking in_main (overlap_of main h) (marking in_neither (schedule_of schedule n) fine) (overlap_tells main h)
    (fair_marking in_neither (schedule_of schedule n) fine (schedule_tells schedule n) fair_fine))))

module _ (main h schedule file : List ℕ) (m : Machine) where
  -- an answer that is no fault: not refused
  pub done_fine : IsOk (interrupted_of main h schedule file m).answer.outcome → verdict_of main h schedule (length file) ≡ fine
  done_fine e = go (verdict_of main h schedule (length file)) refl
    where
      go : (v : Verdict) → verdict_of main h schedule (length file) ≡ v → v ≡ fine
      go (Ok done) d = refl
      go (Err x) d = let f : ◌≡◌ {A = Bool} false true = rw (← interrupted-refused main h schedule file m x d) at e in cc

  -- reason 0: no fault
  pub zero_ok : (served_numbers (interrupted_of main h schedule file m).answer.outcome).reason ≡ 0 → IsOk (interrupted_of main h schedule file m).answer.outcome
  zero_ok e = go (verdict_of main h schedule (length file)) refl
    where
      go : (v : Verdict) → verdict_of main h schedule (length file) ≡ v → IsOk (interrupted_of main h schedule file m).answer.outcome
      go (Ok done) d = ap (λ (x : Left). is_ok x.answer.outcome) (interrupted_is main h schedule file m d)
      go (Err x) d =
          let n : number_of x.refusal.reason ≡ 0 = ap (λ (y : Left). (served_numbers y.answer.outcome).reason) (interrupted-refused main h schedule file m x d) ∙ e in
          absurd (omega (arith, verdict_fair main h schedule (length file) x d))
