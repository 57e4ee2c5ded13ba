-- What a verdict says of the two sheets and the schedule, and the two ways in which an interrupted run ends.
use mathlib.Core.Path.{◌≡◌, refl, sym, ap, ◌∙◌, subst}
use mathlib.Core.List.{List, [], ◌∷◌}
use Prim.Native.Nat.{ℕ, suc, ◌+◌, ◌^◌, ◌≤◌, ◌<◌}
use native.Mathlib.Omega.{arith}
use native.Mathlib.Decide.{dec_lt}
use borrow.Author.Tests.{ltb-false, leb-false}
use lib.ListN.{length, get_or}
use Rattle.machine.specs.declared.Machine.{Machine}
use Rattle.machine.specs.declared.Core.{Core}
use Rattle.machine.specs.Status.{Good as Sound}
use Rattle.machine.specs.Core.{taken, handed_back}
use Rattle.machine.proofs.Handed.{taken_good}
use Rattle.std.proofs.Common.{Option, Some, None as Nothing, Ok, Err}
use Rattle.reasons.specs.Reasons.{Check, good, rows_by}
use Rattle.sheet.specs.declared.Which.{Which}
use Rattle.reasons.proofs.Rows.{None, good_none, none_at}
use Rattle.reasons.proofs.Rows.None.{more}
use Rattle.sheet.specs.Sheet.{executions_of, check_of, Ready}
use Rattle.sheet.proofs.Table.{ready}
use Rattle.run.specs.declared.Going.{Going}
use Rattle.run.specs.Run.{Ended, count_in, entering, Went}
use Rattle.run.proofs.Parts.{went_ran}
use Rattle.handler.specs.Form.{form_of}
use Rattle.handler.specs.Overlap.{overlap_of}
use Rattle.handler.specs.Schedule.{schedule_of, schedule_row}
use Rattle.interrupt.specs.declared.Fault.{Fault}
use Rattle.interrupt.specs.Serve.{Rising}
use Rattle.interrupt.proofs.Lines.{line_short}
use Rattle.interrupt.specs.Interrupt.{Verdict, fine, in_neither, in_main, in_handler, marking, pair_of, verdict_of, left, served_by, unless_refused, line_of, interrupted_of}

-- ---- through the order of the reasons
pub marking_good : (k : Option Which) (c : Check) (v : Verdict) → marking k c v ≡ fine → c ≡ good
marking_good k (Ok done) v e = refl
marking_good k (Err x) v e = cc

marking-next : (k : Option Which) (c : Check) (v : Verdict) → marking k c v ≡ fine → v ≡ fine
marking-next k (Ok done) v e = e
marking-next k (Err x) v e = cc

-- nothing refused
pub record Passed (main h schedule : List ℕ) (lent : ℕ) : Type 0 where
  pub main_good : check_of main (Some lent) Nothing ≡ good
  pub handler_good : check_of h (Some lent) Nothing ≡ good
  pub form : form_of h ≡ good
  pub overlap : overlap_of main h ≡ good
  pub schedule_good : schedule_of schedule (length (executions_of main)) ≡ good

pub passed : (main h schedule : List ℕ) (lent : ℕ) → verdict_of main h schedule lent ≡ fine → Passed main h schedule lent
unfolding verdict_of pair_of
passed main h schedule lent e =
    let a : Check = check_of main (Some lent) Nothing in
    let b : Check = check_of h (Some lent) Nothing in
    let f : Check = form_of h in
    let c : Check = overlap_of main h in
    let d : Check = schedule_of schedule (length (executions_of main)) in
    let e₁ = marking-next in_main a (marking in_handler b (pair_of main h schedule)) e in
    let e₂ = marking-next in_handler b (pair_of main h schedule) e₁ in
    let e₃ = marking-next in_handler f (marking in_main c (marking in_neither d fine)) e₂ in
    let e₄ = marking-next in_main c (marking in_neither d fine) e₃ in
    record {
      main_good = marking_good in_main a (marking in_handler b (pair_of main h schedule)) e;
      handler_good = marking_good in_handler b (pair_of main h schedule) e₁;
      form = marking_good in_handler f (marking in_main c (marking in_neither d fine)) e₂;
      overlap = marking_good in_main c (marking in_neither d fine) e₃;
      schedule_good = marking_good in_neither d fine e₄;
    }

-- ---- a schedule that is not refused
rising_of : (n at : ℕ) (bs : List ℕ) → at ≤ n → ((j : ℕ) → j < length bs → (get_or bs j 0 ≤ n) × (get_or (at ∷ bs) j 0 ≤ get_or bs j 0)) → Rising n at bs
unfolding Rising
rising_of n at [] h f = h
rising_of n at (b ∷ bs) h f =
    ((f 0 (omega arith)).1, rising_of n b bs (f 0 (omega arith)).0 (λ j i. f (suc j) (omega arith)))

entry_fine : (bs : List ℕ) (n j : ℕ) → None (schedule_row bs n j) → (j < 1024) × (get_or bs j 0 ≤ n) × (get_or (0 ∷ bs) j 0 ≤ get_or bs j 0)
entry_fine bs n j (more h₁ (more h₂ (more h₃ t))) = (leb-false _ _ h₁, ltb-false _ _ h₂, ltb-false _ _ h₃)

all_fine : (bs : List ℕ) (n : ℕ) → schedule_of bs n ≡ good → (j : ℕ) → j < length bs → (j < 1024) × (get_or bs j 0 ≤ n) × (get_or (0 ∷ bs) j 0 ≤ get_or bs j 0)
unfolding schedule_of
all_fine bs n e j i =
    entry_fine bs n j
    (none_at (schedule_row bs n) 0 (length bs) (good_none (rows_by (schedule_row bs n) 0 (length bs)) e) j (omega arith) (omega arith))

pub rising : (bs : List ℕ) (n : ℕ) → schedule_of bs n ≡ good → Rising n 0 bs
rising bs n e = rising_of n 0 bs (omega arith) (λ j i. ((all_fine bs n e j i).1, (all_fine bs n e j i).2))

pub not_long : (bs : List ℕ) (n : ℕ) → schedule_of bs n ≡ good → length bs ≤ 1024
not_long bs n e = go (dec_lt 1024 (length bs))
  where
    go : Dec (1024 < length bs) → length bs ≤ 1024
    go (yes h) = let f : 1024 < 1024 = (all_fine bs n e 1024 h).0 in omega arith
    go (no h) = omega arith

-- ---- the two ways in which an interrupted run ends
module _ (main h schedule file : List ℕ) (m : Machine) where
  pub interrupted-refused : (x : Fault) → verdict_of main h schedule (length file) ≡ Err x
      → left (record { outcome = Err x; machine = m }) file ≡ interrupted_of main h schedule file m
  unfolding interrupted_of
  interrupted-refused x e = sym (ap (λ (v : Verdict). unless_refused v file m (served_by (line_of main h schedule) (entering file m))) e)

  pub interrupted_is : verdict_of main h schedule (length file) ≡ fine → interrupted_of main h schedule file m ≡ served_by (line_of main h schedule) (entering file m)
  unfolding interrupted_of
  interrupted_is e = ap (λ (v : Verdict). unless_refused v file m (served_by (line_of main h schedule) (entering file m))) e

  -- from the executions that went, counted
  pub interrupted_done : (l : List ℕ) (c : Core) (g : Going) (v : Machine) → verdict_of main h schedule (length file) ≡ fine
      → c ≡ taken m → Went (line_of main h schedule) file (record { core = c; count = 0 }) l g → v ≡ handed_back g.core
      → left (record { outcome = Ok g.count; machine = v }) l ≡ interrupted_of main h schedule file m
  interrupted_done l c g v e ec w ev =
      ap (λ (x : Ended). left (record { outcome = Ok (count_in x.answer.outcome); machine = x.answer.machine }) x.file)
      (went_ran (line_of main h schedule) file m l c g v ec w ev)
      ∙ sym (interrupted_is e)

-- what a call that is not refused can be served with
pub serve_ready : (main h schedule : List ℕ) (lent : ℕ) (m : Machine) (c : Core) → verdict_of main h schedule lent ≡ fine → c ≡ taken m
    → (Ready main lent × Ready h lent × Sound c.status)
    × (Rising (length (executions_of main)) 0 schedule × (0 + length (line_of main h schedule) < 2 ^ 64))
serve_ready main h schedule lent m c e ec =
    let p : Passed main h schedule lent = passed main h schedule lent e in
    let r : Rising (length (executions_of main)) 0 schedule = rising schedule (length (executions_of main)) p.schedule_good in
    let n : length (line_of main h schedule) < 2 ^ 64 = line_short main h schedule r (not_long schedule (length (executions_of main)) p.schedule_good) in (
      (ready main lent Nothing p.main_good, ready h lent Nothing p.handler_good, subst (λ (x : Core). Sound x.status) (sym ec) (taken_good m)),
      (r, omega arith),
    )
