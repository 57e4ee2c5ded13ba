-- DEMAND 3. An interrupted run that is not refused leaves no trace; and what `interrupted` promises, clause by clause.
use mathlib.Core.Path.{◌≡◌, refl, sym, ap, ◌∙◌, subst}
use mathlib.Core.List.{List}
use mathlib.Core.Bool.{Bool, true, false}
use Prim.Native.Nat.{ℕ, zero, suc, ◌^◌, ◌≤◌, ◌<◌}
use native.Mathlib.Omega.{arith}
use lib.ListN.{length}
use lib.Seq.{take-length}
use Rattle.machine.specs.declared.Machine.{Machine}
use Rattle.machine.specs.Core.{handed_back}
use Rattle.std.proofs.Common.{Some, None as Nothing, Ok, Err}
use Rattle.std.specs.Prelude.{IsOk}
use Rattle.reasons.specs.Reasons.{good}
use Rattle.chip.specs.declared.Word.{Word}
use Rattle.chip.specs.Lists.{State, read_at, execs}
use Rattle.chip.proofs.Words.{execs-append, execs-size}
use Rattle.packing.specs.Registers.{is_in}
use Rattle.sheet.specs.Sheet.{words_of, word_at, executions_of, names_in, check_of, WordReady, Ready}
use Rattle.sheet.proofs.Positions.{All}
use Rattle.sheet.proofs.Table.{ready, start-later}
use Rattle.run.specs.Run.{entering, Sane, Ended, ran}
use Rattle.run.proofs.Laws.{each_ready, execs_sane}
use Rattle.run.proofs.Parts.{run_is, entering_sane, back}
use Rattle.handler.specs.Form.{saves_status, saves_q}
use Rattle.interrupt.specs.declared.Served.{Served}
use Rattle.interrupt.specs.Interrupt.{Verdict, fine, verdict_of, Left, left, served_by, unless_refused, line_of, interrupted_of, mark_in, served_numbers, mark_of, served_outcome, Numbered}
use Rattle.interrupt.specs.Demand3.{alone, again, Own, NoTrace}
use Rattle.interrupt.proofs.Owners.{Names, Agree, Same, Handler, Line, times}
use Rattle.interrupt.proofs.NoTrace.{undisturbed, alike, untouched}
use Rattle.interrupt.proofs.Lines.{a-line}
use Rattle.interrupt.proofs.Verdicts.{Passed, passed, rising, interrupted_is}
use Rattle.interrupt.proofs.Formed.{shares_none, all_named, ready_64, long, saves-named, is_handler}
use Rattle.interrupt.proofs.Told.{done_fine}

-- ---- a sheet by itself
alone_is : (s file : List ℕ) (m : Machine) → check_of s (Some (length file)) Nothing ≡ good → alone s file m ≡ ran (executions_of s) (entering file m)
alone_is s file m e =
    run_is s file m 0 (length (executions_of s)) (start-later s (Some (length file)) Nothing 0 e (omega arith))
    ∙ ap (λ (ws : List Word). ran ws (entering file m)) (take-length (executions_of s))

again_is : (k : ℕ) (s file : List ℕ) (m : Machine) → check_of s (Some (length file)) Nothing ≡ good → Sane (entering file m)
    → again k s file m ≡ (execs (times k (executions_of s)) (entering file m)).file
unfolding again times execs
again_is zero s file m e h = refl
again_is (suc k) s file m e h =
    let t : State = execs (executions_of s) (entering file m) in
    let sane : Sane t = execs_sane (length file) (executions_of s) (entering file m) (each_ready s (length file) (ready s (length file) Nothing e)) h in
    let b : entering t.file (handed_back t.core) ≡ t = back t sane in
    let passes : check_of s (Some (length t.file)) Nothing ≡ good
    = ap (λ (n : ℕ). check_of s (Some n) Nothing) (execs-size (executions_of s) (entering file m)) ∙ e in
    ap (λ (x : Ended). again k s x.file x.answer.machine) (alone_is s file m e)
    ∙ again_is k s t.file (handed_back t.core) passes (subst Sane (sym b) sane)
    ∙ ap (λ (x : State). (execs (times k (executions_of s)) x).file) b
    ∙ ap (λ (x : State). x.file) (sym (execs-append (executions_of s) (times k (executions_of s)) (entering file m)))

-- ---- the interrupted run
module _ (main h schedule file : List ℕ) (m : Machine) (registers : (r : ℕ) → read_at file r < 2 ^ 32) (q : m.q < 2 ^ 32) where
  abbrev P : ℕ → Type 0
  P r = is_in (names_in main) r ≡ true

  abbrev own : ℕ → Type 0
  own = Own h

  abbrev s₀ : ℕ
  s₀ = saves_status h

  abbrev q₀ : ℕ
  q₀ = saves_q h

  abbrev t : State
  t = entering file m

  abbrev line : List Word
  line = line_of main h schedule

  abbrev outcome : Left
  outcome = interrupted_of main h schedule file m

  traceless : verdict_of main h schedule (length file) ≡ fine → NoTrace main h schedule file m outcome.answer.machine outcome.file
  traceless fine =
      let p : Passed main h schedule (length file) = passed main h schedule (length file) fine in
      let rm : Ready main (length file) = ready main (length file) Nothing p.main_good in
      let rh : Ready h (length file) = ready h (length file) Nothing p.handler_good in
      let fits : (k : ℕ) → k < words_of h → WordReady 64 (word_at h k) = λ k i. ready_64 h (length file) k rh i in
      let six : 6 ≤ words_of h = long h fits p.form in
      let F : Handler own s₀ q₀ (executions_of h) = is_handler h fits p.form in
      let common : (r : ℕ) → P r → is_in (names_in h) r ≡ true → ⊥ = shares_none main h p.overlap in
      let apart : (r : ℕ) → P r → own r → ⊥ = λ r a o. common r a o.named in
      let s-named : is_in (names_in h) s₀ ≡ true = (saves-named h fits p.form).0 in
      let q-named : is_in (names_in h) q₀ ≡ true = (saves-named h fits p.form).1 in
      let s-apart : P s₀ → ⊥ = λ a. common s₀ a s-named in
      let q-apart : P q₀ → ⊥ = λ a. common q₀ a q-named in
      let l : Line (executions_of h) (executions_of main) (length schedule) line
      = a-line (executions_of main) (executions_of h) 0 schedule (rising schedule (length (executions_of main)) p.schedule_good) in
      let names : All (Names P) (executions_of main) = all_named main (length file) rm in
      let sane : Sane t = entering_sane file m registers q in
      let s-in : s₀ < length file = omega (arith, rh.file, (rh.word 0 (omega arith)).y) in
      let q-in : q₀ < length file = omega (arith, rh.file, (rh.word 1 (omega arith)).y) in
      let i : interrupted_of main h schedule file m ≡ served_by line t = interrupted_is main h schedule file m fine in
      let a : alone main file m ≡ ran (executions_of main) t = alone_is main file m p.main_good in
      let u : Same P (execs line t) (execs (executions_of main) t)
      = undisturbed P own s₀ q₀ (executions_of h) F apart s-apart q-apart l names
      t t sane s-in q-in
      (record { agree = record { size = refl; same = λ r x. refl }; core = refl }) in
      let b : Agree own (execs line t) (execs (times (length schedule) (executions_of h)) t)
      = alike P own s₀ q₀ (executions_of h) F apart s-apart q-apart l names
      t t sane sane (record { size = refl; same = λ r x. refl }) in
      record {
        main-registers = λ r x. ap (λ (e : Left). read_at e.file r) i ∙ u.agree.same r x ∙ sym (ap (λ (e : Ended). read_at e.file r) a);
        machine = ap (λ (e : Left). e.answer.machine) i ∙ ap handed_back u.core ∙ sym (ap (λ (e : Ended). e.answer.machine) a);
        handler_registers = λ r o.
            ap (λ (e : Left). read_at e.file r) i ∙ b.same r o
            ∙ sym (ap (λ (l : List ℕ). read_at l r) (again_is (length schedule) h file m p.handler_good sane));
        other-registers = λ r x y.
            ap (λ (e : Left). read_at e.file r) i
            ∙ untouched P own s₀ q₀ (executions_of h) F apart s-apart q-apart l names
            t r (λ z. both z x) (λ o. both o.named y)
            (λ e. both (subst (λ (k : ℕ). is_in (names_in h) k ≡ true) (sym e) s-named) y)
            (λ e. both (subst (λ (k : ℕ). is_in (names_in h) k ≡ true) (sym e) q-named) y);
      }
    where
      both : {b : Bool} → b ≡ true → b ≡ false → ⊥
      both e f = let z : ◌≡◌ {A = ℕ} 0 1 = cc in omega arith

  -- Whatever answer a and registers l meet the promise of `interrupted`: where the call is not refused, (a) every register that the main list
  -- names, Q and status end as in its undisturbed run, (b) every register that the handler names, s and q apart, ends as if the handler had run
  -- that often by itself, one whole run after another, from the same start, and (c) registers that neither names are as they were.
  pub no_trace : (a : Served) (l : List ℕ) → left a l ≡ outcome → IsOk a.outcome → NoTrace main h schedule file m a.machine l
  no_trace a l e d =
      subst (λ (x : Left). NoTrace main h schedule file m x.answer.machine x.file) (sym e)
      (traceless (done_fine main h schedule file m (subst (λ (x : Left). IsOk x.answer.outcome) e d)))

  numbered : Numbered main h schedule (length file) outcome.answer
  unfolding interrupted_of
  numbered = go (verdict_of main h schedule (length file))
    where
      go : (v : Verdict) → (mark_in (unless_refused v file m (served_by line t)).answer.outcome ≡ mark_of v)
          × (served_numbers (unless_refused v file m (served_by line t)).answer.outcome ≡ served_outcome v (length line))
      go (Ok done) = (refl, refl)
      go (Err fault) = (refl, refl)

  -- the three clauses of the promise, from the first
  pub promised : (a : Served) (l : List ℕ) → left a l ≡ outcome
      → (left a l ≡ outcome) × (Numbered main h schedule (length file) a × (IsOk a.outcome → NoTrace main h schedule file m a.machine l))
  promised a l e = (
    e,
    (subst (λ (x : Left). Numbered main h schedule (length file) x.answer) (sym e) numbered, no_trace a l e),
  )

  -- and no second outcome, answer and registers together, meets that promise
  pub one-outcome : (x y : Left) → x ≡ outcome → y ≡ outcome → x ≡ y
  one-outcome x y e f = e ∙ sym f
