-- One word of a sheet by itself: the ways in which it ends, that its pins are bits of its status, that it is a run of one word, and that it has
-- one outcome.
use mathlib.Core.Path.{◌≡◌, refl, ap, ap₂, sym, subst, ◌∙◌}
use mathlib.Core.List.{List, [], ◌∷◌}
use Prim.Native.Nat.{ℕ, ◌^◌, ◌<◌}
use native.Mathlib.Omega.{arith}
use borrow.Author.Tests.{le-ltb}
use lib.ListN.{length, take, drop}
use Rattle.machine.specs.declared.Machine.{Machine}
use Rattle.machine.specs.declared.Core.{Core}
use Rattle.machine.specs.declared.Status.{Status}
use Rattle.machine.specs.declared.Shown.{Shown}
use Rattle.machine.specs.Core.{taken, handed_back}
use Rattle.machine.specs.Pins.{pins_in}
use Rattle.machine.proofs.Round.{loaded-read}
use Rattle.machine.proofs.Handed.{taken_back, taken_good}
use Rattle.machine.proofs.Pins.{pins-loaded}
use Rattle.std.proofs.Common.{Some, Ok, Err}
use Rattle.reasons.specs.declared.Refusal.{Refusal}
use Rattle.reasons.specs.declared.Outcome.{Outcome}
use Rattle.reasons.specs.Reasons.{Check, good, answer_numbers}
use Rattle.chip.specs.declared.Word.{Word}
use Rattle.chip.specs.declared.SingleAnswer.{SingleAnswer}
use Rattle.chip.specs.Single.{out_of_range, performed, single_of}
use Rattle.chip.specs.Lists.{read_at, written, shown_of, step_of, execs}
use Rattle.chip.proofs.Single.{single-pins}
use Rattle.sheet.specs.Sheet.{executions_of, check_of, WordReady}
use Rattle.sheet.proofs.Positions.{All, all_drop}
use Rattle.sheet.proofs.Positions.All.{none, more}
use Rattle.sheet.proofs.Table.{ready}
use Rattle.run.specs.Run.{entering, Ended, ended, ran, run_of, outcome_after, run_outcome}
use Rattle.run.specs.Step.{Halted, halted, no_word, standing, left_by, first_on, unless, one_word_of}
use Rattle.run.proofs.Laws.{each_ready, outputs_kept}
use Rattle.run.proofs.Parts.{run-refused, run_is, entering_sane}

-- ---- a word on a file
module _ (w : Word) (file : List ℕ) (m : Machine) where
  -- a word that can be run is not refused as a single word
  pub single_runs : {n : ℕ} → WordReady n w → single_of (standing w file m) ≡ performed (shown_of w (entering file m))
  unfolding single_of out_of_range
  single_runs r =
      rw (
        r.page,
        le-ltb 3 w.code (omega (arith, r.range.code)),
        le-ltb 63 w.position (omega (arith, r.range.position)),
        le-ltb 31 w.width (omega (arith, r.range.width)),
        le-ltb 1 w.select (omega (arith, r.range.select)),
        le-ltb 1 w.carry (omega (arith, r.range.carry)),
        le-ltb 1 w.link (omega (arith, r.range.link)),
        le-ltb 1 w.borrow (omega (arith, r.range.borrow)),
      )
      refl

-- ---- a step
-- the status as a run hands it back: in carry mode, where a word shows it by its own switch; a refusal's is as it was
abbrev pub in_carry_mode : Check → Machine → Machine
in_carry_mode (Ok passed) m = handed_back (taken m)
in_carry_mode (Err refusal) m = m

-- what a run answers of a step: Y, parity and pins are not told
abbrev pub as_run : Check → Halted → Ended
as_run c h = ended (record { outcome = h.answer.outcome; machine = in_carry_mode c h.answer.machine }) h.file

module _ (s file : List ℕ) (m : Machine) (start : ℕ) where
  pub step-refused : (x : Refusal) → check_of s (Some (length file)) (Some start) ≡ Err x
      → halted (no_word (Err x) m) file ≡ one_word_of s file m start
  unfolding one_word_of
  step-refused x e = sym (ap (λ (c : Check). unless c file m (first_on (drop start (executions_of s)) file m)) e)

  pub step_is : (ws : List Word) → check_of s (Some (length file)) (Some start) ≡ good → drop start (executions_of s) ≡ ws
      → first_on ws file m ≡ one_word_of s file m start
  unfolding one_word_of
  step_is ws e d = sym (ap₂ (λ (c : Check) (l : List Word). unless c file m (first_on l file m)) e d)

  -- its reason and place have the numbers of a run with an allowance of 1
  step-numbers : (h : Halted) → h ≡ one_word_of s file m start → answer_numbers h.answer.outcome ≡ run_outcome s (length file) start 1
  unfolding one_word_of
  step-numbers h e = ap numbered e ∙ go (check_of s (Some (length file)) (Some start)) (drop start (executions_of s))
    where
      numbered : Halted → Outcome
      numbered x = answer_numbers x.answer.outcome

      go : (c : Check) (ws : List Word) → numbered (unless c file m (first_on ws file m)) ≡ outcome_after c (length (take 1 ws))
      go (Ok passed) [] = refl
      go (Ok passed) (w ∷ ws) = refl
      go (Err refusal) ws = refl

  module _ (registers : (r : ℕ) → read_at file r < 2 ^ 32) (q : m.q < 2 ^ 32) where
    -- its pins are those five bits of the status that it answers, whether a word ran or none
    pub step-pins : (one_word_of s file m start).answer.pins ≡ pins_in (one_word_of s file m start).answer.machine.status
    unfolding one_word_of
    step-pins = go (check_of s (Some (length file)) (Some start)) (drop start (executions_of s))
      where
        shows : Halted → Type 0
        shows h = h.answer.pins ≡ pins_in h.answer.machine.status

        go : (c : Check) (ws : List Word) → shows (unless c file m (first_on ws file m))
        go (Ok passed) [] = pins-loaded (handed_back (taken m)).status
        go (Ok passed) (w ∷ ws) = single-pins (standing w file m) (registers w.a) (registers w.b) q
        go (Err refusal) ws = pins-loaded m.status

    -- all that the promise says of an outcome, once it is that of the definition
    pub promised : (h : Halted) → h ≡ one_word_of s file m start
        → (h ≡ one_word_of s file m start)
        × ((answer_numbers h.answer.outcome ≡ run_outcome s (length file) start 1) × (h.answer.pins ≡ pins_in h.answer.machine.status))
    promised h e =
        (e, (step-numbers h e, subst (λ (x : Halted). x.answer.pins ≡ pins_in x.answer.machine.status) (sym e) step-pins))

  -- It is a run of one word: file, Q, reason and place are those of a run with an allowance of 1, and so is the status, read in carry mode.
  pub step_runs : ((r : ℕ) → read_at file r < 2 ^ 32) → m.q < 2 ^ 32
      → as_run (check_of s (Some (length file)) (Some start)) (one_word_of s file m start) ≡ run_of s file m start 1
  unfolding one_word_of execs step_of
  step_runs registers q = go (check_of s (Some (length file)) (Some start)) refl
    where
      first : (ws : List Word) → All (WordReady (length file)) ws → as_run good (first_on ws file m) ≡ ran (take 1 ws) (entering file m)
      first [] none = ap (λ (c : Core). ended (record { outcome = Ok 0; machine = handed_back c }) file) (taken_back (taken m) (taken_good m))
      first (w ∷ ws) (more r a) =
          let x : Shown = shown_of w (entering file m) in
          ap (λ (x : SingleAnswer). as_run good (left_by w file x)) (single_runs w file m r)
          ∙ ap (λ (t : Status). ended (record { outcome = Ok 1; machine = handed_back (record { q = x.core.q; status = t }) }) (written w x.y file))
          (loaded-read w.borrow x.core.status (outputs_kept (length file) w (entering file m) r (entering_sane file m registers q)).status)

      go : (c : Check) → check_of s (Some (length file)) (Some start) ≡ c
          → as_run c (unless c file m (first_on (drop start (executions_of s)) file m)) ≡ run_of s file m start 1
      go (Ok passed) e =
          first (drop start (executions_of s))
          (all_drop _ start (executions_of s) (each_ready s (length file) (ready s (length file) (Some start) e)))
          ∙ sym (run_is s file m start 1 e)
      go (Err x) e = run-refused s file m start 1 x e

  -- no second outcome, answer and file together, meets the promise of `one_word`
  pub step-only : (x y : Halted) → x ≡ one_word_of s file m start → y ≡ one_word_of s file m start → x ≡ y
  step-only x y e f = e ∙ sym f
