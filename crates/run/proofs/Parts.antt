-- The two ways in which a run ends; running in parts equals running at once; a run has one outcome; and what `run` promises, clause by clause.
use mathlib.Core.Path.{◌≡◌, refl, ap, ap₂, sym, subst, ◌∙◌}
use mathlib.Core.List.{List, ◌++◌}
use mathlib.Core.Bool.{Bool, true, false}
use Prim.Native.Nat.{ℕ, ◌+◌, ◌-◌, ◌^◌, ◌≤◌, ◌<◌, min}
use native.Mathlib.Omega.{arith}
use lib.ListN.{length, take, drop, length-append, length-take, length-drop}
use lib.Seq.{take-add, drop-drop}
use Rattle.machine.specs.declared.Machine.{Machine}
use Rattle.machine.specs.declared.Core.{Core}
use Rattle.machine.specs.declared.Shown.{Shown}
use Rattle.machine.specs.Core.{taken, handed_back}
use Rattle.machine.proofs.Handed.{taken_back, taken_good}
use Rattle.std.proofs.Common.{Some, Ok, Err}
use Rattle.std.specs.Prelude.{IsOk}
use Rattle.std.specs.Result.{is_ok}
use Rattle.reasons.specs.Reasons.{Check, good, number_of, answer_numbers}
use Rattle.reasons.specs.declared.Refusal.{Refusal}
use Rattle.chip.specs.declared.Word.{Word}
use Rattle.chip.specs.Lists.{State, state, read_at, execs}
use Rattle.chip.proofs.Words.{execs-size, execs-append}
use Rattle.sheet.specs.Sheet.{executions_of, between, check_of}
use Rattle.sheet.proofs.Positions.{all_take, all_drop, take_left, drop-left}
use Rattle.sheet.proofs.Answers.{check_tells}
use Rattle.sheet.proofs.Table.{ready, start_within, start-later}
use Rattle.run.specs.declared.Going.{Going}
use Rattle.run.specs.declared.RunAnswer.{RunAnswer}
use Rattle.run.specs.Run.{state_of, entering, Sane, executed, Ended, ended, ran, unless, run_of, outcome_after, run_outcome, afterwards, together, in_parts, Stepped, Went}
use Rattle.run.proofs.Laws.{each_ready, execs_sane}

-- ---- the two ways in which a run ends
-- from words that went and are counted, from the start on
pub went_ran : (ws : List Word) (file : List ℕ) (m : Machine) (l : List ℕ) (c : Core) (g : Going) (h : Machine) → c ≡ taken m
    → Went ws file (record { core = c; count = 0 }) l g → h ≡ handed_back g.core
    → ended (record { outcome = Ok g.count; machine = h }) l ≡ ran ws (entering file m)
went_ran ws file m l c g h ec w eh =
    let t : state_of l g ≡ execs ws (entering file m) = w.state ∙ ap (λ (x : Core). execs ws (state file x)) ec in
    let k : g.count ≡ length ws = w.count ∙ none (length ws) in
    ap₂ (λ (n : ℕ) (x : Machine). ended (record { outcome = Ok n; machine = x }) l) k eh
    ∙ ap (λ (u : State). ended (record { outcome = Ok (length ws); machine = handed_back u.core }) u.file) t
  where
    none : (n : ℕ) → 0 + n ≡ n
    none n = omega arith

-- the words by another name
pub went_list : {ws vs : List Word} {l₀ l : List ℕ} {g₀ g : Going} → ws ≡ vs → Went ws l₀ g₀ l g → Went vs l₀ g₀ l g
went_list {ws} {vs} {l₀} {l} {g₀} {g} e w = subst (λ (us : List Word). Went us l₀ g₀ l g) e w

module _ (s file : List ℕ) (m : Machine) (start allowance : ℕ) where
  pub run-refused : (x : Refusal) → check_of s (Some (length file)) (Some start) ≡ Err x
      → ended (record { outcome = Err x; machine = m }) file ≡ run_of s file m start allowance
  unfolding run_of
  run-refused x e = sym (ap (λ (c : Check). unless c file m (ran (executed s start allowance) (entering file m))) e)

  pub run_is : check_of s (Some (length file)) (Some start) ≡ good → run_of s file m start allowance ≡ ran (executed s start allowance) (entering file m)
  unfolding run_of
  run_is e = ap (λ (c : Check). unless c file m (ran (executed s start allowance) (entering file m))) e

-- the span that the code runs
pub executed_is : (s : List ℕ) (start allowance n k : ℕ) → n ≡ length (executions_of s) → k ≡ min allowance (n - start)
    → between start (start + k) (executions_of s) ≡ executed s start allowance
executed_is s start allowance n k e f =
    let d : start + k - start ≡ k = omega arith in
    ap (λ (j : ℕ). take j (drop start (executions_of s))) d
    ∙ take_left (drop start (executions_of s)) allowance k (f ∙ ap (λ (j : ℕ). min allowance (j - start)) e ∙ ap (min allowance) (sym (length-drop start (executions_of s))))

-- ---- running in parts
-- registers and Q that are words of 32 bits, and any status
pub entering_sane : (file : List ℕ) (m : Machine) → ((r : ℕ) → read_at file r < 2 ^ 32) → m.q < 2 ^ 32 → Sane (entering file m)
entering_sane file m f q = record { file = f; q = q; status = taken_good m }

-- what is handed back can be handed in
pub back : (t : State) → Sane t → entering t.file (handed_back t.core) ≡ t
back t g = ap (state t.file) (taken_back t.core g.status)

module _ (s file : List ℕ) (m : Machine) (start a b : ℕ) (registers : (r : ℕ) → read_at file r < 2 ^ 32) (q : m.q < 2 ^ 32)
    (passed : check_of s (Some (length file)) (Some start) ≡ good) where
  -- the executions left, those of the first run, and the state after it
  abbrev rest : List Word
  rest = drop start (executions_of s)

  abbrev first : List Word
  first = take a rest

  abbrev t₁ : State
  t₁ = execs first (entering file m)

  sane : Sane t₁
  sane =
      execs_sane (length file) first (entering file m) (all_take _ a rest (all_drop _ start (executions_of s) (each_ready s (length file) (ready s (length file) (Some start) passed))))
      (entering_sane file m registers q)

  -- What a run hands back is in carry mode, whatever words ran: read so again it is the same.
  pub run-carry_mode : handed_back (taken (run_of s file m start a).answer.machine) ≡ (run_of s file m start a).answer.machine
  run-carry_mode =
      let e : (run_of s file m start a).answer.machine ≡ handed_back t₁.core = ap (λ (x : Ended). x.answer.machine) (run_is s file m start a passed) in
      ap (λ (k : Machine). handed_back (taken k)) e ∙ ap handed_back (taken_back t₁.core sane.status) ∙ sym e

  -- those of the second run
  second_is : executed s (start + length first) b ≡ take b (drop a rest)
  second_is =
      ap (take b)
      (sym (drop-drop (length first) start (executions_of s)) ∙ drop-left rest a (length first) (length-take a rest))

  -- it is not refused
  again : check_of s (Some (length t₁.file)) (Some (start + length first)) ≡ good
  again =
      let h : start ≤ length (executions_of s) = start_within s (Some (length file)) start passed in
      let d : length rest ≡ length (executions_of s) - start = length-drop start (executions_of s) in
      let k : length first ≡ min a (length rest) = length-take a rest in
      ap (λ (n : ℕ). check_of s (Some n) (Some (start + length first))) (execs-size first (entering file m))
      ∙ start-later s (Some (length file)) (Some start) (start + length first) passed (omega arith)

  -- Running in parts equals running at once. A run of a executions, and from what it left a run of b more, leave the registers, Q and the
  -- status that one run of a + b leaves, and the counts of the two add up to its count.
  pub run-in_parts : run_of s file m start (a + b) ≡ in_parts s file m start a b
  run-in_parts =
      let second : List Word = take b (drop a rest) in
      let whole : executed s start (a + b) ≡ first ++ second = take-add a b rest in
      let one : run_of s file m start a ≡ ran first (entering file m) = run_is s file m start a passed in
      let two : run_of s t₁.file (handed_back t₁.core) (start + length first) b ≡ ran second t₁
      = run_is s t₁.file (handed_back t₁.core) (start + length first) b again ∙ ap₂ ran second_is (back t₁ sane) in
      run_is s file m start (a + b) passed
      ∙ ap (λ (ws : List Word). ran ws (entering file m)) whole
      ∙ ap₂ (λ (n : ℕ) (t : State). ended (record { outcome = Ok n; machine = handed_back t.core }) t.file) (length-append first second) (execs-append first second (entering file m))
      ∙ ap (together (ran first (entering file m))) (sym two)
      ∙ ap (λ (x : Ended). together x (afterwards s start x b)) (sym one)

-- ---- one outcome
-- Two outcomes of a span, and two of a step, that meet its promise are one.
pub one_span : (ws : List Word) (l₀ : List ℕ) (g₀ : Going) (l k : List ℕ) (g h : Going) → Went ws l₀ g₀ l g → Went ws l₀ g₀ k h → (l ≡ k) × (g ≡ h)
one_span ws l₀ g₀ l k g h a b =
    let e : state_of l g ≡ state_of k h = a.state ∙ sym b.state in
    let n : g.count ≡ h.count = a.count ∙ sym b.count in
    (ap (λ (t : State). t.file) e, λ i. record { core = (e i).core; count = n i })

pub one-step : (w : Word) (t : State) (l k : List ℕ) (x y : Shown) → Stepped w t l x → Stepped w t k y → (l ≡ k) × (x ≡ y)
one-step w t l k x y a b = (ap (λ (u : State). u.file) (a.state ∙ sym b.state), a.shown ∙ sym b.shown)

-- Two outcomes, answer and file together, that meet the promise of a run are one.
pub one-outcome : (s file : List ℕ) (m : Machine) (start allowance : ℕ) (x y : Ended)
    → x ≡ run_of s file m start allowance → y ≡ run_of s file m start allowance → x ≡ y
one-outcome s file m start allowance x y e f = e ∙ sym f

-- ---- the promise of `run`, from its first clause
module _ (s file : List ℕ) (m : Machine) (start allowance : ℕ) where
  -- a run that is not refused was not refused by the check
  done_passed : IsOk (run_of s file m start allowance).answer.outcome → check_of s (Some (length file)) (Some start) ≡ good
  done_passed h = go (check_of s (Some (length file)) (Some start)) refl
    where
      go : (c : Check) → check_of s (Some (length file)) (Some start) ≡ c → c ≡ good
      go (Ok passed) d = refl
      go (Err x) d = let f : ◌≡◌ {A = Bool} false true = rw (← run-refused s file m start allowance x d) at h in cc

  -- nor was one whose answer has number 0
  pub zero_ok : (answer_numbers (run_of s file m start allowance).answer.outcome).reason ≡ 0 → IsOk (run_of s file m start allowance).answer.outcome
  zero_ok e = go (check_of s (Some (length file)) (Some start)) refl
    where
      go : (c : Check) → check_of s (Some (length file)) (Some start) ≡ c → IsOk (run_of s file m start allowance).answer.outcome
      go (Ok passed) d = ap (λ (x : Ended). is_ok x.answer.outcome) (run_is s file m start allowance d)
      go (Err x) d =
          let n : number_of x.reason ≡ 0 = ap (λ (y : Ended). (answer_numbers y.answer.outcome).reason) (run-refused s file m start allowance x d) ∙ e in
          absurd (omega (arith, check_tells s (Some (length file)) (Some start) x.reason x.place d))

  told : answer_numbers (run_of s file m start allowance).answer.outcome ≡ run_outcome s (length file) start allowance
  unfolding run_of
  told = go (check_of s (Some (length file)) (Some start))
    where
      ws : List Word
      ws = executed s start allowance

      go : (c : Check) → answer_numbers (unless c file m (ran ws (entering file m))).answer.outcome ≡ outcome_after c (length ws)
      go (Ok passed) = refl
      go (Err refusal) = refl

  -- The answer in numbers; and where the run is done, it is the same as any two runs of parts of its allowance, one after the other.
  pub promised : ((r : ℕ) → read_at file r < 2 ^ 32) → m.q < 2 ^ 32 → (r : RunAnswer) (l : List ℕ) → ended r l ≡ run_of s file m start allowance
      → (ended r l ≡ run_of s file m start allowance)
      × ((answer_numbers r.outcome ≡ run_outcome s (length file) start allowance)
      × (IsOk r.outcome → (a b : ℕ) → a + b ≡ allowance → ended r l ≡ in_parts s file m start a b))
  promised registers q r l e = (
    e,
    (
      ap (λ (x : Ended). answer_numbers x.answer.outcome) e ∙ told,
      λ d a b h.
          e ∙ ap (run_of s file m start) (sym h)
          ∙ run-in_parts s file m start a b registers q (done_passed (subst (λ (x : Ended). IsOk x.answer.outcome) e d)),
    ),
  )
