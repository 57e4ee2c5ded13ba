-- An interrupt leaves no trace: what a run of a handler of the form leaves as it was, and demand 3 of any line of executions.
use mathlib.Core.Path.{◌≡◌, refl, sym, ap, ◌∙◌, subst}
use mathlib.Core.List.{List, [], ◌∷◌}
use Prim.Native.Nat.{ℕ, ◌<◌}
use native.Mathlib.Omega.{arith}
use lib.ListN.{length}
use Rattle.machine.specs.declared.Core.{Core}
use Rattle.machine.specs.declared.Outputs.{Outputs}
use Rattle.machine.specs.declared.Shown.{Shown}
use Rattle.machine.specs.declared.Status.{Status}
use Rattle.machine.specs.Status.{as_read, loaded}
use Rattle.machine.specs.Inputs.{leaving}
use Rattle.machine.specs.Core.{shown_by}
use Rattle.machine.proofs.Round.{loaded-read}
use Rattle.chip.specs.declared.Word.{Word}
use Rattle.chip.specs.Glossary.{perform_of}
use Rattle.chip.specs.Lists.{State, read_at, inputs_of, shown_of, step_of, execs}
use Rattle.chip.proofs.Facts.{pass_stat, pass_q, load-q, load_stat}
use Rattle.chip.proofs.Words.{step-size, execs-size, execs-append}
use Rattle.run.specs.Run.{Sane}
use Rattle.run.proofs.Laws.{step_sane}
use Rattle.sheet.proofs.Positions.{All}
use Rattle.sheet.proofs.Positions.All.{none, more}
use Rattle.interrupt.proofs.Owners.{Names, Agree, Same, Handler, Line, times}
use Rattle.interrupt.proofs.Owners.Line.{done, next, let_in}
use Rattle.interrupt.proofs.Frame.{step_other, step_unnamed, step_reads, step_stores, step-core, step_same, execs-same, execs-other, execs-kept}

-- what a fixed word shows, by its opcode and what that leaves
does : (w : Word) (n : ℕ) (t : State) {o : Outputs} → w.opcode ≡ n → perform_of n (inputs_of w t) ≡ o → shown_of w t ≡ shown_by w.borrow o
does w n t e f = ap (λ (k : ℕ). shown_by w.borrow (perform_of k (inputs_of w t))) e ∙ ap (shown_by w.borrow) f

-- LOADQ-A puts A into Q, and LDSTAT-A into the status
abbrev core : ℕ → Status → Core
core q status = record { q = q; status = status }

loads : (w : Word) (t : State) → w.opcode ≡ 0x06 → w.code ≡ 0 → Sane t → (step_of w t).core.q ≡ read_at t.file w.a
loads w t e c x =
    ap (λ (k : Core). k.q) (step-core w t) ∙ ap (λ (k : ℕ). (perform_of k (inputs_of w t)).q) e
    ∙ load-q (inputs_of w t) c (x.file w.a) x.q

loads_stat : (w : Word) (t : State) → w.opcode ≡ 0x1c → w.code ≡ 0 → Sane t → (step_of w t).core ≡ core t.core.q (loaded (read_at t.file w.a))
loads_stat w t e c x =
    step-core w t ∙ ap (λ (s : Shown). s.core) (does w 0x1c t e (load_stat (inputs_of w t) c (x.file w.a) x.status))

module _ (own : ℕ → Type 0) (s q : ℕ) (h : List Word) (F : Handler own s q h) where
  -- the six words and the body, one state after another
  abbrev after0 : State → State
  after0 t = step_of F.w0 t

  abbrev after1 : State → State
  after1 t = step_of F.w1 (after0 t)

  abbrev after2 : State → State
  after2 t = step_of F.w2 (after1 t)

  abbrev after3 : State → State
  after3 t = step_of F.w3 (after2 t)

  abbrev after_body : State → State
  after_body t = execs F.body (after3 t)

  abbrev after_v1 : State → State
  after_v1 t = step_of F.v1 (after_body t)

  by_words : (t : State) → execs h t ≡ step_of F.v2 (after_v1 t)
  unfolding execs
  by_words t = ap (λ (l : List Word). execs l t) F.shape ∙ execs-append F.body (F.v1 ∷ F.v2 ∷ []) (after3 t)

  -- each state is in range
  sane0 : (t : State) → Sane t → Sane (after0 t)
  sane0 t x = step_sane 64 F.w0 t F.saves-status.ready x

  sane1 : (t : State) → Sane t → Sane (after1 t)
  sane1 t x = step_sane 64 F.w1 (after0 t) F.saves-q.ready (sane0 t x)

  sane2 : (t : State) → Sane t → Sane (after2 t)
  sane2 t x = step_sane 64 F.w2 (after1 t) F.loads_q.ready (sane1 t x)

  sane3 : (t : State) → Sane t → Sane (after3 t)
  sane3 t x = step_sane 64 F.w3 (after2 t) F.loads_status.ready (sane2 t x)

  sane_body : (t : State) → Sane t → Sane (after_body t)
  sane_body t x = execs-kept own F.body (after3 t) F.body_own (sane3 t x)

  sane_v1 : (t : State) → Sane t → Sane (after_v1 t)
  sane_v1 t x = step_sane 64 F.v1 (after_body t) F.gives-q.ready (sane_body t x)

  pub handler_sane : (t : State) → Sane t → Sane (execs h t)
  handler_sane t x = subst Sane (sym (by_words t)) (step_sane 64 F.v2 (after_v1 t) F.gives-status.ready (sane_v1 t x))

  -- Q and the status come back
  module _ (t : State) (sane : Sane t) (s-in : s < length t.file) (q-in : q < length t.file) where
    -- what the first word saves: the status as it reads it; in which mode does not matter, since bit 13 is ignored when it is loaded back
    abbrev saved : ℕ
    saved = as_read F.w0.borrow t.core.status

    o0 : shown_of F.w0 t ≡ shown_by F.w0.borrow (leaving (inputs_of F.w0 t) saved t.core.status)
    o0 =
        does F.w0 0x04 t F.saves-status.opcode
        (pass_stat (inputs_of F.w0 t) F.saves-status.code (sane.file F.w0.b) sane.status)

    core0 : (after0 t).core ≡ t.core
    core0 = step-core F.w0 t ∙ ap (λ (x : Shown). x.core) o0

    s0 : read_at (after0 t).file s ≡ saved
    s0 =
        ap (λ (r : ℕ). read_at (after0 t).file r) (sym F.to_s)
        ∙ step_stores F.w0 t F.saves-status.write (subst (λ (r : ℕ). r < length t.file) (sym F.to_s) s-in)
        ∙ ap (λ (x : Shown). x.y) o0

    o1 : shown_of F.w1 (after0 t) ≡ shown_by F.w1.borrow (leaving (inputs_of F.w1 (after0 t)) (after0 t).core.q (after0 t).core.status)
    o1 =
        does F.w1 0x05 (after0 t) F.saves-q.opcode
        (pass_q (inputs_of F.w1 (after0 t)) F.saves-q.code ((sane0 t sane).file F.w1.b) (sane0 t sane).q)

    q1 : read_at (after1 t).file q ≡ t.core.q
    q1 =
        ap (λ (r : ℕ). read_at (after1 t).file r) (sym F.to_q)
        ∙ step_stores F.w1 (after0 t) F.saves-q.write (subst (λ (r : ℕ). r < length (after0 t).file) (sym F.to_q) (omega (arith, step-size F.w0 t)))
        ∙ ap (λ (x : Shown). x.y) o1 ∙ ap (λ (c : Core). c.q) core0

    s1 : read_at (after1 t).file s ≡ saved
    s1 = step_other F.w1 (after0 t) s (λ e. F.apart (e ∙ F.to_q)) ∙ s0

    -- from there to the last two words no save register is written
    kept : (r : ℕ) → (own r → ⊥) → read_at (after_body t).file r ≡ read_at (after1 t).file r
    kept r out =
        execs-other own F.body (after3 t) r out F.body_own
        ∙ ap (λ (l : List ℕ). read_at l r)
        (step_reads F.w3 (after2 t) F.loads_status.write ∙ step_reads F.w2 (after1 t) F.loads_q.write)

    qv : (after_v1 t).core.q ≡ t.core.q
    qv =
        loads F.v1 (after_body t) F.gives-q.opcode F.gives-q.code (sane_body t sane)
        ∙ ap (λ (r : ℕ). read_at (after_body t).file r) F.from-q ∙ kept q F.q-out ∙ q1

    sv : read_at (after_v1 t).file F.v2.a ≡ saved
    sv =
        ap (λ (r : ℕ). read_at (after_v1 t).file r) F.from-s
        ∙ ap (λ (l : List ℕ). read_at l s) (step_reads F.v1 (after_body t) F.gives-q.write)
        ∙ kept s F.s-out ∙ s1

    pub core_back : (execs h t).core ≡ t.core
    core_back =
        ap (λ (u : State). u.core) (by_words t) ∙ loads_stat F.v2 (after_v1 t) F.gives-status.opcode F.gives-status.code (sane_v1 t sane)
        ∙ (λ i. core (qv i) ((ap loaded sv ∙ loaded-read F.w0.borrow t.core.status sane.status) i))

  -- a register that the handler does not own, and that is no save register, stays
  pub other_stays : (t : State) (r : ℕ) → (own r → ⊥) → (r ≡ s → ⊥) → (r ≡ q → ⊥) → read_at (execs h t).file r ≡ read_at t.file r
  other_stays t r out ns nq =
      ap (λ (u : State). read_at u.file r) (by_words t)
      ∙ ap (λ (l : List ℕ). read_at l r)
      (step_reads F.v2 (after_v1 t) F.gives-status.write ∙ step_reads F.v1 (after_body t) F.gives-q.write)
      ∙ execs-other own F.body (after3 t) r out F.body_own
      ∙ ap (λ (l : List ℕ). read_at l r)
      (step_reads F.w3 (after2 t) F.loads_status.write ∙ step_reads F.w2 (after1 t) F.loads_q.write)
      ∙ step_other F.w1 (after0 t) r (λ e. nq (e ∙ F.to_q))
      ∙ step_other F.w0 t r (λ e. ns (e ∙ F.to_s))

  -- what the handler owns ends by what it owned: Q, the status and the save registers as it is let in do not matter
  not-s : (r : ℕ) → own r → r ≡ s → ⊥
  not-s r o e = F.s-out (subst own e o)

  not-q : (r : ℕ) → own r → r ≡ q → ⊥
  not-q r o e = F.q-out (subst own e o)

  start : (t : State) (r : ℕ) → own r → read_at (after1 t).file r ≡ read_at t.file r
  start t r o =
      step_other F.w1 (after0 t) r (λ e. not-q r o (e ∙ F.to_q)) ∙ step_other F.w0 t r (λ e. not-s r o (e ∙ F.to_s))

  start2 : (t : State) (r : ℕ) → own r → read_at (after2 t).file r ≡ read_at t.file r
  start2 t r o = ap (λ (l : List ℕ). read_at l r) (step_reads F.w2 (after1 t) F.loads_q.write) ∙ start t r o

  start3 : (t : State) (r : ℕ) → own r → read_at (after3 t).file r ≡ read_at t.file r
  start3 t r o = ap (λ (l : List ℕ). read_at l r) (step_reads F.w3 (after2 t) F.loads_status.write) ∙ start2 t r o

  size3 : (t : State) → length (after3 t).file ≡ length t.file
  size3 t = step-size F.w3 (after2 t) ∙ step-size F.w2 (after1 t) ∙ step-size F.w1 (after0 t) ∙ step-size F.w0 t

  q2 : (t : State) → Sane t → (after2 t).core.q ≡ read_at t.file F.w2.a
  q2 t x = loads F.w2 (after1 t) F.loads_q.opcode F.loads_q.code (sane1 t x) ∙ start t F.w2.a F.w2_own

  core3 : (t : State) → Sane t → (after3 t).core ≡ core (read_at t.file F.w2.a) (loaded (read_at t.file F.w3.a))
  core3 t x =
      loads_stat F.w3 (after2 t) F.loads_status.opcode F.loads_status.code (sane2 t x)
      ∙ (λ i. core (q2 t x i) (loaded (start2 t F.w3.a F.w3_own i)))

  -- the last two words write nothing
  ends : (t : State) (r : ℕ) → read_at (execs h t).file r ≡ read_at (after_body t).file r
  ends t r =
      ap (λ (u : State). read_at u.file r) (by_words t)
      ∙ ap (λ (l : List ℕ). read_at l r)
      (step_reads F.v2 (after_v1 t) F.gives-status.write ∙ step_reads F.v1 (after_body t) F.gives-q.write)

  pub own_alike : (t u : State) → Agree own t u → Sane t → Sane u → Agree own (execs h t) (execs h u)
  own_alike t u a x y =
      let entered : Same own (after3 t) (after3 u) = record {
        agree = record {
          size = size3 t ∙ a.size ∙ sym (size3 u);
          same = λ r o. start3 t r o ∙ a.same r o ∙ sym (start3 u r o);
        };
        core = core3 t x ∙ (λ i. core (a.same F.w2.a F.w2_own i) (loaded (a.same F.w3.a F.w3_own i))) ∙ sym (core3 u y);
      } in
      let b : Same own (after_body t) (after_body u) = execs-same own F.body (after3 t) (after3 u) F.body_own entered in
      record {
        size = execs-size h t ∙ a.size ∙ sym (execs-size h u);
        same = λ r o. ends t r ∙ b.agree.same r o ∙ sym (ends u r);
      }

same_trans : (P : ℕ → Type 0) (t u v : State) → Same P t u → Same P u v → Same P t v
same_trans P t u v a b = record {
  agree = record { size = a.agree.size ∙ b.agree.size; same = λ r p. a.agree.same r p ∙ b.agree.same r p };
  core = a.core ∙ b.core;
}

-- ---- lines of executions. P: the registers that the main list names. own: those that the handler names, s and q apart
module _ (P own : ℕ → Type 0) (s q : ℕ) (h : List Word) (F : Handler own s q h)
    (apart : (r : ℕ) → P r → own r → ⊥) (s-apart : P s → ⊥) (q-apart : P q → ⊥) where
  -- the handler let in: what the main list names, Q and the status stay
  passing : (t : State) → Sane t → s < length t.file → q < length t.file → Same P (execs h t) t
  passing t c i j = record {
    agree = record {
      size = execs-size h t;
      same = λ r p. other_stays own s q h F t r (apart r p) (λ e. s-apart (subst P e p)) (λ e. q-apart (subst P e p));
    };
    core = core_back own s q h F t c i j;
  }

  -- (a) the registers that the main list names, Q and status end as in its undisturbed run
  pub undisturbed : {ms : List Word} {n : ℕ} {ws : List Word} → Line h ms n ws → All (Names P) ms → (t u : State)
      → Sane t → s < length t.file → q < length t.file → Same P t u → Same P (execs ws t) (execs ms u)
  unfolding execs
  undisturbed done none t u c i j a = a
  undisturbed (next {w} l) (more n ns) t u c i j a =
      undisturbed l ns (step_of w t) (step_of w u) (step_sane 64 w t n.ready c)
      (omega (arith, step-size w t)) (omega (arith, step-size w t)) (step_same P w t u n a)
  undisturbed (let_in {ms} {n} {ws} l) ns t u c i j a =
      subst (λ (v : State). Same P v (execs ms u)) (sym (execs-append h ws t))
      (undisturbed l ns (execs h t) u (handler_sane own s q h F t c) (omega (arith, execs-size h t)) (omega (arith, execs-size h t))
      (same_trans P (execs h t) t u (passing t c i j) a))

  -- (b) the registers that the handler names, s and q apart, end as if it had run that often by itself, one whole run after another
  pub alike : {ms : List Word} {n : ℕ} {ws : List Word} → Line h ms n ws → All (Names P) ms → (t u : State)
      → Sane t → Sane u → Agree own t u → Agree own (execs ws t) (execs (times n h) u)
  unfolding execs times
  alike done none t u c d a = a
  alike (next {w} l) (more n ns) t u c d a =
      alike l ns (step_of w t) u (step_sane 64 w t n.ready c) d (record {
        size = step-size w t ∙ a.size;
        same = λ r o. step_unnamed w t r (λ m. apart r (n.only r m) o) ∙ a.same r o;
      })
  alike (let_in {ms} {n} {ws} l) ns t u c d a =
      let b : Agree own (execs ws (execs h t)) (execs (times n h) (execs h u))
      = alike l ns (execs h t) (execs h u) (handler_sane own s q h F t c) (handler_sane own s q h F u d) (own_alike own s q h F t u a c d) in
      rw (execs-append h ws t, execs-append h (times n h) u) b

  -- (c) registers that neither names are as they were
  pub untouched : {ms : List Word} {n : ℕ} {ws : List Word} → Line h ms n ws → All (Names P) ms → (t : State) (r : ℕ)
      → (P r → ⊥) → (own r → ⊥) → (r ≡ s → ⊥) → (r ≡ q → ⊥) → read_at (execs ws t).file r ≡ read_at t.file r
  unfolding execs
  untouched done none t r np nh ns nq = refl
  untouched (next {w} l) (more n m) t r np nh ns nq =
      untouched l m (step_of w t) r np nh ns nq ∙ step_unnamed w t r (λ m. np (n.only r m))
  untouched (let_in {ms} {n} {ws} l) m t r np nh ns nq =
      ap (λ (u : State). read_at u.file r) (execs-append h ws t) ∙ untouched l m (execs h t) r np nh ns nq
      ∙ other_stays own s q h F t r nh ns nq
