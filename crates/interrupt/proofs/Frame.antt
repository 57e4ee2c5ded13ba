-- What a step reads and writes: two states that agree on the registers that words name, and on Q and status, agree after them; and a register
-- that no word names stays.
use mathlib.Core.Path.{◌≡◌, refl, sym, ap, ◌∙◌}
use mathlib.Core.List.{List, [], ◌∷◌}
use mathlib.Core.Bool.{true}
use Prim.Native.Nat.{ℕ, zero, suc, ◌<◌}
use native.Mathlib.Omega.{arith}
use lib.ListN.{length}
use Rattle.bits.specs.Bits.{choose}
use Rattle.machine.specs.declared.Shown.{Shown}
use Rattle.chip.specs.declared.Word.{Word}
use Rattle.chip.specs.Lists.{State, read_at, store_at, written, shown_of, step_of, execs}
use Rattle.chip.proofs.Files.{read_same, read-other, store_agree}
use Rattle.chip.proofs.Words.{step-size}
use Rattle.packing.specs.Registers.{is_in, names_of}
use Rattle.packing.proofs.Registers.{names-a, names-b, names-y}
use Rattle.run.specs.Run.{Sane}
use Rattle.run.proofs.Laws.{step_sane}
use Rattle.sheet.proofs.Positions.{All}
use Rattle.sheet.proofs.Positions.All.{none, more}
use Rattle.interrupt.proofs.Owners.{Names, Same}

-- ---- one word
-- a register stays that is not Y where the word writes
step_kept : (w : Word) (t : State) (r : ℕ) → ((w.write ≡ 0 → ⊥) → r ≡ w.y → ⊥) → read_at (step_of w t).file r ≡ read_at t.file r
unfolding step_of
step_kept w t r h = go w.write refl
  where
    go : (k : ℕ) → w.write ≡ k → read_at (choose k t.file (store_at t.file w.y (shown_of w t).y)) r ≡ read_at t.file r
    go zero e = refl
    go (suc k) e = read-other t.file w.y (shown_of w t).y r (h (λ (z : w.write ≡ 0). omega arith))

-- so one that is not Y
pub step_other : (w : Word) (t : State) (r : ℕ) → (r ≡ w.y → ⊥) → read_at (step_of w t).file r ≡ read_at t.file r
step_other w t r h = step_kept w t r (λ n. h)

-- and one that the word does not name
pub step_unnamed : (w : Word) (t : State) (r : ℕ) → (is_in (names_of w) r ≡ true → ⊥) → read_at (step_of w t).file r ≡ read_at t.file r
step_unnamed w t r h = step_kept w t r (λ n e. h (ap (is_in (names_of w)) e ∙ names-y w n))

-- with no write all stay
pub step_reads : (w : Word) (t : State) → w.write ≡ 0 → (step_of w t).file ≡ t.file
unfolding step_of
step_reads w t h = rw h refl

-- Y is stored
pub step_stores : (w : Word) (t : State) → w.write ≡ 1 → w.y < length t.file → read_at (step_of w t).file w.y ≡ (shown_of w t).y
unfolding step_of
step_stores w t h i = rw h (read_same t.file w.y (shown_of w t).y i)

-- Q and the status after a step
pub step-core : (w : Word) (t : State) → (step_of w t).core ≡ (shown_of w t).core
unfolding step_of
step-core w t = refl

-- ---- two states that agree on what a word names
shown-same : (P : ℕ → Type 0) (w : Word) (t u : State) → Names P w → Same P t u → shown_of w t ≡ shown_of w u
shown-same P w t u n s =
    let f : read_at t.file w.a ≡ read_at u.file w.a = s.agree.same w.a (n.only w.a (names-a w)) in
    let g : read_at t.file w.b ≡ read_at u.file w.b = s.agree.same w.b (n.only w.b (names-b w)) in
    let c : t.core ≡ u.core = s.core in
    rw (f, g, c) refl

pub step_same : (P : ℕ → Type 0) (w : Word) (t u : State) → Names P w → Same P t u → Same P (step_of w t) (step_of w u)
unfolding step_of
step_same P w t u n s =
    let o : shown_of w t ≡ shown_of w u = shown-same P w t u n s in
    record {
      agree = record {
        size = sized t ∙ s.agree.size ∙ sym (sized u);
        same = λ r p. kept w.write r (s.agree.same r p) o;
      };
      core = ap (λ (x : Shown). x.core) o;
    }
  where
    sized : (v : State) → length (written w (shown_of w v).y v.file) ≡ length v.file
    sized v = step-size w v

    kept : (k r : ℕ) → read_at t.file r ≡ read_at u.file r → shown_of w t ≡ shown_of w u
        → read_at (choose k t.file (store_at t.file w.y (shown_of w t).y)) r ≡ read_at (choose k u.file (store_at u.file w.y (shown_of w u).y)) r
    kept zero r e o = e
    kept (suc k) r e o =
        ap (λ (x : Shown). read_at (store_at t.file w.y x.y) r) o
        ∙ store_agree t.file u.file w.y (shown_of w u).y r s.agree.size e

-- ---- words one after another
pub execs-same : (P : ℕ → Type 0) (ws : List Word) (t u : State) → All (Names P) ws → Same P t u → Same P (execs ws t) (execs ws u)
unfolding execs
execs-same P [] t u none s = s
execs-same P (w ∷ ws) t u (more n a) s = execs-same P ws (step_of w t) (step_of w u) a (step_same P w t u n s)

-- a register that no word names stays
pub execs-other : (P : ℕ → Type 0) (ws : List Word) (t : State) (r : ℕ) → (P r → ⊥) → All (Names P) ws → read_at (execs ws t).file r ≡ read_at t.file r
unfolding execs
execs-other P [] t r h none = refl
execs-other P (w ∷ ws) t r h (more n a) =
    execs-other P ws (step_of w t) r h a ∙ step_unnamed w t r (λ m. h (n.only r m))

-- a state in range stays in range
pub execs-kept : (P : ℕ → Type 0) (ws : List Word) (t : State) → All (Names P) ws → Sane t → Sane (execs ws t)
unfolding execs
execs-kept P [] t none s = s
execs-kept P (w ∷ ws) t (more n a) s = execs-kept P ws (step_of w t) a (step_sane 64 w t n.ready s)
