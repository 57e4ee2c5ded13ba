-- Laws of a step and of the executions one after another.
use mathlib.Core.Path.{◌≡◌, refl, ap, sym, subst, ◌∙◌}
use mathlib.Core.List.{List, [], ◌∷◌}
use Prim.Native.Nat.{ℕ, zero, suc, ◌+◌, ◌-◌, ◌^◌, ◌≤◌, ◌<◌}
use native.Mathlib.Omega.{arith}
use lib.ListN.{length, set}
use Rattle.bits.specs.Bits.{choose}
use Rattle.machine.specs.declared.Shown.{Shown}
use Rattle.machine.specs.Status.{Good}
use Rattle.machine.specs.Inputs.{Sound, Kept}
use Rattle.chip.specs.declared.Word.{Word}
use Rattle.chip.specs.Glossary.{perform_of}
use Rattle.chip.specs.Lists.{State, state, read_at, store_at, inputs_of, shown_of, step_of, execs}
use Rattle.chip.proofs.Kept.{perform_kept}
use Rattle.chip.proofs.Files.{store_is, store_small}
use Rattle.sheet.specs.Sheet.{words_of, declared_of, word_at, executions_of, between, WordReady, Ready}
use Rattle.sheet.proofs.Positions.{All, all-executions, executions-next, between_none, between_next, between-length}
use Rattle.sheet.proofs.Positions.All.{none, more}
use Rattle.run.specs.declared.Going.{Going}
use Rattle.run.specs.Run.{state_of, Sane, Stepped, Went}

-- ---- a word that can be run
-- on a file can be run on a larger one
pub word_larger : (n m : ℕ) (w : Word) → n ≤ m → WordReady n w → WordReady m w
word_larger n m w h r = record {
  not_idle = r.not_idle;
  page = r.page;
  range = r.range;
  a = omega (arith, r.a);
  b = omega (arith, r.b);
  y = omega (arith, r.y);
}

-- a word of a sheet that can be run on a file
pub word_ready : (s : List ℕ) (n k : ℕ) → Ready s n → k < words_of s → WordReady n (word_at s k)
word_ready s n k r h = word_larger (declared_of s) n (word_at s k) r.file (r.word k h)

pub each_ready : (s : List ℕ) (n : ℕ) → Ready s n → All (WordReady n) (executions_of s)
each_ready s n r = all-executions (WordReady n) s (λ k h. word_ready s n k r h)

-- it stands soundly at the chip
pub word_sound : (n : ℕ) (w : Word) (t : State) → WordReady n w → Good t.core.status → Sound (inputs_of w t)
word_sound n w t r g = record {
  code = r.range.code;
  position = r.range.position;
  width = r.range.width;
  select = r.range.select;
  carry = r.range.carry;
  link = r.range.link;
  borrow = r.range.borrow;
  status = g;
}

-- it leaves Y, Q and the status in range
pub outputs_kept : (n : ℕ) (w : Word) (t : State) → WordReady n w → Sane t → Kept (perform_of w.opcode (inputs_of w t))
outputs_kept n w t r s = perform_kept (inputs_of w t) (word_sound n w t r s.status) (s.file w.a) (s.file w.b) s.q w.opcode

-- the two ways of a step
module _ (n : ℕ) (w : Word) (t : State) (x : Shown) (ready : WordReady n w) (sane : Sane t) (e : x ≡ shown_of w t) where
  status_good : Good x.core.status
  status_good = subst (λ (y : Shown). Good y.core.status) (sym e) (outputs_kept n w t ready sane).status

  pub step-write : w.write ≡ 1 → Stepped w t (set t.file w.y x.y) x
  unfolding step_of
  step-write h = record {
    shown = e;
    state =
        ap (λ (y : Shown). state (set t.file w.y y.y) y.core) e
        ∙ ap (λ (l : List ℕ). state l (shown_of w t).core) (store_is t.file w.y (shown_of w t).y ∙ sym (rw h refl));
    status = status_good;
  }

  pub step_keep : (w.write ≡ 1 → ⊥) → Stepped w t t.file x
  unfolding step_of
  step_keep h =
      let z : w.write ≡ 0 = omega (arith, ready.range.write) in
      record {
        shown = e;
        state = ap (λ (y : Shown). state t.file y.core) e ∙ sym (rw z refl);
        status = status_good;
      }

-- ---- a state in range stays in range
written_small : (b y v : ℕ) (l : List ℕ) (r : ℕ) → ((k : ℕ) → read_at l k < 2 ^ 32) → v < 2 ^ 32 → read_at (choose b l (store_at l y v)) r < 2 ^ 32
written_small zero y v l r h k = h r
written_small (suc b) y v l r h k = store_small l y v r h k

pub step_sane : (n : ℕ) (w : Word) (t : State) → WordReady n w → Sane t → Sane (step_of w t)
unfolding step_of
step_sane n w t r s =
    let k : Kept (perform_of w.opcode (inputs_of w t)) = outputs_kept n w t r s in
    record {
      file = λ i. written_small w.write w.y (shown_of w t).y t.file i s.file k.y;
      q = k.q;
      status = k.status;
    }

pub execs_sane : (n : ℕ) (ws : List Word) (t : State) → All (WordReady n) ws → Sane t → Sane (execs ws t)
unfolding execs
execs_sane n [] t none s = s
execs_sane n (w ∷ ws) t (more r e) s = execs_sane n ws (step_of w t) e (step_sane n w t r s)

-- ---- words that ran, and are counted
-- one word
pub went_one : (w : Word) (l₀ : List ℕ) (g₀ : Going) (l : List ℕ) (x : Shown) → Stepped w (state_of l₀ g₀) l x
    → Went (w ∷ []) l₀ g₀ l (record { core = x.core; count = g₀.count + 1 })
unfolding execs
went_one w l₀ g₀ l x s = record { state = s.state; count = refl; status = s.status }

-- What holds at each turn of the loop: what is left, run and counted from here, ends as the whole does from its start.
pub record Running (s l₀ : List ℕ) (g₀ : Going) («from» to : ℕ) (l : List ℕ) (g : Going) (i : ℕ) : Type 0 where
  pub high : i ≤ to
  pub size : length l ≡ length l₀
  pub state : execs (between i to (executions_of s)) (state_of l g) ≡ execs (between «from» to (executions_of s)) (state_of l₀ g₀)
  pub count : g.count + (to - i) ≡ g₀.count + (to - «from»)
  pub status : Good g.core.status

module _ {s l₀ : List ℕ} {g₀ : Going} {«from» to : ℕ} {l : List ℕ} {g : Going} {i : ℕ} (within : to ≤ length (executions_of s)) (r : Running s l₀ g₀ «from» to l g i) where
  pub running_more : (l₁ : List ℕ) (g₁ : Going) → i < to → length l₁ ≡ length l → Went (word_at s i ∷ []) l g l₁ g₁
      → Running s l₀ g₀ «from» to l₁ g₁ (i + 1)
  unfolding execs
  running_more l₁ g₁ h n w =
      let next : between i to (executions_of s) ≡ word_at s i ∷ between (i + 1) to (executions_of s)
      = between_next (executions_of s) i to (word_at s i) h (executions-next s i (omega arith)) in
      record {
        high = omega arith;
        size = n ∙ r.size;
        state =
            ap (execs (between (i + 1) to (executions_of s))) w.state ∙ ap (λ (ws : List Word). execs ws (state_of l g)) (sym next) ∙ r.state;
        count = omega (arith, w.count, r.count);
        status = w.status;
      }

  pub running_done : to ≤ i → Went (between «from» to (executions_of s)) l₀ g₀ l g
  unfolding execs
  running_done h = record {
    state = ap (λ (ws : List Word). execs ws (state_of l g)) (sym (between_none (executions_of s) i to h)) ∙ r.state;
    count = omega (arith, r.count, between-length (executions_of s) «from» to within);
    status = r.status;
  }
