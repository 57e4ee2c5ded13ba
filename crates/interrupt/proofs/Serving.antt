-- What holds at each turn of an interrupted run.
use mathlib.Core.Path.{◌≡◌, sym, ap, ◌∙◌, subst}
use mathlib.Core.List.{List, ◌∷◌, ◌++◌, append_assoc}
use Prim.Native.Nat.{ℕ, ◌+◌, ◌-◌, ◌^◌, ◌≤◌, ◌<◌}
use native.Mathlib.Omega.{arith}
use native.Mathlib.Numerals.{add-one}
use lib.ListN.{length, get_or, drop, drop_of_length-le, length-append, length-drop}
use lib.Seq.{drop-cons}
use Rattle.machine.specs.Status.{Good}
use Rattle.chip.specs.declared.Word.{Word}
use Rattle.chip.specs.Lists.{execs}
use Rattle.chip.proofs.Words.{execs-append}
use Rattle.sheet.specs.Sheet.{between, Ready}
use Rattle.sheet.proofs.Positions.{between-whole}
use Rattle.run.specs.declared.Going.{Going}
use Rattle.run.specs.Run.{state_of, Went}
use Rattle.interrupt.specs.Serve.{lineup, Rising}

pub ready_size : (s : List ℕ) {n k : ℕ} → k ≡ n → Ready s n → Ready s k
ready_size s e r = subst (λ (n : ℕ). Ready s n) (sym e) r

-- words that ran, and then others
pub went_on : (ws vs : List Word) (l₀ : List ℕ) (g₀ : Going) (l₁ : List ℕ) (g₁ : Going) (l : List ℕ) (g : Going)
    → Went ws l₀ g₀ l₁ g₁ → Went vs l₁ g₁ l g → Went (ws ++ vs) l₀ g₀ l g
went_on ws vs l₀ g₀ l₁ g₁ l g a b = record {
  state = b.state ∙ ap (execs vs) a.state ∙ sym (execs-append ws vs (state_of l₀ g₀));
  count = omega (arith, a.count, b.count, length-append ws vs);
  status = b.status;
}

-- a part of the main list, then the whole handler
pub turn_done : (h : List Word) (ws : List Word) (n : ℕ) {l₀ : List ℕ} {g₀ : Going} {l₁ : List ℕ} {g₁ : Going} {l : List ℕ} {g : Going} → n ≡ length h
    → Went ws l₀ g₀ l₁ g₁ → Went (between 0 n h) l₁ g₁ l g → Went (ws ++ h) l₀ g₀ l g
turn_done h ws n {l₀} {g₀} {l₁} {g₁} {l} {g} e a c =
    went_on ws h l₀ g₀ l₁ g₁ l g a (subst (λ (vs : List Word). Went vs l₁ g₁ l g) (between-whole h 0 n e) c)

-- the next boundary, b
upcoming : (bs : List ℕ) (j b : ℕ) → j < length bs → b ≡ get_or bs j 0 → drop j bs ≡ b ∷ drop (j + 1) bs
upcoming bs j b h e =
    drop-cons bs j 0 h ∙ ap (λ (k : ℕ). get_or bs j 0 ∷ drop k bs) (sym (add-one j)) ∙ ap (λ (x : ℕ). x ∷ drop (j + 1) bs) (sym e)

pub rising_next : (n at : ℕ) (bs : List ℕ) (j b : ℕ) → j < length bs → b ≡ get_or bs j 0 → Rising n at (drop j bs) → (at ≤ b) × Rising n b (drop (j + 1) bs)
unfolding Rising
rising_next n at bs j b h e r = subst (λ (l : List ℕ). Rising n at l) (upcoming bs j b h e) r

-- what is left, run and counted from here, ends as the whole does from its start
pub record Serving (main h : List Word) (bs l₀ : List ℕ) (g₀ : Going) (l : List ℕ) (g : Going) (at j : ℕ) : Type 0 where
  pub size : length l ≡ length l₀
  pub upto : j ≤ length bs
  pub rising : Rising (length main) at (drop j bs)
  pub status : Good g.core.status
  pub state : execs (lineup main h at (drop j bs)) (state_of l g) ≡ execs (lineup main h 0 bs) (state_of l₀ g₀)
  pub count : g.count + length (lineup main h at (drop j bs)) ≡ g₀.count + length (lineup main h 0 bs)

module _ {main h : List Word} {bs l₀ : List ℕ} {g₀ : Going} {l : List ℕ} {g : Going} {at j : ℕ} (s : Serving main h bs l₀ g₀ l g at j) where
  -- with a boundary left, it is the part up to there, the handler, and what is left then
  module _ (b : ℕ) (i : j < length bs) (e : b ≡ get_or bs j 0) where
    abbrev part : List Word
    part = between at b main ++ h

    abbrev tail : List Word
    tail = lineup main h b (drop (j + 1) bs)

    line-next : lineup main h at (drop j bs) ≡ part ++ tail
    unfolding lineup
    line-next = ap (lineup main h at) (upcoming bs j b i e) ∙ sym (append_assoc (between at b main) h tail)

    length-next : length (lineup main h at (drop j bs)) ≡ length part + length tail
    length-next = ap length line-next ∙ length-append part tail

    -- there is room to count them
    pub turn-room : g₀.count + length (lineup main h 0 bs) < 2 ^ 64 → g.count + length part < 2 ^ 64
    turn-room f = omega (arith, s.count, length-next)

    pub serving_more : (l₁ : List ℕ) (g₁ : Going) → length l₁ ≡ length l → Went part l g l₁ g₁ → Serving main h bs l₀ g₀ l₁ g₁ b (j + 1)
    serving_more l₁ g₁ n w = record {
      size = n ∙ s.size;
      upto = omega arith;
      rising = (rising_next (length main) at bs j b i e s.rising).1;
      status = w.status;
      state =
          ap (execs tail) w.state ∙ sym (execs-append part tail (state_of l g)) ∙ ap (λ (ws : List Word). execs ws (state_of l g)) (sym line-next)
          ∙ s.state;
      count = omega (arith, w.count, s.count, length-next);
    }

  -- with none left, it is the rest of the main list
  module _ (i : length bs ≤ j) where
    line-last : lineup main h at (drop j bs) ≡ drop at main
    unfolding lineup
    line-last = ap (lineup main h at) (drop_of_length-le bs i)

    pub last-room : g₀.count + length (lineup main h 0 bs) < 2 ^ 64 → g.count + (length main - at) < 2 ^ 64
    last-room f = omega (arith, s.count, ap length line-last ∙ length-drop at main)

    pub serving_done : (n : ℕ) (l₁ : List ℕ) (g₁ : Going) → n ≡ length main → Went (between at n main) l g l₁ g₁ → Went (lineup main h 0 bs) l₀ g₀ l₁ g₁
    serving_done n l₁ g₁ e w =
        let v : Went (drop at main) l g l₁ g₁ = subst (λ (ws : List Word). Went ws l g l₁ g₁) (between-whole main at n e) w in
        record {
          state = v.state ∙ ap (λ (ws : List Word). execs ws (state_of l g)) (sym line-last) ∙ s.state;
          count = omega (arith, v.count, s.count, ap length line-last);
          status = v.status;
        }
