-- The executions of a sheet as a list: how many, the next one, and what holds of each.
use mathlib.Core.Path.{◌≡◌, refl, ap, ◌∙◌, sym}
use mathlib.Core.List.{List, [], ◌∷◌, ◌++◌}
use Prim.Native.Nat.{ℕ, zero, suc, ◌+◌, ◌-◌, ◌≤◌, ◌<◌, min}
use native.Mathlib.Nat.{le_of_lt}
use native.Mathlib.Omega.{arith}
use native.Mathlib.Decide.{dec_lt}
use lib.ListN.{length, take, drop, length-take, length-drop, drop_of_length-le}
use lib.Seq.{take_all}
use Rattle.chip.specs.declared.Word.{Word}
use Rattle.sheet.specs.Sheet.{words_of, word_at, words_from, executions_of, between}

-- ---- words of a sheet
pub words-length : (s : List ℕ) (k n : ℕ) → length (words_from s k n) ≡ n
unfolding words_from
words-length s k zero = refl
words-length s k (suc n) = ap suc (words-length s (k + 1) n)

pub words-add : (s : List ℕ) (k m n : ℕ) → words_from s k (m + n) ≡ words_from s k m ++ words_from s (k + m) n
unfolding words_from
words-add s k zero n =
    let e : 0 + n ≡ n = omega arith in
    let f : k + 0 ≡ k = omega arith in
    rw (e, f) refl
words-add s k (suc m) n =
    let e : suc m + n ≡ suc (m + n) = omega arith in
    let f : k + 1 + m ≡ k + suc m = omega arith in
    rw e (ap (λ (l : List Word). word_at s k ∷ l) (words-add s (k + 1) m n ∙ rw f refl))

words-drop : (s : List ℕ) (k n i : ℕ) → i ≤ n → drop i (words_from s k n) ≡ words_from s (k + i) (n - i)
unfolding words_from
words-drop s k n zero h =
    let e : k + 0 ≡ k = omega arith in
    let f : n - 0 ≡ n = omega arith in
    rw (e, f) refl
words-drop s k zero (suc i) h = absurd (omega arith)
words-drop s k (suc n) (suc i) h =
    let e : k + 1 + i ≡ k + suc i = omega arith in
    let f : suc n - suc i ≡ n - i = omega arith in
    words-drop s (k + 1) n i (omega arith) ∙ rw (e, f) refl

-- every word of a list
pub data All (P : Word → Type 0) : List Word → Type 0 where
  none : All P []
  more : {w : Word} {ws : List Word} → P w → All P ws → All P (w ∷ ws)

pub all_words_lem : (P : Word → Type 0) (s : List ℕ) (k n : ℕ) → ((j : ℕ) → k ≤ j → j < k + n → P (word_at s j)) → All P (words_from s k n)
unfolding words_from
all_words_lem P s k zero f = none
all_words_lem P s k (suc n) f = more (f k (omega arith) (omega arith)) (all_words_lem P s (k + 1) n (λ j lo hi. f j (omega arith) (omega arith)))

pub all_take : (P : Word → Type 0) (n : ℕ) (ws : List Word) → All P ws → All P (take n ws)
all_take P zero ws a = none
all_take P (suc n) [] none = none
all_take P (suc n) (w ∷ ws) (more p a) = more p (all_take P n ws a)

pub all_drop : (P : Word → Type 0) (n : ℕ) (ws : List Word) → All P ws → All P (drop n ws)
all_drop P zero ws a = a
all_drop P (suc n) [] none = none
all_drop P (suc n) (w ∷ ws) (more p a) = all_drop P n ws a

-- ---- its executions
pub executions-length : (s : List ℕ) → length (executions_of s) ≡ words_of s
unfolding executions_of
executions-length s = words-length s 0 (words_of s)

pub ruleset counting = (executions-length, words-length)

-- the next one
pub executions-next : (s : List ℕ) (i : ℕ) → i < length (executions_of s) → drop i (executions_of s) ≡ word_at s i ∷ drop (i + 1) (executions_of s)
unfolding executions_of words_from
executions-next s i h =
    let l : i < words_of s = omega (arith, words-length s 0 (words_of s)) in
    let e : 0 + i ≡ i = omega arith in
    let f : words_of s - i ≡ suc (words_of s - (i + 1)) = omega arith in
    let g : 0 + (i + 1) ≡ i + 1 = omega arith in
    words-drop s 0 (words_of s) i (le_of_lt l)
    ∙ rw (e, f) (ap (λ (ws : List Word). word_at s i ∷ ws) (sym (words-drop s 0 (words_of s) (i + 1) (omega arith) ∙ rw g refl)))

pub all-executions : (P : Word → Type 0) (s : List ℕ) → ((j : ℕ) → j < words_of s → P (word_at s j)) → All P (executions_of s)
unfolding executions_of
all-executions P s f = all_words_lem P s 0 (words_of s) (λ j lo hi. f j (omega arith))

-- ---- positions in a list
module _ (ws : List Word) where
  -- none
  pub between_none : (a b : ℕ) → b ≤ a → between a b ws ≡ []
  between_none a b h = let e : b - a ≡ 0 = omega arith in rw e refl

  -- the next one
  pub between_next : (a b : ℕ) (w : Word) → a < b → drop a ws ≡ w ∷ drop (a + 1) ws → between a b ws ≡ w ∷ between (a + 1) b ws
  between_next a b w h e = let f : b - a ≡ suc (b - (a + 1)) = omega arith in rw (e, f) refl

  pub between-length : (a b : ℕ) → b ≤ length ws → length (between a b ws) ≡ b - a
  between-length a b h = length-take (b - a) (drop a ws) ∙ ap (min (b - a)) (length-drop a ws) ∙ smaller
    where
      smaller : min (b - a) (length ws - a) ≡ b - a
      smaller = omega arith

  -- all that are left
  pub between-whole : (a b : ℕ) → b ≡ length ws → between a b ws ≡ drop a ws
  between-whole a b e = take_all (b - a) (drop a ws) (omega (arith, length-drop a ws))

  pub drop-left : (n k : ℕ) → k ≡ min n (length ws) → drop k ws ≡ drop n ws
  drop-left n k e = go (dec_lt n (length ws))
    where
      go : Dec (n < length ws) → drop k ws ≡ drop n ws
      go (yes h) = let f : k ≡ n = omega arith in ap (λ (j : ℕ). drop j ws) f
      go (no h) =
          let i : length ws ≤ k = omega arith in
          let j : length ws ≤ n = omega arith in
          drop_of_length-le ws i ∙ sym (drop_of_length-le ws j)

  -- no more than there are
  pub take_left : (n k : ℕ) → k ≡ min n (length ws) → take k ws ≡ take n ws
  take_left n k e = go (dec_lt n (length ws))
    where
      go : Dec (n < length ws) → take k ws ≡ take n ws
      go (yes h) = let f : k ≡ n = omega arith in ap (λ (j : ℕ). take j ws) f
      go (no h) = take_all k ws (omega arith) ∙ sym (take_all n ws (omega arith))
