-- A `match` on a number against a table: a run of the table is a function of the distance from its start; and a default that knows the number to be
-- none of 0 to n - 1 knows that it lies past them.
use Rattle.std.proofs.Common.{◌≡◌, ℕ, zero, suc, ◌+◌, ◌-◌, ◌<◌, ◌≤◌, List, [], ◌∷◌, get_or, take, drop, sym, refl, ap, ◌∙◌, zero-le, le_of_suc-le-suc, not-suc-le-zero, add-zero, add-suc, suc-add, arith, get_or-drop, get_or-take}

-- a run: n entries that are f at k, k + 1, ..
module _ {A : Type 0} (f : ℕ → A) where
  abbrev pub run : ℕ → ℕ → List A
  run k zero = []
  run k (suc n) = f k ∷ run (suc k) n

  run-get : (k n : ℕ) (d : A) (i : ℕ) → i < n → get_or (run k n) i d ≡ f (k + i)
  run-get k zero d i h = absurd (not-suc-le-zero h)
  run-get k (suc n) d zero h = ap f (sym (add-zero k))
  run-get k (suc n) d (suc i) h = run-get (suc k) n d i (le_of_suc-le-suc h) ∙ ap f (suc-add k i ∙ sym (add-suc k i))

  -- a table that has the run from lo on: its entry x is f at the number as far past k as x is past lo
  pub run_at : (xs : List A) (d : A) (lo n k : ℕ) → take n (drop lo xs) ≡ run k n → (x i : ℕ) → lo ≤ x → x < lo + n → i + lo ≡ x + k → f i ≡ get_or xs x d
  run_at xs d lo n k e x i l h s =
      let j : x - lo < n = omega arith in
      ap f (omega arith) ∙ sym (run-get k n d (x - lo) j) ∙ ap (λ (ys : List A). get_or ys (x - lo) d) (sym e)
      ∙ get_or-take n (drop lo xs) (x - lo) d j ∙ get_or-drop lo xs (x - lo) d ∙ ap (λ (m : ℕ). get_or xs m d) (omega arith)

-- x is none of 0 to n - 1: what the default of a match knows (`c.match.rest`), the last arm's key first
abbrev pub NoneBelow : ℕ → ℕ → Type 0
NoneBelow x zero = Unit
NoneBelow x (suc n) = NoneBelow x n × (x ≡ n → ⊥)

pub past_below : (x n : ℕ) → NoneBelow x n → n ≤ x
past_below x zero r = zero-le
past_below x (suc n) r = let h : n ≤ x = past_below x n r.0 in let ne : x ≡ n → ⊥ = r.1 in omega arith

-- a table whose last entry is entry m, read at m or past it with that entry as its default, is that entry
pub last_entry_past : {A : Type 0} (xs : List A) (d : A) (m k : ℕ) → drop m xs ≡ d ∷ [] → m ≤ k → get_or xs k d ≡ d
last_entry_past {A = A} xs d m k e h =
    ap (λ (i : ℕ). get_or xs i d) (omega arith) ∙ sym (get_or-drop m xs (k - m) d) ∙ ap (λ (ys : List A). get_or ys (k - m) d) e ∙ only (k - m)
  where
    only : (i : ℕ) → get_or (d ∷ []) i d ≡ d
    only zero = refl
    only (suc i) = refl

-- the same of a number that is none of those below m
pub last_entry : {A : Type 0} (xs : List A) (d : A) (m k : ℕ) → drop m xs ≡ d ∷ [] → NoneBelow k m → get_or xs k d ≡ d
last_entry xs d m k e r = last_entry_past xs d m k e (past_below k m r)
