-- What is the same of a byte and of its capital: whether it is blank, and which digit it is.
use mathlib.Core.Path.{◌≡◌, refl, sym, ◌∙◌}
use mathlib.Core.Logic.{◌⊎◌, inl, inr}
use mathlib.Core.Bool.{false, and-false}
use mathlib.Core.List.{List, [], ◌∷◌, map}
use Prim.Native.Nat.{ℕ, ◌<◌}
use native.Mathlib.Decide.{dec_lt}
use native.Mathlib.Omega.{arith}
use borrow.Author.Tests.{lt-leb, ne_eqb}
use lib.Dec.{leb}
use Rattle.std.specs.Char.{is_ascii_digit}
use Rattle.std.proofs.lemmas.Str.Ascii.{uppercase_is}
use Rattle.grammar.specs.Grammar.{blank, capital, number_in}

-- no letter is blank, and none is a digit
not-blank : (c : ℕ) → 32 < c → blank c ≡ false
not-blank c h = rw (ne_eqb c 32 (λ e. omega arith), ne_eqb c 9 (λ e. omega arith), ne_eqb c 13 (λ e. omega arith))

not_digit : (c : ℕ) → 57 < c → is_ascii_digit c ≡ false
not_digit c h = rw (lt-leb c 57 h) (and-false (leb 48 c))

-- a byte is its own capital, or both are letters
abbrev Alike : ℕ → Type 0
Alike c = (capital c ≡ c) ⊎ ((57 < capital c) × (57 < c))

alike : (c : ℕ) → Alike c
alike c = go (dec_lt c 97) (dec_lt 122 c)
  where
    go : Dec (c < 97) → Dec (122 < c) → Alike c
    go (yes h) k = inl ((uppercase_is c).1 h)
    go (no h) (yes k) = inl ((uppercase_is c).2 k)
    go (no h) (no k) = let e = (uppercase_is c).0 (omega arith, omega arith) in inr (omega (arith, e), omega arith)

-- a byte is blank where its capital is
pub blank-capital : (c : ℕ) → blank (capital c) ≡ blank c
blank-capital c = go (alike c)
  where
    go : Alike c → blank (capital c) ≡ blank c
    go (inl e) = rw e
    go (inr h) = not-blank (capital c) (omega arith) ∙ sym (not-blank c (omega arith))

-- a number in capitals is that number
pub number-capital : (l : List ℕ) → number_in (map capital l) ≡ number_in l
number-capital [] = refl
number-capital (d ∷ []) = go (alike d)
  where
    go : Alike d → number_in (capital d ∷ []) ≡ number_in (d ∷ [])
    go (inl e) = rw e
    go (inr h) = rw (not_digit (capital d) h.0, not_digit d h.1)
number-capital (d ∷ e ∷ []) = go (alike d) (alike e)
  where
    go : Alike d → Alike e → number_in (capital d ∷ capital e ∷ []) ≡ number_in (d ∷ e ∷ [])
    go (inl p) (inl q) = rw (p, q)
    go (inl p) (inr h) = rw (p, not_digit (capital e) h.0, not_digit e h.1, and-false (is_ascii_digit d))
    go (inr h) q = rw (not_digit (capital d) h.0, not_digit d h.1)
number-capital (d ∷ e ∷ f ∷ l) = refl
