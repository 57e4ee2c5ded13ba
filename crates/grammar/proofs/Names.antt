-- A part beside a name, and the number that it ends in.
use mathlib.Core.Path.{◌≡◌, refl, sym, ◌∙◌}
use mathlib.Core.List.{List, [], ◌∷◌, map}
use mathlib.Core.Bool.{Bool, true, false, ◌&&◌, and-false, false≢true, and-eq-true_iff}
use Prim.Native.Nat.{ℕ, zero, suc, ◌-◌, ◌≤◌, ◌<◌}
use native.Mathlib.Omega.{arith}
use borrow.Author.Tests.{lt-leb, eqb-true, eqb-false, eq-eqb, ne_eqb}
use lib.Dec.{eqb, leb, eqb-zero-suc, eqb-suc-zero, eqb-suc-suc}
use lib.ListN.{length, take, drop, length-map}
use Rattle.std.specs.Prelude.{None}
use Rattle.std.specs.List.{list_all, zip}
use Rattle.text.specs.Ascii.{same}
use Rattle.grammar.specs.Grammar.{capital, number_in, starts_with, labelled}
use Rattle.grammar.proofs.Bytes.{number-capital}
use Rattle.grammar.proofs.Passing.{rest_is}

-- ---- whether a part starts with a name
-- tests may change places
eqb_swap : (m n : ℕ) → eqb m n ≡ eqb n m
eqb_swap m n = go (eqb n m) refl
  where
    go : (b : Bool) → eqb n m ≡ b → eqb m n ≡ b
    go true e = eq-eqb m n (sym (eqb-true n m e))
    go false e = ne_eqb m n (λ q. eqb-false n m e (sym q))

-- a part that is long enough does if each byte of the name is the capital beside it
pub starts_zip : (name part : List ℕ) → length name ≤ length part
    → list_all (λ (q : ℕ × ℕ). eqb (capital q.0) q.1) (zip part name) ≡ starts_with name (map capital part)
starts_zip [] [] h = refl
starts_zip [] (d ∷ ds) h = refl
starts_zip (c ∷ cs) [] h = absurd (omega arith)
starts_zip (c ∷ cs) (d ∷ ds) h = rw (starts_zip cs ds (omega arith), eqb_swap (capital d) c)

-- a part that is too short does not
pub too_short : (name p : List ℕ) → length p < length name → starts_with name p ≡ false
too_short [] p h = absurd (omega arith)
too_short (c ∷ cs) [] h = refl
too_short (c ∷ cs) (d ∷ ds) h = rw (too_short cs ds (omega arith)) (and-false (eqb c d))

-- so the code's test of the lengths is the answer where it fails
pub not_longer : (name part : List ℕ) → length part < length name → leb (length name) (length part) ≡ starts_with name (map capital part)
not_longer name part h =
    lt-leb (length name) (length part) h ∙ sym (too_short name (map capital part) (omega (arith, h, length-map part capital)))

-- ---- whether it is the name
and_swap : (a b c : Bool) → (a && (b && c)) ≡ (b && (a && c))
and_swap true b c = refl
and_swap false true c = refl
and_swap false false c = refl

-- it is as long, and starts with it
same_is : (p n : List ℕ) → same p n ≡ (eqb (length p) (length n) && starts_with n p)
same_is [] [] = refl
same_is [] (d ∷ ds) = rw (eqb-zero-suc (length ds))
same_is (c ∷ cs) [] = rw (eqb-suc-zero (length cs))
same_is (c ∷ cs) (d ∷ ds) =
    rw (same_is cs ds, eqb-suc-suc (length cs) (length ds), eqb_swap c d) (and_swap (eqb d c) (eqb (length cs) (length ds)) (starts_with ds cs))

-- so the code's test is the definition's
pub same_capitals : (part name : List ℕ) {b : Bool} → b ≡ starts_with name (map capital part)
    → (eqb (length part) (length name) && b) ≡ same (map capital part) name
same_capitals part name e = rw (e, same_is (map capital part) name, length-map part capital)

-- ---- a number after its name
-- what is left of the capitals is what is left, in capitals
drop_capitals : (i : ℕ) (l : List ℕ) → drop i (map capital l) ≡ map capital (drop i l)
drop_capitals zero l = refl
drop_capitals (suc i) [] = refl
drop_capitals (suc i) (x ∷ xs) = drop_capitals i xs

-- a part that starts with a name is as long
starts_room : (name p : List ℕ) → starts_with name p ≡ true → length name ≤ length p
starts_room [] p e = omega arith
starts_room (c ∷ cs) [] e = absurd (false≢true e)
starts_room (c ∷ cs) (d ∷ ds) e = omega (arith, starts_room cs ds ((and-eq-true_iff (eqb c d) (starts_with cs ds)).0 e).1)

module _ (name part : List ℕ) where
  -- so what the code reads after the name is there, and is the definition's
  pub labelled-room : starts_with name (map capital part) ≡ true → length name ≤ length part
  labelled-room e = omega (arith, starts_room name (map capital part) e, length-map part capital)

  pub labelled_is : starts_with name (map capital part) ≡ true
      → number_in (take (length part - length name) (drop (length name) part)) ≡ labelled name (map capital part)
  unfolding labelled
  labelled_is e = rw (rest_is (length name) part, e, drop_capitals (length name) part) (sym (number-capital (drop (length name) part)))

  -- a part that does not start with the name says no number
  pub labelled-not : starts_with name (map capital part) ≡ false → None ≡ labelled name (map capital part)
  unfolding labelled
  labelled-not e = rw e

-- an empty part says none
pub labelled-none : (name : List ℕ) → labelled name [] ≡ None
unfolding labelled
labelled-none [] = refl
labelled-none (c ∷ cs) = refl
