-- Texts compared: the test passes exactly where they are the same.
use mathlib.Core.Path.{◌≡◌, refl, sym}
use mathlib.Core.List.{List, [], ◌∷◌}
use mathlib.Core.Bool.{Bool, true, false, ◌&&◌, true≢false}
use Prim.Native.Nat.{ℕ}
use lib.Dec.{eqb}
use borrow.Author.Tests.{eqb-true, eq-eqb}
use Rattle.text.specs.Ascii.{same}

-- of two tests that pass each does
pub and_left : (a b : Bool) → (a && b) ≡ true → a ≡ true
and_left true b h = refl
and_left false b h = h

pub and_right : (a b : Bool) → (a && b) ≡ true → b ≡ true
and_right true b h = h
and_right false b h = absurd (true≢false (sym h))

pub same_itself : (a : List ℕ) → same a a ≡ true
same_itself [] = refl
same_itself (c ∷ a) = rw (eq-eqb c c refl) (same_itself a)

pub same_true : (a b : List ℕ) → same a b ≡ true → a ≡ b
same_true [] [] h = refl
same_true [] (d ∷ b) h = absurd (true≢false (sym h))
same_true (c ∷ a) [] h = absurd (true≢false (sym h))
same_true (c ∷ a) (d ∷ b) h =
    λ i. eqb-true c d (and_left (eqb c d) (same a b) h) i ∷ same_true a b (and_right (eqb c d) (same a b) h) i
