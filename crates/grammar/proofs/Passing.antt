-- Places in a line: the first byte from a place on that does not pass a test.
use mathlib.Core.Path.{◌≡◌, refl, ap, ◌∙◌}
use mathlib.Core.List.{List, [], ◌∷◌}
use mathlib.Core.Bool.{Bool, true, false, cond}
use Prim.Native.Nat.{ℕ, suc, ◌+◌, ◌-◌, ◌≤◌}
use native.Mathlib.Omega.{arith}
use borrow.Author.Tests.{eqb-true, eqb-false, eq-eqb, ne_eqb}
use lib.Dec.{eqb}
use lib.ListN.{length, take, drop, length-drop}
use lib.Seq.{take-length}
use Rattle.std.specs.List.{prefix_len, take_while}
use Rattle.std.proofs.lemmas.List.Folds.{length-prefix_len}
use Rattle.grammar.specs.declared.Part.{Part}
use Rattle.grammar.specs.Grammar.{choose, blank}
use Rattle.grammar.specs.Scan.{solid, leading, start_of, stop_of, part_of, all_blank, no_more}

-- ---- counted
-- what is left of a list from a place on, as the code lends it
pub rest_is : {A : Type 0} (i : ℕ) (l : List A) → take (length l - i) (drop i l) ≡ drop i l
rest_is i l = rw (← length-drop i l) (take-length (drop i l))

-- std's count of the bytes before the first that does not pass is the definition's
leading_is : (f : ℕ → Bool) (l : List ℕ) → prefix_len f l ≡ leading f l
leading_is f [] = refl
leading_is f (c ∷ cs) = go (f c) (leading_is f cs)
  where
    go : (b : Bool) → prefix_len f cs ≡ leading f cs → cond b (1 + prefix_len f cs) 0 ≡ choose b (suc (leading f cs)) 0
    go true e = omega (arith, e)
    go false e = refl

pub counted : (f : ℕ → Bool) (l : List ℕ) (at : ℕ) {n : ℕ} → n ≡ length (take_while f (take (length l - at) (drop at l))) → at + n ≡ at + leading f (drop at l)
counted f l at e =
    ap (λ (n : ℕ). at + n)
    (e ∙ ap (λ (r : List ℕ). length (take_while f r)) (rest_is at l) ∙ length-prefix_len f (drop at l) ∙ leading_is f (drop at l))

-- ---- places within the line
-- no more bytes pass than there are
leading_within : (f : ℕ → Bool) (l : List ℕ) → leading f l ≤ length l
leading_within f [] = omega arith
leading_within f (c ∷ cs) = go (f c) (leading_within f cs)
  where
    go : (b : Bool) → leading f cs ≤ length cs → choose b (suc (leading f cs)) 0 ≤ suc (length cs)
    go true h = omega arith
    go false h = omega arith

-- so the place found is within the line: that of any test, a part's start, a part's end, and both
pub place_within : (f : ℕ → Bool) (l : List ℕ) (i : ℕ) → i ≤ length l → i + leading f (drop i l) ≤ length l
place_within f l i h = omega (arith, leading_within f (drop i l), length-drop i l)

pub start_within : (l : List ℕ) (i : ℕ) → i ≤ length l → start_of l i ≤ length l
start_within l i h = place_within blank l i h

pub stop_within : (l : List ℕ) (i : ℕ) → i ≤ length l → stop_of l i ≤ length l
stop_within l i h = place_within solid l (start_of l i) (start_within l i h)

pub part_within : (l : List ℕ) (i : ℕ) {p : Part} → i ≤ length l → p ≡ part_of l i → (p.from ≤ p.to) × (p.to ≤ length l)
part_within l i h e = rw e (omega arith, stop_within l i h)

-- ---- no part is left
-- the blanks end with the line where all that is left is blank
blanks_end : (l : List ℕ) (i : ℕ) → i ≤ length l → eqb (start_of l i) (length l) ≡ all_blank (drop i l)
blanks_end l i h = go (all_blank (drop i l)) refl
  where
    go : (b : Bool) → all_blank (drop i l) ≡ b → eqb (start_of l i) (length l) ≡ b
    go true e = eq-eqb (start_of l i) (length l) (omega (arith, eqb-true (leading blank (drop i l)) (length (drop i l)) e, length-drop i l))
    go false e =
        ne_eqb (start_of l i) (length l)
        (λ q. eqb-false (leading blank (drop i l)) (length (drop i l)) e (omega (arith, length-drop i l)))

-- so the code's test is the definition's
pub no_more_is : (l : List ℕ) (i : ℕ) {k : ℕ} → i ≤ length l → k ≡ start_of l i → eqb k (length l) ≡ no_more l i
unfolding no_more
no_more_is l i h e = rw e (blanks_end l i h)
