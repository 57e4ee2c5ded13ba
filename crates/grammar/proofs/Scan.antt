-- The grammar by places in a line says what the grammar by parts says.
use mathlib.Core.Path.{◌≡◌, refl, sym, ap, ap₂, ◌∙◌}
use mathlib.Core.List.{List, [], ◌∷◌, map}
use mathlib.Core.Bool.{Bool, true, false}
use Prim.Native.Nat.{ℕ, ◌-◌}
use native.Mathlib.Nat.{add-sub_cancel_left}
use lib.Dec.{eqb-zero-suc, eqb-suc-suc}
use lib.ListN.{length, take, drop}
use lib.Seq.{drop-drop}
use Rattle.std.specs.Prelude.{Option, Some, None, option_and_then}
use Rattle.std.specs.Bool.{then_some}
use Rattle.grammar.specs.declared.Part.{Part}
use Rattle.text.specs.Ascii.{same}
use Rattle.grammar.specs.Grammar.{choose, blank, capital, onto, pieces, filled, parts_of, taking, offered, closing}
use Rattle.grammar.specs.Scan.{solid, leading, start_of, stop_of, part_of, part_at, taken_by, taken_at, then, switch_by, switch_at, all_blank, no_more}
use Rattle.grammar.proofs.Bytes.{blank-capital}

-- ---- the parts of a line, one by one
-- a blank first byte belongs to no part, and any other starts one
parts_blank : (c : ℕ) (cs : List ℕ) → blank c ≡ true → parts_of (c ∷ cs) ≡ parts_of cs
unfolding parts_of pieces
parts_blank c cs h = rw (blank-capital c, h)

parts_solid : (c : ℕ) (cs : List ℕ) → blank c ≡ false → parts_of (c ∷ cs) ≡ filled (onto (capital c) (pieces blank (map capital cs)))
unfolding parts_of pieces
parts_solid c cs h = rw (blank-capital c, h)

-- a byte in front of a part, before or after the empty ones are left out
onto-filled : (c d : ℕ) (ps : List (List ℕ)) → filled (onto c (onto d ps)) ≡ onto c (filled (onto d ps))
onto-filled c d [] = refl
onto-filled c d (p ∷ ps) = refl

-- a part goes on up to the next blank, and the others follow
part-from : (c : ℕ) (y : List ℕ)
    → filled (onto c (pieces blank (map capital y))) ≡ (c ∷ map capital (take (leading solid y) y)) ∷ parts_of (drop (leading solid y) y)
unfolding parts_of pieces
part-from c [] = refl
part-from c (e ∷ es) = go (blank e) refl (part-from (capital e) es)
  where
    go : (b : Bool) → blank e ≡ b
        → filled (onto (capital e) (pieces blank (map capital es))) ≡ (capital e ∷ map capital (take (leading solid es) es)) ∷ parts_of (drop (leading solid es) es)
        → filled (onto c (pieces blank (map capital (e ∷ es))))
        ≡ (c ∷ map capital (take (leading solid (e ∷ es)) (e ∷ es))) ∷ parts_of (drop (leading solid (e ∷ es)) (e ∷ es))
    go true h rest = rw (blank-capital e, h, blank-capital e, h)
    go false h rest = rw (blank-capital e, h) (onto-filled c (capital e) (pieces blank (map capital es)) ∙ ap (onto c) rest)

-- a part before others, if there is one
abbrev pub before : List ℕ → List (List ℕ) → List (List ℕ)
before [] ps = []
before (c ∷ p) ps = (c ∷ p) ∷ ps

-- a line without its first blanks
abbrev skipped : List ℕ → List ℕ
skipped x = drop (leading blank x) x

-- the first part of a line that starts with one, before the others
first_part : List ℕ → List (List ℕ)
first_part y = before (map capital (take (leading solid y) y)) (parts_of (drop (leading solid y) y))

-- the parts of a line: past the blanks, the first one and the others
parts_first : (x : List ℕ) → parts_of x ≡ first_part (skipped x)
unfolding first_part parts_of pieces
parts_first [] = refl
parts_first (c ∷ cs) = go (blank c) refl (parts_first cs)
  where
    go : (b : Bool) → blank c ≡ b → parts_of cs ≡ first_part (skipped cs) → parts_of (c ∷ cs) ≡ first_part (skipped (c ∷ cs))
    go true h rest = parts_blank c cs h ∙ rest ∙ rw h
    go false h rest = parts_solid c cs h ∙ part-from (capital c) cs ∙ rw (h, h)

-- the parts from a place on: the next one, if there is one, and those from where it ends
pub parts_at : (l : List ℕ) (i : ℕ) → parts_of (drop i l) ≡ before (part_at l i) (parts_of (drop (stop_of l i) l))
unfolding first_part part_at
parts_at l i =
    parts_first (drop i l) ∙ ap first_part (drop-drop (leading blank (drop i l)) i l)
    ∙ ap₂ (λ (n : ℕ) (r : List ℕ). before (map capital (take n y)) (parts_of r)) (sym (add-sub_cancel_left (start_of l i) (leading solid y))) (drop-drop (leading solid y) (start_of l i) l)
  where
    y : List ℕ
    y = drop (start_of l i) l

-- ---- what the grammar does with the parts from a place on, by places
module _ {A : Type 0} where
  -- the next part as a number: what was found, what the next part says, what the parts from a place on say
  found_as : (r : Option ℕ) (l : List ℕ) (to : ℕ) (go : ℕ → List (List ℕ) → Option A)
      → option_and_then (λ n. go n (parts_of (drop to l))) r ≡ then (taken_by r to) (λ n t. go n (parts_of (drop t l)))
  found_as (Some n) l to go = refl
  found_as None l to go = refl

  taking_as : (f : List ℕ → Option ℕ) (p l : List ℕ) (to : ℕ) (go : ℕ → List (List ℕ) → Option A) → f [] ≡ None
      → taking f (before p (parts_of (drop to l))) go ≡ then (taken_by (f p) to) (λ n t. go n (parts_of (drop t l)))
  taking_as f [] l to go e = rw e
  taking_as f (c ∷ p) l to go e = found_as (f (c ∷ p)) l to go

  pub taking-at : (f : List ℕ → Option ℕ) (l : List ℕ) (i : ℕ) (go : ℕ → List (List ℕ) → Option A) → f [] ≡ None
      → taking f (parts_of (drop i l)) go ≡ then (taken_at f l i) (λ n to. go n (parts_of (drop to l)))
  taking-at f l i go e = ap (λ (ps : List (List ℕ)). taking f ps go) (parts_at l i) ∙ taking_as f (part_at l i) l (stop_of l i) go e

  -- no part is left
  closing-all : (x : List ℕ) (a : A) → closing (parts_of x) a ≡ then_some (all_blank x) a
  unfolding parts_of pieces
  closing-all [] a = refl
  closing-all (c ∷ cs) a = go (blank c) refl (closing-all cs a)
    where
      go : (b : Bool) → blank c ≡ b → closing (parts_of cs) a ≡ then_some (all_blank cs) a → closing (parts_of (c ∷ cs)) a ≡ then_some (all_blank (c ∷ cs)) a
      go true h rest = rw (blank-capital c, h, eqb-suc-suc (leading blank cs) (length cs)) rest
      go false h rest =
          ap (λ (ps : List (List ℕ)). closing ps a) (parts_solid c cs h ∙ part-from (capital c) cs) ∙ rw (h, eqb-zero-suc (length cs))

  pub closing_at : (l : List ℕ) (i : ℕ) (a : A) → closing (parts_of (drop i l)) a ≡ then_some (no_more l i) a
  unfolding no_more
  closing_at l i a = closing-all (drop i l) a

-- the next part as a switch: whether it is on, what the next part says, what the parts from a place on say
module _ {A : Type 0} where
  switch_as : (b : Bool) (l : List ℕ) (to i : ℕ) (p : List ℕ) (go : ℕ → List (List ℕ) → A) → parts_of (drop i l) ≡ p ∷ parts_of (drop to l)
      → choose b (go 1 (parts_of (drop to l))) (go 0 (p ∷ parts_of (drop to l))) ≡ go (switch_by b to i).on (parts_of (drop (switch_by b to i).to l))
  switch_as true l to i p go h = refl
  switch_as false l to i p go h = ap (go 0) (sym h)

  offered_as : (name p l : List ℕ) (to i : ℕ) (go : ℕ → List (List ℕ) → A) → same [] name ≡ false → parts_of (drop i l) ≡ before p (parts_of (drop to l))
      → offered name (before p (parts_of (drop to l))) go ≡ go (switch_by (same p name) to i).on (parts_of (drop (switch_by (same p name) to i).to l))
  offered_as name [] l to i go e h = rw (e, h)
  offered_as name (c ∷ p) l to i go e h = switch_as (same (c ∷ p) name) l to i (c ∷ p) go h

  pub offered-at : (name l : List ℕ) (i : ℕ) (go : ℕ → List (List ℕ) → A) → same [] name ≡ false
      → offered name (parts_of (drop i l)) go ≡ go (switch_at l i name).on (parts_of (drop (switch_at l i name).to l))
  unfolding switch_at
  offered-at name l i go e = ap (λ (ps : List (List ℕ)). offered name ps go) (parts_at l i) ∙ offered_as name (part_at l i) l (stop_of l i) i go e (parts_at l i)

-- ---- the part that the code lends is the definitions'
module _ (l : List ℕ) (i : ℕ) {p : Part} (e : p ≡ part_of l i) where
  pub taken-part : (f : List ℕ → Option ℕ) {r : Option ℕ} → r ≡ f (map capital (take (p.to - p.from) (drop p.from l))) → taken_by r p.to ≡ taken_at f l i
  unfolding part_at
  taken-part f g = rw (g, e)

  pub switch_part : (name : List ℕ) {b : Bool} → same (map capital (take (p.to - p.from) (drop p.from l))) name ≡ b → switch_by b p.to i ≡ switch_at l i name
  unfolding part_at switch_at
  switch_part name g = rw (← g, e)
