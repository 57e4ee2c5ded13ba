-- The table of a text: how a check goes through the rows of its lines, one line after another, and through the whole.
use mathlib.Core.Path.{◌≡◌, refl, ap, sym, ◌∙◌}
use mathlib.Core.List.{List, [], ◌∷◌, ◌++◌}
use Prim.Native.Nat.{ℕ, ◌+◌, ◌*◌, ◌≤◌, ◌<◌}
use borrow.Author.Tests.{lt-ltb, le-ltb}
use lib.ListN.{length}
use Rattle.reasons.specs.Reasons.{Row, first_of, good, refused}
use Rattle.reasons.specs.declared.Reason.{Reason}
use Rattle.reasons.specs.declared.Reason.TheVariants.{Room, Text, Count}
use Rattle.reasons.proofs.Rows.{first_bad, first_good}
use Rattle.grammar.specs.declared.Head.{Head}
use Rattle.std.proofs.Common.{Option, Some, None as NoHead, Err}
use Rattle.reasons.specs.declared.Refusal.{Refusal}
use Rattle.grammar.specs.Grammar.{word_in}
use Rattle.reading.specs.Reader.{first_in, word_lines_in, registers_by, head_rows, line_rows, lines_rows, size_rows, read_rows}

-- ---- one line after another
module _ (n k : ℕ) (l : List ℕ) (ls : List (List ℕ)) where
  -- a line that is refused
  line_bad : (r : Reason) (p : ℕ) → first_of (line_rows n k (word_in l)) ≡ refused r p → first_of (lines_rows n k (l ∷ ls)) ≡ refused r p
  unfolding lines_rows
  line_bad r p e = first_bad (line_rows n k (word_in l)) (lines_rows n (k + 1) ls) r p e

  -- one that is not: the table goes on with the next
  line_good : first_of (line_rows n k (word_in l)) ≡ good → first_of (lines_rows n k (l ∷ ls)) ≡ first_of (lines_rows n (k + 1) ls)
  unfolding lines_rows
  line_good e = first_good (line_rows n k (word_in l)) (lines_rows n (k + 1) ls) e

-- what holds at each turn of a loop over all lines: the whole table answers as what is left of it, after k lines
pub record Checking (n : ℕ) (all left : List (List ℕ)) (k : ℕ) : Type 0 where
  pub same : first_of (lines_rows n 1 all) ≡ first_of (lines_rows n (k + 1) left)

module _ {n : ℕ} {all left : List (List ℕ)} {k : ℕ} (c : Checking n all left k) where
  module _ {l : List ℕ} {ls : List (List ℕ)} (s : left ≡ l ∷ ls) {j : ℕ} (e : j ≡ k) where
    -- it is the next line's that answers, and then the others'
    next : first_of (lines_rows n 1 all) ≡ first_of (lines_rows n (j + 1) (l ∷ ls))
    next = c.same ∙ ap (λ (m : List (List ℕ)). first_of (lines_rows n (k + 1) m)) s ∙ ap (λ (i : ℕ). first_of (lines_rows n (i + 1) (l ∷ ls))) (sym e)

    -- the next line is refused: so is the text
    pub checking_bad : (x : Refusal) → first_of (line_rows n (j + 1) (word_in l)) ≡ Err x → Err x ≡ first_of (lines_rows n 1 all)
    checking_bad x f = sym (next ∙ line_bad n (j + 1) l ls x.reason x.place f)

    -- it is not: on to the one after it
    pub checking_more : {m : ℕ} → m ≡ k + 1 → first_of (line_rows n (j + 1) (word_in l)) ≡ good → Checking n all ls m
    checking_more g f = record { same = next ∙ line_good n (j + 1) l ls f ∙ ap (λ (i : ℕ). first_of (lines_rows n (i + 1) ls)) (ap (λ (i : ℕ). i + 1) e ∙ sym g) }

  -- past the last line nothing is left
  pub checking_done : left ≡ [] → good ≡ first_of (lines_rows n 1 all)
  unfolding lines_rows
  checking_done h = sym (c.same ∙ ap (λ (m : List (List ℕ)). first_of (lines_rows n (k + 1) m)) h)

-- ---- the whole table
module _ (t : List ℕ) (room : ℕ) where
  -- what follows the first line's rows
  abbrev later : Option Head → List Row
  later x = lines_rows (registers_by x) 1 (word_lines_in t) ++ size_rows (length (word_lines_in t)) room

  -- the first line is outside the grammar
  pub at_outside : first_in t ≡ NoHead → first_of (read_rows t room) ≡ refused Text 0
  unfolding read_rows
  at_outside e = ap (λ (x : Option Head). first_of (head_rows x ++ later x)) e

  module _ {h : Head} (e : first_in t ≡ Some h) where
    -- it is refused
    pub at_first : {x : Refusal} → first_of (head_rows (Some h)) ≡ Err x → first_of (read_rows t room) ≡ Err x
    unfolding read_rows
    at_first {x} f = ap (λ (y : Option Head). first_of (head_rows y ++ later y)) e ∙ first_bad (head_rows (Some h)) (later (Some h)) x.reason x.place f

    module _ {ls : List (List ℕ)} (sound : first_of (head_rows (Some h)) ≡ good) (el : word_lines_in t ≡ ls) where
      -- it is not: what is left are the lines' rows and those of the whole
      past_first : first_of (read_rows t room) ≡ first_of (lines_rows h.registers 1 ls ++ size_rows (length ls) room)
      unfolding read_rows
      past_first =
          ap (λ (x : Option Head). first_of (head_rows x ++ later x)) e ∙ first_good (head_rows (Some h)) (later (Some h)) sound
          ∙ ap (λ (x : List (List ℕ)). first_of (lines_rows h.registers 1 x ++ size_rows (length x) room)) el

      -- a word's line is refused
      pub at-line : {x : Refusal} → first_of (lines_rows h.registers 1 ls) ≡ Err x → first_of (read_rows t room) ≡ Err x
      at-line {x} f = past_first ∙ first_bad (lines_rows h.registers 1 ls) (size_rows (length ls) room) x.reason x.place f

      -- none is: what is left are the two rows of the whole
      pub past_lines : first_of (lines_rows h.registers 1 ls) ≡ good → first_of (read_rows t room) ≡ first_of (size_rows (length ls) room)
      past_lines f = past_first ∙ first_good (lines_rows h.registers 1 ls) (size_rows (length ls) room) f

-- these two, by the count of the words and the room
module _ (count room : ℕ) where
  pub size-count : 4095 < count → first_of (size_rows count room) ≡ refused Count 0
  size-count h = rw (lt-ltb 4095 count h) refl

  pub size_room : count ≤ 4095 → room < 4 + 6 * count → first_of (size_rows count room) ≡ refused Room 0
  size_room h r = rw (le-ltb 4095 count h, lt-ltb room (4 + 6 * count) r) refl

  pub size_good : count ≤ 4095 → 4 + 6 * count ≤ room → first_of (size_rows count room) ≡ good
  size_good h r = rw (le-ltb 4095 count h, le-ltb room (4 + 6 * count) r) refl
