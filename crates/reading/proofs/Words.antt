-- The fields of a line that was checked fit a word.
use mathlib.Core.Path.{◌≡◌, refl}
use mathlib.Core.List.{List, [], ◌∷◌}
use mathlib.Core.Bool.{true≢false}
use Prim.Native.Nat.{ℕ, ◌+◌}
use Rattle.reasons.specs.Reasons.{Row, first_of, good}
use Rattle.reasons.proofs.Rows.{None, good_none, none_left, none_right}
use Rattle.reasons.proofs.Rows.None.{more}
use Rattle.packing.specs.Packing.{InRange}
use Rattle.packing.proofs.Numbers.{in_range}
use Rattle.grammar.proofs.Pages.{word-page}
use Rattle.chip.specs.declared.Word.{Word}
use Rattle.std.specs.Prelude.{Option, Some, None as Outside}
use Rattle.grammar.specs.Grammar.{word_in}
use Rattle.reading.specs.Reader.{line_rows, lines_rows, word_by, AllFit}

-- ---- lines that were checked
-- the fields of a line that no row refuses
line_fits : (n k : ℕ) (l : List ℕ) → None (line_rows n k (word_in l)) → InRange (word_by (word_in l))
line_fits n k l h = go (word_in l) refl h
  where
    go : (x : Option Word) → word_in l ≡ x → None (line_rows n k x) → InRange (word_by x)
    go (Some w) e (more h₁ t) = in_range w (word-page l w e) h₁
    go Outside e (more h₁ t) = absurd (true≢false h₁)

-- and so of all lines
all_none : (n k : ℕ) (ls : List (List ℕ)) → None (lines_rows n k ls) → AllFit ls
unfolding lines_rows
all_none n k [] h = tt
all_none n k (l ∷ ls) h =
    let a : List Row = line_rows n k (word_in l) in
    let b : List Row = lines_rows n (k + 1) ls in
    (line_fits n k l (none_left a b h), all_none n (k + 1) ls (none_right a b h))

pub all_fit : (n k : ℕ) (ls : List (List ℕ)) → first_of (lines_rows n k ls) ≡ good → AllFit ls
all_fit n k ls e = all_none n k ls (good_none (lines_rows n k ls) e)
