-- What a check of a sheet answers: a refusal never has number 0, so that nothing is lost in numbers (`check_once` of `reasons`), and no second
-- answer meets the promise.
use mathlib.Core.Path.{◌≡◌, sym, ◌∙◌}
use mathlib.Core.List.{List}
use Prim.Native.Nat.{ℕ}
use native.Mathlib.Omega.{arith}
use Rattle.reasons.specs.Reasons.{Check, rows_by}
use Rattle.reasons.proofs.Numbers.{Tells, Telling, telling_first, telling_on, telling_by}
use Rattle.std.proofs.Common.{Option, Some, None}
use Rattle.sheet.specs.Sheet.{words_of, declared_of, word_rows, rows_beside, sheet_rows, check_beside, check_of}
use Rattle.sheet.proofs.Table.{tail}

-- ---- in numbers
words-tell : (s : List ℕ) (n k : ℕ) → Telling (word_rows s n k)
unfolding word_rows
words-tell s n k = (omega arith, (omega arith, (omega arith, (omega arith, tt))))

pub rows_tell : (s : List ℕ) (file start : Option ℕ) → Telling (sheet_rows s file start)
unfolding rows_beside
rows_tell s file start =
    let words : Telling (rows_by (word_rows s (declared_of s)) 0 (words_of s)) = telling_by (word_rows s (declared_of s)) 0 (words_of s) (words-tell s (declared_of s)) in
    (omega arith, (omega arith, (omega arith, (omega arith, (omega arith, telling_on (rows_by (word_rows s (declared_of s)) 0 (words_of s)) (tail 0 s file start) words (omega arith, tt))))))

module _ (s : List ℕ) (file start : Option ℕ) where
  pub check_tells : Tells (check_of s file start)
  unfolding check_beside
  check_tells = telling_first (sheet_rows s file start) (rows_tell s file start)

  -- ---- no second answer
  one-check : (c d : Check) → c ≡ check_of s file start → d ≡ check_of s file start → c ≡ d
  one-check c d e f = e ∙ sym f

module _ (s : List ℕ) where
  -- of `check_sheet`
  pub one-check_sheet : (c d : Check) → c ≡ check_of s None None → d ≡ check_of s None None → c ≡ d
  one-check_sheet = one-check s None None

  -- of `check_on_file`
  pub one-check_on_file : (lent : ℕ) (c d : Check) → c ≡ check_of s (Some lent) None → d ≡ check_of s (Some lent) None → c ≡ d
  one-check_on_file lent = one-check s (Some lent) None

  -- of `check_start`
  pub one-check-start : (lent start : ℕ) (c d : Check) → c ≡ check_of s (Some lent) (Some start) → d ≡ check_of s (Some lent) (Some start) → c ≡ d
  one-check-start lent start = one-check s (Some lent) (Some start)
