-- The table of a sheet: how a check goes through it, that each reason is given exactly when its condition holds and no earlier one does, and
-- what a sheet that passed has.
use mathlib.Core.Path.{◌≡◌, refl, ap, ◌∙◌}
use mathlib.Core.List.{List, ◌++◌}
use mathlib.Core.Bool.{Bool, false, ◌||◌}
use Prim.Native.Nat.{ℕ, ◌+◌, ◌*◌, ◌≤◌, ◌<◌}
use native.Mathlib.Omega.{arith}
use borrow.Author.Tests.{lt-ltb, le-ltb, eqb-true, eqb-false, ltb-false, leb-false, not-false}
use lib.ListN.{length, length-take, length-drop}
use lib.Dec.{eqb, ltb, leb}
use Rattle.reasons.specs.Reasons.{Row, good, refused, first_of, rows_by}
use Rattle.reasons.specs.declared.Reason.{Reason}
use Rattle.reasons.specs.declared.Reason.TheVariants.{Short}
use Rattle.reasons.proofs.Rows.{None, First, good_none, and_then, first_append, exactly_if, exactly_only, none_at, none_good, none_left, none_right, none_both}
use Rattle.reasons.proofs.Rows.None.{none, more}
use Rattle.std.proofs.Common.{Option, Some, None as Nothing}
use Rattle.packing.specs.Packing.{register_fields, differ}
use Rattle.sheet.specs.Sheet.{number4, count_of, registers_of, zeros_of, words_of, declared_of, part_of, number_at, word_at, executions_of, fewer, word_rows, head_rows, start_rows, rows_beside, check_beside, sheet_rows, check_of, input_of, WordReady, Ready}
use Rattle.packing.proofs.Numbers.{page_small, or_left, or_right, Every, every, fields_range}
use Rattle.packing.proofs.Numbers.Every.{end, and}

pub part-six : (s : List ℕ) (k : ℕ) → 4 + 6 * k + 6 ≤ length s → length (part_of s k) ≡ 6
part-six s k h = simp (length-take, length-drop) (omega arith)

-- ---- how a check goes through the table
module _ (beside : ℕ) (s : List ℕ) (file start : Option ℕ) where
  abbrev pub head : List Row
  head = head_rows beside (length s) (number4 s) file

  abbrev pub body : List Row
  body = rows_by (word_rows s (declared_of s)) 0 (words_of s)

  abbrev pub tail : List Row
  tail = start_rows start (length (executions_of s))

  pub check_short : length s < 4 → check_beside beside s file start ≡ refused Short 0
  unfolding check_beside rows_beside
  check_short h = rw (lt-ltb (length s) 4 h) refl

  pub check-parts : 4 ≤ length s → check_beside beside s file start ≡ and_then (first_of head) (and_then (first_of body) (first_of tail))
  unfolding check_beside rows_beside
  check-parts h = rw (le-ltb (length s) 4 h) (first_append head (body ++ tail) ∙ ap (and_then (first_of head)) (first_append body tail))

-- the length of a sheet whose header passed
pub head-length : (beside len h : ℕ) (file : Option ℕ) → first_of (head_rows beside len h file) ≡ good → 4 + 6 * count_of h ≤ len
head-length beside len h file e = go (good_none (head_rows beside len h file) e)
  where
    go : None (head_rows beside len h file) → 4 + 6 * count_of h ≤ len
    go (more h₁ (more h₂ (more h₃ t))) = omega (arith, eqb-true len (4 + 6 * count_of h + beside * registers_of h) (not-false _ h₃))

-- what the code of a check asks for
pub ruleset checking = (check_short, check-parts, head-length)

-- ---- Each reason is given exactly when its condition holds and no earlier one does: a check of a sheet answers reason r at place p exactly
-- where some row of the table gives r at p, its condition holds, and the condition of no row before it does.
pub given_if : (beside : ℕ) (s : List ℕ) (file start : Option ℕ) (r : Reason) (p : ℕ) → First (rows_beside beside s file start) r p → check_beside beside s file start ≡ refused r p
unfolding check_beside
given_if beside s file start r p f = exactly_if (rows_beside beside s file start) r p f

pub given-only : (beside : ℕ) (s : List ℕ) (file start : Option ℕ) (r : Reason) (p : ℕ) → check_beside beside s file start ≡ refused r p → First (rows_beside beside s file start) r p
unfolding check_beside
given-only beside s file start r p e = exactly_only (rows_beside beside s file start) r p e

-- ---- what a sheet that passed has
word_ready : (s : List ℕ) (n k : ℕ) → None (word_rows s n k) → WordReady n (word_at s k)
unfolding word_rows
word_ready s n k (more h₁ (more h₂ (more h₃ (more h₄ none)))) = go (every (leb n) (register_fields (word_at s k)) h₄)
  where
    go : Every (leb n) (register_fields (word_at s k)) → WordReady n (word_at s k)
    go (and a (and b (and y end))) =
        record {
          not_idle = h₂;
          page = h₃;
          range = fields_range (number_at s k) (page_small (word_at s k).opcode h₃);
          a = leb-false n (word_at s k).a a;
          b = leb-false n (word_at s k).b b;
          y = leb-false n (word_at s k).y y;
        }

-- with any file that is not too small for the check
ready_with : (beside : ℕ) (s : List ℕ) (file start : Option ℕ) (n : ℕ) → (fewer file (declared_of s) ≡ false → declared_of s ≤ n)
    → check_beside beside s file start ≡ good → Ready s n
unfolding check_beside rows_beside words_of declared_of
ready_with beside s file start n enough e = go (good_none (rows_beside beside s file start) e)
  where
    words_ready : None (rows_by (word_rows s (declared_of s)) 0 (words_of s) ++ tail beside s file start) → (k : ℕ) → k < words_of s
        → WordReady (declared_of s) (word_at s k)
    words_ready t k l =
        word_ready s (declared_of s) k
        (none_at (word_rows s (declared_of s)) 0 (words_of s) (none_left (body beside s file start) (tail beside s file start) t) k (omega arith) (omega arith))

    positive : (declared_of s ≡ 0 → ⊥) → 0 < declared_of s
    positive p = omega arith

    go : None (rows_beside beside s file start) → Ready s n
    go (more h₁ (more h₂ (more h₃ (more h₄ (more h₅ t))))) =
        let n : ℕ = declared_of s in
        let z : Bool = differ (zeros_of (number4 s)) 0 in
        let h : (z || eqb n 0) ≡ false = or_left (z || eqb n 0) (ltb 64 n) h₃ in
        record {
          long = ltb-false (length s) 4 h₁;
          whole = omega (arith, eqb-true (length s) (4 + 6 * words_of s + beside * declared_of s) (not-false _ h₄));
          some = positive (eqb-false (declared_of s) 0 (or_right z (eqb n 0) h));
          few = ltb-false 64 (declared_of s) (or_right (z || eqb n 0) (ltb 64 n) h₃);
          file = enough h₅;
          word = words_ready t;
        }

-- A sheet that was checked with a file of `lent` registers can be run on them.
pub ready : (s : List ℕ) (lent : ℕ) (start : Option ℕ) → check_of s (Some lent) start ≡ good → Ready s lent
ready s lent start e = ready_with 0 s (Some lent) start lent (λ h. ltb-false lent (declared_of s) h) e

-- One that was checked on its own can be run on as many as it declares.
pub ready_alone : (beside : ℕ) (s : List ℕ) (start : Option ℕ) → check_beside beside s Nothing start ≡ good → Ready s (declared_of s)
ready_alone beside s start e = ready_with beside s Nothing start (declared_of s) (λ h. omega arith) e

-- registers that were checked to stand after it are there
pub input_length : (x : List ℕ) → input_of x ≡ good → length x ≡ 4 + 6 * words_of x + 4 * declared_of x
unfolding check_beside rows_beside words_of declared_of
input_length x e = go (good_none (rows_beside 4 x Nothing Nothing) e)
  where
    go : None (rows_beside 4 x Nothing Nothing) → length x ≡ 4 + 6 * words_of x + 4 * declared_of x
    go (more h₁ (more h₂ (more h₃ (more h₄ t)))) = eqb-true (length x) (4 + 6 * words_of x + 4 * declared_of x) (not-false _ h₄)

-- a start that was checked is at most the executions
pub start_within : (s : List ℕ) (file : Option ℕ) (start : ℕ) → check_of s file (Some start) ≡ good → start ≤ length (executions_of s)
unfolding check_beside rows_beside
start_within s file start e = go (good_none (sheet_rows s file (Some start)) e)
  where
    last : None (tail 0 s file (Some start)) → start ≤ length (executions_of s)
    last (more h none) = ltb-false (length (executions_of s)) start h

    go : None (sheet_rows s file (Some start)) → start ≤ length (executions_of s)
    go (more h₁ (more h₂ (more h₃ (more h₄ (more h₅ t))))) = last (none_right (body 0 s file (Some start)) (tail 0 s file (Some start)) t)

-- a check that passes with one start, or with none, passes with any that is no later than the executions
pub start-later : (s : List ℕ) (file start : Option ℕ) (next : ℕ) → check_of s file start ≡ good → next ≤ length (executions_of s)
    → check_of s file (Some next) ≡ good
unfolding check_beside rows_beside
start-later s file start next e h = none_good (sheet_rows s file (Some next)) (go (good_none (sheet_rows s file start) e))
  where
    go : None (sheet_rows s file start) → None (sheet_rows s file (Some next))
    go (more h₁ (more h₂ (more h₃ (more h₄ (more h₅ t))))) =
        more h₁ (more h₂ (more h₃ (more h₄ (more h₅
        (none_both (body 0 s file start) (tail 0 s file (Some next)) (none_left (body 0 s file start) (tail 0 s file start) t)
        (more (le-ltb (length (executions_of s)) next h) none))))))
