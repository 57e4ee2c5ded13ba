-- What reading answers: how long the sheet is; that a refusal never has number 0, so that nothing is lost in numbers (`check_once` of `reasons`);
-- which reasons come last, and how much room always suffices; and that no second answer and buffer meet the promise.
use mathlib.Core.Path.{◌≡◌, refl, ap, sym, subst, ◌∙◌}
use mathlib.Core.List.{List, [], ◌∷◌, ◌++◌}
use mathlib.Core.Bool.{Bool, true, false, ◌||◌, true≢false}
use Prim.Native.Nat.{ℕ, ◌+◌, ◌*◌, ◌≤◌}
use native.Mathlib.Omega.{arith}
use native.Mathlib.Decide.{dec_le}
use lib.ListN.{length, length-append}
use lib.Dec.{eqb}
use Rattle.reasons.specs.Reasons.{Row, number_of, or_else, first_of, Check, good, refused, check_by}
use Rattle.reasons.specs.Output.{wrote}
use Rattle.reasons.proofs.Wrote.{one-wrote}
use Rattle.reasons.specs.declared.Refusal.{Refusal}
use Rattle.reasons.specs.declared.Reason.{Reason}
use Rattle.reasons.specs.declared.Reason.TheVariants.{Room, Count}
use Rattle.reasons.proofs.Rows.{first_bad, first_good, same_reason}
use Rattle.reasons.proofs.Numbers.{Tells, Telling, telling_first, telling_on}
use Rattle.grammar.specs.declared.Head.{Head}
use Rattle.chip.specs.declared.Word.{Word}
use Rattle.std.proofs.Common.{Option, Some, None, Result, Ok, Err}
use Rattle.grammar.specs.Grammar.{word_in}
use Rattle.reading.specs.Reader.{first_in, word_lines_in, version_by, registers_by, head_rows, line_rows, lines_rows, size_rows, read_rows, header4, split4, packed_line, packed_lines, sheet_in, read_of}
use Rattle.reading.proofs.Table.{size-count, size_good}
use Rattle.reading.proofs.Ends.{read-check}

-- ---- the size of the sheet
-- six bytes a word
words-length : (ls : List (List ℕ)) → length (packed_lines ls) ≡ 6 * length ls
unfolding packed_lines
words-length [] = refl
words-length (l ∷ ls) = length-append (packed_line l) (packed_lines ls) ∙ omega (arith, words-length ls)

-- with the header before them
pub sheet_length : (t : List ℕ) → length (sheet_in t) ≡ 4 + 6 * length (word_lines_in t)
unfolding sheet_in
sheet_length t =
    length-append (split4 (header4 (version_by (first_in t)) (length (word_lines_in t)) (registers_by (first_in t)))) (packed_lines (word_lines_in t))
    ∙ omega (arith, words-length (word_lines_in t))

-- ---- in numbers: no row gives reason 0
-- of the first line's rows
head_tells : (x : Option Head) → Telling (head_rows x)
head_tells None = (omega arith, tt)
head_tells (Some h) = (omega arith, (omega arith, tt))

-- of a word's line's
line_tells : (n k : ℕ) (x : Option Word) → Telling (line_rows n k x)
line_tells n k None = (omega arith, tt)
line_tells n k (Some w) = (omega arith, (omega arith, (omega arith, tt)))

-- of all words' lines'
lines-tell : (n k : ℕ) (ls : List (List ℕ)) → Telling (lines_rows n k ls)
unfolding lines_rows
lines-tell n k [] = tt
lines-tell n k (l ∷ ls) = telling_on (line_rows n k (word_in l)) (lines_rows n (k + 1) ls) (line_tells n k (word_in l)) (lines-tell n (k + 1) ls)

-- the rows of the words' lines, and of the whole
abbrev pub of_lines : List ℕ → List Row
of_lines t = lines_rows (registers_by (first_in t)) 1 (word_lines_in t)

abbrev pub of_size : List ℕ → ℕ → List Row
of_size t room = size_rows (length (word_lines_in t)) room

-- of the whole table's
pub rows_tell : (t : List ℕ) (room : ℕ) → Telling (read_rows t room)
unfolding read_rows
rows_tell t room =
    telling_on (head_rows (first_in t)) (of_lines t ++ of_size t room) (head_tells (first_in t))
    (telling_on (of_lines t) (of_size t room) (lines-tell (registers_by (first_in t)) 1 (word_lines_in t)) (omega arith, (omega arith, tt)))

-- so no refusal of `read` has number 0
pub read_tells : (t d : List ℕ) → Tells (check_by (read_of t d).answer)
read_tells t d = subst Tells (sym (read-check t d)) (telling_first (read_rows t (length d)) (rows_tell t (length d)))

-- ---- the reasons of the whole come last
-- 14 Room and 16 Count
abbrev pub of_the_whole : Reason → Bool
of_the_whole r = eqb (number_of r) 14 || eqb (number_of r) 16

-- no row gives them
abbrev Others : List Row → Type 0
Others [] = Unit
Others (r ∷ rs) = (of_the_whole r.reason ≡ false) × Others rs

-- so of the first line's rows
head-others : (x : Option Head) → Others (head_rows x)
head-others None = (refl, tt)
head-others (Some h) = (refl, (refl, tt))

-- of a word's line's
line-others : (n k : ℕ) (x : Option Word) → Others (line_rows n k x)
line-others n k None = (refl, tt)
line-others n k (Some w) = (refl, (refl, (refl, tt)))

-- of two such tables, one after the other
others_on : (a b : List Row) → Others a → Others b → Others (a ++ b)
others_on [] b f g = g
others_on (r ∷ rs) b f g = (f.0, others_on rs b f.1 g)

-- and of all words' lines'
lines-others : (n k : ℕ) (ls : List (List ℕ)) → Others (lines_rows n k ls)
unfolding lines_rows
lines-others n k [] = tt
lines-others n k (l ∷ ls) = others_on (line_rows n k (word_in l)) (lines_rows n (k + 1) ls) (line-others n k (word_in l)) (lines-others n (k + 1) ls)

module _ (r : Reason) (p : ℕ) (whole : of_the_whole r ≡ true) where
  -- such a table does not answer them
  others_never : (rows : List Row) → Others rows → first_of rows ≡ refused r p → ⊥
  others_never [] o e = let z : ◌≡◌ {A = ℕ} 0 1 = cc in omega arith
  others_never (x ∷ xs) o e = go x.holds e (others_never xs o.1)
    where
      go : (b : Bool) → or_else b (refused x.reason x.place) (first_of xs) ≡ refused r p → (first_of xs ≡ refused r p → ⊥) → ⊥
      go true f i = true≢false (sym whole ∙ ap of_the_whole (sym (same_reason f)) ∙ o.0)
      go false f i = i f

  -- where they are answered it holds nothing, and the table after it answers
  others_past : (a b : List Row) → Others a → first_of (a ++ b) ≡ refused r p → (first_of a ≡ good) × (first_of b ≡ refused r p)
  others_past a b o e = go (first_of a) refl
    where
      go : (c : Check) → first_of a ≡ c → (first_of a ≡ good) × (first_of b ≡ refused r p)
      go (Ok done) h = (h, sym (first_good a b h) ∙ e)
      go (Err x) h = absurd (others_never a o (h ∙ sym (first_bad a b x.reason x.place h) ∙ e))

  -- 16 Count and 14 Room are told only of texts whose lines are all good.
  pub lines-first : (t : List ℕ) (room : ℕ) → first_of (read_rows t room) ≡ refused r p
      → (first_of (head_rows (first_in t)) ≡ good) × (first_of (of_lines t) ≡ good) × (first_of (of_size t room) ≡ refused r p)
  unfolding read_rows
  lines-first t room e =
      let f = others_past (head_rows (first_in t)) (of_lines t ++ of_size t room) (head-others (first_in t)) e in
      let g = others_past (of_lines t) (of_size t room) (lines-others (registers_by (first_in t)) 1 (word_lines_in t)) f.1 in
      (f.0, g.0, g.1)

-- ---- room
-- 4,095 words are 24,574 bytes, and of more 16 Count is told first
size_fits : (count room p : ℕ) → 24574 ≤ room → first_of (size_rows count room) ≡ refused Room p → ⊥
size_fits count room p h e = go (dec_le count 4095)
  where
    go : Dec (count ≤ 4095) → ⊥
    go (yes k) = let q : good ≡ refused Room p = sym (size_good count room k (omega arith)) ∙ e in let z : ◌≡◌ {A = ℕ} 0 1 = cc in omega arith
    go (no k) = let q : refused Count 0 ≡ refused Room p = sym (size-count count room (omega arith)) ∙ e in omega (arith, ap number_of (same_reason q))

-- With a buffer of 24,574 bytes or more 14 Room is never given.
pub read_fits : (t d : List ℕ) (p : ℕ) → 24574 ≤ length d → check_by (read_of t d).answer ≡ refused Room p → ⊥
read_fits t d p h e = size_fits (length (word_lines_in t)) (length d) p h (lines-first Room p refl t (length d) (sym (read-check t d) ∙ e)).2

-- ---- no second answer and buffer meet the promise of `read`
pub one-read : (t d : List ℕ) (o o' : Result ℕ Refusal) (b b' : List ℕ) → wrote o b ≡ read_of t d → wrote o' b' ≡ read_of t d → (o ≡ o') × (b ≡ b')
one-read t d = one-wrote (read_of t d)
