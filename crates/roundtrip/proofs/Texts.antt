-- What a text says that is not refused: a register count and words that can be run. The reader makes the sheet of them, and the listing of a sheet that
-- passed says those of the sheet.
use mathlib.Core.Path.{◌≡◌, refl, ap, ap₂, ◌∙◌}
use mathlib.Core.List.{List, [], ◌∷◌, ◌++◌, map}
use mathlib.Core.Bool.{true≢false}
use Prim.Native.Nat.{ℕ, suc, ◌+◌, ◌*◌, ◌≤◌, ◌<◌}
use native.Mathlib.Omega.{arith}
use borrow.Author.Tests.{eqb-true, eqb-false, ne_eqb, le-ltb, leb-false, ltb-false, not-false}
use lib.ListN.{length, get_or, length-map}
use lib.Dec.{eqb, ltb, leb}
use Rattle.chip.specs.declared.Word.{Word}
use Rattle.reasons.specs.Reasons.{good, first_of}
use Rattle.reasons.proofs.Rows.{None, good_none, none_good, none_left, none_right, none_both}
use Rattle.reasons.proofs.Rows.None.{none, more}
use Rattle.packing.specs.Packing.{bytes6, packed_number, register_fields}
use Rattle.packing.proofs.Numbers.{or_left, or_right, Every, every, in_range}
use Rattle.packing.proofs.Numbers.Every.{end, and}
use Rattle.sheet.specs.Sheet.{number4, version_of, words_of, declared_of, all_words, check_of, WordReady, Ready}
use Rattle.sheet.proofs.Table.{ready_alone}
use Rattle.sheet.proofs.Positions.{All, all_words_lem, words-length}
use Rattle.sheet.proofs.Positions.All.{none as allNone, more as allMore}
use Rattle.listing.specs.Lines.{word_line, listing_of}
use Rattle.grammar.specs.declared.Head.{Head}
use Rattle.std.specs.Prelude.{Option, Some, None as Outside}
use Rattle.grammar.specs.Grammar.{head_by, head_in, word_in}
use Rattle.reading.specs.Reader.{first_in, word_lines_in, registers_by, head_rows, line_rows, lines_rows, size_rows, read_rows, word_by, packed_lines, sheet_in}
use Rattle.roundtrip.proofs.Back.{word_back, head_back}
use Rattle.grammar.proofs.Pages.{word-page}
use Rattle.roundtrip.proofs.Lines.{lines_back}
use Rattle.roundtrip.proofs.Sheets.{packed_all, sheet_for, registers-below, fields_small, Passed, passed, Sound}

-- ---- lines that each say a word, which can be run on n registers
pub data Said (n : ℕ) : List (List ℕ) → List Word → Type 0 where
  no_line : Said n [] []
  line : {l : List ℕ} {w : Word} {ls : List (List ℕ)} {ws : List Word} → word_in l ≡ Some w → WordReady n w → Said n ls ws
      → Said n (l ∷ ls) (w ∷ ws)

-- the words that lines say
abbrev pub words_by : List (List ℕ) → List Word
words_by ls = map (λ l. word_by (word_in l)) ls

module _ (n : ℕ) where
  -- the words can be run
  pub said_ready : {ls : List (List ℕ)} {ws : List Word} → Said n ls ws → All (WordReady n) ws
  said_ready no_line = allNone
  said_ready (line e h s) = allMore h (said_ready s)

  -- line for line
  pub said_lines : {ls : List (List ℕ)} {ws : List Word} → Said n ls ws → map word_in ls ≡ map Some ws
  said_lines no_line = refl
  said_lines (line e h s) = λ i. e i ∷ said_lines s i

  -- as many as the lines
  said_length : {ls : List (List ℕ)} {ws : List Word} → Said n ls ws → length ls ≡ length ws
  said_length no_line = refl
  said_length (line e h s) = ap suc (said_length s)

  -- and the reader packs them
  said_packed : {ls : List (List ℕ)} {ws : List Word} → Said n ls ws → packed_lines ls ≡ packed_all ws
  unfolding packed_lines
  said_packed no_line = refl
  said_packed (line e h s) = ap₂ (λ x l. bytes6 (packed_number (word_by x)) ++ l) e (said_packed s)

  -- no such line is refused
  said_rows : {ls : List (List ℕ)} {ws : List Word} (k : ℕ) → Said n ls ws → None (lines_rows n k ls)
  unfolding lines_rows
  said_rows k no_line = none
  said_rows k (line {w} {ls} e h s) =
      rw e (more (fields_small w h.range) (more h.not_idle (more (registers-below n w h) (said_rows (k + 1) s))))

  -- and a line that is not refused says a word that can be run
  word_ready : (l : List ℕ) (w : Word) (k : ℕ) → word_in l ≡ Some w → None (line_rows n k (Some w)) → WordReady n w
  word_ready l w k e (more h₁ (more h₂ (more h₃ none))) = go (every (leb n) (register_fields w) h₃)
    where
      go : Every (leb n) (register_fields w) → WordReady n w
      go (and a (and b (and y end))) =
          record {
            not_idle = h₂;
            page = word-page l w e;
            range = in_range w (word-page l w e) h₁;
            a = leb-false n w.a a;
            b = leb-false n w.b b;
            y = leb-false n w.y y;
          }

  -- so that lines of which none is refused say words
  rows_said : (k : ℕ) (ls : List (List ℕ)) → None (lines_rows n k ls) → Said n ls (words_by ls)
  unfolding lines_rows
  rows_said k [] h = no_line
  rows_said k (l ∷ ls) h =
      go (word_in l) refl (none_left (line_rows n k (word_in l)) (lines_rows n (k + 1) ls) h)
      (rows_said (k + 1) ls (none_right (line_rows n k (word_in l)) (lines_rows n (k + 1) ls) h))
    where
      go : (x : Option Word) → word_in l ≡ x → None (line_rows n k x) → Said n ls (words_by ls)
          → Said n (l ∷ ls) (words_by (l ∷ ls))
      go (Some w) e r s = rw e (line e (word_ready l w k e r) s)
      go Outside e (more r t) s = absurd (true≢false r)

  -- the line of a word that can be run says it
  ready_said : {ws : List Word} → All (WordReady n) ws → Said n (map word_line ws) ws
  ready_said allNone = no_line
  ready_said (allMore {w} h a) = line (word_back w h.range h.page) h (ready_said a)

-- ---- a text that says a register count and words
pub record Says (text : List ℕ) (n : ℕ) (ws : List Word) : Type 0 where
  pub first : first_in text ≡ Some (head_by 1 n)
  pub lines : Said n (word_lines_in text) ws
  pub positive : 0 < n
  pub small : n ≤ 64
  pub few : length ws ≤ 4095

module _ {text : List ℕ} {n : ℕ} {ws : List Word} (h : Says text n ws) where
  pub says_sound : Sound n ws
  says_sound = record { positive = h.positive; small = h.small; few = h.few; ready = said_ready n h.lines }

  -- the reader makes the sheet of them
  pub says_sheet : sheet_in text ≡ sheet_for n ws
  unfolding sheet_in
  says_sheet = rw (h.first, said_length n h.lines, said_packed n h.lines) refl

  -- and does not refuse the text if there is room
  pub says_good : (room : ℕ) → 4 + 6 * length ws ≤ room → first_of (read_rows text room) ≡ good
  unfolding read_rows
  says_good room l =
      rw (h.first, said_length n h.lines)
      (none_good (head_rows (Some (head_by 1 n)) ++ (lines_rows n 1 (word_lines_in text) ++ size_rows (length ws) room))
      (more refl
      (more (rw (ne_eqb n 0 (omega arith), le-ltb 64 n h.small) refl)
      (none_both (lines_rows n 1 (word_lines_in text)) (size_rows (length ws) room) (said_rows n 1 h.lines)
      (more (le-ltb 4095 (length ws) h.few) (more (le-ltb room (4 + 6 * length ws) l) none))))))

-- a text that is not refused says some
pub good_says : (text : List ℕ) (room : ℕ) → first_of (read_rows text room) ≡ good
    → Says text (registers_by (first_in text)) (words_by (word_lines_in text))
unfolding read_rows
good_says text room e = go (first_in text) refl (good_none (read_rows text room) e)
  where
    ls : List (List ℕ)
    ls = word_lines_in text

    few : None (size_rows (length ls) room) → length (words_by ls) ≤ 4095
    few (more h t) = rw (length-map ls (λ l. word_by (word_in l))) (ltb-false 4095 (length ls) h)

    positive : (n : ℕ) → (n ≡ 0 → ⊥) → 0 < n
    positive n h = omega arith

    go : (x : Option Head) → first_in text ≡ x → None (head_rows x ++ (lines_rows (registers_by x) 1 ls ++ size_rows (length ls) room))
        → Says text (registers_by x) (words_by ls)
    go Outside f (more h t) = absurd (true≢false h)
    go (Some head) f (more h₁ (more h₂ t)) =
        record {
          first = f ∙ ap (λ (x : ℕ). Some (head_by x head.registers)) (eqb-true head.version 1 (not-false _ h₁));
          lines = rows_said head.registers 1 ls (none_left (lines_rows head.registers 1 ls) (size_rows (length ls) room) t);
          positive = positive head.registers (eqb-false head.registers 0 (or_left (eqb head.registers 0) (ltb 64 head.registers) h₂));
          small = ltb-false 64 head.registers (or_right (eqb head.registers 0) (ltb 64 head.registers) h₂);
          few = few (none_right (lines_rows head.registers 1 ls) (size_rows (length ls) room) t);
        }

-- the listing of a sheet that passed says those of the sheet
pub listing_says : (s : List ℕ) → check_of s Outside Outside ≡ good → Says (listing_of s) (declared_of s) (all_words s)
unfolding words_of
listing_says s e =
    let p : Passed s = passed s e in
    let r : Ready s (declared_of s) = ready_alone 0 s Outside e in
    let n : ℕ = declared_of s in
    let v : ℕ = version_of (number4 s) in
    let one : v ≡ 1 = p.version in
    record {
      first =
          ap (λ (ls : List (List ℕ)). head_in (get_or ls 0 [])) (lines_back s)
          ∙ head_back v n (omega arith) (omega arith)
          ∙ ap (λ (x : ℕ). Some (head_by x n)) one;
      lines = rw (lines_back s) (ready_said n (all_words_lem (WordReady n) s 0 (words_of s) (λ j lo hi. r.word j (omega arith))));
      positive = p.positive;
      small = p.small;
      few = omega (arith, words-length s 0 (words_of s));
    }
