-- Listing and reading undo one another: the round trip between a sheet and its text (docs/LISTING.md).
use mathlib.Core.Path.{◌≡◌, sym, ap, ap₂, ◌∙◌, subst₂}
use mathlib.Core.List.{List, [], ◌∷◌, ◌++◌, map}
use Prim.Native.Nat.{ℕ, ◌+◌, ◌*◌, ◌≤◌, ◌<◌}
use native.Mathlib.Omega.{arith}
use lib.ListN.{length, get_or, take, drop}
use lib.Seq.{take-append_seam}
use lib.Dec.{ltb}
use Rattle.chip.specs.declared.Word.{Word}
use Rattle.reasons.specs.Reasons.{◌gives◌at◌, Check, good, check_by, first_of}
use Rattle.reasons.specs.Output.{Wrote, wrote_by}
use Rattle.reasons.specs.declared.Reason.TheVariants.{Room}
use Rattle.reasons.proofs.Rows.{good_none, none_good, none_left}
use Rattle.reasons.proofs.Wrote.{wrote-check}
use Rattle.std.proofs.Common.{None as Nothing}
use Rattle.std.specs.Result.{result_unwrap_or}
use Rattle.sheet.specs.Sheet.{declared_of, all_words, sheet_rows, check_beside, check_of}
use Rattle.listing.specs.Lines.{first_line, ended, word_lines, listing_of}
use Rattle.listing.specs.Lister.{list_rows, list_of}
use Rattle.listing.proofs.Answers.{list_good}
use Rattle.grammar.specs.Grammar.{word_in}
use Rattle.reading.specs.Reader.{first_in, word_lines_in, registers_by, read_rows, sheet_in, read_of}
use Rattle.roundtrip.proofs.Sheets.{sheet_for, registers-made, all_made, size-made, made_good, passed, sheet_made}
use Rattle.roundtrip.proofs.Texts.{words_by, said_lines, Says, says_sound, says_sheet, says_good, good_says, listing_says}

-- ---- what a call leaves that writes into a lent buffer
-- the bytes that it wrote, at the start of the buffer
abbrev pub written_by : Wrote → List ℕ
written_by x = take (result_unwrap_or x.answer 0) x.buffer

-- where its answer is Ok they are those that it was to write
wrote-out : (c : Check) (out d : List ℕ) → c ≡ good → written_by (wrote_by c out d) ≡ out
wrote-out c out d e = rw e (take-append_seam out (drop (length out) d))

-- ---- the lister refuses what the check of a sheet refuses, and a buffer that is too small
listed_good : (s : List ℕ) (room : ℕ) → first_of (list_rows s room) ≡ good → check_of s Nothing Nothing ≡ good
unfolding list_rows check_beside
listed_good s room e =
    none_good (sheet_rows s Nothing Nothing)
    (none_left (sheet_rows s Nothing Nothing) ((ltb room (length (listing_of s)) gives Room at 0) ∷ []) (good_none (list_rows s room) e))

-- ---- the sheet that a text says, and the sheet's listing
module _ {text : List ℕ} {n : ℕ} {ws : List Word} (h : Says text n ws) where
  -- the sheet is not refused
  said_good : check_of (sheet_in text) Nothing Nothing ≡ good
  said_good = rw (says_sheet h) (made_good (says_sound h))

  -- it has what was said
  said_registers : declared_of (sheet_in text) ≡ n
  said_registers = ap declared_of (says_sheet h) ∙ registers-made (says_sound h)

  said_words : all_words (sheet_in text) ≡ ws
  said_words = ap all_words (says_sheet h) ∙ all_made (says_sound h)

  -- and its listing says the same again
  said_again : Says (listing_of (sheet_in text)) n ws
  said_again = subst₂ (λ m l. Says (listing_of (sheet_in text)) m l) said_registers said_words (listing_says (sheet_in text) said_good)

-- the listing of a sheet that passed, which is of version 1
listing_one : (s : List ℕ) → check_of s Nothing Nothing ≡ good → listing_of s ≡ ended (first_line 1 (declared_of s)) ++ word_lines (all_words s)
unfolding listing_of
listing_one s e = ap (λ (v : ℕ). ended (first_line v (declared_of s)) ++ word_lines (all_words s)) (passed s e).version

-- the listing of a sheet of bytes that passed stands for that sheet
pub listing_sheet : (s : List ℕ) → ((i : ℕ) → get_or s i 0 < 256) → check_of s Nothing Nothing ≡ good → sheet_in (listing_of s) ≡ s
listing_sheet s byte e = says_sheet (listing_says s e) ∙ sheet_made s byte (passed s e)

-- ---- the theorems
-- A sheet listed and read again is the same bytes. Take any sheet s, a list of bytes (numbers below 256), that the check of a sheet does not refuse. The
-- reader takes the listing of s, answers Ok, and writes the bytes of s into any buffer d that has room for them. The rest of d stays as it was.
pub list-then-read : (s d : List ℕ) → ((i : ℕ) → get_or s i 0 < 256) → check_of s Nothing Nothing ≡ good → length s ≤ length d
    → read_of (listing_of s) d ≡ wrote_by good s d
unfolding read_of
list-then-read s d byte e h =
    let l : Says (listing_of s) (declared_of s) (all_words s) = listing_says s e in
    let m : sheet_for (declared_of s) (all_words s) ≡ s = sheet_made s byte (passed s e) in
    let z : length s ≡ 4 + 6 * length (all_words s) = ap length (sym m) ∙ size-made (says_sound l) in
    ap₂ (λ c x. wrote_by c x d) (says_good l (length d) (omega arith)) (listing_sheet s byte e)

-- The same as a user meets it. Where the lister answers Ok for s and a buffer t, hand the bytes that it wrote there to the reader: it answers Ok and
-- writes s.
pub listed-then-read : (s t d : List ℕ) → ((i : ℕ) → get_or s i 0 < 256) → check_by (list_of s t).answer ≡ good → length s ≤ length d
    → read_of (written_by (list_of s t)) d ≡ wrote_by good s d
unfolding list_of
listed-then-read s t d byte e h =
    let c : Check = first_of (list_rows s (length t)) in
    let g : c ≡ good = sym (wrote-check c (listing_of s) t) ∙ e in
    ap (λ (x : List ℕ). read_of x d) (wrote-out c (listing_of s) t g) ∙ list-then-read s d byte (listed_good s (length t) g) h

-- A text read and listed again is the listing of its sheet, and nothing that the text said is lost. Take any text, the lister's own or one that an editor
-- wrote, for which the reader answers Ok with a buffer d. Then
-- - the bytes that it wrote into d are the sheet that the text stands for;
-- - the check of a sheet does not refuse that sheet;
-- - the lister, given that sheet and any buffer t with room, answers Ok and writes the listing of the sheet;
-- - the listing says what the text said: the same version and register count first, then line for line the same words;
-- - and the listing, read again, stands for the same sheet.
pub record ReadAndListed (text d : List ℕ) : Type 0 where
  pub written : written_by (read_of text d) ≡ sheet_in text
  pub passes : check_of (sheet_in text) Nothing Nothing ≡ good
  pub listed : (t : List ℕ) → length (listing_of (sheet_in text)) ≤ length t → list_of (sheet_in text) t ≡ wrote_by good (listing_of (sheet_in text)) t
  pub first : first_in (listing_of (sheet_in text)) ≡ first_in text
  pub words : map word_in (word_lines_in (listing_of (sheet_in text))) ≡ map word_in (word_lines_in text)
  pub again : sheet_in (listing_of (sheet_in text)) ≡ sheet_in text

pub read-then-list : (text d : List ℕ) → check_by (read_of text d).answer ≡ good → ReadAndListed text d
unfolding read_of list_of
read-then-list text d e =
    let c : Check = first_of (read_rows text (length d)) in
    let g : c ≡ good = sym (wrote-check c (sheet_in text) d) ∙ e in
    let n : ℕ = registers_by (first_in text) in
    let ws : List Word = words_by (word_lines_in text) in
    let h : Says text n ws = good_says text (length d) g in
    let a : Says (listing_of (sheet_in text)) n ws = said_again h in
    record {
      written = wrote-out c (sheet_in text) d g;
      passes = said_good h;
      listed = λ t l. sym (list_good (sheet_in text) t (said_good h) l);
      first = a.first ∙ sym h.first;
      words = said_lines n a.lines ∙ sym (said_lines n h.lines);
      again = says_sheet a ∙ sym (says_sheet h);
    }

-- A listing is the one text for its sheet. Read the listing of a sheet that is not refused, and list what was read: it is the same text, byte for byte.
pub canonical_itself : (s : List ℕ) → check_of s Nothing Nothing ≡ good → listing_of (sheet_in (listing_of s)) ≡ listing_of s
canonical_itself s e =
    let h : Says (listing_of s) (declared_of s) (all_words s) = listing_says s e in
    listing_one (sheet_in (listing_of s)) (said_good h)
    ∙ ap₂ (λ n ws. ended (first_line 1 n) ++ word_lines ws) (said_registers h) (said_words h)
    ∙ sym (listing_one s e)

-- No two sheets have the same listing. Where two sheets of bytes are not refused, and their listings are the same text, the sheets are the same bytes.
pub one_listing : (s t : List ℕ) → ((i : ℕ) → get_or s i 0 < 256) → ((i : ℕ) → get_or t i 0 < 256)
    → check_of s Nothing Nothing ≡ good → check_of t Nothing Nothing ≡ good → listing_of s ≡ listing_of t → s ≡ t
one_listing s t a b e f same = sym (listing_sheet s a e) ∙ ap sheet_in same ∙ listing_sheet t b f
