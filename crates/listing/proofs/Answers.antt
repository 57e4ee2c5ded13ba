-- The ways in which listing ends, and what a caller can rely on.
use mathlib.Core.Path.{◌≡◌, refl, sym, ap, ap₂, ◌∙◌}
use mathlib.Core.List.{List, [], ◌∷◌, ◌++◌}
use Prim.Native.Nat.{ℕ, ◌+◌, ◌*◌, ◌≤◌, ◌<◌}
use native.Mathlib.Omega.{arith}
use borrow.Author.Tests.{lt-ltb, le-ltb}
use lib.ListN.{length, drop, length-append}
use lib.Dec.{ltb}
use Rattle.reasons.specs.declared.Reason.TheVariants.{Room}
use Rattle.reasons.specs.declared.Refusal.{Refusal}
use Rattle.reasons.specs.Reasons.{Row, ◌gives◌at◌, Check, good, refused, first_of, check_numbers}
use Rattle.reasons.specs.Output.{wrote, wrote_by}
use Rattle.reasons.proofs.Rows.{first_good, first_bad}
use Rattle.reasons.proofs.Numbers.{Tells, telling_first, telling_on}
use Rattle.reasons.proofs.Wrote.{wrote-numbers, one-wrote}
use Rattle.text.specs.Fill.{Written}
use Rattle.chip.specs.declared.Word.{Word}
use Rattle.packing.specs.Packing.{InRange}
use Rattle.std.proofs.Common.{Result, Ok, Err, None as Nothing}
use Rattle.sheet.specs.Sheet.{words_of, declared_of, all_words, sheet_rows, check_beside, check_of, Ready}
use Rattle.sheet.proofs.Table.{ready_alone}
use Rattle.sheet.proofs.Positions.{All, words-length, all_words_lem}
use Rattle.sheet.proofs.Positions.All.{none, more}
use Rattle.sheet.proofs.Answers.{rows_tell}
use Rattle.listing.specs.Lines.{word_line, ended, word_lines, listing_of}
use Rattle.listing.specs.Lister.{list_rows, list_of}
use Rattle.listing.proofs.Lines.{line-length, listing_parts, words_few}

-- the last row by itself
room_row : (s : List ℕ) (room : ℕ) → List Row
room_row s room = (ltb room (length (listing_of s)) gives Room at 0) ∷ []

short_of_room : (s : List ℕ) (room : ℕ) → room < length (listing_of s) → first_of (room_row s room) ≡ refused Room 0
unfolding room_row
short_of_room s room h = rw (lt-ltb room (length (listing_of s)) h) refl

with_room : (s : List ℕ) (room : ℕ) → length (listing_of s) ≤ room → first_of (room_row s room) ≡ good
unfolding room_row
with_room s room h = rw (le-ltb room (length (listing_of s)) h) refl

module _ (s d : List ℕ) where
  -- what the table says, the answer is
  by_rows : (c : Check) → first_of (list_rows s (length d)) ≡ c → wrote_by c (listing_of s) d ≡ list_of s d
  unfolding list_of
  by_rows c e = ap (λ (x : Check). wrote_by x (listing_of s) d) (sym e)

  -- a sheet that is refused
  pub list_sheet : (x : Refusal) → check_of s Nothing Nothing ≡ Err x → wrote (Err x) d ≡ list_of s d
  unfolding list_rows check_beside room_row
  list_sheet x e = by_rows (Err x) (first_bad (sheet_rows s Nothing Nothing) (room_row s (length d)) x.reason x.place e)

  -- one whose listing does not fit
  pub list-room : check_of s Nothing Nothing ≡ good → length d < length (listing_of s) → wrote (Err (record { reason = Room; place = 0 })) d ≡ list_of s d
  unfolding list_rows check_beside room_row
  list-room e h = by_rows (refused Room 0) (first_good (sheet_rows s Nothing Nothing) (room_row s (length d)) e ∙ short_of_room s (length d) h)

  -- and one whose listing does
  pub list_good : check_of s Nothing Nothing ≡ good → length (listing_of s) ≤ length d → wrote_by good (listing_of s) d ≡ list_of s d
  unfolding list_rows check_beside room_row
  list_good e h = by_rows good (first_good (sheet_rows s Nothing Nothing) (room_row s (length d)) e ∙ with_room s (length d) h)

  pub list_done : {after : List ℕ} {n : ℕ} → check_of s Nothing Nothing ≡ good → Written (listing_of s) d n after → wrote (Ok n) after ≡ list_of s d
  list_done {after} {n} e w =
      ap₂ (λ (m : ℕ) (l : List ℕ). wrote (Ok m) l) w.size (w.bytes ∙ ap (λ (m : ℕ). listing_of s ++ drop m d) w.size)
      ∙ list_good e (omega (arith, w.size, w.fits))

  -- the numbers of the answer are those of the table
  pub list-numbers : (a : Result ℕ Refusal) (b : List ℕ) → wrote a b ≡ list_of s d
      → (wrote a b ≡ list_of s d) × (check_numbers a ≡ check_numbers (first_of (list_rows s (length d))))
  unfolding list_of
  list-numbers a b e = wrote-numbers (first_of (list_rows s (length d))) (listing_of s) d e

  -- no second answer and buffer meet the promise of `list`
  pub one_list : (a b : Result ℕ Refusal) (l m : List ℕ) → wrote a l ≡ list_of s d → wrote b m ≡ list_of s d → (a ≡ b) × (l ≡ m)
  one_list = one-wrote (list_of s d)

  -- and no refusal has number 0
  pub list_tells : Tells (first_of (list_rows s (length d)))
  unfolding list_rows room_row
  list_tells =
      telling_first (sheet_rows s Nothing Nothing ++ room_row s (length d))
      (telling_on (sheet_rows s Nothing Nothing) (room_row s (length d)) (rows_tell s Nothing Nothing) (omega arith, tt))

-- ---- how large a listing is
lines_most : (ws : List Word) → All InRange ws → length (word_lines ws) ≤ 104 * length ws
unfolding word_lines
lines_most [] none = omega arith
lines_most (w ∷ ws) (more r a) =
    omega (arith, length-append (ended (word_line w)) (word_lines ws), line-length w r, r.write, r.select, r.carry, r.link, r.borrow, lines_most ws a)

-- at most 104 bytes for each word after the 23 of its first line
pub listing_most : (s : List ℕ) → check_of s Nothing Nothing ≡ good → length (listing_of s) ≤ 23 + 104 * words_of s
listing_most s e =
    let ready : Ready s (declared_of s) = ready_alone 0 s Nothing e in
    let fit : All InRange (all_words s) = all_words_lem InRange s 0 (words_of s) (λ j lo hi. (ready.word j (omega arith)).range) in
    omega (arith, listing_parts s, lines_most (all_words s) fit, words-length s 0 (words_of s))

-- so a buffer of 425,903 bytes holds every listing: Room is not given
pub list_fits : (s d : List ℕ) → check_of s Nothing Nothing ≡ good → 425903 ≤ length d → list_of s d ≡ wrote_by good (listing_of s) d
list_fits s d e h = sym (list_good s d e (omega (arith, listing_most s e, words_few s)))
