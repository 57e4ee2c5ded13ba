-- The lines of a listing: it comes apart into the lines that it was put together from.
use mathlib.Core.Path.{◌≡◌, refl, ap, ◌∙◌}
use mathlib.Core.List.{List, [], ◌∷◌, ◌++◌, map}
use mathlib.Core.Bool.{false}
use Prim.Native.Nat.{ℕ, ◌-◌}
use lib.ListN.{length, replicate}
use lib.Seq.{append_snoc}
use lib.Dec.{eqb}
use Rattle.text.specs.Ascii.{space, newline}
use Rattle.chip.specs.declared.Word.{Word}
use Rattle.mnemonics.specs.Mnemonics.{mnemonic_of}
use Rattle.packing.specs.Packing.{some}
use Rattle.sheet.specs.Sheet.{number4, version_of, declared_of, all_words}
use Rattle.listing.specs.Lines.{word_line, first_line, ended, word_lines, listing_of}
use Rattle.grammar.specs.Grammar.{pieces, lines_of}
use Rattle.roundtrip.proofs.Pieces.{none-append, piece, no_feed, spaced, spaced_feed, blanks_feed}
use Rattle.roundtrip.proofs.Back.{mnemonic_gap, code, others, line_parts, line_text, head_parts, head_text}

-- ---- no line has a line feed in it
-- neither a word's line nor the first
word_feed : (w : Word) → some (eqb newline) (word_line w) ≡ false
word_feed w =
    let m : List ℕ = mnemonic_of w.opcode in
    let b : List ℕ = replicate (12 - length m) space in
    rw (line_text w)
    (none-append (eqb newline) (m ++ b) (code w ++ spaced (others w))
    (none-append (eqb newline) m b (no_feed m (mnemonic_gap w.opcode)) (blanks_feed (12 - length m)))
    (spaced_feed (line_parts w)))

head_feed : (v n : ℕ) → some (eqb newline) (first_line v n) ≡ false
head_feed v n = rw (head_text v n) (spaced_feed (head_parts v n))

-- so that a line with its line feed is the first line of a text
line_back : (line rest : List ℕ) → some (eqb newline) line ≡ false → lines_of (ended line ++ rest) ≡ line ∷ lines_of rest
line_back line rest h = ap lines_of (append_snoc line newline rest) ∙ piece (eqb newline) line newline rest h refl

-- and so one after another
words_back : (ws : List Word) → lines_of (word_lines ws) ≡ map word_line ws
unfolding word_lines pieces
words_back [] = refl
words_back (w ∷ ws) = line_back (word_line w) (word_lines ws) (word_feed w) ∙ ap (λ (ls : List (List ℕ)). word_line w ∷ ls) (words_back ws)

-- The lines of a sheet's listing are its first line and the lines of its words.
pub lines_back : (s : List ℕ) → lines_of (listing_of s) ≡ first_line (version_of (number4 s)) (declared_of s) ∷ map word_line (all_words s)
unfolding listing_of
lines_back s =
    let first : List ℕ = first_line (version_of (number4 s)) (declared_of s) in
    line_back first (word_lines (all_words s)) (head_feed (version_of (number4 s)) (declared_of s))
    ∙ ap (λ (ls : List (List ℕ)). first ∷ ls) (words_back (all_words s))
