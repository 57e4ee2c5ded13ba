-- The listing of a sheet (docs/LISTING.md): the text that its lister prints, the one canonical text.
use Rattle.std.specs.Prelude.{List, [], ◌∷◌, ◌++◌, ℕ, zero, suc}
use Rattle.text.specs.Text.{decimal_of}
use Rattle.text.specs.Ascii.{ascii, newline}
use Rattle.chip.specs.declared.Word.{Word}
use Rattle.sheet.specs.Sheet.{number4, version_of, declared_of, all_words}
use Rattle.mnemonics.specs.Mnemonics.{mnemonic_of, in_column}

-- byte code, position, width, A, B and Y, each after its name
unfoldable pub numbers_of : Word → List ℕ
numbers_of w =
    ascii "code=" ++ decimal_of 1 w.code
    ++ ascii " position=" ++ decimal_of 2 w.position
    ++ ascii " width=" ++ decimal_of 2 w.width
    ++ ascii " A=" ++ decimal_of 2 w.a
    ++ ascii " B=" ++ decimal_of 2 w.b
    ++ ascii " Y=" ++ decimal_of 2 w.y

-- the name of a switch that is on
abbrev pub named : ℕ → List ℕ → List ℕ
named zero name = []
named (suc n) name = name

unfoldable pub switches_of : Word → List ℕ
switches_of w =
    named w.write (ascii " write")
    ++ named w.select (ascii " macro-select")
    ++ named w.carry (ascii " macro-carry")
    ++ named w.link (ascii " macro-link")
    ++ named w.borrow (ascii " borrow")

-- the line of a word, without its line feed
abbrev pub word_line : Word → List ℕ
word_line w = in_column (mnemonic_of w.opcode) ++ numbers_of w ++ switches_of w

-- the first line: version and register count
unfoldable pub first_line : ℕ → ℕ → List ℕ
first_line version registers = ascii "version=" ++ decimal_of 1 version ++ ascii " registers=" ++ decimal_of 2 registers

-- every line ends in a line feed
abbrev pub ended : List ℕ → List ℕ
ended line = line ++ newline ∷ []

unfoldable pub word_lines : List Word → List ℕ
word_lines [] = []
word_lines (w ∷ ws) = ended (word_line w) ++ word_lines ws

-- the first line, then a line for each word
unfoldable pub listing_of : List ℕ → List ℕ
listing_of s = ended (first_line (version_of (number4 s)) (declared_of s)) ++ word_lines (all_words s)
