-- The grammar of a listing (docs/LISTING.md): which lines belong to it, and what they say.
use Rattle.std.specs.Prelude.{List, [], ◌∷◌, map, Bool, true, false, ◌&&◌, ◌||◌, ℕ, ◌+◌, ◌-◌, ◌*◌, length, drop, eqb, Option, Some, None, option_and_then, position}
use Rattle.std.specs.Char.{is_ascii_digit, to_ascii_uppercase}
use Prim.Native.String.{String}
use Rattle.text.specs.Ascii.{ascii, newline, same}
use Rattle.mnemonics.specs.Mnemonics.{mnemonics}
use Rattle.chip.specs.declared.Word.{Word}
use Rattle.grammar.specs.declared.Head.{Head}

-- one of two
abbrev pub choose : {A : Type 0} → Bool → A → A → A
choose true a b = a
choose false a b = b

-- ---- bytes
-- space, tab, carriage return
abbrev pub blank : ℕ → Bool
blank c = eqb c 32 || eqb c 9 || eqb c 13

-- a small letter counts as its capital
abbrev pub capital : ℕ → ℕ
capital c = to_ascii_uppercase c

-- ---- lines and parts
-- a byte in front of the first of some pieces
abbrev pub onto : ℕ → List (List ℕ) → List (List ℕ)
onto c [] = (c ∷ []) ∷ []
onto c (p ∷ ps) = (c ∷ p) ∷ ps

-- the pieces of a text, each ended by a byte that passes the test; the last one may lack it
unfoldable pub pieces : (ℕ → Bool) → List ℕ → List (List ℕ)
pieces ends [] = []
pieces ends (c ∷ cs) = choose (ends c) ([] ∷ pieces ends cs) (onto c (pieces ends cs))

-- the lines of a text: each ends in a line feed
abbrev pub lines_of : List ℕ → List (List ℕ)
lines_of text = pieces (eqb newline) text

-- those that are not empty
abbrev pub filled : List (List ℕ) → List (List ℕ)
filled [] = []
filled ([] ∷ ps) = filled ps
filled ((c ∷ p) ∷ ps) = (c ∷ p) ∷ filled ps

-- the parts of a line: what stands between blanks, in capitals
unfoldable pub parts_of : List ℕ → List (List ℕ)
parts_of line = filled (pieces blank (map capital line))

-- ---- one part
-- one or two decimal digits
abbrev pub number_in : List ℕ → Option ℕ
number_in [] = None
number_in (d ∷ []) = choose (is_ascii_digit d) (Some (d - 48)) None
number_in (d ∷ e ∷ []) = choose (is_ascii_digit d && is_ascii_digit e) (Some (10 * (d - 48) + (e - 48))) None
number_in (d ∷ e ∷ f ∷ l) = None

abbrev pub starts_with : List ℕ → List ℕ → Bool
starts_with [] p = true
starts_with (c ∷ cs) [] = false
starts_with (c ∷ cs) (d ∷ ds) = eqb c d && starts_with cs ds

-- a number after its name
unfoldable pub labelled : List ℕ → List ℕ → Option ℕ
labelled name part = choose (starts_with name part) (number_in (drop (length name) part)) None

-- the number of a mnemonic: its place in the table
unfoldable pub opcode_of : List ℕ → Option ℕ
opcode_of [] = None
opcode_of (c ∷ part) = position (λ (m : String). same (c ∷ part) (ascii m)) mnemonics

-- ---- one part after another; a line that lacks one is outside the grammar
-- the next part, which has to be there, as a number
abbrev pub taking : {A : Type 0} → (List ℕ → Option ℕ) → List (List ℕ) → (ℕ → List (List ℕ) → Option A) → Option A
taking f [] go = None
taking f (p ∷ ps) go = option_and_then (λ n. go n ps) (f p)

-- the next part, if it is this name: 1, else 0 and the part is still to come
abbrev pub offered : {A : Type 0} → List ℕ → List (List ℕ) → (ℕ → List (List ℕ) → A) → A
offered name [] go = go 0 []
offered name (p ∷ ps) go = choose (same p name) (go 1 ps) (go 0 (p ∷ ps))

-- no part is left
abbrev pub closing : {A : Type 0} → List (List ℕ) → A → Option A
closing [] a = Some a
closing (p ∷ ps) a = None

-- ---- the two kinds of line
-- the first line: version and register count
abbrev pub head_by : ℕ → ℕ → Head
head_by version registers = record { version = version; registers = registers }

unfoldable pub head_of : List (List ℕ) → Option Head
head_of ps₀ =
    taking (labelled (ascii "VERSION=")) ps₀ λ version ps₁.
    taking (labelled (ascii "REGISTERS=")) ps₁ λ registers ps₂.
    closing ps₂ (head_by version registers)

-- a word's line: its mnemonic; byte code, position, width, A, B and Y, each after its name; the switches that are on
unfoldable pub line_of : List (List ℕ) → Option Word
line_of ps₀ =
    taking opcode_of ps₀ λ opcode ps₁.
    taking (labelled (ascii "CODE=")) ps₁ λ code ps₂.
    taking (labelled (ascii "POSITION=")) ps₂ λ position ps₃.
    taking (labelled (ascii "WIDTH=")) ps₃ λ width ps₄.
    taking (labelled (ascii "A=")) ps₄ λ a ps₅.
    taking (labelled (ascii "B=")) ps₅ λ b ps₆.
    taking (labelled (ascii "Y=")) ps₆ λ y ps₇.
    offered (ascii "WRITE") ps₇ λ write ps₈.
    offered (ascii "MACRO-SELECT") ps₈ λ select ps₉.
    offered (ascii "MACRO-CARRY") ps₉ λ carry ps₁₀.
    offered (ascii "MACRO-LINK") ps₁₀ λ link ps₁₁.
    offered (ascii "BORROW") ps₁₁ λ borrow ps₁₂.
    closing ps₁₂
    (record {
      opcode = opcode;
      code = code;
      position = position;
      width = width;
      a = a;
      b = b;
      y = y;
      write = write;
      select = select;
      carry = carry;
      link = link;
      borrow = borrow;
    })

-- what a line says as the first one, and as a word's
abbrev pub head_in : List ℕ → Option Head
head_in line = head_of (parts_of line)

abbrev pub word_in : List ℕ → Option Word
word_in line = line_of (parts_of line)
