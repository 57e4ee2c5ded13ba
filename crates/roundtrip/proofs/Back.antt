-- A line of the listing says what it was made from: a word's line that word, the first line its two numbers.
use mathlib.Core.Path.{◌≡◌, refl, sym, ap, ◌∙◌}
use mathlib.Core.List.{List, [], ◌∷◌, ◌++◌, map, append-nil, append_assoc}
use mathlib.Core.Bool.{Bool, true, false, not, ◌&&◌, ◌||◌, true≢false}
use Prim.Native.Nat.{ℕ, zero, suc, ◌/◌, ◌%◌, ◌^◌, ◌-◌, ◌<◌}
use native.Mathlib.Omega.{arith}
use borrow.Author.Tests.{eqb-true, eq-eqb, not-true}
use lib.ListN.{length, drop, replicate}
use lib.Seq.{drop-append_seam}
use lib.Dec.{eqb}
use Rattle.text.specs.Ascii.{ascii, space, same}
use Rattle.text.specs.Text.{digit_of, decimal_of}
use Rattle.chip.specs.declared.Word.{Word}
use Rattle.chip.specs.Single.{lacks_page}
use Rattle.mnemonics.specs.Mnemonics.{mnemonic_of, in_column}
use Rattle.text.proofs.Same.{and_left, and_right, same_itself, same_true}
use Rattle.mnemonics.proofs.Mnemonics.{below, at_each, at-page, at_mnemonic, no_bytes, named_exactly}
use Rattle.mnemonics.proofs.Columns.{mnemonic_short}
use Rattle.packing.specs.Packing.{some, InRange}
use Rattle.listing.specs.Lines.{numbers_of, named, switches_of, word_line, first_line}
use Rattle.std.specs.Prelude.{Option, Some, None}
use Rattle.grammar.specs.Grammar.{capital, parts_of, filled, number_in, starts_with, labelled, opcode_of, offered, head_by, head_of, line_of, head_in, word_in}
use Rattle.roundtrip.proofs.Pieces.{none-append, map-append, gap, Parts, part, blanks, spaced, parts_back}
use Rattle.roundtrip.proofs.Pieces.Parts.{none, more}

-- ---- numbers: what holds of so few is computed at each
-- what was found is the number n
abbrev is_number : ℕ → Option ℕ → Bool
is_number n (Some m) = eqb m n
is_number n None = false

is_number_lem : (n : ℕ) (f : Option ℕ) → is_number n f ≡ true → f ≡ Some n
is_number_lem n (Some m) h = ap Some (eqb-true m n h)
is_number_lem n None h = absurd (true≢false (sym h))

-- k digits say their number again
abbrev digits_say : ℕ → ℕ → Bool
digits_say k n = is_number n (number_in (decimal_of k n))

one-digit : below (digits_say 1) 10 ≡ true
unfolding digit_of
one-digit = refl

two_digits : below (digits_say 2) 100 ≡ true
unfolding digit_of
two_digits = refl

-- a digit is no gap, and its own capital
abbrev plain_digit : ℕ → Bool
plain_digit d = not (gap (digit_of d)) && eqb (capital (digit_of d)) (digit_of d)

plain_digits : below plain_digit 10 ≡ true
unfolding digit_of
plain_digits = refl

module _ (d : ℕ) (h : d < 10) where
  digit_test : plain_digit d ≡ true
  digit_test = at_each plain_digit 10 plain_digits d h

  digit-gap : gap (digit_of d) ≡ false
  digit-gap = not-true (gap (digit_of d)) (and_left (not (gap (digit_of d))) (eqb (capital (digit_of d)) (digit_of d)) digit_test)

  digit-capital : capital (digit_of d) ≡ digit_of d
  digit-capital =
      eqb-true (capital (digit_of d)) (digit_of d) (and_right (not (gap (digit_of d))) (eqb (capital (digit_of d)) (digit_of d)) digit_test)

-- so is every number in digits
decimal-gap : (k n : ℕ) → some gap (decimal_of k n) ≡ false
decimal-gap zero n = refl
decimal-gap (suc k) n = rw (digit-gap (n / 10 ^ k % 10) (omega arith)) (decimal-gap k n)

decimal-capital : (k n : ℕ) → map capital (decimal_of k n) ≡ decimal_of k n
decimal-capital zero n = refl
decimal-capital (suc k) n = λ i. digit-capital (n / 10 ^ k % 10) (omega arith) i ∷ decimal-capital k n i

-- ---- a number after its name
-- a part starts with what it starts with
starts : (a b : List ℕ) → starts_with a (a ++ b) ≡ true
starts [] b = refl
starts (c ∷ a) b = rw (eq-eqb c c refl) (starts a b)

module _ (name : List ℕ) (k n : ℕ) where
  abbrev field : List ℕ
  field = name ++ decimal_of k n

  -- it has no gap if its name has none
  field-gap : some gap name ≡ false → some gap field ≡ false
  field-gap h = none-append gap name (decimal_of k n) h (decimal-gap k n)

  -- it is read back, of as many numbers as the digits say again
  field_back : (m : ℕ) → below (digits_say k) m ≡ true → n < m → labelled (map capital name) (map capital field) ≡ Some n
  unfolding labelled
  field_back m t h =
      rw (
        map-append capital name (decimal_of k n),
        decimal-capital k n,
        starts (map capital name) (decimal_of k n),
        drop-append_seam (map capital name) (decimal_of k n),
      )
      (is_number_lem n (number_in (decimal_of k n)) (at_each (digits_say k) m t n h))

-- ---- mnemonics
-- a mnemonic has no gap and is in capitals
abbrev ungapped : List ℕ → Bool
ungapped m = not (some gap m)

abbrev in_capitals : List ℕ → Bool
in_capitals m = same (map capital m) m

module _ (n : ℕ) where
  pub mnemonic_gap : some gap (mnemonic_of n) ≡ false
  mnemonic_gap = not-true (some gap (mnemonic_of n)) (at_mnemonic ungapped refl n)

  mnemonic_capital : map capital (mnemonic_of n) ≡ mnemonic_of n
  mnemonic_capital = same_true (map capital (mnemonic_of n)) (mnemonic_of n) (at_mnemonic in_capitals refl n)

-- each that has a page is found at its own number
all_found : below (λ n. lacks_page n || is_number n (opcode_of (mnemonic_of n))) 128 ≡ true
unfolding lacks_page opcode_of
all_found = refl

pub opcode_back : (n : ℕ) → lacks_page n ≡ false → opcode_of (mnemonic_of n) ≡ Some n
opcode_back n p = is_number_lem n (opcode_of (mnemonic_of n)) (at-page (λ n. is_number n (opcode_of (mnemonic_of n))) all_found n p)

-- in its column it is the first part
column_back : (n : ℕ) (rest : List ℕ) → lacks_page n ≡ false → parts_of (in_column (mnemonic_of n) ++ rest) ≡ mnemonic_of n ∷ parts_of rest
column_back n rest p =
    let m : List ℕ = mnemonic_of n in
    let k : ℕ = 11 - length m in
    let e : 12 - length m ≡ suc k = omega (arith, mnemonic_short n) in
    ap parts_of (append_assoc m (replicate (12 - length m) space) rest ∙ ap (λ (j : ℕ). m ++ (replicate j space ++ rest)) e)
    ∙ part m (replicate k space ++ rest) (mnemonic_gap n)
    ∙ ap (λ (l : List ℕ). filled (l ∷ []) ++ parts_of (replicate k space ++ rest)) (mnemonic_capital n)
    ∙ ap (λ (l : List (List ℕ)). l ++ parts_of (replicate k space ++ rest)) (there m (sym (named_exactly n) ∙ p))
    ∙ ap (λ (l : List (List ℕ)). m ∷ l) (blanks k rest)
  where
    there : (m : List ℕ) → no_bytes m ≡ false → filled (m ∷ []) ≡ m ∷ []
    there [] h = absurd (true≢false h)
    there (c ∷ m) h = refl

-- ---- switches
-- the name of one that is on
abbrev called : ℕ → List ℕ → List (List ℕ)
called zero name = []
called (suc n) name = name ∷ []

-- of those that are on, of switches one after another
abbrev shown : List (ℕ × List ℕ) → List (List ℕ)
shown [] = []
shown (s ∷ l) = called s.0 s.1 ++ shown l

-- a word's, with the names that the listing has for them
abbrev switches : Word → List (ℕ × List ℕ)
switches w =
    (w.write, ascii "write")
    ∷ (w.select, ascii "macro-select")
    ∷ (w.carry, ascii "macro-carry")
    ∷ (w.link, ascii "macro-link")
    ∷ (w.borrow, ascii "borrow")
    ∷ []

-- as text
abbrev written : List (ℕ × List ℕ) → List ℕ
written [] = []
written (s ∷ l) = named s.0 (space ∷ s.1) ++ written l

shown_text : (l : List (ℕ × List ℕ)) → written l ≡ spaced (shown l)
shown_text [] = refl
shown_text (s ∷ l) = ap (λ (r : List ℕ). named s.0 (space ∷ s.1) ++ r) (shown_text l) ∙ go s.0 s.1
  where
    go : (n : ℕ) (name : List ℕ) → named n (space ∷ name) ++ spaced (shown l) ≡ spaced (called n name ++ shown l)
    go zero name = refl
    go (suc n) name = refl

-- the lister's text of a word's switches is those names, each after a blank
switches_text : (w : Word) → switches_of w ≡ spaced (shown (switches w))
unfolding switches_of
switches_text w =
    regroup (named w.write (ascii " write")) (named w.select (ascii " macro-select")) (named w.carry (ascii " macro-carry"))
    (named w.link (ascii " macro-link")) (named w.borrow (ascii " borrow"))
    ∙ shown_text (switches w)
  where
    regroup : (a b c d e : List ℕ) → a ++ b ++ c ++ d ++ e ≡ a ++ (b ++ (c ++ (d ++ (e ++ []))))
    regroup a b c d e = simp (append_assoc, append-nil)

-- in capitals
abbrev capitals : List (ℕ × List ℕ) → List (ℕ × List ℕ)
capitals [] = []
capitals (s ∷ l) = (s.0, map capital s.1) ∷ capitals l

shown-capital : (l : List (ℕ × List ℕ)) → map (map capital) (shown l) ≡ shown (capitals l)
shown-capital [] = refl
shown-capital (s ∷ l) = go s.0 s.1 ∙ ap (λ (r : List (List ℕ)). called s.0 (map capital s.1) ++ r) (shown-capital l)
  where
    go : (n : ℕ) (name : List ℕ) → map (map capital) (called n name ++ shown l) ≡ called n (map capital name) ++ map (map capital) (shown l)
    go zero name = refl
    go (suc n) name = refl

-- a switch that is off is passed over: no later one has its name
abbrev other_names : List ℕ → List (ℕ × List ℕ) → Bool
other_names name [] = true
other_names name (s ∷ l) = not (same s.1 name) && other_names name l

module _ {A : Type 0} (name : List ℕ) (go : ℕ → List (List ℕ) → A) where
  off : (l : List (ℕ × List ℕ)) → other_names name l ≡ true → offered name (shown l) go ≡ go 0 (shown l)
  off [] h = refl
  off (s ∷ l) h = at s.0 (off l (and_right (not (same s.1 name)) (other_names name l) h))
    where
      at : (n : ℕ) → offered name (shown l) go ≡ go 0 (shown l)
          → offered name (called n s.1 ++ shown l) go ≡ go 0 (called n s.1 ++ shown l)
      at zero i = i
      at (suc n) i = rw (not-true (same s.1 name) (and_left (not (same s.1 name)) (other_names name l) h)) refl

  -- one that is on or off is read so
  switch_back : (n : ℕ) (l : List (ℕ × List ℕ)) → n < 2 → other_names name l ≡ true → offered name (called n name ++ shown l) go ≡ go n (shown l)
  switch_back zero l h o = off l o
  switch_back (suc zero) l h o = rw (same_itself name) refl
  switch_back (suc (suc n)) l h o = absurd (omega arith)

-- names that can be parts: not empty, and without gaps
abbrev ungapped_name : List ℕ → Bool
ungapped_name [] = false
ungapped_name (c ∷ name) = not (some gap (c ∷ name))

abbrev ungapped_names : List (ℕ × List ℕ) → Bool
ungapped_names [] = true
ungapped_names (s ∷ l) = ungapped_name s.1 && ungapped_names l

shown_parts : (l : List (ℕ × List ℕ)) → ungapped_names l ≡ true → Parts (shown l)
shown_parts [] h = none
shown_parts (s ∷ l) h =
    go s.0 s.1 (and_left (ungapped_name s.1) (ungapped_names l) h)
    (shown_parts l (and_right (ungapped_name s.1) (ungapped_names l) h))
  where
    go : (n : ℕ) (name : List ℕ) → ungapped_name name ≡ true → Parts (shown l) → Parts (called n name ++ shown l)
    go zero name h i = i
    go (suc n) [] h i = absurd (true≢false (sym h))
    go (suc n) (c ∷ name) h i = more (not-true (some gap (c ∷ name)) h) i

-- ---- the two kinds of line
-- the parts of a word's line after its mnemonic
module _ (w : Word) where
  abbrev pub code : List ℕ
  code = field (ascii "code=") 1 w.code

  abbrev pub others : List (List ℕ)
  others =
      field (ascii "position=") 2 w.position
      ∷ field (ascii "width=") 2 w.width
      ∷ field (ascii "A=") 2 w.a
      ∷ field (ascii "B=") 2 w.b
      ∷ field (ascii "Y=") 2 w.y
      ∷ shown (switches w)

  -- which are parts
  pub line_parts : Parts (code ∷ others)
  line_parts =
      more (field-gap (ascii "code=") 1 w.code refl)
      (more (field-gap (ascii "position=") 2 w.position refl)
      (more (field-gap (ascii "width=") 2 w.width refl)
      (more (field-gap (ascii "A=") 2 w.a refl)
      (more (field-gap (ascii "B=") 2 w.b refl)
      (more (field-gap (ascii "Y=") 2 w.y refl)
      (shown_parts (switches w) refl))))))

  -- and make up the line
  pub line_text : word_line w ≡ in_column (mnemonic_of w.opcode) ++ (code ++ spaced others)
  unfolding numbers_of
  line_text =
      let m : List ℕ = in_column (mnemonic_of w.opcode) in
      append_assoc m (numbers_of w) (switches_of w) ∙ ap (λ (r : List ℕ). m ++ (numbers_of w ++ r)) (switches_text w)

  -- what they say, in capitals
  line_said : InRange w → lacks_page w.opcode ≡ false → line_of (mnemonic_of w.opcode ∷ map (map capital) (code ∷ others)) ≡ Some w
  unfolding line_of
  line_said r p =
      rw (
        opcode_back w.opcode p,
        field_back (ascii "code=") 1 w.code 10 one-digit (omega arith),
        field_back (ascii "position=") 2 w.position 100 two_digits (omega arith),
        field_back (ascii "width=") 2 w.width 100 two_digits (omega arith),
        field_back (ascii "A=") 2 w.a 100 two_digits (omega arith),
        field_back (ascii "B=") 2 w.b 100 two_digits (omega arith),
        field_back (ascii "Y=") 2 w.y 100 two_digits (omega arith),
        shown-capital (switches w),
      )
      (switch_back (ascii "WRITE") _ w.write (later 1) r.write refl
      ∙ switch_back (ascii "MACRO-SELECT") _ w.select (later 2) r.select refl
      ∙ switch_back (ascii "MACRO-CARRY") _ w.carry (later 3) r.carry refl
      ∙ switch_back (ascii "MACRO-LINK") _ w.link (later 4) r.link refl
      ∙ switch_back (ascii "BORROW") _ w.borrow (later 5) r.borrow refl)
    where
      later : ℕ → List (ℕ × List ℕ)
      later k = drop k (capitals (switches w))

-- Reading the line of a word gives the word.
pub word_back : (w : Word) → InRange w → lacks_page w.opcode ≡ false → word_in (word_line w) ≡ Some w
word_back w r p =
    ap word_in (line_text w)
    ∙ ap line_of
    (column_back w.opcode (code w ++ spaced (others w)) p
    ∙ ap (λ (ps : List (List ℕ)). mnemonic_of w.opcode ∷ ps) (parts_back (code w) (others w) (line_parts w)))
    ∙ line_said w r p

-- the same of the first line
module _ (v n : ℕ) where
  abbrev pub version : List ℕ
  version = field (ascii "version=") 1 v

  abbrev pub registers : List ℕ
  registers = field (ascii "registers=") 2 n

  pub head_parts : Parts (version ∷ registers ∷ [])
  head_parts = more (field-gap (ascii "version=") 1 v refl) (more (field-gap (ascii "registers=") 2 n refl) none)

  pub head_text : first_line v n ≡ version ++ spaced (registers ∷ [])
  unfolding first_line
  head_text = refl

  -- Reading the first line gives its two numbers.
  pub head_back : v < 10 → n < 100 → head_in (first_line v n) ≡ Some (head_by v n)
  unfolding head_of
  head_back h k =
      ap head_in head_text
      ∙ ap head_of (parts_back version (registers ∷ []) head_parts)
      ∙ rw (field_back (ascii "version=") 1 v 10 one-digit h, field_back (ascii "registers=") 2 n 100 two_digits k) refl
