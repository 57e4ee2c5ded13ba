-- A sheet: its header, its words, and the reasons for which it is refused, as one ordered table (document 01, 'Sheets and words' and
-- 'Reasons given'; Idle is document 02's, request 5).
use Rattle.std.specs.Prelude.{◌≡◌, List, [], ◌∷◌, ◌++◌, Bool, false, ◌||◌, ℕ, zero, suc, ◌+◌, ◌-◌, ◌*◌, ◌/◌, ◌%◌, ◌^◌, ◌<◌, ◌≤◌, length, get_or, take, drop, eqb, ltb, leb, Option, Some, None}
use Rattle.bits.specs.Bits.{bytes4}
use Rattle.reasons.specs.Reasons.{Row, ◌gives◌at◌, Check, first_of, rows_by}
use Rattle.reasons.specs.declared.Reason.TheVariants.{Opcode, Short, Version, Header, Length, File, Spare, Register, Start, Idle}
use Rattle.chip.specs.declared.Word.{Word}
use Rattle.sheet.specs.declared.Which.{Which}
use Rattle.sheet.specs.declared.Which.TheVariants.{Main, Handler}
use Rattle.chip.specs.Single.{lacks_page}
use Rattle.packing.specs.Packing.{number6, fields_of, spare_of, some, register_fields, left_idle, differ, InRange}
use Rattle.packing.specs.Registers.{names_all}

-- ---- the header: four bytes as one number of 32 bits
abbrev pub number4 : List ℕ → ℕ
number4 s = bytes4 (get_or s 0 0) (get_or s 1 0) (get_or s 2 0) (get_or s 3 0)

-- version 4, word count 12, register count 7, zero 9
abbrev pub version_of : ℕ → ℕ
version_of h = h / 2 ^ 28

abbrev pub count_of : ℕ → ℕ
count_of h = h / 2 ^ 16 % 4096

abbrev pub registers_of : ℕ → ℕ
registers_of h = h / 2 ^ 9 % 128

abbrev pub zeros_of : ℕ → ℕ
zeros_of h = h % 512

-- of a whole sheet: its words, and the registers that it declares
unfoldable pub words_of : List ℕ → ℕ
words_of s = count_of (number4 s)

unfoldable pub declared_of : List ℕ → ℕ
declared_of s = registers_of (number4 s)

-- ---- the words: six bytes each, after the header
abbrev pub part_of : List ℕ → ℕ → List ℕ
part_of s k = take 6 (drop (4 + 6 * k) s)

unfoldable pub number_at : List ℕ → ℕ → ℕ
number_at s k = number6 (part_of s k)

abbrev pub word_at : List ℕ → ℕ → Word
word_at s k = fields_of (number_at s k)

-- n words from word k on
unfoldable pub words_from : List ℕ → ℕ → ℕ → List Word
words_from s k zero = []
words_from s k (suc n) = word_at s k ∷ words_from s (k + 1) n

-- all of them
abbrev pub all_words : List ℕ → List Word
all_words s = words_from s 0 (words_of s)

-- the registers that they name, as a set
abbrev pub names_in : List ℕ → ℕ
names_in s = names_all (all_words s)

-- The executions of a sheet, one after another: each word once. Start, allowance, boundaries and counts are positions in this list; a place is
-- a word's number.
unfoldable pub executions_of : List ℕ → List Word
executions_of s = all_words s

-- from one position up to another
abbrev pub between : ℕ → ℕ → List Word → List Word
between «from» to ws = take (to - «from») (drop «from» ws)

-- one of two sheets
abbrev pub sheet_of : Which → List ℕ → List ℕ → List ℕ
sheet_of Main m h = m
sheet_of Handler m h = h

-- ---- conditions of the reasons
-- Header: zero bits set, or register count 0 or above 64
abbrev pub bad_header : ℕ → Bool
bad_header h = differ (zeros_of h) 0 || eqb (registers_of h) 0 || ltb 64 (registers_of h)

-- File: fewer registers lent than declared; a call that lends no file skips it
abbrev pub fewer : Option ℕ → ℕ → Bool
fewer None n = false
fewer (Some lent) n = ltb lent n

-- Start: start above the executions; a call that takes no start skips it
abbrev pub above : Option ℕ → ℕ → Bool
above None n = false
above (Some start) n = ltb n start

-- ---- the table
-- word k, whose number is v, of a sheet of n registers: 8, 17, 1, 9
abbrev pub number_rows : ℕ → ℕ → ℕ → List Row
number_rows v n k =
    (differ (spare_of v) 0 gives Spare at k)
    ∷ (left_idle (fields_of v) gives Idle at k)
    ∷ (lacks_page (fields_of v).opcode gives Opcode at k)
    ∷ (some (leb n) (register_fields (fields_of v)) gives Register at k)
    ∷ []

unfoldable pub word_rows : List ℕ → ℕ → ℕ → List Row
word_rows s n k = number_rows (number_at s k) n k

-- a header h by itself: 4, 5
abbrev pub opening_rows : ℕ → List Row
opening_rows h = (differ (version_of h) 1 gives Version at 0) ∷ (bad_header h gives Header at 0) ∷ []

-- len bytes whose header is h, with so many bytes beside the sheet for each register that it declares: 6, 7
abbrev pub size_rows : ℕ → ℕ → ℕ → Option ℕ → List Row
size_rows beside len h file =
    (differ len (4 + 6 * count_of h + beside * registers_of h) gives Length at 0)
    ∷ (fewer file (registers_of h) gives File at 0)
    ∷ []

-- both: 4, 5, 6, 7
abbrev pub head_rows : ℕ → ℕ → ℕ → Option ℕ → List Row
head_rows beside len h file = opening_rows h ++ size_rows beside len h file

-- 10, of a sheet of n executions
abbrev pub start_rows : Option ℕ → ℕ → List Row
start_rows start n = (above start n gives Start at 0) ∷ []

-- 3 to 7, then words in order, in each 8, 17, 1, 9; then 10
unfoldable pub rows_beside : ℕ → List ℕ → Option ℕ → Option ℕ → List Row
rows_beside beside s file start =
    (ltb (length s) 4 gives Short at 0)
    ∷ (head_rows beside (length s) (number4 s) file
    ++ (rows_by (word_rows s (declared_of s)) 0 (words_of s)
    ++ start_rows start (length (executions_of s))))

unfoldable pub check_beside : ℕ → List ℕ → Option ℕ → Option ℕ → Check
check_beside beside s file start = first_of (rows_beside beside s file start)

-- a sheet by itself
abbrev pub sheet_rows : List ℕ → Option ℕ → Option ℕ → List Row
sheet_rows s file start = rows_beside 0 s file start

abbrev pub check_of : List ℕ → Option ℕ → Option ℕ → Check
check_of s file start = check_beside 0 s file start

-- a sheet with the registers that it declares after it, four bytes each
abbrev pub input_of : List ℕ → Check
input_of x = check_beside 4 x None None

-- ---- what a sheet that passed has
-- a word that can be run on n registers
pub record WordReady (n : ℕ) (w : Word) : Type 0 where
  pub not_idle : left_idle w ≡ false
  pub page : lacks_page w.opcode ≡ false
  pub range : InRange w
  pub a : w.a < n
  pub b : w.b < n
  pub y : w.y < n

-- a sheet that can be run on a file of n registers
pub record Ready (s : List ℕ) (n : ℕ) : Type 0 where
  pub long : 4 ≤ length s
  pub whole : 4 + 6 * words_of s ≤ length s
  pub some : 0 < declared_of s
  pub few : declared_of s ≤ 64
  pub file : declared_of s ≤ n
  pub word : (k : ℕ) → k < words_of s → WordReady (declared_of s) (word_at s k)
