-- The handler's form (document 01, 'The handler's form'), as the table of reason 11.
use Rattle.std.specs.Prelude.{List, [], ◌∷◌, ◌++◌, Bool, ◌||◌, ℕ, ◌-◌, eqb, ltb, None}
use Rattle.std.specs.Int.Bits.{bit_or}
use Rattle.bits.specs.Bits.{pick}
use Rattle.reasons.specs.Reasons.{Check, Row, ◌gives◌at◌, first_of, rows_by}
use Rattle.reasons.specs.declared.Reason.TheVariants.{Form}
use Rattle.chip.specs.declared.Word.{Word}
use Rattle.packing.specs.Packing.{differ}
use Rattle.packing.specs.Registers.{only, common, sources_of, destination_of, names_of}
use Rattle.sheet.specs.Sheet.{word_at, words_of, sheet_rows}

-- s and q are the Y fields of words 0 and 1 as they stand, written or not, even where those are at fault
abbrev pub saves_status : List ℕ → ℕ
saves_status h = (word_at h 0).y

abbrev pub saves_q : List ℕ → ℕ
saves_q h = (word_at h 1).y

-- the set of the two
abbrev pub saves : ℕ → ℕ → ℕ
saves s q = bit_or (only s) (only q)

-- not a word of this opcode and write, with byte code 00 and macro select, carry, link and borrow 0. Position and width are free
unfoldable pub not_fixed : Word → ℕ → ℕ → Bool
not_fixed w opcode write =
    differ w.opcode opcode || differ w.code 0 || differ w.write write
    || differ w.select 0 || differ w.carry 0 || differ w.link 0 || differ w.borrow 0

-- ---- what is a fault of a word, where s and q are saved
-- word 0: PASS-STAT, writes Y to s
unfoldable pub saving_status_fault : ℕ → Word → Bool
saving_status_fault saved w = not_fixed w 0x04 1 || common (sources_of w) saved

-- word 1: PASS-Q, writes Y to q; s and q are two different registers
unfoldable pub saving_q_fault : ℕ → ℕ → ℕ → Word → Bool
saving_q_fault saved s q w = not_fixed w 0x05 1 || common (sources_of w) saved || eqb s q

-- the body: no word names s or q
unfoldable pub body_fault : ℕ → Word → Bool
body_fault saved w = common (names_of w) saved

-- word 2: LOADQ-A, no write. Word 3: LDSTAT-A, no write
unfoldable pub loading_fault : ℕ → ℕ → Word → Bool
loading_fault opcode saved w = not_fixed w opcode 0 || body_fault saved w

-- last but one: LOADQ-A, A is q, no write. Last: LDSTAT-A, A is s, no write
unfoldable pub giving_back_fault : ℕ → ℕ → ℕ → Word → Bool
giving_back_fault opcode back saved w = not_fixed w opcode 0 || differ w.a back || common (bit_or (only w.b) (destination_of w)) saved

-- word k of n
unfoldable pub fault_at : ℕ → ℕ → ℕ → ℕ → Word → Bool
fault_at n s q k w =
    pick (eqb k 0) (saving_status_fault (saves s q) w)
    (pick (eqb k 1) (saving_q_fault (saves s q) s q w)
    (pick (eqb k 2) (loading_fault 0x06 (saves s q) w)
    (pick (eqb k 3) (loading_fault 0x1c (saves s q) w)
    (pick (eqb (n - k) 2) (giving_back_fault 0x06 q (saves s q) w)
    (pick (eqb (n - k) 1) (giving_back_fault 0x1c s (saves s q) w)
    (body_fault (saves s q) w))))))

-- ---- the table: 11
abbrev pub form_row : List ℕ → ℕ → ℕ → ℕ → ℕ → List Row
form_row h n s q k = (fault_at n s q k (word_at h k) gives Form at k) ∷ []

-- six words or more, and each as the form has it
abbrev pub form_rows : List ℕ → List Row
form_rows h = (ltb (words_of h) 6 gives Form at 0) ∷ rows_by (form_row h (words_of h) (saves_status h) (saves_q h)) 0 (words_of h)

unfoldable pub form_of : List ℕ → Check
form_of h = first_of (form_rows h)

-- a sheet handed in as a handler: its own reasons, then 11
abbrev pub handler_rows : List ℕ → List Row
handler_rows h = sheet_rows h None None ++ form_rows h

unfoldable pub handler_of : List ℕ → Check
handler_of h = first_of (handler_rows h)
