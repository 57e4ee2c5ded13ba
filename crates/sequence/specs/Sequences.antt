-- The sequences of words that must come out exact, as lists for w bytes, w from 1 to 4.
use Rattle.std.specs.Prelude.{◌≢◌, List, [], ◌∷◌, ◌++◌, ℕ, zero, suc, ◌-◌, ◌*◌, ◌/◌, ◌%◌}
use Rattle.chip.specs.declared.Word.{Word}

-- the fields that a multiply or divide word does not look at: anything may stand in them
pub record Ignored : Type 0 where
  pub position : ℕ
  pub width : ℕ
  pub carry : ℕ
  pub link : ℕ

-- a word of such a sequence, with Y to register y where write is 1: A is register a, B is register b; macro select and borrow are 0
abbrev pub sequence_word : ℕ → ℕ → ℕ → ℕ → ℕ → ℕ → Ignored → Word
sequence_word code a b y write opcode i =
    record {
      opcode = opcode;
      code = code;
      position = i.position;
      width = i.width;
      a = a;
      b = b;
      y = y;
      write = write;
      select = 0;
      carry = i.carry;
      link = i.link;
      borrow = 0;
    }

-- one that writes Y back to B
abbrev pub word_of : ℕ → ℕ → ℕ → ℕ → Ignored → Word
word_of code a b opcode i = sequence_word code a b b 1 opcode i

-- one that writes nothing
abbrev pub looking : ℕ → ℕ → ℕ → ℕ → Ignored → Word
looking code a b opcode i = sequence_word code a b 0 0 opcode i

-- a word for each of the opcodes, with the same registers and byte code in every word; the ignored fields of each word as they come
unfoldable pub words_of : ℕ → ℕ → ℕ → List ℕ → (ℕ → Ignored) → List Word
words_of code a b [] ignored = []
words_of code a b (opcode ∷ opcodes) ignored = word_of code a b opcode (ignored 0) ∷ words_of code a b opcodes (λ k. ignored (suc k))

-- an opcode k times, then others
unfoldable pub times : ℕ → ℕ → List ℕ → List ℕ
times zero opcode opcodes = opcodes
times (suc k) opcode opcodes = opcode ∷ times k opcode opcodes

-- the number of bits of w bytes, and their byte code: four bytes are 00
abbrev pub bits_in : ℕ → ℕ
bits_in w = 8 * w

abbrev pub code_of : ℕ → ℕ
code_of w = w % 4

-- one UMULFIRST, n / 2 - 1 UMULSTEP, one UMULLAST
abbrev pub multiply_opcodes : ℕ → List ℕ
multiply_opcodes w = 0x5b ∷ times (bits_in w / 2 - 1) 0x5c (0x5d ∷ [])

abbrev pub multiply_words : ℕ → ℕ → ℕ → (ℕ → Ignored) → List Word
multiply_words w a b ignored = words_of (code_of w) a b (multiply_opcodes w) ignored

-- one UDIVFIRST, n - 1 UDIVSTEP, one UDIVLAST, then REMCORR
abbrev pub divide_opcodes : ℕ → List ℕ
divide_opcodes w = 0x4f ∷ times (bits_in w - 1) 0x54 (0x55 ∷ 0x58 ∷ [])

abbrev pub divide_words : ℕ → ℕ → ℕ → (ℕ → Ignored) → List Word
divide_words w a b ignored = words_of (code_of w) a b (divide_opcodes w) ignored

-- ---- signed
-- one SMULFIRST, n / 2 - 1 SMULSTEP; there is no last word (M48)
abbrev pub signed_multiply_opcodes : ℕ → List ℕ
signed_multiply_opcodes w = 0x5f ∷ times (bits_in w / 2 - 1) 0x5e []

abbrev pub signed_multiply_words : ℕ → ℕ → ℕ → (ℕ → Ignored) → List Word
signed_multiply_words w a b ignored = words_of (code_of w) a b (signed_multiply_opcodes w) ignored

-- the registers of a signed division: D is the divisor's, R the remainder's, K the quotient's, and O is zero, which may be the quotient's too
pub record Registers : Type 0 where
  pub D : ℕ
  pub R : ℕ
  pub K : ℕ
  pub O : ℕ

-- the remainder's register is none of the others, and the quotient's is not the divisor's
pub record Different (r : Registers) : Type 0 where
  pub divisor_remainder : r.D ≢ r.R
  pub divisor_quotient : r.D ≢ r.K
  pub remainder-quotient : r.R ≢ r.K
  pub zero-remainder : r.O ≢ r.R

-- a word that looks at a place of the status register alone, and writes nothing
abbrev pub on_status : ℕ → ℕ → ℕ → ℕ → Ignored → Word
on_status place a b opcode i = looking 0 a b opcode (record { position = place; width = i.width; carry = i.carry; link = i.link })

-- what stands in the words after SDIVLAST1 where they do not look: registers for A and B besides the ignored fields
pub record Unread : Type 0 where
  pub a : ℕ
  pub b : ℕ
  pub ignored : Ignored

-- one SDIVFIRST, n - 1 SDIVSTEP, one SDIVLAST1, with the divisor at A and the remainder at B
abbrev pub signed_divide_opcodes : ℕ → List ℕ
signed_divide_opcodes w = 0x4e ∷ times (bits_in w - 1) 0x50 (0x51 ∷ [])

-- Both corrections, where table 11-2 jumps past them (M48). They are made where Z EXOR N EXOR S is 1, which misses a zero remainder of a negative
-- dividend: so N is set there first. Then the quotient, from Q, is corrected in a register of its own, and the remainder.
abbrev pub correction_words : ℕ → Registers → (ℕ → Unread) → List Word
correction_words w r free =
    -- SDIVLAST2 with zero for the divisor: Z is 1 where the dividend is negative and the remainder zero
    looking (code_of w) r.O r.R 0x5a (free 0).ignored
    -- RSTBIT-STAT: V is 0. EXTBIT-STAT, SIGNED LE: L is 1 where N or Z is
    ∷ on_status 18 (free 1).a (free 1).b 0x6d (free 1).ignored
    ∷ on_status 15 (free 2).a (free 2).b 0x7e (free 2).ignored
    -- DN1-LF-B: N is L
    ∷ looking (code_of w) (free 3).a r.R 0x29 (free 3).ignored
    -- SDIVLAST2: Z is 1 in the special case of its page
    ∷ looking (code_of w) r.D r.R 0x5a (free 4).ignored
    -- PASS-Q, QUOCORR, REMCORR
    ∷ word_of (code_of w) (free 5).a r.K 0x05 (free 5).ignored
    ∷ word_of (code_of w) (free 6).a r.K 0x59 (free 6).ignored
    ∷ word_of (code_of w) r.D r.R 0x58 (free 7).ignored
    ∷ []

-- a dividend of 2 n bits, its high half in the remainder's register and its low half in Q
abbrev pub signed_divide_words : ℕ → Registers → (ℕ → Ignored) → (ℕ → Unread) → List Word
signed_divide_words w r ignored free = words_of (code_of w) r.D r.R (signed_divide_opcodes w) ignored ++ correction_words w r free

-- a dividend of n bits in register x: LOADQ-A takes it to Q, and SIGN its sign to the remainder's register
abbrev pub single_divide_words : ℕ → ℕ → Registers → Unread → Unread → (ℕ → Ignored) → (ℕ → Unread) → List Word
single_divide_words w x r load sign ignored free =
    looking (code_of w) x load.b 0x06 load.ignored
    ∷ word_of (code_of w) sign.a r.R 0x3d sign.ignored
    ∷ signed_divide_words w r ignored free
