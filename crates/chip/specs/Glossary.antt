-- The instruction set glossary: the page of each opcode number, and what a whole word does.
use Rattle.std.specs.Prelude.{List, [], ◌∷◌, ℕ, get_or}
use Rattle.machine.specs.declared.Inputs.{Inputs}
use Rattle.machine.specs.declared.Outputs.{Outputs}
use Rattle.machine.specs.Inputs.{leaving}
use Rattle.movement.specs.DataMovement.{ZERO-EXTA, ZERO-EXTB, SIGN-EXTA, SIGN-EXTB, PASS-STAT, PASS-Q, LOADQ-A, LOADQ-B, MERGEA-B, MERGEB-A, LDSTAT-A, LDSTAT-B}
use Rattle.movement.specs.Logical.{NOT-A, NOT-B, ZERO, SIGN, OR, XOR, AND, XNOR}
use Rattle.movement.specs.Prioritize.{PRIOR-A, PRIOR-B}
use Rattle.shifts.specs.SingleBit.{DN1-0F-A, DN1-0F-B, DN1-0F-AQ, DN1-0F-BQ, DN1-1F-A, DN1-1F-B, DN1-1F-AQ, DN1-1F-BQ, DN1-LF-A, DN1-LF-B, DN1-LF-AQ, DN1-LF-BQ, DN1-AR-A, DN1-AR-B, DN1-AR-AQ, DN1-AR-BQ, UP1-0F-A, UP1-0F-B, UP1-0F-AQ, UP1-0F-BQ, UP1-1F-A, UP1-1F-B, UP1-1F-AQ, UP1-1F-BQ, UP1-LF-A, UP1-LF-B, UP1-LF-AQ, UP1-LF-BQ}
use Rattle.arithmetic.specs.Arithmetic.{NEG-A, NEG-B, DECR-A, DECR-B, INCR-A, INCR-B, DECR2-A, DECR2-B, INCR2-A, INCR2-B, DECR4-A, DECR4-B, INCR4-A, INCR4-B, ADD, ADDC, SUB, SUBC, SUBR, SUBRC}
use Rattle.arithmetic.specs.Decimal.{SUM-CORR-A, SUM-CORR-B, DIFF-CORR-A, DIFF-CORR-B}
use Rattle.multiply.specs.Multiply.{UMULFIRST, UMULSTEP, UMULLAST, SMULSTEP, SMULFIRST}
use Rattle.divide.specs.Divide.{SDIVFIRST, UDIVFIRST, SDIVSTEP, SDIVLAST1, MPDIVSTEP1, MPSDIVSTEP3, UDIVSTEP, UDIVLAST, MPDIVSTEP2, MPUDIVSTP3, REMCORR, QUOCORR, SDIVLAST2}
use Rattle.fields.specs.NBit.{NB-SN-SHA, NB-SN-SHB, NB-0F-SHA, NB-0F-SHB, NBROT-A, NBROT-B}
use Rattle.fields.specs.BitManipulation.{EXTBIT-A, EXTBIT-B, SETBIT-A, SETBIT-B, RSTBIT-A, RSTBIT-B, SETBIT-STAT, RSTBIT-STAT, EXTBIT-STAT}
use Rattle.fields.specs.Field.{NOTF-AL-B, PASSF-AL-B, NOTF-A, NOTF-AL-A, PASSF-A, PASSF-AL-A, ORF-A, ORF-AL-A, XORF-A, XORF-AL-A, ANDF-A, ANDF-AL-A, EXTF-A, EXTF-B, EXTF-AB, EXTF-BA, PASS-MASK}

-- what chapter 2 has for a number: the operation that its page describes, or no page (M46)
pub data Page : Type 0 where
  page : (Inputs → Outputs) → Page
  no_page : Page

-- 128 entries, four to a line, each line under its first number
abbrev pub glossary : List Page
glossary =
    -- 00
    page ZERO-EXTA ∷ page ZERO-EXTB ∷ page SIGN-EXTA ∷ page SIGN-EXTB ∷
    page PASS-STAT ∷ page PASS-Q ∷ page LOADQ-A ∷ page LOADQ-B ∷
    page NOT-A ∷ page NOT-B ∷ page NEG-A ∷ page NEG-B ∷
    page PRIOR-A ∷ page PRIOR-B ∷ page MERGEA-B ∷ page MERGEB-A ∷
    -- 10
    page DECR-A ∷ page DECR-B ∷ page INCR-A ∷ page INCR-B ∷
    page DECR2-A ∷ page DECR2-B ∷ page INCR2-A ∷ page INCR2-B ∷
    page DECR4-A ∷ page DECR4-B ∷ page INCR4-A ∷ page INCR4-B ∷
    page LDSTAT-A ∷ page LDSTAT-B ∷ no_page ∷ no_page ∷
    -- 20
    page DN1-0F-A ∷ page DN1-0F-B ∷ page DN1-0F-AQ ∷ page DN1-0F-BQ ∷
    page DN1-1F-A ∷ page DN1-1F-B ∷ page DN1-1F-AQ ∷ page DN1-1F-BQ ∷
    page DN1-LF-A ∷ page DN1-LF-B ∷ page DN1-LF-AQ ∷ page DN1-LF-BQ ∷
    page DN1-AR-A ∷ page DN1-AR-B ∷ page DN1-AR-AQ ∷ page DN1-AR-BQ ∷
    -- 30
    page UP1-0F-A ∷ page UP1-0F-B ∷ page UP1-0F-AQ ∷ page UP1-0F-BQ ∷
    page UP1-1F-A ∷ page UP1-1F-B ∷ page UP1-1F-AQ ∷ page UP1-1F-BQ ∷
    page UP1-LF-A ∷ page UP1-LF-B ∷ page UP1-LF-AQ ∷ page UP1-LF-BQ ∷
    page ZERO ∷ page SIGN ∷ page OR ∷ page XOR ∷
    -- 40
    page AND ∷ page XNOR ∷ page ADD ∷ page ADDC ∷
    page SUB ∷ page SUBC ∷ page SUBR ∷ page SUBRC ∷
    page SUM-CORR-A ∷ page SUM-CORR-B ∷ page DIFF-CORR-A ∷ page DIFF-CORR-B ∷
    no_page ∷ no_page ∷ page SDIVFIRST ∷ page UDIVFIRST ∷
    -- 50
    page SDIVSTEP ∷ page SDIVLAST1 ∷ page MPDIVSTEP1 ∷ page MPSDIVSTEP3 ∷
    page UDIVSTEP ∷ page UDIVLAST ∷ page MPDIVSTEP2 ∷ page MPUDIVSTP3 ∷
    page REMCORR ∷ page QUOCORR ∷ page SDIVLAST2 ∷ page UMULFIRST ∷
    page UMULSTEP ∷ page UMULLAST ∷ page SMULSTEP ∷ page SMULFIRST ∷
    -- 60
    page NB-SN-SHA ∷ page NB-SN-SHB ∷ page NB-0F-SHA ∷ page NB-0F-SHB ∷
    page NBROT-A ∷ page NBROT-B ∷ page EXTBIT-A ∷ page EXTBIT-B ∷
    page SETBIT-A ∷ page SETBIT-B ∷ page RSTBIT-A ∷ page RSTBIT-B ∷
    page SETBIT-STAT ∷ page RSTBIT-STAT ∷ page NOTF-AL-B ∷ page PASSF-AL-B ∷
    -- 70
    page NOTF-A ∷ page NOTF-AL-A ∷ page PASSF-A ∷ page PASSF-AL-A ∷
    page ORF-A ∷ page ORF-AL-A ∷ page XORF-A ∷ page XORF-AL-A ∷
    page ANDF-A ∷ page ANDF-AL-A ∷ page EXTF-A ∷ page EXTF-B ∷
    page EXTF-AB ∷ page EXTF-BA ∷ page EXTBIT-STAT ∷ page PASS-MASK ∷ []

-- the page of a number; there is none past 7F
abbrev pub page_of : ℕ → Page
page_of n = get_or glossary n no_page

-- what a page does; a number with no page is refused before it could run, and would leave all as it was
abbrev pub following : Page → Inputs → Outputs
following (page f) x = f x
following no_page x = leaving x 0 x.status

-- the whole word: an opcode number on what stands at the chip. Every later promise cites this.
unfoldable pub perform_of : ℕ → Inputs → Outputs
perform_of n x = following (page_of n) x
