-- The mnemonics, each as the manual spells it on its page in chapter 2.
use Rattle.std.specs.Prelude.{List, [], ◌∷◌, ◌++◌, map, ℕ, ◌-◌, length, get_or, replicate}
use Prim.Native.String.{String}
use Rattle.text.specs.Ascii.{ascii, space}

-- 128 entries in the glossary's order, four to a line, each line under its first number; empty where there is no page
abbrev pub mnemonics : List String
mnemonics =
    -- 00
    "ZERO-EXTA" ∷ "ZERO-EXTB" ∷ "SIGN-EXTA" ∷ "SIGN-EXTB" ∷
    "PASS-STAT" ∷ "PASS-Q" ∷ "LOADQ-A" ∷ "LOADQ-B" ∷
    "NOT-A" ∷ "NOT-B" ∷ "NEG-A" ∷ "NEG-B" ∷
    "PRIOR-A" ∷ "PRIOR-B" ∷ "MERGEA-B" ∷ "MERGEB-A" ∷
    -- 10
    "DECR-A" ∷ "DECR-B" ∷ "INCR-A" ∷ "INCR-B" ∷
    "DECR2-A" ∷ "DECR2-B" ∷ "INCR2-A" ∷ "INCR2-B" ∷
    "DECR4-A" ∷ "DECR4-B" ∷ "INCR4-A" ∷ "INCR4-B" ∷
    "LDSTAT-A" ∷ "LDSTAT-B" ∷ "" ∷ "" ∷
    -- 20
    "DN1-0F-A" ∷ "DN1-0F-B" ∷ "DN1-0F-AQ" ∷ "DN1-0F-BQ" ∷
    "DN1-1F-A" ∷ "DN1-1F-B" ∷ "DN1-1F-AQ" ∷ "DN1-1F-BQ" ∷
    "DN1-LF-A" ∷ "DN1-LF-B" ∷ "DN1-LF-AQ" ∷ "DN1-LF-BQ" ∷
    "DN1-AR-A" ∷ "DN1-AR-B" ∷ "DN1-AR-AQ" ∷ "DN1-AR-BQ" ∷
    -- 30
    "UP1-0F-A" ∷ "UP1-0F-B" ∷ "UP1-0F-AQ" ∷ "UP1-0F-BQ" ∷
    "UP1-1F-A" ∷ "UP1-1F-B" ∷ "UP1-1F-AQ" ∷ "UP1-1F-BQ" ∷
    "UP1-LF-A" ∷ "UP1-LF-B" ∷ "UP1-LF-AQ" ∷ "UP1-LF-BQ" ∷
    "ZERO" ∷ "SIGN" ∷ "OR" ∷ "XOR" ∷
    -- 40
    "AND" ∷ "XNOR" ∷ "ADD" ∷ "ADDC" ∷
    "SUB" ∷ "SUBC" ∷ "SUBR" ∷ "SUBRC" ∷
    "SUM-CORR-A" ∷ "SUM-CORR-B" ∷ "DIFF-CORR-A" ∷ "DIFF-CORR-B" ∷
    "" ∷ "" ∷ "SDIVFIRST" ∷ "UDIVFIRST" ∷
    -- 50
    "SDIVSTEP" ∷ "SDIVLAST1" ∷ "MPDIVSTEP1" ∷ "MPSDIVSTEP3" ∷
    "UDIVSTEP" ∷ "UDIVLAST" ∷ "MPDIVSTEP2" ∷ "MPUDIVSTP3" ∷
    "REMCORR" ∷ "QUOCORR" ∷ "SDIVLAST2" ∷ "UMULFIRST" ∷
    "UMULSTEP" ∷ "UMULLAST" ∷ "SMULSTEP" ∷ "SMULFIRST" ∷
    -- 60
    "NB-SN-SHA" ∷ "NB-SN-SHB" ∷ "NB-0F-SHA" ∷ "NB-0F-SHB" ∷
    "NBROT-A" ∷ "NBROT-B" ∷ "EXTBIT-A" ∷ "EXTBIT-B" ∷
    "SETBIT-A" ∷ "SETBIT-B" ∷ "RSTBIT-A" ∷ "RSTBIT-B" ∷
    "SETBIT-STAT" ∷ "RSTBIT-STAT" ∷ "NOTF-AL-B" ∷ "PASSF-AL-B" ∷
    -- 70
    "NOTF-A" ∷ "NOTF-AL-A" ∷ "PASSF-A" ∷ "PASSF-AL-A" ∷
    "ORF-A" ∷ "ORF-AL-A" ∷ "XORF-A" ∷ "XORF-AL-A" ∷
    "ANDF-A" ∷ "ANDF-AL-A" ∷ "EXTF-A" ∷ "EXTF-B" ∷
    "EXTF-AB" ∷ "EXTF-BA" ∷ "EXTBIT-STAT" ∷ "PASS-MASK" ∷ []

-- the mnemonic of an opcode number
abbrev pub mnemonic_of : ℕ → List ℕ
mnemonic_of n = ascii (get_or mnemonics n "")

-- a mnemonic in its column of twelve
abbrev pub in_column : List ℕ → List ℕ
in_column m = m ++ replicate (12 - length m) space

-- all of them, each in its column
abbrev pub columns : List (List ℕ)
columns = map (λ m. in_column (ascii m)) mnemonics
