-- The mnemonics as names: none has a blank, and each is found at its place.
use mathlib.Core.Path.{◌≡◌, refl, ap, ◌∙◌}
use mathlib.Core.List.{List, [], ◌∷◌, map, ◌++◌}
use mathlib.Core.Bool.{Bool, true, ◌&&◌, and-eq-true_iff}
use Prim.Native.Nat.{ℕ, zero, suc, ◌-◌}
use native.Mathlib.Omega.{arith}
use lib.ListN.{length, take, replicate}
use lib.Seq.{take-append_seam}
use Rattle.text.specs.Ascii.{ascii, space, same}
use Rattle.mnemonics.specs.Mnemonics.{mnemonics, in_column, columns}
use Rattle.grammar.specs.Grammar.{capital, opcode_of}
use Rattle.grammar.specs.Scan.{solid, leading, solid_end, name_in}
use Rattle.std.specs.Prelude.{None, position}
use Rattle.std.specs.List.{list_all, position_or_len}
use Prim.Native.String.{String}

-- ---- none has a blank
-- every byte of a text passes
every : (ℕ → Bool) → List ℕ → Bool
every f [] = true
every f (c ∷ cs) = f c && every f cs

abbrev all_solid : List String → Bool
all_solid ms = list_all (λ (m : String). every solid (ascii m)) ms

solid-all : all_solid mnemonics ≡ true
unfolding every
solid-all = refl

-- ---- a mnemonic in its column
-- which is filled up with blanks
fill-blank : (n : ℕ) → leading solid (replicate n space) ≡ 0
fill-blank zero = refl
fill-blank (suc n) = refl

-- a text without a blank ends where the first blank is
solid-run : (m rest : List ℕ) → every solid m ≡ true → leading solid rest ≡ 0 → leading solid (m ++ rest) ≡ length m
unfolding every
solid-run [] rest e z = z
solid-run (c ∷ cs) rest e z =
    let t = (and-eq-true_iff (solid c) (every solid cs)).0 e in
    rw t.0 (ap suc (solid-run cs rest t.1 z))

-- so the bytes before the first blank of a column are the mnemonic
column-end : (m : List ℕ) → every solid m ≡ true → solid_end (in_column m) 0 ≡ length m
column-end m e = omega (arith, solid-run m (replicate (12 - length m) space) e (fill-blank (12 - length m)))

column-front : (m : List ℕ) → every solid m ≡ true → name_in (in_column m) ≡ m
column-front m e = ap (λ (n : ℕ). take n (in_column m)) (column-end m e) ∙ take-append_seam m (replicate (12 - length m) space)

-- ---- the number of a mnemonic
-- an empty part is none of them
pub no_part : (part : List ℕ) → length part ≡ 0 → opcode_of (map capital part) ≡ None
unfolding opcode_of
no_part [] h = refl
no_part (c ∷ cs) h = absurd (omega arith)

-- the first column whose name a part is stands where the first mnemonic that it is does
abbrev column_of : String → List ℕ
column_of m = in_column (ascii m)

first_column : (p : List ℕ) (ms : List String) → all_solid ms ≡ true
    → position_or_len (λ c. same p (name_in c)) (map column_of ms) ≡ position_or_len (λ (m : String). same p (ascii m)) ms
first_column p [] h = refl
first_column p (m ∷ ms) h =
    let t = (and-eq-true_iff (every solid (ascii m)) (all_solid ms)).0 h in
    rw (column-front (ascii m) t.0, first_column p ms t.1)

-- so the code's search is the definition's
pub opcode_found : (part : List ℕ) → (length part ≡ 0 → ⊥)
    → position (λ c. same (map capital part) (name_in c)) columns ≡ opcode_of (map capital part)
unfolding opcode_of
opcode_found [] n = absurd (n refl)
opcode_found (c ∷ cs) n = let p = map capital (c ∷ cs) in rw (first_column p mnemonics solid-all)
