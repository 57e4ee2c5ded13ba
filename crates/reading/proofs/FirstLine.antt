-- The lines of a text: the first, and those after it.
use mathlib.Core.Path.{◌≡◌, refl, ap, ap₂, sym, ◌∙◌}
use mathlib.Core.List.{List, [], ◌∷◌}
use mathlib.Core.Bool.{Bool, true, false, not}
use Prim.Native.Nat.{ℕ, suc, ◌+◌, ◌-◌, ◌≤◌, ◌<◌, min}
use native.Mathlib.Omega.{arith}
use native.Mathlib.Nat.{min-eq_left, min-eq_right}
use native.Mathlib.Decide.{dec_le}
use lib.ListN.{length, take, drop, drop_of_length-le}
use lib.Seq.{drop-length}
use lib.Dec.{eqb}
use Rattle.text.specs.Ascii.{newline}
use Rattle.grammar.specs.Grammar.{choose, onto, pieces, lines_of}
use Rattle.grammar.specs.Scan.{leading}
use Rattle.grammar.proofs.Passing.{rest_is, counted, place_within}
use Rattle.std.specs.List.{take_while}
use Rattle.reading.specs.Reader.{in_line}

-- a text that is not empty: its first line, and those after it
first-line : (c : ℕ) (cs : List ℕ)
    → lines_of (c ∷ cs) ≡ take (leading in_line (c ∷ cs)) (c ∷ cs) ∷ lines_of (drop (suc (leading in_line (c ∷ cs))) (c ∷ cs))
unfolding pieces
first-line c [] = go (eqb newline c)
  where
    go : (b : Bool) → choose b ([] ∷ []) ((c ∷ []) ∷ []) ≡ take (choose (not b) 1 0) (c ∷ []) ∷ lines_of (drop (choose (not b) 1 0) [])
    go true = refl
    go false = refl
first-line c (d ∷ ds) = go (eqb newline c) (d ∷ ds) (first-line d ds)
  where
    go : (b : Bool) (cs : List ℕ) → lines_of cs ≡ take (leading in_line cs) cs ∷ lines_of (drop (suc (leading in_line cs)) cs)
        → choose b ([] ∷ lines_of cs) (onto c (lines_of cs))
        ≡ take (choose (not b) (suc (leading in_line cs)) 0) (c ∷ cs) ∷ lines_of (drop (choose (not b) (suc (leading in_line cs)) 0) cs)
    go true cs e = refl
    go false cs e = ap (onto c) e

-- the same without its first byte named
some-line : (l : List ℕ) → 0 < length l → lines_of l ≡ take (leading in_line l) l ∷ lines_of (drop (suc (leading in_line l)) l)
some-line [] h = absurd (omega arith)
some-line (c ∷ cs) h = first-line c cs

-- nothing is left past the end, however far
drop_within : (k : ℕ) (l : List ℕ) → drop k l ≡ drop (min k (length l)) l
drop_within k l = go (dec_le k (length l))
  where
    go : Dec (k ≤ length l) → drop k l ≡ drop (min k (length l)) l
    go (yes h) = rw (min-eq_left h) refl
    go (no h) =
        let b : length l ≤ k = omega arith in
        rw (min-eq_right b) (drop_of_length-le l b ∙ sym (drop-length l))

-- a text that is not empty has a line, which ends within it, and those of what is left
pub next_line : (t : List ℕ) {end next : ℕ} → 0 < length t → end ≡ leading in_line t → next ≡ min (length t) (end + 1)
    → lines_of t ≡ take end t ∷ lines_of (drop next t)
next_line t {end} {next} h e g =
    let f : suc (leading in_line t) ≡ end + 1 = omega (arith, e) in
    let m : min (suc (leading in_line t)) (length t) ≡ next = omega (arith, e, g) in
    some-line t h ∙ ap₂ (λ (k : ℕ) (l : List ℕ). take k t ∷ lines_of l) (sym e) (drop_within (suc (leading in_line t)) t ∙ ap (λ (k : ℕ). drop k t) m)

-- ---- as the code finds them
-- std's count of the bytes before the line feed is the definition's
pub line_counted : (t : List ℕ) {n : ℕ} → n ≡ length (take_while in_line t) → n ≡ leading in_line t
line_counted t {n} e =
    let h : 0 + n ≡ 0 + leading in_line t = counted in_line t 0 (e ∙ ap (λ (l : List ℕ). length (take_while in_line l)) (sym (rest_is 0 t))) in
    omega (arith, h)

-- the line ends within its text
pub line_within : (t : List ℕ) {end : ℕ} → end ≡ leading in_line t → end ≤ length t
line_within t e = omega (arith, e, place_within in_line t 0 (omega arith))

-- an empty text has no line
pub no_line : (t : List ℕ) → length t ≡ 0 → lines_of t ≡ []
unfolding pieces
no_line [] h = refl
no_line (c ∷ cs) h = absurd (omega arith)

-- what is left after the first line, as the code lends it
pub line_taken : (t : List ℕ) {end next : ℕ} → (length t ≡ 0 → ⊥) → end ≡ leading in_line t → next ≡ min (length t) (end + 1)
    → lines_of t ≡ take end t ∷ lines_of (take (length t - next) (drop next t))
line_taken t {end} {next} h e g = next_line t (omega arith) e g ∙ ap (λ (l : List ℕ). take end t ∷ lines_of l) (sym (rest_is next t))

-- no more lines than bytes
pub lines_few : (t : List ℕ) → length (lines_of t) ≤ length t
unfolding pieces
lines_few [] = omega arith
lines_few (c ∷ cs) = go (eqb newline c) (lines_of cs) (lines_few cs)
  where
    go : (b : Bool) (ls : List (List ℕ)) → length ls ≤ length cs → length (choose b ([] ∷ ls) (onto c ls)) ≤ suc (length cs)
    go true ls h = omega arith
    go false [] h = omega arith
    go false (l ∷ ls) h = omega arith
