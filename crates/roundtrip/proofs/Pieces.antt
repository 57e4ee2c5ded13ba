-- The pieces of a text: a text that is put together from lines, or a line from parts, comes apart into them again.
use mathlib.Core.Path.{◌≡◌, refl, ap, ◌∙◌}
use mathlib.Core.List.{List, [], ◌∷◌, ◌++◌, map, append-nil}
use mathlib.Core.Bool.{Bool, true, false, ◌||◌}
use Prim.Native.Nat.{ℕ, zero, suc}
use lib.ListN.{replicate}
use lib.Dec.{eqb}
use Rattle.text.specs.Ascii.{space, newline}
use Rattle.packing.specs.Packing.{some}
use Rattle.packing.proofs.Numbers.{or_left, or_right}
use Rattle.grammar.specs.Grammar.{blank, capital, pieces, filled, parts_of}

-- ---- no byte of a text passes a test
-- nor of two texts one after the other
pub none-append : (test : ℕ → Bool) (a b : List ℕ) → some test a ≡ false → some test b ≡ false → some test (a ++ b) ≡ false
none-append test [] b h i = i
none-append test (c ∷ a) b h i =
    rw (or_left (test c) (some test a) h) (none-append test a b (or_right (test c) (some test a) h) i)

-- f takes each byte that the first test does not pass to one that the second does not pass
none-map : (f : ℕ → ℕ) (test other : ℕ → Bool) → ((c : ℕ) → test c ≡ false → other (f c) ≡ false)
    → (p : List ℕ) → some test p ≡ false → some other (map f p) ≡ false
none-map f test other g [] h = refl
none-map f test other g (c ∷ p) h =
    rw (g c (or_left (test c) (some test p) h)) (none-map f test other g p (or_right (test c) (some test p) h))

-- how `map` goes through a text
map_itself : (p : List ℕ) → map (λ c. c) p ≡ p
map_itself [] = refl
map_itself (c ∷ p) = ap (λ (r : List ℕ). c ∷ r) (map_itself p)

pub map-append : (f : ℕ → ℕ) (a b : List ℕ) → map f (a ++ b) ≡ map f a ++ map f b
map-append f [] b = refl
map-append f (c ∷ a) b = ap (λ (r : List ℕ). f c ∷ r) (map-append f a b)

-- ---- pieces
module _ (ends : ℕ → Bool) where
  -- one that is ended, and what follows
  pub piece : (p : List ℕ) (e : ℕ) (rest : List ℕ) → some ends p ≡ false → ends e ≡ true → pieces ends (p ++ e ∷ rest) ≡ p ∷ pieces ends rest
  unfolding pieces
  piece [] e rest h t = rw t refl
  piece (c ∷ p) e rest h t =
      rw (or_left (ends c) (some ends p) h, piece p e rest (or_right (ends c) (some ends p) h) t) refl

  -- the last one may lack its end
  last_piece : (c : ℕ) (p : List ℕ) → some ends (c ∷ p) ≡ false → pieces ends (c ∷ p) ≡ (c ∷ p) ∷ []
  unfolding pieces
  last_piece c [] h = rw (or_left (ends c) false h) refl
  last_piece c (d ∷ p) h =
      rw (or_left (ends c) (some ends (d ∷ p)) h, last_piece d p (or_right (ends c) (some ends (d ∷ p)) h)) refl

-- ---- parts
-- what no part has in it: a blank, a line feed
abbrev pub gap : ℕ → Bool
gap c = blank (capital c) || eqb newline c

-- not empty, and without gaps
pub data Parts : List (List ℕ) → Type 0 where
  none : Parts []
  more : {c : ℕ} {p : List ℕ} {ps : List (List ℕ)} → some gap (c ∷ p) ≡ false → Parts ps → Parts ((c ∷ p) ∷ ps)

module _ (p : List ℕ) (h : some gap p ≡ false) where
  -- so blanks do not part it, in capitals
  no_blank : some blank (map capital p) ≡ false
  no_blank = none-map capital gap blank (λ c g. or_left (blank (capital c)) (eqb newline c) g) p h

  -- nor line feeds
  pub no_feed : some (eqb newline) p ≡ false
  no_feed = rw map_itself at (none-map (λ c. c) gap (eqb newline) (λ c g. or_right (blank (capital c)) (eqb newline c) g) p h)

-- a part with a blank after it; an empty one leaves no part, so that blanks in front change nothing
pub part : (p rest : List ℕ) → some gap p ≡ false → parts_of (p ++ space ∷ rest) ≡ filled (map capital p ∷ []) ++ parts_of rest
unfolding parts_of
part p rest h =
    ap (λ (l : List ℕ). filled (pieces blank l)) (map-append capital p (space ∷ rest))
    ∙ ap filled (piece blank (map capital p) space (map capital rest) (no_blank p h) refl)
    ∙ first (map capital p) (pieces blank (map capital rest))
  where
    first : (q : List ℕ) (qs : List (List ℕ)) → filled (q ∷ qs) ≡ filled (q ∷ []) ++ filled qs
    first [] qs = refl
    first (c ∷ q) qs = refl

-- so many blanks in front
pub blanks : (k : ℕ) (rest : List ℕ) → parts_of (replicate k space ++ rest) ≡ parts_of rest
blanks zero rest = refl
blanks (suc k) rest = part [] (replicate k space ++ rest) refl ∙ blanks k rest

-- parts, each after a blank
abbrev pub spaced : List (List ℕ) → List ℕ
spaced [] = []
spaced (p ∷ ps) = space ∷ (p ++ spaced ps)

-- a line of parts comes apart into them, in capitals
pub parts_back : (p : List ℕ) (ps : List (List ℕ)) → Parts (p ∷ ps) → parts_of (p ++ spaced ps) ≡ map (map capital) (p ∷ ps)
unfolding parts_of
parts_back [] ps x = elim x [ ]
parts_back (c ∷ p) [] (more h n) =
    ap parts_of (append-nil (c ∷ p)) ∙ ap filled (last_piece blank (capital c) (map capital p) (no_blank (c ∷ p) h))
parts_back (c ∷ p) (q ∷ qs) (more h n) =
    part (c ∷ p) (q ++ spaced qs) h ∙ ap (λ (r : List (List ℕ)). map capital (c ∷ p) ∷ r) (parts_back q qs n)

-- and has no line feed in it
pub spaced_feed : {ps : List (List ℕ)} → Parts ps → some (eqb newline) (spaced ps) ≡ false
spaced_feed none = refl
spaced_feed (more {c} {p} {ps} h n) = none-append (eqb newline) (c ∷ p) (spaced ps) (no_feed (c ∷ p) h) (spaced_feed n)

-- nor have blanks
pub blanks_feed : (k : ℕ) → some (eqb newline) (replicate k space) ≡ false
blanks_feed zero = refl
blanks_feed (suc k) = blanks_feed k
