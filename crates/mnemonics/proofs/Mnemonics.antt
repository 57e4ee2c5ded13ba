-- The table of mnemonics: the code's columns are the mnemonics, a number has one exactly where it has a page, and no two are alike.
use mathlib.Core.Path.{◌≡◌, refl, sym, ap, ◌∙◌}
use mathlib.Core.List.{List, [], ◌∷◌}
use mathlib.Core.Bool.{Bool, true, false, ◌&&◌, ◌||◌, beq, true≢false}
use Prim.Native.Nat.{ℕ, zero, suc, ◌+◌, ◌≤◌, ◌<◌}
use Prim.Native.String.{String}
use native.Mathlib.Omega.{arith}
use native.Mathlib.Decide.{dec_lt, ℕ_discrete}
use borrow.Author.Tests.{eqb-true}
use lib.Dec.{eqb}
use lib.ListN.{length, get_or, get_or-map, get_or-eq_default}
use Rattle.chip.specs.Glossary.{glossary}
use Rattle.chip.specs.Glossary.Page.{no_page}
use Rattle.chip.specs.Single.{is_no_page, lacks_page}
use Rattle.text.specs.Ascii.{ascii, same}
use Rattle.text.proofs.Same.{and_left, and_right}
use Rattle.mnemonics.specs.Mnemonics.{mnemonics, mnemonic_of, in_column, columns}

-- each in its column
abbrev column_of : String → List ℕ
column_of m = in_column (ascii m)

-- within a list the element that stands for one past it does not matter
within : {A : Type 0} (l : List A) (n : ℕ) (d e : A) → n < length l → get_or l n d ≡ get_or l n e
within [] n d e h = absurd (omega arith)
within (x ∷ xs) zero d e h = refl
within (x ∷ xs) (suc n) d e h = within xs n d e (omega arith)

pub column-at : (n : ℕ) → n < 128 → get_or columns n [] ≡ in_column (mnemonic_of n)
column-at n h = within columns n [] (column_of "") h ∙ get_or-map column_of mnemonics n ""

-- ---- a rule of the table is one test, computed at each of its numbers
-- the test passes at each number below n
abbrev pub below : (ℕ → Bool) → ℕ → Bool
below test zero = true
below test (suc n) = test n && below test n

pub at_each : (test : ℕ → Bool) (n : ℕ) → below test n ≡ true → (k : ℕ) → k < n → test k ≡ true
at_each test zero h k l = absurd (omega arith)
at_each test (suc n) h k l = go (ℕ_discrete k n) (at_each test n (and_right (test n) (below test n) h) k)
  where
    go : Dec (k ≡ n) → (k < n → test k ≡ true) → test k ≡ true
    go (yes e) i = ap test e ∙ and_left (test n) (below test n) h
    go (no e) i = i (omega arith)

-- a test that passes at each mnemonic of the table, and at the empty text that stands past its end, passes at every number
abbrev every_entry : (List ℕ → Bool) → List String → Bool
every_entry test [] = test []
every_entry test (m ∷ ms) = test (ascii m) && every_entry test ms

at_entry : (test : List ℕ → Bool) (ms : List String) → every_entry test ms ≡ true → (n : ℕ) → test (ascii (get_or ms n "")) ≡ true
at_entry test [] h n = h
at_entry test (m ∷ ms) h zero = and_left (test (ascii m)) (every_entry test ms) h
at_entry test (m ∷ ms) h (suc n) = at_entry test ms (and_right (test (ascii m)) (every_entry test ms) h) n

abbrev pub Passes : (List ℕ → Bool) → Type 0
Passes test = every_entry test mnemonics ≡ true

pub at_mnemonic : (test : List ℕ → Bool) → Passes test → (n : ℕ) → test (mnemonic_of n) ≡ true
at_mnemonic test h n = at_entry test mnemonics h n

-- ---- a number has a mnemonic exactly where it has a page
abbrev pub no_bytes : List ℕ → Bool
no_bytes [] = true
no_bytes (c ∷ cs) = false

-- the test, and the table passes it
abbrev named_well : ℕ → Bool
named_well n = beq (lacks_page n) (no_bytes (mnemonic_of n))

all_named : below named_well 128 ≡ true
unfolding lacks_page
all_named = refl

-- two answers that are the same
alike : (a b : Bool) → beq a b ≡ true → a ≡ b
alike true true h = refl
alike true false h = sym h
alike false true h = h
alike false false h = refl

-- past the table there is no page
no_page_past : (n : ℕ) → 128 ≤ n → lacks_page n ≡ true
unfolding lacks_page
no_page_past n h = ap is_no_page (get_or-eq_default glossary no_page {n = n} h)

-- A number has no mnemonic exactly where chapter 2 has no page for it.
pub named_exactly : (n : ℕ) → lacks_page n ≡ no_bytes (mnemonic_of n)
named_exactly n = go (dec_lt n 128)
  where
    go : Dec (n < 128) → lacks_page n ≡ no_bytes (mnemonic_of n)
    go (yes h) = alike (lacks_page n) (no_bytes (mnemonic_of n)) (at_each named_well 128 all_named n h)
    go (no h) =
        let l : 128 ≤ n = omega arith in
        no_page_past n l ∙ sym (ap (λ (m : String). no_bytes (ascii m)) (get_or-eq_default mnemonics "" {n = n} l))

-- what is computed at each number of the table holds of each that has a page
pub at-page : (test : ℕ → Bool) → below (λ n. lacks_page n || test n) 128 ≡ true → (n : ℕ) → lacks_page n ≡ false → test n ≡ true
at-page test t n p = go (dec_lt n 128)
  where
    other : (a b : Bool) → a ≡ false → (a || b) ≡ true → b ≡ true
    other true b h o = absurd (true≢false h)
    other false b h o = o

    go : Dec (n < 128) → test n ≡ true
    go (yes h) = other (lacks_page n) (test n) p (at_each (λ n. lacks_page n || test n) 128 t n h)
    go (no h) = absurd (true≢false (sym (no_page_past n (omega arith)) ∙ p))

-- ---- no two are alike: each is found first at its own number
-- where a mnemonic is found first, from place k on
abbrev found_from : List ℕ → ℕ → List String → ℕ
found_from m k [] = k
found_from m k (x ∷ xs) = elim (same m (ascii x)) [ true ↦ k | false ↦ found_from m (k + 1) xs ]

abbrev found_at : List ℕ → ℕ
found_at m = found_from m 0 mnemonics

-- the table passes the test
all_first : below (λ n. lacks_page n || eqb (found_at (mnemonic_of n)) n) 128 ≡ true
unfolding lacks_page
all_first = refl

-- so a mnemonic tells its number
own-number : (n : ℕ) → lacks_page n ≡ false → found_at (mnemonic_of n) ≡ n
own-number n p = eqb-true (found_at (mnemonic_of n)) n (at-page (λ n. eqb (found_at (mnemonic_of n)) n) all_first n p)

-- Two numbers with a page and the same mnemonic are the same.
pub no_two_alike : (m n : ℕ) → lacks_page m ≡ false → lacks_page n ≡ false → mnemonic_of m ≡ mnemonic_of n → m ≡ n
no_two_alike m n p q e = sym (own-number m p) ∙ ap found_at e ∙ own-number n q
