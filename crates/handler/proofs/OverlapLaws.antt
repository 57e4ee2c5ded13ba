-- The registers that words of a sheet name, one more word at a time; and the two sheets' sets meet exactly where some row of the table
-- holds.
use mathlib.Core.Path.{◌≡◌, refl, sym, ap, ◌∙◌}
use mathlib.Core.List.{List}
use mathlib.Core.Bool.{Bool, true, false, not, ◌&&◌, ◌||◌}
use Prim.Native.Nat.{ℕ, zero, suc, ◌+◌, ◌-◌, ◌^◌, ◌≤◌, ◌<◌}
use native.Mathlib.Omega.{arith}
use lib.Bits.{bit_or, or_lt, or_zero_r, and_zero_l}
use lib.Dec.{lit<}
use Rattle.reasons.specs.Reasons.{good, none_hold, rows_by}
use Rattle.reasons.proofs.Rows.{hold_good, good_hold}
use Rattle.packing.specs.Packing.{differ}
use Rattle.packing.specs.Registers.{common, names_of, names_all}
use Rattle.packing.proofs.Registers.{common-or, union_assoc, names-lt, narrow}
use Rattle.sheet.specs.Sheet.{words_of, number_at, word_at, words_from, names_in}
use Rattle.handler.specs.Overlap.{overlap_row, overlap_of}

pub word_lt : (s : List ℕ) (k : ℕ) → names_of (word_at s k) < 2 ^ 64
word_lt s k = names-lt (word_at s k) (narrow (number_at s k))

pub words-lt : (s : List ℕ) (k n : ℕ) → names_all (words_from s k n) < 2 ^ 64
unfolding names_all words_from
words-lt s k zero = lit< tt
words-lt s k (suc n) = or_lt 64 _ _ (word_lt s k) (words-lt s (k + 1) n)

-- ---- what holds at each turn of the pass: the whole is what was met, and what is left
pub record Gathering (s : List ℕ) (n set k : ℕ) : Type 0 where
  pub upto : k ≤ n
  pub small : set < 2 ^ 64
  pub whole : names_all (words_from s 0 n) ≡ bit_or set (names_all (words_from s k (n - k)))

module _ {s : List ℕ} {n set k : ℕ} (g : Gathering s n set k) where
  pub gathering_more : (names : ℕ) → k < n → names ≡ names_of (word_at s k) → Gathering s n (bit_or set names) (k + 1)
  unfolding names_all words_from
  gathering_more names h e =
      let f : n - k ≡ suc (n - (k + 1)) = omega arith in
      let rest : ℕ = names_all (words_from s (k + 1) (n - (k + 1))) in
      record {
        upto = omega arith;
        small = rw e (or_lt 64 set (names_of (word_at s k)) g.small (word_lt s k));
        whole =
            g.whole ∙ ap (λ (j : ℕ). bit_or set (names_all (words_from s k j))) f
            ∙ sym (union_assoc set (names_of (word_at s k)) rest g.small (word_lt s k) (words-lt s (k + 1) (n - (k + 1))))
            ∙ ap (λ (x : ℕ). bit_or (bit_or set x) rest) (sym e);
      }

  pub gathering_done : n ≤ k → set ≡ names_all (words_from s 0 n)
  unfolding names_all words_from
  gathering_done h =
      let f : n - k ≡ 0 = omega arith in
      sym (g.whole ∙ ap (λ (j : ℕ). bit_or set (names_all (words_from s k j))) f ∙ or_zero_r set)

-- ---- the two sets meet exactly where some row holds
none-common : (t : ℕ) → common 0 t ≡ false
unfolding common
none-common t = ap (λ (x : ℕ). differ x 0) (and_zero_l t)

meet_rows : (s : List ℕ) (theirs k n : ℕ) → theirs < 2 ^ 64 → common (names_all (words_from s k n)) theirs ≡ not (none_hold (rows_by (overlap_row s theirs) k n))
unfolding names_all words_from
meet_rows s theirs k zero h = none-common theirs
meet_rows s theirs k (suc n) h =
    common-or (names_of (word_at s k)) (names_all (words_from s (k + 1) n)) theirs (word_lt s k) (words-lt s (k + 1) n) h
    ∙ ap (λ (b : Bool). common (names_of (word_at s k)) theirs || b) (meet_rows s theirs (k + 1) n h)
    ∙ either (common (names_of (word_at s k)) theirs) (none_hold (rows_by (overlap_row s theirs) (k + 1) n))
  where
    either : (a b : Bool) → (a || not b) ≡ not (not a && b)
    either true b = refl
    either false b = refl

module _ (main h : List ℕ) where
  abbrev theirs : ℕ
  theirs = names_in h

  meet_is : common (names_in main) theirs ≡ not (none_hold (rows_by (overlap_row main theirs) 0 (words_of main)))
  meet_is = meet_rows main theirs 0 (words_of main) (words-lt h 0 (words_of h))

  -- so where they do not meet nothing is refused, and the other way round
  pub apart_good : common (names_in main) theirs ≡ false → good ≡ overlap_of main h
  unfolding overlap_of
  apart_good e = sym (hold_good (rows_by (overlap_row main theirs) 0 (words_of main)) (flip _ (sym meet_is ∙ e)))
    where
      flip : (b : Bool) → not b ≡ false → b ≡ true
      flip true f = refl
      flip false f = sym f

  pub good_apart : overlap_of main h ≡ good → common (names_in main) theirs ≡ false
  unfolding overlap_of
  good_apart e = meet_is ∙ ap not (good_hold (rows_by (overlap_row main theirs) 0 (words_of main)) e)
