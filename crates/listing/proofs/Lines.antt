-- Lines: how long they are, and one after another in a lent text.
use mathlib.Core.Path.{◌≡◌, refl, sym, ap, ◌∙◌}
use mathlib.Core.List.{List, [], ◌∷◌, ◌++◌, append_assoc, append-nil}
use Prim.Native.Nat.{ℕ, zero, suc, ◌+◌, ◌-◌, ◌*◌, ◌≤◌, ◌<◌}
use native.Mathlib.Omega.{arith}
use lib.ListN.{length, length-append}
use Rattle.text.specs.Fill.{Added, Written}
use Rattle.text.proofs.Fill.{added_none, added_as, added_on, added-written}
use Rattle.text.specs.Ascii.{ascii}
use Rattle.chip.specs.declared.Word.{Word}
use Rattle.packing.specs.Packing.{InRange}
use Rattle.sheet.specs.Sheet.{number4, version_of, words_of, declared_of, word_at, words_from, all_words}
use Rattle.mnemonics.specs.Mnemonics.{mnemonic_of, in_column}
use Rattle.mnemonics.proofs.Columns.{column-length}
use Rattle.listing.specs.Lines.{named, numbers_of, switches_of, word_line, first_line, ended, word_lines, listing_of}

-- ---- one switch
named-length : (on : ℕ) (name : List ℕ) → on < 2 → length (named on name) ≡ on * length name
named-length zero name h = omega arith
named-length (suc zero) name h = omega arith
named-length (suc (suc n)) name h = absurd (omega arith)

-- ---- how long lines are
pub switches_parts : (w : Word) → length (switches_of w)
    ≡ length (named w.write (ascii " write")) + length (named w.select (ascii " macro-select"))
    + length (named w.carry (ascii " macro-carry")) + length (named w.link (ascii " macro-link")) + length (named w.borrow (ascii " borrow"))
unfolding switches_of
switches_parts w =
    let write : List ℕ = named w.write (ascii " write") in
    let select : List ℕ = named w.select (ascii " macro-select") in
    let carry : List ℕ = named w.carry (ascii " macro-carry") in
    let link : List ℕ = named w.link (ascii " macro-link") in
    let borrow : List ℕ = named w.borrow (ascii " borrow") in
    omega (arith, length-append (write ++ select ++ carry ++ link) borrow, length-append (write ++ select ++ carry) link, length-append (write ++ select) carry, length-append write select)

switches_length : (w : Word) → InRange w
    → length (switches_of w) ≡ 6 * w.write + 13 * w.select + 12 * w.carry + 11 * w.link + 7 * w.borrow
switches_length w r =
    omega (
      arith,
      switches_parts w,
      named-length w.write (ascii " write") r.write,
      named-length w.select (ascii " macro-select") r.select,
      named-length w.carry (ascii " macro-carry") r.carry,
      named-length w.link (ascii " macro-link") r.link,
      named-length w.borrow (ascii " borrow") r.borrow,
    )

pub numbers-length : (w : Word) → length (numbers_of w) ≡ 42
unfolding numbers_of
numbers-length w = refl

-- the mnemonic's column, six numbers, the switches that are on, the line feed
pub line_parts : (w : Word) → length (ended (word_line w)) ≡ 55 + length (switches_of w)
line_parts w =
    omega (
      arith,
      length-append (word_line w) (10 ∷ []),
      length-append (in_column (mnemonic_of w.opcode) ++ numbers_of w) (switches_of w),
      length-append (in_column (mnemonic_of w.opcode)) (numbers_of w),
      column-length w.opcode,
      numbers-length w,
    )

pub line-length : (w : Word) → InRange w
    → length (ended (word_line w)) ≡ 12 + 42 + 6 * w.write + 13 * w.select + 12 * w.carry + 11 * w.link + 7 * w.borrow + 1
line-length w r = omega (arith, line_parts w, switches_length w r)

pub first-length : (version registers : ℕ) → length (ended (first_line version registers)) ≡ 23
unfolding first_line
first-length version registers = refl

-- ---- a sheet's lines, one after another
-- the lines from word k on
abbrev left : List ℕ → ℕ → List ℕ
left s k = word_lines (words_from s k (words_of s - k))

left-more : (s : List ℕ) (k : ℕ) → k < words_of s → left s k ≡ ended (word_line (word_at s k)) ++ left s (k + 1)
unfolding words_from word_lines
left-more s k h =
    let e : words_of s - k ≡ suc (words_of s - (k + 1)) = omega arith in
    rw e refl

left-none : (s : List ℕ) (k : ℕ) → words_of s ≤ k → left s k ≡ []
unfolding words_from word_lines
left-none s k h =
    let e : words_of s - k ≡ 0 = omega arith in
    rw e refl

listing_left : (s : List ℕ) → listing_of s ≡ ended (first_line (version_of (number4 s)) (declared_of s)) ++ left s 0
unfolding listing_of
listing_left s =
    let e : words_of s - 0 ≡ words_of s = omega arith in
    rw e refl

pub words_few : (s : List ℕ) → words_of s < 4096
unfolding words_of
words_few s = omega arith

-- what holds at each turn of a loop that counts: the bytes so far and those of the lines left are all
pub record Counting (s : List ℕ) (bytes k : ℕ) : Type 0 where
  pub upto : k ≤ words_of s
  pub small : bytes ≤ 23 + 104 * k
  pub all : bytes + length (left s k) ≡ length (listing_of s)

pub counting_start : (s : List ℕ) → Counting s 23 0
counting_start s = record {
  upto = omega arith;
  small = omega arith;
  all = sym (ap length (listing_left s) ∙ length-append (ended (first_line (version_of (number4 s)) (declared_of s))) (left s 0)
      ∙ ap (λ (n : ℕ). n + length (left s 0)) (first-length (version_of (number4 s)) (declared_of s)));
}

module _ {s : List ℕ} {bytes k : ℕ} (c : Counting s bytes k) where
  pub counting_more : {n : ℕ} → k < words_of s → InRange (word_at s k) → n ≡ length (ended (word_line (word_at s k))) → Counting s (bytes + n) (k + 1)
  counting_more {n} h r e = record {
    upto = omega arith;
    small = omega (arith, c.small, line-length (word_at s k) r, r.write, r.select, r.carry, r.link, r.borrow);
    all = omega (arith, c.all, ap length (left-more s k h) ∙ length-append (ended (word_line (word_at s k))) (left s (k + 1)));
  }

  pub counting_done : words_of s ≤ k → bytes ≡ length (listing_of s)
  counting_done h = omega (arith, c.all, ap length (left-none s k h))

-- what holds at each turn of a loop that writes: the lines so far stand in the text, and with those left they are all
pub record Adding (s before : List ℕ) («from» : ℕ) (after : List ℕ) (at k : ℕ) : Type 0 where
  pub lines : List ℕ
  pub upto : k ≤ words_of s
  pub room : length after ≡ length before
  pub added : Added lines «from» before at after
  pub all : word_lines (all_words s) ≡ lines ++ left s k

pub adding-start : (s before : List ℕ) («from» : ℕ) → Adding s before «from» before «from» 0
adding-start s before «from» = record {
  lines = [];
  upto = omega arith;
  room = refl;
  added = added_none before «from»;
  all = let e : words_of s - 0 ≡ words_of s = omega arith in rw e refl;
}

module _ {s before : List ℕ} {«from» : ℕ} {after : List ℕ} {at k : ℕ} (f : Adding s before «from» after at k) where
  -- the next line has room
  pub adding-room : k < words_of s → «from» + length (word_lines (all_words s)) ≤ length before
      → at + length (ended (word_line (word_at s k))) ≤ length after
  adding-room h r =
      omega (
        arith,
        r,
        f.room,
        f.added.ends,
        ap length f.all ∙ length-append f.lines (left s k),
        ap length (left-more s k h) ∙ length-append (ended (word_line (word_at s k))) (left s (k + 1)),
      )

  pub adding-more : {next : List ℕ} {to : ℕ} → k < words_of s → «from» ≤ length before → length next ≡ length after
      → Added (ended (word_line (word_at s k))) at after to next → Adding s before «from» next to (k + 1)
  adding-more h r n a =
      let line : List ℕ = ended (word_line (word_at s k)) in
      record {
        lines = f.lines ++ line;
        upto = omega arith;
        room = n ∙ f.room;
        added = added_on r f.added a;
        all = f.all ∙ ap (λ (l : List ℕ). f.lines ++ l) (left-more s k h) ∙ sym (append_assoc f.lines line (left s (k + 1)));
      }

  pub adding_done : words_of s ≤ k → Added (word_lines (all_words s)) «from» before at after
  adding_done h = added_as (sym (f.all ∙ ap (λ (l : List ℕ). f.lines ++ l) (left-none s k h) ∙ append-nil f.lines)) f.added

-- ---- the whole
-- the first line, then the words'
pub listing_parts : (s : List ℕ) → length (listing_of s) ≡ 23 + length (word_lines (all_words s))
unfolding listing_of
listing_parts s =
    length-append (ended (first_line (version_of (number4 s)) (declared_of s))) (word_lines (all_words s))
    ∙ ap (λ (n : ℕ). n + length (word_lines (all_words s))) (first-length (version_of (number4 s)) (declared_of s))

pub listing_written : (s : List ℕ) {before middle after : List ℕ} {at n : ℕ} → length (listing_of s) ≤ length before
    → Added (ended (first_line (version_of (number4 s)) (declared_of s))) 0 before at middle → Added (word_lines (all_words s)) at middle n after
    → Written (listing_of s) before n after
unfolding listing_of
listing_written s h a b = added-written h (added_on (omega arith) a b)
