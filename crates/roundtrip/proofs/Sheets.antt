-- A sheet put together from a register count and words: it passes the check and has them, and every sheet of bytes that passes is so put together.
use mathlib.Core.Path.{◌≡◌, refl, sym, ap, ap₂, ◌∙◌}
use mathlib.Core.List.{List, [], ◌∷◌, ◌++◌}
use mathlib.Core.Bool.{Bool, false, ◌||◌}
use Prim.Native.Nat.{ℕ, zero, suc, ◌+◌, ◌*◌, ◌/◌, ◌%◌, ◌^◌, ◌≤◌, ◌<◌}
use native.Mathlib.Omega.{arith}
use borrow.Author.Tests.{eqb-true, eq-eqb, ne_eqb, le-ltb, lt-leb, not-false}
use lib.ListN.{length, get_or, take, drop, take-append-drop, drop_of_length-le}
use lib.Seq.{drop-cons, drop-drop, get_or-drop, get_or-take, take_all}
use lib.Dec.{eqb, ltb, leb}
use Rattle.chip.specs.declared.Word.{Word}
use Rattle.chip.specs.Single.{lacks_page}
use Rattle.bits.specs.Bits.{bytes4}
use Rattle.reasons.specs.Reasons.{good, rows_by}
use Rattle.reasons.proofs.Rows.{None, good_none, none_good, none_left, none_both, none_at}
use Rattle.reasons.proofs.Rows.None.{none, more}
use Rattle.packing.specs.Packing.{number6, fields_of, spare_of, packed_number, bytes6, some, register_fields, too_large, left_idle, differ, InRange}
use Rattle.packing.proofs.Numbers.{or_left, fields_packed, fields_fit, packed_spare, packed_lt, packed_fields, number-bytes, bytes-number}
use Rattle.std.proofs.Common.{None as Nothing}
use Rattle.sheet.specs.Sheet.{number4, version_of, count_of, registers_of, zeros_of, words_of, declared_of, part_of, number_at, word_at, words_from, all_words, number_rows, word_rows, rows_beside, sheet_rows, check_beside, check_of, WordReady, Ready}
use Rattle.sheet.proofs.Table.{part-six, body, tail, ready_alone}
use Rattle.sheet.proofs.Positions.{All, words-length}
use Rattle.sheet.proofs.Positions.All.{more as allMore}
use Rattle.reading.specs.Reader.{header4, split4}

-- the words, six bytes each
abbrev pub packed_all : List Word → List ℕ
packed_all [] = []
packed_all (w ∷ ws) = bytes6 (packed_number w) ++ packed_all ws

-- the sheet of n registers and these words
abbrev pub sheet_for : ℕ → List Word → List ℕ
sheet_for n ws = split4 (header4 1 (length ws) n) ++ packed_all ws

-- which has so many bytes
packed_length : (ws : List Word) → length (packed_all ws) ≡ 6 * length ws
packed_length [] = refl
packed_length (w ∷ ws) = let e : length (packed_all ws) ≡ 6 * length ws = packed_length ws in omega arith

-- ---- its header
-- a number of 32 bits comes back from its four bytes, which are the last four of six
header_back : (h : ℕ) (rest : List ℕ) → h < 2 ^ 32 → number4 (split4 h ++ rest) ≡ h
header_back h rest l =
    let e : number6 (bytes6 h) ≡ h = number-bytes h [] (omega arith) in
    let a : h / 2 ^ 40 % 256 ≡ 0 = omega arith in
    let b : h / 2 ^ 32 % 256 ≡ 0 = omega arith in
    omega arith

-- and four bytes from their number
bytes_back : (b0 b1 b2 b3 : ℕ) → b0 < 256 → b1 < 256 → b2 < 256 → b3 < 256 → split4 (bytes4 b0 b1 b2 b3) ≡ b0 ∷ b1 ∷ b2 ∷ b3 ∷ []
bytes_back b0 b1 b2 b3 h0 h1 h2 h3 =
    let e : bytes4 b0 b1 b2 b3 ≡ 0 * 2 ^ 40 + 0 * 2 ^ 32 + b0 * 2 ^ 24 + b1 * 2 ^ 16 + b2 * 2 ^ 8 + b3 = omega arith in
    rw e (ap (λ (l : List ℕ). drop 2 l) (bytes-number 0 0 b0 b1 b2 b3 (omega arith) (omega arith) h0 h1 h2 h3))

-- the fields of the header that the reader makes
module _ (c n : ℕ) (few : c ≤ 4095) (small : n ≤ 64) where
  header_small : header4 1 c n < 2 ^ 32
  header_small = omega arith

  header-version : version_of (header4 1 c n) ≡ 1
  header-version = omega arith

  header-count : count_of (header4 1 c n) ≡ c
  header-count = omega arith

  header-registers : registers_of (header4 1 c n) ≡ n
  header-registers = omega arith

  header-zeros : zeros_of (header4 1 c n) ≡ 0
  header-zeros = omega arith

-- a header whose last nine bits are zero comes back from its fields
header-fields : (h : ℕ) → zeros_of h ≡ 0 → header4 (version_of h) (count_of h) (registers_of h) ≡ h
header-fields h z = omega arith

-- ---- its words
-- after word k comes the next
next-part : (s : List ℕ) (k : ℕ) → drop (4 + 6 * (k + 1)) s ≡ drop 6 (drop (4 + 6 * k) s)
next-part s k = let e : 4 + 6 * (k + 1) ≡ 4 + 6 * k + 6 = omega arith in rw e (sym (drop-drop 6 (4 + 6 * k) s))

-- a word whose six bytes stand at place k is word k
number-made : (s : List ℕ) (k : ℕ) (w : Word) (rest : List ℕ) → InRange w → drop (4 + 6 * k) s ≡ bytes6 (packed_number w) ++ rest
    → number_at s k ≡ packed_number w
unfolding number_at
number-made s k w rest r e = ap (λ (l : List ℕ). number6 (take 6 l)) e ∙ number-bytes (packed_number w) [] (packed_lt w r)

-- and so are words one after another
words-made : (n : ℕ) (s : List ℕ) (k : ℕ) (ws : List Word) → All (WordReady n) ws → drop (4 + 6 * k) s ≡ packed_all ws
    → words_from s k (length ws) ≡ ws
unfolding words_from
words-made n s k [] a e = refl
words-made n s k (w ∷ ws) (allMore h a) e =
    ap₂ {C = List Word} (λ v l. v ∷ l) (ap fields_of (number-made s k w (packed_all ws) h.range e) ∙ fields_packed w h.range)
    (words-made n s (k + 1) ws a (next-part s k ∙ ap (drop 6) e))

-- what a word that is ready is not refused for
pub registers-below : (n : ℕ) (w : Word) → WordReady n w → some (leb n) (register_fields w) ≡ false
registers-below n w h = rw (lt-leb n w.a h.a, lt-leb n w.b h.b, lt-leb n w.y h.y) refl

pub fields_small : (w : Word) → InRange w → too_large w ≡ false
fields_small w r = ap too_large (sym (fields_packed w r)) ∙ fields_fit (packed_number w)

-- two numbers that are the same do not differ
no_differ : (m n : ℕ) → m ≡ n → differ m n ≡ false
no_differ m n e = rw (eq-eqb m n e) refl

-- so its number is not refused
number-none : (n k v : ℕ) (w : Word) → WordReady n w → v ≡ packed_number w → None (number_rows v n k)
number-none n k v w h e =
    let f : fields_of v ≡ w = ap fields_of e ∙ fields_packed w h.range in
    more (no_differ (spare_of v) 0 (ap (λ (x : ℕ). spare_of x) e ∙ packed_spare w))
    (more (ap left_idle f ∙ h.not_idle)
    (more (ap (λ (x : Word). lacks_page x.opcode) f ∙ h.page)
    (more (ap (λ (x : Word). some (leb n) (register_fields x)) f ∙ registers-below n w h) none)))

-- nor are those of words one after another
rows_made : (n : ℕ) (s : List ℕ) (k : ℕ) (ws : List Word) → All (WordReady n) ws → drop (4 + 6 * k) s ≡ packed_all ws
    → None (rows_by (word_rows s n) k (length ws))
unfolding word_rows
rows_made n s k [] a e = none
rows_made n s k (w ∷ ws) (allMore h a) e =
    none_both (word_rows s n k) (rows_by (word_rows s n) (k + 1) (length ws))
    (number-none n k (number_at s k) w h (number-made s k w (packed_all ws) h.range e))
    (rows_made n s (k + 1) ws a (next-part s k ∙ ap (drop 6) e))

-- ---- what a sheet has that passed the check
pub record Passed (s : List ℕ) : Type 0 where
  pub version : version_of (number4 s) ≡ 1
  pub zeros : zeros_of (number4 s) ≡ 0
  pub positive : 0 < declared_of s
  pub small : declared_of s ≤ 64
  pub size : length s ≡ 4 + 6 * words_of s
  pub words : None (rows_by (word_rows s (declared_of s)) 0 (words_of s))

pub passed : (s : List ℕ) → check_of s Nothing Nothing ≡ good → Passed s
unfolding check_beside rows_beside words_of declared_of
passed s e = go (good_none (sheet_rows s Nothing Nothing) e)
  where
    h : ℕ
    h = number4 s

    z : Bool
    z = differ (zeros_of h) 0

    go : None (sheet_rows s Nothing Nothing) → Passed s
    go (more h₁ (more h₂ (more h₃ (more h₄ (more h₅ t))))) =
        let r : Ready s (declared_of s) = ready_alone 0 s Nothing e in
        let k : (z || eqb (registers_of h) 0) ≡ false = or_left (z || eqb (registers_of h) 0) (ltb 64 (registers_of h)) h₃ in
        let l : ℕ = 4 + 6 * count_of h + 0 * registers_of h in
        let m : length s ≡ l = eqb-true (length s) l (not-false _ h₄) in
        record {
          version = eqb-true (version_of h) 1 (not-false _ h₂);
          zeros = eqb-true (zeros_of h) 0 (not-false _ (or_left z (eqb (registers_of h) 0) k));
          positive = r.some;
          small = r.few;
          size = omega arith;
          words = none_left (body 0 s Nothing Nothing) (tail 0 s Nothing Nothing) t;
        }

-- and the other way round
passes : (s : List ℕ) → Passed s → check_of s Nothing Nothing ≡ good
unfolding check_beside rows_beside words_of declared_of
passes s p =
    let h : ℕ = number4 s in
    none_good (sheet_rows s Nothing Nothing)
    (more (le-ltb (length s) 4 (omega arith))
    (more (no_differ (version_of h) 1 p.version)
    (more (rw (no_differ (zeros_of h) 0 p.zeros, ne_eqb (registers_of h) 0 (omega arith), le-ltb 64 (registers_of h) p.small) refl)
    (more (no_differ (length s) (4 + 6 * count_of h + 0 * registers_of h) (omega arith))
    (more refl
    (none_both (body 0 s Nothing Nothing) (tail 0 s Nothing Nothing) p.words (more refl none)))))))

-- ---- the sheet of n registers and words that can be run on them
pub record Sound (n : ℕ) (ws : List Word) : Type 0 where
  pub positive : 0 < n
  pub small : n ≤ 64
  pub few : length ws ≤ 4095
  pub ready : All (WordReady n) ws

module _ {n : ℕ} {ws : List Word} (h : Sound n ws) where
  -- its header has the count and the registers
  header_made : number4 (sheet_for n ws) ≡ header4 1 (length ws) n
  header_made = header_back (header4 1 (length ws) n) (packed_all ws) (header_small (length ws) n h.few h.small)

  version-made : version_of (number4 (sheet_for n ws)) ≡ 1
  version-made = ap version_of header_made ∙ header-version (length ws) n h.few h.small

  count-made : words_of (sheet_for n ws) ≡ length ws
  unfolding words_of
  count-made = ap count_of header_made ∙ header-count (length ws) n h.few h.small

  pub registers-made : declared_of (sheet_for n ws) ≡ n
  unfolding declared_of
  registers-made = ap registers_of header_made ∙ header-registers (length ws) n h.few h.small

  zeros-made : zeros_of (number4 (sheet_for n ws)) ≡ 0
  zeros-made = ap zeros_of header_made ∙ header-zeros (length ws) n h.few h.small

  -- its words are those
  pub all_made : all_words (sheet_for n ws) ≡ ws
  all_made = ap (words_from (sheet_for n ws) 0) count-made ∙ words-made n (sheet_for n ws) 0 ws h.ready refl

  pub size-made : length (sheet_for n ws) ≡ 4 + 6 * length ws
  size-made = omega (arith, packed_length ws)

  -- it passes the check
  pub made_good : check_of (sheet_for n ws) Nothing Nothing ≡ good
  made_good = passes (sheet_for n ws) (record {
    version = version-made;
    zeros = zeros-made;
    positive = omega (arith, registers-made);
    small = omega (arith, registers-made);
    size = omega (arith, size-made, count-made);
    words = rw (registers-made, count-made) (rows_made n (sheet_for n ws) 0 ws h.ready refl);
  })

-- ---- every sheet of bytes that passed is so put together
-- n bytes from place k on, one by one
abbrev bytes_from : List ℕ → ℕ → ℕ → List ℕ
bytes_from s k zero = []
bytes_from s k (suc n) = get_or s k 0 ∷ bytes_from s (k + 1) n

-- are a part of it
bytes-from : (s : List ℕ) (k n : ℕ) → k + n ≤ length s → bytes_from s k n ≡ take n (drop k s)
bytes-from s k zero h = refl
bytes-from s k (suc n) h =
    let e : k + 1 ≡ suc k = omega arith in
    ap (λ (l : List ℕ). get_or s k 0 ∷ l) (bytes-from s (k + 1) n (omega arith) ∙ ap (λ (j : ℕ). take n (drop j s)) e)
    ∙ ap (take (suc n)) (sym (drop-cons s k 0 (omega arith)))

module _ (s : List ℕ) (byte : (i : ℕ) → get_or s i 0 < 256) (p : Passed s) where
  -- no word has a spare bit set
  spare_zero : (k : ℕ) → k < words_of s → spare_of (number_at s k) ≡ 0
  unfolding word_rows
  spare_zero k h = go (none_at (word_rows s (declared_of s)) 0 (words_of s) p.words k (omega arith) (omega arith))
    where
      go : None (word_rows s (declared_of s) k) → spare_of (number_at s k) ≡ 0
      go (more z t) = eqb-true (spare_of (number_at s k)) 0 (not-false _ z)

  -- so the six bytes of a word are those of its fields
  part-made : (k : ℕ) → k < words_of s → bytes6 (packed_number (word_at s k)) ≡ part_of s k
  unfolding number_at
  part-made k h =
      let q : List ℕ = part_of s k in
      let l : length q ≡ 6 = part-six s k (omega (arith, p.size)) in
      ap bytes6 (packed_fields (number_at s k) (spare_zero k h))
      ∙ bytes-number (get_or q 0 0) (get_or q 1 0) (get_or q 2 0) (get_or q 3 0) (get_or q 4 0) (get_or q 5 0) (at 0 (omega arith)) (at 1 (omega arith))
      (at 2 (omega arith)) (at 3 (omega arith)) (at 4 (omega arith)) (at 5 (omega arith))
      ∙ bytes-from q 0 6 (omega arith)
      ∙ take_all 6 q (omega arith)
    where
      at : (i : ℕ) → i < 6 → get_or (part_of s k) i 0 < 256
      at i h = rw (get_or-take 6 (drop (4 + 6 * k) s) i 0 h, get_or-drop (4 + 6 * k) s i 0) (byte (4 + 6 * k + i))

  -- and the bytes from word k on those of the words from there on
  parts_made : (k n : ℕ) → k + n ≡ words_of s → packed_all (words_from s k n) ≡ drop (4 + 6 * k) s
  unfolding words_from
  parts_made k zero h = sym (drop_of_length-le s {i = 4 + 6 * k} (omega (arith, p.size)))
  parts_made k (suc n) h =
      ap₂ {C = List ℕ} (λ a b. a ++ b) (part-made k (omega arith)) (parts_made (k + 1) n (omega arith) ∙ next-part s k)
      ∙ take-append-drop 6 (drop (4 + 6 * k) s)

  -- the header is that of its fields
  header_said : header4 1 (length (all_words s)) (declared_of s) ≡ number4 s
  unfolding words_of declared_of
  header_said =
      ap₂ (λ v c. header4 v c (declared_of s)) (sym p.version) (words-length s 0 (words_of s)) ∙ header-fields (number4 s) p.zeros

  -- and the sheet that of its register count and its words
  pub sheet_made : sheet_for (declared_of s) (all_words s) ≡ s
  sheet_made =
      ap₂ {C = List ℕ} (λ a b. a ++ b) header (parts_made 0 (words_of s) (omega arith))
      ∙ take-append-drop 4 s
    where
      header : split4 (header4 1 (length (all_words s)) (declared_of s)) ≡ take 4 s
      header =
          ap split4 header_said
          ∙ bytes_back (get_or s 0 0) (get_or s 1 0) (get_or s 2 0) (get_or s 3 0) (byte 0) (byte 1) (byte 2) (byte 3)
          ∙ bytes-from s 0 4 (omega (arith, p.size))
