-- Laws of one word: no page past 127, which fields are in range, and that a word's number, its fields and its six bytes determine
-- one another.
use mathlib.Core.Path.{◌≡◌, refl, ap, ◌∙◌, sym}
use mathlib.Core.List.{List, [], ◌∷◌, ◌++◌}
use mathlib.Core.Bool.{Bool, true, false, ◌&&◌, ◌||◌, true≢false}
use Prim.Native.Nat.{ℕ, zero, suc, ◌+◌, ◌*◌, ◌/◌, ◌%◌, ◌^◌, ◌<◌}
use native.Mathlib.Omega.{arith}
use native.Mathlib.Decide.{dec_lt}
use native.Mathlib.Nat.{mod-eq_of_lt}
use borrow.Author.Tests.{le-ltb, ne_eqb}
use lib.Dec.{eqb}
use Rattle.std.proofs.lemmas.Bool.Decides.{nat_tests}
use Rattle.bits.specs.Bits.{choose}
use lib.Pow.{split, mod-pow-add}
use lib.ListN.{get_or-eq_default}
use Rattle.chip.specs.declared.Word.{Word}
use Rattle.chip.specs.Glossary.{glossary}
use Rattle.chip.specs.Glossary.Page.{no_page}
use Rattle.chip.specs.Single.{is_no_page, lacks_page, out_of_range}
use Rattle.packing.specs.Packing.{differ, number6, fields_of, spare_of, packed_number, bytes6, some, too_large, InRange}

-- ---- ranges
pub or_left : (a b : Bool) → (a || b) ≡ false → a ≡ false
or_left true b h = h
or_left false b h = refl

pub or_right : (a b : Bool) → (a || b) ≡ false → b ≡ false
or_right true b h = absurd (true≢false h)
or_right false b h = h

-- there is no page past 127
pub page_small : (n : ℕ) → lacks_page n ≡ false → n < 128
unfolding lacks_page
page_small n h = go (dec_lt n 128)
  where
    go : Dec (n < 128) → n < 128
    go (yes l) = l
    go (no l) = absurd (true≢false (sym (ap is_no_page (get_or-eq_default glossary no_page {n = n} (omega arith))) ∙ h))

-- a field is left idle where bits of it are
pub idle_differs : (write y : ℕ) → differ (choose write y 0) 0 ≡ (eqb write 0 && differ y 0)
idle_differs zero y = refl
idle_differs (suc k) y = ap (λ (t : Bool). t && differ y 0) (sym (ne_eqb (suc k) 0 (λ (e : suc k ≡ 0). omega arith)))

-- none of the numbers passes the test
pub data Every (p : ℕ → Bool) : List ℕ → Type 0 where
  end : Every p []
  and : {x : ℕ} {xs : List ℕ} → p x ≡ false → Every p xs → Every p (x ∷ xs)

pub every : (p : ℕ → Bool) (xs : List ℕ) → some p xs ≡ false → Every p xs
every p [] h = end
every p (x ∷ xs) h = and (or_left (p x) (some p xs) h) (every p xs (or_right (p x) (some p xs) h))

-- what packing does not refuse for its opcode or its fields is in range
pub in_range : (w : Word) → lacks_page w.opcode ≡ false → too_large w ≡ false → InRange w
unfolding too_large out_of_range
in_range w n h = record {
  opcode = page_small w.opcode n;
  code = grind (arith, nat_tests);
  position = grind (arith, nat_tests);
  width = grind (arith, nat_tests);
  a = grind (arith, nat_tests);
  b = grind (arith, nat_tests);
  y = grind (arith, nat_tests);
  write = grind (arith, nat_tests);
  select = grind (arith, nat_tests);
  carry = grind (arith, nat_tests);
  link = grind (arith, nat_tests);
  borrow = grind (arith, nat_tests);
}

-- the fields of any number are in range, if only its opcode is
pub fields_range : (v : ℕ) → (fields_of v).opcode < 128 → InRange (fields_of v)
unfolding fields_of
fields_range v h = record {
  opcode = h;
  code = omega arith;
  position = omega arith;
  width = omega arith;
  a = omega arith;
  b = omega arith;
  y = omega arith;
  write = omega arith;
  select = omega arith;
  carry = omega arith;
  link = omega arith;
  borrow = omega arith;
}

-- so they are never refused for their range
pub fields_fit : (v : ℕ) → too_large (fields_of v) ≡ false
unfolding too_large out_of_range fields_of
fields_fit v =
    rw (
      le-ltb 3 (v / 2 ^ 39 % 4) (omega arith),
      le-ltb 63 (v / 2 ^ 33 % 64) (omega arith),
      le-ltb 31 (v / 2 ^ 28 % 32) (omega arith),
      le-ltb 63 (v / 2 ^ 22 % 64) (omega arith),
      le-ltb 63 (v / 2 ^ 16 % 64) (omega arith),
      le-ltb 63 (v / 2 ^ 10 % 64) (omega arith),
      le-ltb 1 (v / 2 ^ 9 % 2) (omega arith),
      le-ltb 1 (v / 2 ^ 8 % 2) (omega arith),
      le-ltb 1 (v / 2 ^ 7 % 2) (omega arith),
      le-ltb 1 (v / 2 ^ 6 % 2) (omega arith),
      le-ltb 1 (v / 2 ^ 5 % 2) (omega arith),
    )
    refl

-- ---- a word's number
-- fields in range come back from their number
pub fields_packed : (w : Word) → InRange w → fields_of (packed_number w) ≡ w
unfolding fields_of
fields_packed w h = λ i. record {
  opcode = opcode i;
  code = code i;
  position = position i;
  width = width i;
  a = a i;
  b = b i;
  y = y i;
  write = write i;
  select = select i;
  carry = carry i;
  link = link i;
  borrow = borrow i;
}
  where
    opcode : packed_number w / 2 ^ 41 ≡ w.opcode
    opcode = omega arith

    code : packed_number w / 2 ^ 39 % 4 ≡ w.code
    code = omega arith

    position : packed_number w / 2 ^ 33 % 64 ≡ w.position
    position = omega arith

    width : packed_number w / 2 ^ 28 % 32 ≡ w.width
    width = omega arith

    a : packed_number w / 2 ^ 22 % 64 ≡ w.a
    a = omega arith

    b : packed_number w / 2 ^ 16 % 64 ≡ w.b
    b = omega arith

    y : packed_number w / 2 ^ 10 % 64 ≡ w.y
    y = omega arith

    write : packed_number w / 2 ^ 9 % 2 ≡ w.write
    write = omega arith

    select : packed_number w / 2 ^ 8 % 2 ≡ w.select
    select = omega arith

    carry : packed_number w / 2 ^ 7 % 2 ≡ w.carry
    carry = omega arith

    link : packed_number w / 2 ^ 6 % 2 ≡ w.link
    link = omega arith

    borrow : packed_number w / 2 ^ 5 % 2 ≡ w.borrow
    borrow = omega arith

-- its last five bits are zero
pub packed_spare : (w : Word) → spare_of (packed_number w) ≡ 0
packed_spare w = omega arith

-- and it has 48 bits
pub packed_lt : (w : Word) → InRange w → packed_number w < 2 ^ 48
packed_lt w h = omega arith

-- a number whose last five bits are zero comes back from its fields: field after field is taken off the remainder
packed_sum : (v q c p t a b y e s k l o : ℕ)
    (r41 r39 r33 r28 r22 r16 r10 r9 r8 r7 r6 r5 : ℕ)
    → q * 2 ^ 41 + r41 ≡ v → r41 ≡ c * 2 ^ 39 + r39 → r39 ≡ p * 2 ^ 33 + r33 → r33 ≡ t * 2 ^ 28 + r28
    → r28 ≡ a * 2 ^ 22 + r22 → r22 ≡ b * 2 ^ 16 + r16 → r16 ≡ y * 2 ^ 10 + r10 → r10 ≡ e * 2 ^ 9 + r9
    → r9 ≡ s * 2 ^ 8 + r8 → r8 ≡ k * 2 ^ 7 + r7 → r7 ≡ l * 2 ^ 6 + r6 → r6 ≡ o * 2 ^ 5 + r5 → r5 ≡ 0
    → q * 2 ^ 41 + c * 2 ^ 39 + p * 2 ^ 33 + t * 2 ^ 28 + a * 2 ^ 22 + b * 2 ^ 16 + y * 2 ^ 10 + e * 2 ^ 9 + s * 2 ^ 8 + k * 2 ^ 7 + l * 2 ^ 6 + o * 2 ^ 5 ≡ v
packed_sum v q c p t a b y e s k l o r41 r39 r33 r28 r22 r16 r10 r9 r8 r7 r6 r5 h0 h1 h2 h3 h4 h5 h6 h7 h8 h9 h10 h11 h12 = omega arith

pub packed_fields : (v : ℕ) → spare_of v ≡ 0 → packed_number (fields_of v) ≡ v
unfolding fields_of
packed_fields v z =
    packed_sum v (v / 2 ^ 41) (v / 2 ^ 39 % 4) (v / 2 ^ 33 % 64) (v / 2 ^ 28 % 32) (v / 2 ^ 22 % 64) (v / 2 ^ 16 % 64) (v / 2 ^ 10 % 64)
    (v / 2 ^ 9 % 2) (v / 2 ^ 8 % 2) (v / 2 ^ 7 % 2) (v / 2 ^ 6 % 2) (v / 2 ^ 5 % 2)
    (v % 2 ^ 41) (v % 2 ^ 39) (v % 2 ^ 33) (v % 2 ^ 28) (v % 2 ^ 22) (v % 2 ^ 16) (v % 2 ^ 10) (v % 2 ^ 9) (v % 2 ^ 8)
    (v % 2 ^ 7) (v % 2 ^ 6) (v % 2 ^ 5)
    (split v 41) (mod-pow-add v 2 39) (mod-pow-add v 6 33) (mod-pow-add v 5 28) (mod-pow-add v 6 22) (mod-pow-add v 6 16)
    (mod-pow-add v 6 10) (mod-pow-add v 1 9) (mod-pow-add v 1 8) (mod-pow-add v 1 7) (mod-pow-add v 1 6) (mod-pow-add v 1 5)
    z

-- ---- its six bytes
-- a number of 48 bits comes back from its bytes, whatever follows them
bytes-sum : (v b0 b1 b2 b3 b4 b5 r40 r32 r24 r16 r8 : ℕ) → v ≡ b0 * 2 ^ 40 + r40 → r40 ≡ b1 * 2 ^ 32 + r32 → r32 ≡ b2 * 2 ^ 24 + r24
    → r24 ≡ b3 * 2 ^ 16 + r16 → r16 ≡ b4 * 2 ^ 8 + r8 → r8 ≡ b5
    → b0 * 2 ^ 40 + b1 * 2 ^ 32 + b2 * 2 ^ 24 + b3 * 2 ^ 16 + b4 * 2 ^ 8 + b5 ≡ v
bytes-sum v b0 b1 b2 b3 b4 b5 r40 r32 r24 r16 r8 h0 h1 h2 h3 h4 h5 = omega arith

pub number-bytes : (v : ℕ) (d : List ℕ) → v < 2 ^ 48 → number6 (bytes6 v ++ d) ≡ v
number-bytes v d h =
    bytes-sum v (v / 2 ^ 40 % 256) (v / 2 ^ 32 % 256) (v / 2 ^ 24 % 256) (v / 2 ^ 16 % 256) (v / 2 ^ 8 % 256) (v % 256)
    (v % 2 ^ 40) (v % 2 ^ 32) (v % 2 ^ 24) (v % 2 ^ 16) (v % 2 ^ 8) (sym (mod-eq_of_lt h) ∙ mod-pow-add v 8 40) (mod-pow-add v 8 32)
    (mod-pow-add v 8 24) (mod-pow-add v 8 16) (mod-pow-add v 8 8) refl

-- and six bytes from their number
abbrev joined6 : ℕ → ℕ → ℕ → ℕ → ℕ → ℕ → ℕ
joined6 b0 b1 b2 b3 b4 b5 = b0 * 2 ^ 40 + b1 * 2 ^ 32 + b2 * 2 ^ 24 + b3 * 2 ^ 16 + b4 * 2 ^ 8 + b5

pub bytes-number : (b0 b1 b2 b3 b4 b5 : ℕ) → b0 < 256 → b1 < 256 → b2 < 256 → b3 < 256 → b4 < 256 → b5 < 256
    → bytes6 (b0 * 2 ^ 40 + b1 * 2 ^ 32 + b2 * 2 ^ 24 + b3 * 2 ^ 16 + b4 * 2 ^ 8 + b5) ≡ b0 ∷ b1 ∷ b2 ∷ b3 ∷ b4 ∷ b5 ∷ []
bytes-number b0 b1 b2 b3 b4 b5 h0 h1 h2 h3 h4 h5 = λ i. e0 i ∷ e1 i ∷ e2 i ∷ e3 i ∷ e4 i ∷ e5 i ∷ []
  where
    e0 : joined6 b0 b1 b2 b3 b4 b5 / 2 ^ 40 % 256 ≡ b0
    e0 = omega arith

    e1 : joined6 b0 b1 b2 b3 b4 b5 / 2 ^ 32 % 256 ≡ b1
    e1 = omega arith

    e2 : joined6 b0 b1 b2 b3 b4 b5 / 2 ^ 24 % 256 ≡ b2
    e2 = omega arith

    e3 : joined6 b0 b1 b2 b3 b4 b5 / 2 ^ 16 % 256 ≡ b3
    e3 = omega arith

    e4 : joined6 b0 b1 b2 b3 b4 b5 / 2 ^ 8 % 256 ≡ b4
    e4 = omega arith

    e5 : joined6 b0 b1 b2 b3 b4 b5 % 256 ≡ b5
    e5 = omega arith
