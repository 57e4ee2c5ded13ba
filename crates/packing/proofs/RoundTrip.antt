-- Packing and unpacking undo one another, at the level of what `pack` and `unpack` promise.
use mathlib.Core.Path.{◌≡◌, refl, ap, ◌∙◌, sym}
use mathlib.Core.List.{List, [], ◌∷◌, ◌++◌}
use mathlib.Core.Bool.{false}
use Prim.Native.Nat.{ℕ, ◌≤◌, ◌<◌}
use native.Mathlib.Omega.{arith}
use borrow.Author.Tests.{eqb-true, ltb-false, not-false}
use lib.ListN.{length, get_or, take, drop}
use Rattle.chip.specs.declared.Word.{Word}
use Rattle.std.proofs.Common.{Ok}
use Rattle.reasons.specs.Reasons.{good, check_by}
use Rattle.reasons.proofs.Rows.{None, good_none}
use Rattle.reasons.proofs.Rows.None.{none, more}
use Rattle.chip.specs.Single.{lacks_page}
use Rattle.packing.specs.Packing.{number6, fields_of, spare_of, packed_number, bytes6, too_large, left_idle, InRange, pack_rows, packed_into, Packed, ended, pack_of, unpack_rows, unpack_of}
use Rattle.packing.proofs.Numbers.{in_range, fields_fit, fields_packed, packed_spare, packed_lt, packed_fields, number-bytes, bytes-number}
use Rattle.packing.proofs.Ends.{pack-check, pack_done, unpack-check, unpack_done}

-- what packing found where it refused nothing
record Packable (w : Word) (d : List ℕ) : Type 0 where
  pub page : lacks_page w.opcode ≡ false
  pub fits : too_large w ≡ false
  pub not_idle : left_idle w ≡ false
  pub room : 6 ≤ length d

packable : (w : Word) (d : List ℕ) → (pack_of w d).check ≡ good → Packable w d
packable w d e = go (good_none (pack_rows w (length d)) (sym (pack-check w d) ∙ e))
  where
    go : None (pack_rows w (length d)) → Packable w d
    go (more h₁ (more h₂ (more h₃ (more h₄ none)))) = record { page = h₁; fits = h₂; not_idle = h₃; room = ltb-false (length d) 6 h₄ }

-- Unpacking what was packed gives the fields: where `pack` refuses nothing, `unpack` on the bytes that it leaves answers the same word.
pub pack-then-unpack : (w : Word) (d : List ℕ) → (pack_of w d).check ≡ good → unpack_of (pack_of w d).bytes ≡ Ok w
pack-then-unpack w d e =
    let p : Packable w d = packable w d e in
    let r : InRange w = in_range w p.page p.fits in
    let s : List ℕ = packed_into w d in
    let b : (pack_of w d).bytes ≡ s = ap (λ (x : Packed). x.bytes) (sym (pack_done w d p.page p.fits p.not_idle p.room)) in
    let n : number6 s ≡ packed_number w = number-bytes (packed_number w) (drop 6 d) (packed_lt w r) in
    let f : fields_of (number6 s) ≡ w = ap fields_of n ∙ fields_packed w r in
    let z : spare_of (number6 s) ≡ 0 = ap (λ (x : ℕ). spare_of x) n ∙ packed_spare w in
    let i : left_idle (fields_of (number6 s)) ≡ false = ap left_idle f ∙ p.not_idle in
    let o : lacks_page (fields_of (number6 s)).opcode ≡ false = ap (λ (x : Word). lacks_page x.opcode) f ∙ p.page in
    ap unpack_of b ∙ sym (unpack_done s (omega arith) z i o) ∙ ap Ok f

-- what unpacking found where it refused nothing
record Unpackable (s : List ℕ) : Type 0 where
  pub room : 6 ≤ length s
  pub spare : spare_of (number6 s) ≡ 0
  pub not_idle : left_idle (fields_of (number6 s)) ≡ false
  pub page : lacks_page (fields_of (number6 s)).opcode ≡ false

unpackable : (s : List ℕ) → check_by (unpack_of s) ≡ good → Unpackable s
unpackable s e = go (good_none (unpack_rows s) (sym (unpack-check s) ∙ e))
  where
    go : None (unpack_rows s) → Unpackable s
    go (more h₁ (more h₂ (more h₃ (more h₄ none)))) =
        record { room = ltb-false (length s) 6 h₁; spare = eqb-true (spare_of (number6 s)) 0 (not-false _ h₂); not_idle = h₃; page = h₄ }

first-six : (s : List ℕ) → 6 ≤ length s
    → get_or s 0 0 ∷ get_or s 1 0 ∷ get_or s 2 0 ∷ get_or s 3 0 ∷ get_or s 4 0 ∷ get_or s 5 0 ∷ [] ≡ take 6 s
first-six [] e = absurd (omega arith)
first-six (a ∷ []) e = absurd (omega arith)
first-six (a ∷ b ∷ []) e = absurd (omega arith)
first-six (a ∷ b ∷ c ∷ []) e = absurd (omega arith)
first-six (a ∷ b ∷ c ∷ d ∷ []) e = absurd (omega arith)
first-six (a ∷ b ∷ c ∷ d ∷ f ∷ []) e = absurd (omega arith)
first-six (a ∷ b ∷ c ∷ d ∷ f ∷ g ∷ l) e = refl

-- Packing what was unpacked gives the bytes: where `unpack` answers a word on bytes s, `pack` of it into any buffer of six bytes or more
-- refuses nothing and leaves the first six bytes of s there, with the buffer's own after them.
pub unpack-then-pack : (s d : List ℕ) → ((i : ℕ) → get_or s i 0 < 256) → {w : Word} → unpack_of s ≡ Ok w → 6 ≤ length d
    → pack_of w d ≡ ended good (take 6 s ++ drop 6 d)
unpack-then-pack s d small {w} e h =
    let u : Unpackable s = unpackable s (ap check_by e) in
    let v : ℕ = number6 s in
    let same : w ≡ fields_of v = let both : Ok w ≡ Ok (fields_of v) = sym e ∙ sym (unpack_done s u.room u.spare u.not_idle u.page) in cc in
    let b : bytes6 (packed_number (fields_of v)) ≡ take 6 s =
    ap bytes6 (packed_fields v u.spare)
    ∙ bytes-number (get_or s 0 0) (get_or s 1 0) (get_or s 2 0) (get_or s 3 0) (get_or s 4 0) (get_or s 5 0) (small 0) (small 1) (small 2) (small 3)
    (small 4) (small 5)
    ∙ first-six s u.room in
    ap (λ (x : Word). pack_of x d) same ∙ sym (pack_done (fields_of v) d u.page (fields_fit v) u.not_idle h)
    ∙ ap (λ (x : List ℕ). ended good (x ++ drop 6 d)) b
