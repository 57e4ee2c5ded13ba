-- What packing and unpacking answer where no row refuses, and that the answer is what the table says.
use mathlib.Core.Path.{◌≡◌, refl, ap, ◌∙◌, sym}
use mathlib.Core.List.{List}
use mathlib.Core.Bool.{false}
use Prim.Native.Nat.{ℕ, ◌≤◌}
use borrow.Author.Tests.{eq-eqb, le-ltb}
use lib.ListN.{length}
use Rattle.std.proofs.Common.{Result, Ok, Err}
use Rattle.chip.specs.declared.Word.{Word}
use Rattle.reasons.specs.declared.Refusal.{Refusal}
use Rattle.reasons.specs.Reasons.{Check, good, first_of, check_by}
use Rattle.chip.specs.Single.{lacks_page}
use Rattle.packing.specs.Packing.{number6, fields_of, spare_of, too_large, left_idle, pack_rows, packed_into, Packed, ended, packed_by, pack_of, unpack_rows, unpacked_by, unpack_of}

module _ (w : Word) (d : List ℕ) where
  pub pack_done : lacks_page w.opcode ≡ false → too_large w ≡ false → left_idle w ≡ false → 6 ≤ length d → ended good (packed_into w d) ≡ pack_of w d
  unfolding pack_of
  pack_done e f g h = rw (e, f, g, le-ltb (length d) 6 h) refl

  -- the answer is what the table says, so a reason is given exactly when its condition holds and no earlier one does (`Rows` of `reasons`)
  pub pack-check : (pack_of w d).check ≡ first_of (pack_rows w (length d))
  unfolding pack_of
  pack-check = go (first_of (pack_rows w (length d)))
    where
      go : (c : Check) → (packed_by c w d).check ≡ c
      go (Ok done) = refl
      go (Err refusal) = refl

  -- no second answer and buffer meet the promise of `pack`
  pub pack-only : (r r' : Check) (b b' : List ℕ) → ended r b ≡ pack_of w d → ended r' b' ≡ pack_of w d → (r ≡ r') × (b ≡ b')
  pack-only r r' b b' e e' =
      (ap (λ (p : Packed). p.check) (e ∙ sym e'), ap (λ (p : Packed). p.bytes) (e ∙ sym e'))

module _ (s : List ℕ) where
  pub unpack_done : 6 ≤ length s → spare_of (number6 s) ≡ 0 → left_idle (fields_of (number6 s)) ≡ false
      → lacks_page (fields_of (number6 s)).opcode ≡ false → Ok (fields_of (number6 s)) ≡ unpack_of s
  unfolding unpack_of
  unpack_done h z i e = rw (le-ltb (length s) 6 h, eq-eqb (spare_of (number6 s)) 0 z, i, e) refl

  -- the answer is what the table says
  pub unpack-check : check_by (unpack_of s) ≡ first_of (unpack_rows s)
  unfolding unpack_of
  unpack-check = go (first_of (unpack_rows s))
    where
      go : (c : Check) → check_by (unpacked_by c (fields_of (number6 s))) ≡ c
      go (Ok done) = refl
      go (Err refusal) = refl

  -- no second answer meets the promise of `unpack`
  pub unpack-only : (r r' : Result Word Refusal) → r ≡ unpack_of s → r' ≡ unpack_of s → r ≡ r'
  unpack-only r r' e e' = e ∙ sym e'
