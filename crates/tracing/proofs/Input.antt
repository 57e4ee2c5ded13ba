-- The input taken apart: its counts, and its registers one after another.
use mathlib.Core.Path.{◌≡◌, refl, ap, ap₂, sym, subst, ◌∙◌}
use mathlib.Core.List.{List}
use Prim.Native.Nat.{ℕ, zero, suc, ◌+◌, ◌*◌, ◌≤◌, ◌<◌}
use native.Mathlib.Omega.{arith}
use lib.ListN.{length, get_or, take, length-take}
use lib.Seq.{ext_get_or}
use Rattle.std.proofs.Common.{None}
use Rattle.bits.specs.Bits.{bytes4_at}
use Rattle.reasons.specs.Reasons.{good}
use Rattle.sheet.specs.Sheet.{words_of, declared_of, input_of, Ready}
use Rattle.sheet.proofs.Table.{ready_alone, input_length}
use Rattle.tracing.specs.Input.{size_of, registers_from, file_in}

pub words_few : (x : List ℕ) → words_of x < 4096
unfolding words_of
words_few x = omega arith

pub size_is : (x : List ℕ) (n : ℕ) → n ≡ words_of x → 4 + 6 * n ≡ size_of x
unfolding size_of
size_is x n e = ap (λ (k : ℕ). 4 + 6 * k) e

-- ---- an input that was checked
module _ (x : List ℕ) (e : input_of x ≡ good) where
  pub input_ready : (n : ℕ) → n ≡ declared_of x → Ready x n
  input_ready n f = subst (Ready x) (sym f) (ready_alone 4 x None e)

  pub input_room : (at n : ℕ) → at ≡ size_of x → n ≡ declared_of x → at + 4 * n ≤ length x
  input_room at n f g = omega (arith, size_is x (words_of x) refl, input_length x e)

  pub input_file : (at n : ℕ) {file : List ℕ} → at ≡ size_of x → n ≡ declared_of x → file ≡ registers_from x at 0 n → file ≡ file_in x
  input_file at n f g h = h ∙ ap₂ (λ (i k : ℕ). registers_from x i 0 k) f g

-- as many of 64 as are declared
pub room : (n m : ℕ) (l : List ℕ) → n ≡ m → length l ≡ 64 → m ≤ 64 → length (take n l) ≡ m
room n m l e h k = simp length-take (omega arith)

registers-length : (x : List ℕ) (i k n : ℕ) → length (registers_from x i k n) ≡ n
unfolding registers_from
registers-length x i k zero = refl
registers-length x i k (suc n) = ap suc (registers-length x i (k + 1) n)

registers-at : (x : List ℕ) (i k n j : ℕ) → j < n → get_or (registers_from x i k n) j 0 ≡ bytes4_at x (i + 4 * (k + j))
unfolding registers_from
registers-at x i k zero j h = absurd (omega arith)
registers-at x i k (suc n) zero h = let e : k + 0 ≡ k = omega arith in rw e refl
registers-at x i k (suc n) (suc j) h =
    let e : k + 1 + j ≡ k + suc j = omega arith in
    registers-at x i (k + 1) n j (omega arith) ∙ rw e refl

-- the loop's end: those before k are loaded, and k has passed the last
pub loaded : (x : List ℕ) (i n k : ℕ) (l : List ℕ) → length l ≡ n → n ≤ k → ((j : ℕ) → j < k → get_or l j 0 ≡ bytes4_at x (i + 4 * j))
    → l ≡ registers_from x i 0 n
loaded x i n k l e h f =
    ext_get_or 0 l (registers_from x i 0 n) (e ∙ sym (registers-length x i 0 n))
    (λ j lt. f j (omega (arith, e)) ∙ sym (registers-at x i 0 n j (omega (arith, e)) ∙ plain j))
  where
    plain : (j : ℕ) → bytes4_at x (i + 4 * (0 + j)) ≡ bytes4_at x (i + 4 * j)
    plain j = let e : 0 + j ≡ j = omega arith in rw e refl
