-- Every mnemonic fits its column.
use mathlib.Core.Path.{◌≡◌, refl, ◌∙◌}
use Prim.Native.Nat.{ℕ, ◌-◌, ◌≤◌}
use native.Mathlib.Omega.{arith}
use lib.Dec.{leb}
use lib.ListN.{length, length-append, replicate, length-replicate}
use borrow.Author.Tests.{leb-true}
use Rattle.text.specs.Ascii.{space}
use Rattle.mnemonics.specs.Mnemonics.{mnemonic_of, in_column}
use Rattle.mnemonics.proofs.Mnemonics.{at_mnemonic}

-- none has more than eleven bytes
pub mnemonic_short : (n : ℕ) → length (mnemonic_of n) ≤ 11
mnemonic_short n = leb-true (length (mnemonic_of n)) 11 (at_mnemonic (λ m. leb (length m) 11) refl n)

pub column-length : (n : ℕ) → length (in_column (mnemonic_of n)) ≡ 12
column-length n =
    length-append (mnemonic_of n) (replicate (12 - length (mnemonic_of n)) space)
    ∙ omega (arith, length-replicate (12 - length (mnemonic_of n)) space, mnemonic_short n)
