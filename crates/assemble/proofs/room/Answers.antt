-- The length of a row of zeros by its law: counted one by one it would be too long for the prover.
use mathlib.Core.Path.{◌≡◌, sym}
use Prim.Native.Nat.{ℕ}
use lib.ListN.{length, replicate, length-replicate}
use Rattle.assemble.proofs.room.Goals as goal

zeros : (n byte : ℕ) → n ≡ length (replicate n byte)
zeros n byte = sym (length-replicate n byte)

pub returns : goal.returns
returns c = zeros 1048576 0
