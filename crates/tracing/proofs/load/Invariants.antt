-- The registers before `k` are loaded.
use Rattle.std.proofs.Common.{◌≡◌, ℕ, ◌+◌, ◌*◌, ◌<◌, get_or}
use Rattle.bits.specs.Bits.{bytes4_at}
use Rattle.tracing.proofs.load.Given as goal

abbrev pub invariant-loop-k : goal.invariant-loop-k
invariant-loop-k l = (j : ℕ) → j < l.k → get_or l.file j 0 ≡ bytes4_at l.input (l.at + 4 * j)
