-- What listing and reading leave in numbers, by what they leave: the answer's two numbers, and the buffer.
use mathlib.Core.Path.{◌≡◌, ap}
use mathlib.Core.List.{List}
use Prim.Native.Nat.{ℕ}
use Rattle.std.proofs.Common.{Result}
use Rattle.std.specs.Result.{result_unwrap_or}
use Rattle.reasons.specs.declared.Refusal.{Refusal}
use Rattle.reasons.specs.Reasons.{check_numbers}
use Rattle.reasons.specs.Output.{Wrote as WroteBuffer, wrote}
use Rattle.am29332.specs.Numbers.{leaves, wrote_numbers}

pub told : (a : Result ℕ Refusal) (t : List ℕ) (w : WroteBuffer) → wrote a t ≡ w
    → leaves (record { outcome = check_numbers a; bytes = result_unwrap_or a 0 }) t ≡ wrote_numbers w
told a t w e = ap wrote_numbers e
