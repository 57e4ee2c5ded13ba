-- What a call leaves that writes into a lent buffer.
use Rattle.std.specs.Prelude.{List, ◌++◌, ℕ, length, drop, Result, Ok, Err}
use Rattle.reasons.specs.declared.Refusal.{Refusal}
use Rattle.reasons.specs.Reasons.{Check}

-- its answer, which is how many bytes it wrote or a refusal, and the buffer afterwards
pub record Wrote : Type 0 where
  pub answer : Result ℕ Refusal
  pub buffer : List ℕ

abbrev pub wrote : Result ℕ Refusal → List ℕ → Wrote
wrote a d = record { answer = a; buffer = d }

-- how many bytes were written, and they stand at the start: the bytes past them stay; a refusal changes no byte
abbrev pub wrote_by : Check → List ℕ → List ℕ → Wrote
wrote_by (Ok done) out d = wrote (Ok (length out)) (out ++ drop (length out) d)
wrote_by (Err refusal) out d = wrote (Err refusal) d
