-- A list's numbers of so many digits, kept below a limit, are what a list of them takes: bytes, halves and words, as `Listed` has them.
use mathlib.Core.List.{List}
use Prim.Native.Nat.{ℕ, ◌%◌}
use Rattle.lines.specs.Lines.{TakenAs, Taken}

module _ (list before : List ℕ) (r : ℕ) (to : List ℕ) where
  pub bytes_taken : TakenAs 2 (λ n. n % 256) list before r to → Taken 2 256 list before r to
  bytes_taken t = t

  pub halves_taken : TakenAs 4 (λ n. n % 65536) list before r to → Taken 4 65536 list before r to
  halves_taken t = t

  pub words_taken : TakenAs 8 (λ n. n % 4294967296) list before r to → Taken 8 4294967296 list before r to
  words_taken t = t
