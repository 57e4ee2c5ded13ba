-- The one line of executions of a main list with a handler let in at the boundaries of a schedule.
use Rattle.std.specs.Prelude.{List, [], ◌∷◌, ◌++◌, ℕ, ◌≤◌, drop}
use Rattle.chip.specs.declared.Word.{Word}
use Rattle.sheet.specs.Sheet.{between}

-- from main execution `at` on: an entry b runs the whole handler after b of them and before the next
unfoldable pub lineup : List Word → List Word → ℕ → List ℕ → List Word
lineup main h at [] = drop at main
lineup main h at (b ∷ bs) = between at b main ++ (h ++ lineup main h b bs)

-- boundaries from `at` to n, none less than its predecessor
unfoldable pub Rising : ℕ → ℕ → List ℕ → Type 0
Rising n at [] = at ≤ n
Rising n at (b ∷ bs) = (at ≤ b) × Rising n b bs
