-- A schedule of boundaries, as the table of reason 13.
use Rattle.std.specs.Prelude.{List, [], ◌∷◌, ℕ, length, get_or, ltb, leb}
use Rattle.reasons.specs.Reasons.{Check, Row, ◌gives◌at◌, first_of, rows_by}
use Rattle.reasons.specs.declared.Reason.TheVariants.{Schedule}

-- entry j is b, and the one before it is `last`: at most 1,024 entries, each from 0 to the main list's n words, none less than its predecessor
abbrev pub entry_rows : ℕ → ℕ → ℕ → ℕ → List Row
entry_rows n last b j = (leb 1024 j gives Schedule at j) ∷ (ltb n b gives Schedule at j) ∷ (ltb b last gives Schedule at j) ∷ []

-- before entry 0 stands 0
abbrev pub schedule_row : List ℕ → ℕ → ℕ → List Row
schedule_row schedule n j = entry_rows n (get_or (0 ∷ schedule) j 0) (get_or schedule j 0) j

-- 13: the first entry at fault
unfoldable pub schedule_of : List ℕ → ℕ → Check
schedule_of schedule n = first_of (rows_by (schedule_row schedule n) 0 (length schedule))
