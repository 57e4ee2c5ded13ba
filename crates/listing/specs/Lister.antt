-- The lister: a sheet's listing into a lent buffer, or the reason why not.
use Rattle.std.specs.Prelude.{List, [], ◌∷◌, ◌++◌, ℕ, length, ltb, None}
use Rattle.reasons.specs.Reasons.{Row, ◌gives◌at◌, first_of}
use Rattle.reasons.specs.declared.Reason.TheVariants.{Room}
use Rattle.reasons.specs.Output.{Wrote, wrote_by}
use Rattle.sheet.specs.Sheet.{sheet_rows}
use Rattle.listing.specs.Lines.{listing_of}

-- the sheet's own reasons, then 14
unfoldable pub list_rows : List ℕ → ℕ → List Row
list_rows s room = sheet_rows s None None ++ (ltb room (length (listing_of s)) gives Room at 0) ∷ []

unfoldable pub list_of : List ℕ → List ℕ → Wrote
list_of s d = wrote_by (first_of (list_rows s (length d))) (listing_of s) d
