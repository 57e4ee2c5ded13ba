-- The version of the C interface: a major number for changes that a caller must follow, a minor one for additions, a patch for the rest.
use Rattle.std.specs.Prelude.{ℕ, ◌+◌, ◌*◌}

abbrev pub major : ℕ
major = 4

abbrev pub minor : ℕ
minor = 0

abbrev pub patch : ℕ
patch = 0

-- all three as one number
abbrev pub library_version : ℕ
library_version = major * 65536 + minor * 256 + patch
