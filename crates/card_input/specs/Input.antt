-- What reading a file leaves in a buffer. Of the file itself, and of what was read of it, nothing can be said.
use Rattle.std.specs.Prelude.{ℕ, List, Option, Some, None}
use Rattle.io.specs.Counts.{IsPrefixLen}

-- what was read lies within the buffer
abbrev pub Within : Option ℕ → List ℕ → Type 0
Within (Some count) bytes = IsPrefixLen count bytes
Within None bytes = Unit {0}
