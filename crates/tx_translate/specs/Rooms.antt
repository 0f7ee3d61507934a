-- What has no room in one line.
use Rattle.std.specs.Prelude.{ℕ, ◌<◌, List, length}

-- the bytes are more than a line has
abbrev pub IsOver : List ℕ → Type 0
IsOver bytes = 512 < length bytes
