-- The digits of a number but the last.
use Rattle.std.specs.Prelude.{ℕ, ◌/◌, List, [], nat_lt, if◌then◌else◌}
use Rattle.std.specs.Fmt.{decimal}

-- those of its tens, and none where it has no ten
abbrev pub front_text : ℕ → List ℕ
front_text number = if nat_lt number 10 then [] else decimal (number / 10)
