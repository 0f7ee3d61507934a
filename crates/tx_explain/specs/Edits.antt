-- How far a word is from another, and which one is nearest to it.
use Rattle.std.specs.Prelude.{ℕ, zero, suc, ◌+◌, ◌/◌, Bool, Option, None, find, length, map, min, nat_eq, nat_le, option_map}
use Rattle.std.specs.Char.{to_ascii_lowercase}
use Rattle.std.specs.Option.{option_or}
use Rattle.std.specs.Str.{chars}
use Rattle.strsim.specs.Edits.{levenshtein_row}
use Rattle.tx_explain.specs.declared.topic.Topic.{Topic}
use Rattle.tx_explain.specs.Table.{Row, Text, all_rows}
use Rattle.tx_explain.specs.Topics.{name_in, rows_in}

-- how many edits lead from one word to the other, in small letters
unfoldable pub edits : Text → Text → ℕ
edits one other =
    let to = chars (map to_ascii_lowercase other) in
    levenshtein_row nat_eq (chars (map to_ascii_lowercase one)) to (length to)

-- how many edits a word of so many bytes may be away: one for each two bytes, and at most two
abbrev pub most_edits : ℕ → ℕ
most_edits bytes = min (bytes / 2) 2

abbrev pub is_near : ℕ → Text → Text → Bool
is_near most word name = nat_le (edits name word) most

abbrev pub is_near_topic : ℕ → Text → Topic → Bool
is_near_topic most word topic = is_near most word topic.word.now

-- the first word that is explained and so many edits away, or fewer
abbrev pub near_word : ℕ → Text → Option Text
near_word most word =
    option_map name_in (find (λ (row : Row). is_near most word (name_in row)) (rows_in all_rows))

-- the first word of those that are the fewest edits away, and fewer than so many
abbrev pub nearest_below : ℕ → Text → Option Text
nearest_below zero word = None
nearest_below (suc edits) word = option_or (nearest_below edits word) (near_word edits word)

-- the first word of those that are the fewest edits away
abbrev pub nearest_word : Text → Option Text
nearest_word word = nearest_below (most_edits (length word) + 1) word
