-- By which words a topic is asked for, and what its text is like.
use Rattle.std.specs.Prelude.{ℕ, ◌+◌, ◌==◌, nat_le, nat_eq, Bool, false, ◌&&◌, List, [], ◌∷◌, ◌++◌, map, Option, None, Some, find, option_map, codes, if◌then◌else◌}
use Rattle.std.specs.Borrow.{Bor}
use Rattle.std.specs.Char.{to_ascii_lowercase}
use Rattle.std.specs.List.{before_first, flat_map, list_all, list_any, starts_with}
use Rattle.std.specs.Str.{bytes_eq}
use Rattle.tx_explain.specs.declared.topic.Topic.{Topic}
use Rattle.tx_explain.specs.declared.topic.Group.{Group}
use Rattle.tx_explain.specs.Table.{Row, Text, all_rows, name_among}

-- the word of a topic, and what else it is called
abbrev pub words_of : Topic → List Text
words_of topic = topic.word.now ∷ map (λ also. also.now) topic.also.now

-- the first line of a text, without its end
abbrev pub first_line : Text → Text
first_line text = before_first (λ byte. byte == 10) text

-- what the table says of a topic
abbrev pub row_of : Topic → Row
row_of topic = (words_of topic, first_line topic.text.now)

-- a group's title, and the rows of its topics
abbrev pub rows_of_group : Group → Text × List Row
rows_of_group group = (group.title.now, map row_of group.topics.now)

-- the same letters, in either case
abbrev pub is_same_word : Text → Text → Bool
is_same_word one other = bytes_eq (map to_ascii_lowercase one) (map to_ascii_lowercase other)

-- one of the words has the same letters
abbrev pub is_among : Text → List Text → Bool
is_among word words = list_any (λ one. is_same_word one word) words

-- a topic is asked for by a word
abbrev pub spells : Text → Topic → Bool
spells word topic = is_among word (words_of topic)

-- the topics of all groups
abbrev pub topics_in : List Group → List Topic
topics_in groups = flat_map (λ (group : Group). group.topics.now) groups

-- the rows of all groups
abbrev pub rows_in : List (Text × List Row) → List Row
rows_in groups = flat_map (λ (group : Text × List Row). group.1) groups

-- the word that names the topic of a row
abbrev pub name_in : Row → Text
name_in row = name_among row.0

-- the row of the topic that is asked for by a word
abbrev pub row_asked : Text → Option Row
row_asked word = find (λ (row : Row). is_among word row.0) (rows_in all_rows)

-- the word of that topic
abbrev pub asked : Text → Option Text
asked word = option_map name_in (row_asked word)

-- the first line of its page
abbrev pub line_asked : Text → Option Text
line_asked word = option_map (λ (row : Row). row.1) (row_asked word)

-- lines of printable characters, each of at most 79 columns and with its end: what is left of them
-- from a column on
abbrev pub are_lines_from : ℕ → Text → Bool
are_lines_from column [] = column == 0
are_lines_from column (byte ∷ bytes) =
    if byte == 10 then are_lines_from 0 bytes
    else (nat_le 32 byte
    && nat_le byte 126
    && nat_le (column + 1) 79
    && are_lines_from (column + 1) bytes)

-- lines, each with its end
abbrev pub is_page : Text → Bool
is_page text = are_lines_from 0 text

-- a text begins with its word
abbrev pub opens : Text → Text → Bool
opens word text = starts_with nat_eq text (word ++ codes ": ")

-- an answer is a page about that word
abbrev pub is_page_of : Text → Option (Bor Text) → Bool
is_page_of word None = false
is_page_of word (Some text) = opens word text.now

-- a topic whose text is as it must be
abbrev pub is_formed : Topic → Bool
is_formed topic = opens topic.word.now topic.text.now && is_page topic.text.now

abbrev pub is_formed_group : Group → Bool
is_formed_group group = list_all is_formed group.topics.now

-- the words of topics, each after a space
abbrev pub words_listed : List Row → Text
words_listed rows = flat_map (λ (row : Row). 32 ∷ name_in row) rows

-- a group's title, and a line with the words of its topics
abbrev pub group_lines : Text × List Row → Text
group_lines group = group.0 ++ 10 ∷ 32 ∷ (words_listed group.1 ++ 10 ∷ [])

-- the lines of all groups
abbrev pub listed : List (Text × List Row) → Text
listed groups = flat_map group_lines groups
