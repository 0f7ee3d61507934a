-- Which of some names is nearest to a word.
use Rattle.std.specs.Prelude.{◌≡◌, ◌⊎◌, ℕ, ◌+◌, ◌-◌, ◌<◌, ◌≤◌, ◌/◌, List, [], ◌∷◌, ◌++◌, length, map, take, drop, nat_eq, Option, Some, None, option_map, if◌then◌else◌}
use Rattle.std.specs.Str.{chars, IsUtf8}
use Rattle.strsim.specs.Edits.{osa_table}
use Rattle.tx_check.specs.Labels.{labels_in}
use Rattle.tx_check.specs.Numbered.{after_lines}
use Rattle.tx_check.specs.Contexts.{begins_label}
use Rattle.tx_check.specs.declared.forms.TheConstants.{CALLS, COMMANDS, PIECES, SESSION}
use Rattle.tx_check.specs.declared.near.NearName.{NearName}
use Rattle.tx_check.specs.declared.near.NearName.TheVariants as nears
use Rattle.tx_check.specs.declared.trouble.Names.{Names}
use Rattle.tx_check.specs.declared.trouble.Names.TheVariants as names
use Rattle.tx_translate.specs.MeantLines.{left_of, line_of}

-- how many edits lead from one text to the other, of which an exchange of neighbours is one
abbrev pub distance : List ℕ → List ℕ → ℕ
distance name word = (osa_table (chars name) (chars word)).last_row (length (chars word))

-- the word is near to the name: so few edits lead to it
pub record IsNear (word name : List ℕ) (edits : ℕ) : Type 0 where
  pub are : edits ≡ distance name word
  pub few : edits ≤ 4
  pub short : edits ≤ length name / 3
  pub shorter : length name ≤ length word + 4
  pub longer : length word ≤ length name + 4
  pub texts : IsUtf8 name × IsUtf8 word

-- each of these names that is near takes so many edits at least
abbrev pub AreFar : List ℕ → ℕ → List (List ℕ) → Type 0
AreFar word least [] = Unit {0}
AreFar word least (name ∷ names) =
    ((edits : ℕ) → IsNear word name edits → least ≤ edits) × AreFar word least names

-- it is the first of the names that take the fewest edits
pub record IsNearest (word : List ℕ) (names : List (List ℕ)) (name : List ℕ) (edits : ℕ)
    : Type 0 where
  pub before : List (List ℕ)
  pub after : List (List ℕ)
  pub parts : names ≡ before ++ (name ∷ after)
  pub near : IsNear word name edits
  pub first : AreFar word (edits + 1) before
  pub least : AreFar word edits after

-- the nearest of the names that take fewer than so many edits; none, where there is none
abbrev pub FindsNear : List ℕ → List (List ℕ) → ℕ → Option (List ℕ × ℕ) → Type 0
FindsNear word names most None = AreFar word most names
FindsNear word names most (Some found) = IsNearest word names found.0 found.1 × (found.1 < most)

-- the same, where nothing is said of how many edits it takes
abbrev pub FindsName : List ℕ → List (List ℕ) → ℕ → Option (List ℕ) → Type 0
FindsName word names most None = AreFar word most names
FindsName word names most (Some name) =
    (edits : ℕ) × IsNearest word names name edits × (edits < most)

-- how many edits are too many, where that was found
abbrev pub bound : ℕ → Option (List ℕ × ℕ) → ℕ
bound most None = most
bound most (Some found) = found.1

-- the name of the label that a line means
abbrev pub label_name : List ℕ → List ℕ
label_name line = drop 6 line

-- names, and that of a line after them where it is a label
abbrev pub with_name : List ℕ → List (List ℕ) → List (List ℕ)
with_name line names = if begins_label line then names ++ label_name line ∷ [] else names

-- the names of the labels among the first lines of a text
abbrev pub label_names : ℕ → List ℕ → List (List ℕ)
label_names count text = map (λ label. label_name label.1) (labels_in count 1 text)

-- the nearest name is found among all labels of a text
pub record FindsLabel (word text : List ℕ) (name : Option (List ℕ)) : Type 0 where
  pub count : ℕ
  pub all : after_lines count text ≡ []
  pub found : FindsName word (label_names count text) 5 name

-- the names of the calls of a schedule
abbrev pub call_names : List (List ℕ)
call_names = map (λ form. form.0.now) CALLS

-- the name that was found
abbrev pub name_of : NearName → List ℕ
name_of (nears.Form form) = form.name.now
name_of (nears.Step form) = form.name.now
name_of (nears.Label line) = label_name (line_of line)

abbrev pub near : NearName × ℕ → List ℕ × ℕ
near found = (name_of found.0, found.1)

-- the name of a label without the `@` before it
abbrev pub bare_name : List ℕ → List ℕ
bare_name [] = []
bare_name (byte ∷ bytes) = if nat_eq byte 64 then bytes else byte ∷ bytes

-- a name is found at once that has another one elsewhere
abbrev pub IsKnown : Option NearName → Type 0
IsKnown None = ⊥
IsKnown (Some (nears.Form form)) = Unit {0}
IsKnown (Some (nears.Step form)) = Unit {0}
IsKnown (Some (nears.Label line)) = ⊥

-- the name that is found is one that is known from elsewhere, or the nearest of those that there
-- are: a program has no `deliver`, and a line of a session is a command, or begins with a call
-- where that is nearer
abbrev pub IsFoundIn : Names → List ℕ → Option NearName → Type 0
IsFoundIn names.Calls word found =
    IsKnown found ⊎ FindsName word call_names 5 (option_map name_of found)
IsFoundIn names.Instructions word found =
    IsKnown found
    ⊎ FindsName word (take (length call_names - 1) call_names) 5 (option_map name_of found)
IsFoundIn names.Commands word found =
    IsKnown found ⊎ FindsName word (map (λ form. form.0.now) COMMANDS) 5 (option_map name_of found)
IsFoundIn names.Session word found =
    IsKnown found
    ⊎ FindsName word (map (λ form. form.0.now) SESSION ++ call_names) 5 (option_map name_of found)
IsFoundIn names.Pieces word found =
    FindsName word (map (λ form. form.0.now) PIECES) 5 (option_map name_of found)
IsFoundIn (names.Labels text) word found =
    FindsLabel (bare_name word) (left_of text) (option_map name_of found)
