-- Whether a reply is the expected one.
use Rattle.std.specs.Prelude.{ℕ, Bool, false, ◌||◌, List, [], ◌∷◌, ◌++◌, codes, nat_eq, Option, Some, None, if◌then◌else◌}
use Rattle.std.specs.Str.{bytes_eq}
use Rattle.tx_base.specs.declared.steps.Reply.{Reply}
use Rattle.tx_base.specs.declared.steps.Reply.TheVariants.{Done}
use Rattle.tx_expect.specs.Comments.{comment_text}
use Rattle.tx_state_text.specs.Replies.{error_name, named_reply_text, reply_text}

-- the name of the error that a reply is
abbrev pub error_in : Reply → Option (List ℕ)
error_in (Done ret) = error_name ret
error_in reply = None

-- whether a text is that of an error with its name in place of its number
abbrev pub names : List ℕ → Option (List ℕ) → Bool
names text None = false
names text (Some name) = bytes_eq text (codes "ok " ++ name)

-- whether a text spells a reply: an error by its name, or any as a report or a session spells it
abbrev pub spells : List ℕ → Reply → Bool
spells text reply =
    names text (error_in reply)
    || (bytes_eq text (reply_text reply) || bytes_eq text (named_reply_text reply))

-- whether that is so of what follows one space
abbrev pub spells_at_once : List ℕ → Reply → Bool
spells_at_once [] reply = false
spells_at_once (byte ∷ text) reply = if nat_eq byte 32 then spells text reply else false

-- whether a reply is the expected one: by what follows one space, or by the text of the comment
abbrev pub agrees : List ℕ → Reply → Bool
agrees expected reply = spells_at_once expected reply || spells (comment_text expected) reply
