-- What a call answers, and how that is handed out.
use Rattle.std.specs.Prelude.{◌≡◌, ℕ, ◌<◌, ◌≤◌, ℤ, pos, List, [], ◌++◌, drop, length, string_bytes}
use Rattle.tx_answers.specs.declared.answers.Answer.{Answer}
use Rattle.tx_answers.specs.declared.answers.Answer.TheVariants.{NoMemory, Read, Unread}

-- the status of an answer that is handed out
abbrev pub status_of : Answer → ℤ
status_of (Read text) = pos 0
status_of (Unread text) = pos 1
status_of NoMemory = pos 2

-- the status where a buffer has no room for the answer
abbrev pub too_small : ℤ
too_small = pos 3

-- the bytes of an answer
abbrev pub bytes_of : Answer → List ℕ
bytes_of (Read text) = string_bytes text
bytes_of (Unread text) = string_bytes text
bytes_of NoMemory = []

-- an answer is handed out: its size is given; its bytes are at the front of a buffer that has room
-- for all of them, and the rest of the buffer is as it was; a buffer without the room is as it was
pub record HandsOut (answer : Answer) (old : List ℕ) (status : ℤ) (new : List ℕ) (size : ℕ)
    : Type 0 where
  pub said : size ≡ length (bytes_of answer)
  pub whole : length (bytes_of answer) ≤ length old →
      (status ≡ status_of answer) × (new ≡ bytes_of answer ++ drop (length (bytes_of answer)) old)
  pub none : length old < length (bytes_of answer) → (status ≡ too_small) × (new ≡ old)

-- an answer is handed out of which that is so
pub record Gives (Is : Answer → Type 0) (old : List ℕ) (status : ℤ) (new : List ℕ) (size : ℕ)
    : Type 0 where
  pub answer : Answer
  pub is : Is answer
  pub handed : HandsOut answer old status new size
