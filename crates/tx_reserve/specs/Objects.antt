-- Sets of objects, as the bits of words: a place for each number of a process, a description or a
-- pipe.
use Rattle.std.specs.Prelude.{◌≡◌, ℕ, ◌+◌, ◌-◌, ◌/◌, ◌%◌, ◌<◌, Bool, true, false, List, if◌then◌else◌, ◌==◌, nat_lt, slice_index, sum}
use Rattle.std.specs.Int.{bit_at}
use Rattle.tx_model.specs.State.{Object, Proc, Desc, Pipe, Held, is_between, same_object}
use Rattle.tx_reserve.specs.declared.objects.Object.{Object as TheObject}
use Rattle.tx_reserve.specs.declared.objects.Object.TheVariants as the
use Rattle.tx_reserve.specs.declared.objects.Objects.{Objects}

-- the object, as the definitions have it
abbrev pub object_of : TheObject → Object
object_of (the.Proc pid) = Proc pid.0
object_of (the.Desc number) = Desc number.0
object_of (the.Pipe number) = Pipe number.0

-- whether a process, a description or a pipe may have this number: 1 to 256, 0 to 63, 0 to 31
abbrev pub is_small : Object → Bool
is_small (Proc n) = is_between 256 n
is_small (Desc n) = nat_lt n 64
is_small (Pipe n) = nat_lt n 32
is_small (Held s) = false

-- the place of an object: those of processes first, then those of descriptions, then those of pipes
abbrev pub place_of : Object → ℕ
place_of (Proc n) = n - 1
place_of (Desc n) = 256 + n
place_of (Pipe n) = 320 + n
place_of (Held s) = 352

-- the object of a place below 352
unfoldable pub object_at : ℕ → Object
object_at place =
    if nat_lt place 256
    then Proc (place + 1)
    else (if nat_lt place 320 then Desc (place - 256) else Pipe (place - 320))

-- whether the bit of a place is set, of words of 32 bits
unfoldable pub has_place : List ℕ → ℕ → Bool
has_place words place = bit_at (slice_index words (place / 32)) (place % 32) == 1

-- the place is in this word, and its bit is set where the word has these bits
pub record IsInWord (word bits place : ℕ) : Type 0 where
  pub here : place / 32 ≡ word
  pub set : bit_at bits (place % 32) ≡ 1

-- whether the object is in the set
unfoldable pub is_in : Objects → Object → Bool
is_in objects o = if is_small o then has_place objects.words (place_of o) else false

-- what decreases with each object that is taken out of the set
abbrev pub weight : Objects → ℕ
weight objects = sum objects.words

-- the object was in the set, and is taken out
pub record TakesOut (before after : Objects) (object : Object) : Type 0 where
  pub was_in : is_in before object ≡ true
  pub left : (o : Object) → is_in after o ≡ (if same_object o object then false else is_in before o)
  pub falls : weight after < weight before
