-- Descriptors, and the descriptions and pipes that are there while something names them
-- (POSIX.1-2017, XBD, File Descriptor and Open File Description).
use Rattle.std.specs.Prelude.{ℕ, zero, suc, ◌+◌, Bool, true, false, List, [], ◌∷◌, ◌++◌, ℤ, Option, Some, None, map, is_some, if◌then◌else◌, ◌==◌, slice_index_or, slice_set}
use Rattle.tx_base.specs.declared.limits.TheConstants.{DESCRIPTIONS, DESCRIPTORS}
use Rattle.tx_model.specs.Numbers.{below}
use Rattle.tx_model.specs.State.{Process, Side, Description, State, Object, Desc, Pipe, Write, SetDesc, SetPipe, with_writes, names_at, side_in}

abbrev pub description_named : Process → Option ℕ → Option ℕ
description_named me None = None
description_named me (Some f) = slice_index_or me.descriptors f None

abbrev pub descriptor : ℤ → Option ℕ
descriptor = below DESCRIPTORS

abbrev pub with_descriptor : ℕ → Option ℕ → Process → Process
with_descriptor f d me = record me { descriptors = slice_set me.descriptors f d }

-- where the first place has this number
unfoldable pub first_free : ℕ → List (Option ℕ) → Option ℕ
first_free f [] = None
first_free f (None ∷ rest) = Some f
first_free f (Some d ∷ rest) = first_free (f + 1) rest

abbrev pub lowest_free : Process → Option ℕ
lowest_free me = first_free 0 me.descriptors

unfoldable pub open_in : List (Option ℕ) → List ℕ
open_in [] = []
open_in (None ∷ rest) = open_in rest
open_in (Some d ∷ rest) = d ∷ open_in rest

-- whether a number below n passes the test
unfoldable pub some_below : (ℕ → Bool) → ℕ → Bool
some_below P zero = false
some_below P (suc n) = if some_below P n then true else P n

abbrev pub is_named : ℕ → State → Bool
is_named d S =
    some_below (λ q. some_below (λ f. names_at d f (S.procs q)) DESCRIPTORS) (S.width + 1)

abbrev pub is_side : (Side → Bool) → Option Side → Bool
is_side test None = false
is_side test (Some side) = test side

-- whether a description is such an end of pipe k
abbrev pub has_side : (Side → Bool) → ℕ → State → Bool
has_side test k S = some_below (λ d. is_side test (side_in k (S.descs d))) DESCRIPTIONS

abbrev pub has_description : ℕ → State → Bool
has_description k S = has_side (λ side. true) k S

abbrev pub pipe_of : Option Description → List ℕ
pipe_of None = []
pipe_of (Some x) = x.pipe ∷ []

unfoldable pub pipes_of : List ℕ → State → List ℕ
pipes_of [] S = []
pipes_of (d ∷ ds) S = pipe_of (S.descs d) ++ pipes_of ds S

unfoldable pub description_removals : List ℕ → State → List Write
description_removals [] S = []
description_removals (d ∷ ds) S =
    if is_named d S then description_removals ds S else SetDesc d None ∷ description_removals ds S

-- a pipe that no description names goes with its bytes
unfoldable pub pipe_removals : List ℕ → State → List Write
pipe_removals [] S = []
pipe_removals (k ∷ ks) S =
    if has_description k S then pipe_removals ks S else SetPipe k None ∷ pipe_removals ks S

-- what goes when names of these descriptions were given up
abbrev pub removals : List ℕ → State → List Write
removals ds S =
    description_removals ds S
    ++ pipe_removals (pipes_of ds S) (with_writes (description_removals ds S) S)

abbrev pub option_list : Option ℕ → List ℕ
option_list None = []
option_list (Some d) = d ∷ []

abbrev pub is_pipe_in_use : ℕ → ℕ → ℕ → State → Bool
is_pipe_in_use q r w S =
    if is_some (S.pipes q)
    then true
    else (if is_some (S.descs r) then true else is_some (S.descs w))

abbrev pub desc_objects : List ℕ → List Object
desc_objects = map Desc

abbrev pub desc_pipe_objects : List ℕ → State → List Object
desc_pipe_objects ds S = desc_objects ds ++ map Pipe (pipes_of ds S)

-- what descriptor g names, unless it is f
abbrev pub other_than : Option ℕ → Option ℕ → Process → List ℕ
other_than (Some f) (Some g) me = if f == g then [] else option_list (description_named me (Some g))
other_than None g me = option_list (description_named me g)
other_than (Some f) None me = []
