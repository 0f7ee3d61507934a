-- What plans of calls put in place.
use Rattle.std.specs.Prelude.{◌≡◌, ◌≢◌, ℕ, ◌<◌, List, [], ◌∷◌, Option, Some, None, Result, Ok, Err, if◌then◌else◌, nat_lt, ◌==◌, count_by, option_map, length, slice_index_or, slice_set}
use Rattle.tx_base.specs.declared.errors.Errno.{Errno}
use Rattle.tx_base.specs.declared.names.DescNo.{DescNo}
use Rattle.tx_desc.specs.declared.given.Given.{Given}
use Rattle.tx_desc.specs.declared.opened.Opened.{Opened}
use Rattle.tx_desc.specs.declared.plans.NewName.{NewName}
use Rattle.tx_desc.specs.declared.plans.NewDesc.{NewDesc}
use Rattle.tx_desc.specs.declared.plans.PipePlan.{PipePlan}
use Rattle.tx_desc.specs.declared.plans.DupPlan.{DupPlan}
use Rattle.tx_desc.specs.declared.plans.Dup2Plan.{Dup2Plan}
use Rattle.tx_desc.specs.declared.plans.Rename.{Rename}
use Rattle.tx_desc.specs.declared.plans.ClosePlan.{ClosePlan}
use Rattle.tx_desc.specs.Places.{Descriptors, number_in}
use Rattle.tx_desc.specs.Counts.{count_in}
use Rattle.tx_desc.specs.Descriptions.{gone_between, with_fewer}

-- the descriptors with these names put in place, the first one first
abbrev pub put_names : List NewName → Descriptors → Descriptors
put_names [] table = table
put_names (new ∷ news) table = put_names news (slice_set table new.fd (number_in new.name))

-- the descriptions with these put in place, the first one first
abbrev pub put_descs : List NewDesc → List (Option Opened) → List (Option Opened)
put_descs [] descs = descs
put_descs (new ∷ news) descs = put_descs news (slice_set descs new.number.0 new.opened)

-- each descriptor is valid
abbrev pub AreFds : List NewName → Type 0
AreFds [] = Unit {0}
AreFds (new ∷ news) = (new.fd < 16) × AreFds news

-- each description number is valid
abbrev pub AreNumbers : List NewDesc → Type 0
AreNumbers [] = Unit {0}
AreNumbers (new ∷ news) = (new.number.0 < 64) × AreNumbers news

-- how many of these are of a number
abbrev pub entries_of : ℕ → List NewDesc → ℕ
entries_of d news = count_by (λ new. d == new.number.0) news

-- each description that these descriptors name has one entry, and no other has any
abbrev pub IsOnceEach : Descriptors → List NewDesc → Type 0
IsOnceEach table news = (d : ℕ) → entries_of d news ≡ (if nat_lt 0 (count_in d table) then 1 else 0)

-- what a call puts in place
pub record Puts : Type 0 where
  pub names : List NewName
  pub descs : List NewDesc

abbrev pub AreInRange : Puts → Type 0
AreInRange puts = AreFds puts.names × AreNumbers puts.descs

-- an error puts nothing in place
abbrev pub pipe_puts : Result PipePlan Errno → Puts
pipe_puts (Ok plan) =
    record { names = plan.read_name ∷ plan.write_name ∷ []; descs = plan.read ∷ plan.write ∷ [] }
pipe_puts (Err errno) = record { names = []; descs = [] }

abbrev pub dup_puts : Result DupPlan Errno → Puts
dup_puts (Ok plan) = record { names = plan.name ∷ []; descs = plan.desc ∷ [] }
dup_puts (Err errno) = record { names = []; descs = [] }

abbrev pub listed_desc : Option NewDesc → List NewDesc
listed_desc None = []
listed_desc (Some new) = new ∷ []

abbrev pub rename_puts : Option Rename → Puts
rename_puts None = record { names = []; descs = [] }
rename_puts (Some rename) =
    record { names = rename.name ∷ []; descs = rename.named ∷ listed_desc rename.left }

abbrev pub dup2_puts : Result Dup2Plan Errno → Puts
dup2_puts (Ok plan) = rename_puts plan.rename
dup2_puts (Err errno) = record { names = []; descs = [] }

abbrev pub close_puts : Result ClosePlan Errno → Puts
close_puts (Ok plan) = record { names = plan.name ∷ []; descs = plan.desc ∷ [] }
close_puts (Err errno) = record { names = []; descs = [] }

abbrev pub nonblock_puts : Result NewDesc Errno → Puts
nonblock_puts (Ok plan) = record { names = []; descs = plan ∷ [] }
nonblock_puts (Err errno) = record { names = []; descs = [] }

-- the descriptions that a rename changes: the one that gets a name more, and the one that gets a
-- name fewer
abbrev pub RenamesOf : Option ℕ → Option ℕ → Option Rename → Type 0
RenamesOf named left None = Unit {0}
RenamesOf named left (Some rename) =
    (named ≡ Some rename.named.number.0) × (left ≡ option_map (λ new. new.number.0) rename.left)

-- the two descriptors of a rename are not the same one
abbrev pub IsOfTwo : Option ℕ → Option ℕ → Option Rename → Type 0
IsOfTwo f g None = Unit {0}
IsOfTwo f g (Some rename) = f ≢ g

-- the name that a rename gives up is of the description that gets a name fewer
abbrev pub GivesLeft : Option Given → Option Rename → Type 0
GivesLeft given None = Unit {0}
GivesLeft given (Some rename) =
    option_map (λ g. g.number.0) given ≡ option_map (λ new. new.number.0) rename.left

-- the answer of a call, of its plan
abbrev pub answer_of : {A B : Type 0} → (A → B) → Result A Errno → Result B Errno
answer_of answer (Ok plan) = Ok (answer plan)
answer_of answer (Err errno) = Err errno

-- what a description becomes where one name of it is given up
abbrev pub desc_fewer : List (Option Opened) → DescNo → NewDesc
desc_fewer descs d = record { number = d; opened = with_fewer 1 (slice_index_or descs d.0 None) }

-- the name that is given up, and what goes with it
abbrev pub given_fewer : List (Option Opened) → DescNo → Given
given_fewer descs d =
    record {
      number = d;
      gone =
          gone_between (slice_index_or descs d.0 None)
          (with_fewer 1 (slice_index_or descs d.0 None));
    }

-- there are 64 numbers, and these two are free
pub record AreFree (r w : ℕ) (descs : List (Option Opened)) : Type 0 where
  pub sized : length descs ≡ 64
  pub first : slice_index_or descs r None ≡ None
  pub second : slice_index_or descs w None ≡ None
