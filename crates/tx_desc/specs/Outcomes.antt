-- The outcome of a call on descriptors that answers so and leaves these descriptors and
-- descriptions.
use Rattle.std.specs.Prelude.{◌≡◌, ℕ, List, [], ◌∷◌, pos, Option, Some, None, Result, Ok, Err, length, true}
use Rattle.tx_base.specs.declared.errors.Errno.{Errno}
use Rattle.tx_base.specs.declared.limits.TheConstants.{DESCRIPTORS}
use Rattle.tx_model.specs.Book.{release}
use Rattle.tx_model.specs.Effects.{Effect}
use Rattle.tx_model.specs.Words.{before_sends, with_two_slots}
use Rattle.tx_model.specs.Forms.{Caller, Rule, changes, fails, effect_of}
use Rattle.tx_model.specs.State.{Process, State, Write, SetDesc, SetPipe, is_between}
use Rattle.tx_desc.specs.declared.opened.Opened.{Opened}
use Rattle.tx_desc.specs.declared.given.Given.{Given}
use Rattle.tx_desc.specs.declared.given.Renamed.{Renamed}
use Rattle.tx_desc.specs.Places.{Descriptors}
use Rattle.tx_desc.specs.Descriptions.{description_at}

-- the process, of a number within the width, runs and has these descriptors; every process has
-- sixteen
pub record RunsWith (p : ℕ) (me : Process) (S : State) (table : Descriptors) : Type 0 where
  pub sized : (n : ℕ) (q : Process) → S.procs n ≡ Some q → length q.descriptors ≡ DESCRIPTORS
  pub within : is_between S.width p ≡ true
  pub there : S.procs p ≡ Some me
  pub runs : me.status ≡ None
  pub has_table : me.descriptors ≡ table

abbrev pub with_table : Descriptors → Process → Process
with_table table me = record me { descriptors = table }

-- what a rule does of its caller, and the state that it leaves
abbrev pub effect_in : Rule → Caller → Effect
effect_in rule c = effect_of c.number c.process (rule c)

abbrev pub state_after : Rule → Caller → State
state_after rule c = before_sends (effect_in rule c) c.state

abbrev pub pipe_outcome : ℕ → ℕ → ℕ → Result (ℕ × ℕ) Errno → Descriptors → List (Option Opened)
    → Rule
pipe_outcome q r w (Ok fds) table descs c =
    changes (pos 0) (with_two_slots fds.0 fds.1 (with_table table c.process))
    (SetPipe q (Some []) ∷ SetDesc r (description_at descs r) ∷ SetDesc w (description_at descs w)
    ∷ [])
pipe_outcome q r w (Err errno) table descs c = fails errno

abbrev pub dup_outcome : Result ℕ Errno → Descriptors → Rule
dup_outcome (Ok f) table c = changes (pos f) (with_table table c.process) []
dup_outcome (Err errno) table c = fails errno

-- the description that a name was given up of
abbrev pub given_up : Option Given → List ℕ
given_up None = []
given_up (Some given) = given.number.0 ∷ []

abbrev pub dup2_outcome : Result Renamed Errno → Descriptors → Rule
dup2_outcome (Ok renamed) table c =
    release (given_up renamed.given) (pos renamed.fd) (with_table table c.process) c
dup2_outcome (Err errno) table c = fails errno

abbrev pub close_outcome : Result Given Errno → Descriptors → Rule
close_outcome (Ok given) table c =
    release (given.number.0 ∷ []) (pos 0) (with_table table c.process) c
close_outcome (Err errno) table c = fails errno

abbrev pub described_again : Option ℕ → List (Option Opened) → List Write
described_again None descs = []
described_again (Some d) descs = SetDesc d (description_at descs d) ∷ []

abbrev pub nonblock_outcome : {A : Type 0} → Result A Errno → Option ℕ → List (Option Opened) → Rule
nonblock_outcome (Ok _) d descs c = changes (pos 0) c.process (described_again d descs)
nonblock_outcome (Err errno) d descs c = fails errno
