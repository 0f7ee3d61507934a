-- The names that processes have, and how they are shown.
use Rattle.std.specs.Prelude.{ℕ, zero, suc, ℤ, Bool, false, ◌&&◌, ◌||◌, List, [], ◌∷◌, ◌++◌, Option, Some, None, codes, count_by, fold, is_some, map, max, nat_eq, nat_le, reverse, string_bytes, take, if◌then◌else◌}
use Rattle.std.specs.List.{filter}
use Rattle.json.specs.Token.{Token}
use Rattle.tx_base.specs.declared.steps.Accepted.{Accepted}
use Rattle.tx_base.specs.declared.steps.Call.TheVariants as calls
use Rattle.tx_base.specs.declared.steps.Step.{Step}
use Rattle.tx_base.specs.declared.steps.Step.TheVariants as steps
use Rattle.tx_journal.specs.Sessions.{SessionState}
use Rattle.tx_json.specs.Each.{upto}
use Rattle.tx_json.specs.Members.{begin_object, count_member, end_object, list_member, word_member}
use Rattle.tx_lines.specs.Lines.{step_text}
use Rattle.tx_model.specs.Processes.{pid_of}
use Rattle.tx_translate.specs.Written.{NameAt}
use Rattle.tx_waits.specs.Kinds.{limit_of}
use Rattle.tx_shell.specs.Places.{Place, place_of}
use Rattle.tx_shell.specs.declared.lines.asks.Ask.{Ask}
use Rattle.tx_shell.specs.declared.lines.asks.Ask.TheVariants as asks
use Rattle.tx_shell.specs.declared.names.Given.{Given}
use Rattle.tx_shell.specs.declared.names.Names.{Names as NamesThere}
use Rattle.tx_waits.specs.declared.kinds.Kind.{Kind}
use Rattle.tx_waits.specs.declared.kinds.Kind.TheVariants.{Processes, Descriptions, Pipes}

-- the name of each process that has one
abbrev pub Names : Type 0
Names = ℕ → Option (List ℕ)

-- a name that was given, as a text knows it
abbrev pub given_as : Given → NameAt
given_as given =
    record { position = given.position; process = given.process.0; name = string_bytes given.name }

-- the process that a step forks
abbrev pub forked : Step → Option ℕ
forked (steps.Call p (calls.Fork child)) = Some child.0
forked step = None

-- it is that one
abbrev pub is_it : ℕ → Option ℕ → Bool
is_it q None = false
is_it q (Some child) = nat_eq child q

-- how many of the first n steps of a history fork one
abbrev pub forks : List Accepted → ℕ → ℕ → ℕ
forks history q n = count_by (λ (e : Accepted). is_it q (forked e.step)) (take n (reverse history))

-- which of the processes of number q there is after n steps, where so many processes were there at
-- the start: one that was not is forked first
abbrev pub process_there : ℕ → List Accepted → ℕ → ℕ → ℕ
process_there count history q n =
    if nat_le q count then forks history q n else max (forks history q n) 1

-- a name was given to the process that has number q at a place
abbrev pub is_of : ℕ → Place → ℕ → NameAt → Bool
is_of count p q given =
    nat_eq given.process q
    && nat_eq (process_there count p.history q given.position)
    (process_there count p.history q p.at)

-- of the names that were given to it the last one
abbrev pub names_at : ℕ → Place → List NameAt → Names
names_at count p given q =
    fold
    (λ (found : Option (List ℕ)) (one : NameAt).
    if is_of count p q one then Some one.name else found) None given

-- the same, as a session knows it
abbrev pub is_given_to : SessionState → ℕ → NameAt → Bool
is_given_to k q given = is_of k.count (place_of k) q given

abbrev pub named : NamesThere → Names
named names =
    names_at names.session.now.count (place_of names.session.now) (map given_as names.given.now)

-- the names that were given, once something was asked for at a position: a name is kept after the
-- others, and a cut drops those that were given after the position
abbrev pub names_by : Ask → ℕ → List NameAt → List NameAt
names_by (asks.Name process name) at given =
    given ++ (record { position = at; process = process.0; name = name.now }) ∷ []
names_by asks.Cut at given = filter (λ (one : NameAt). nat_le one.position at) given
names_by ask at given = given

-- a name after the number of its process, and after the text of a step that it makes
abbrev pub after_number : Option (List ℕ) → List ℕ
after_number None = []
after_number (Some name) = 32 ∷ name

abbrev pub after_step : Option (List ℕ) → List ℕ
after_step None = []
after_step (Some name) = codes " (" ++ (name ++ codes ")")

-- the process that makes a step: none makes one of the kernel
abbrev pub maker : Step → Option ℕ
maker (steps.Call p call) = Some p.0
maker (steps.Deliver p signo) = Some p.0
maker (steps.KernelAbort s) = None

-- a process and its name, where it has one, as JSON has them
abbrev pub named_item : ℕ → Option (List ℕ) → List Token
named_item q None = []
named_item q (Some name) =
    begin_object
    ++ (count_member (codes "process") q ++ (word_member (codes "name") name ++ end_object))

module _ (names : Names) where
  -- the name of the process of a number that may be none
  abbrev pub name_if : Option ℕ → Option (List ℕ)
  name_if None = None
  name_if (Some q) = names q

  -- of one whose number a program computed
  abbrev pub computed_name : ℤ → Option (List ℕ)
  computed_name number = name_if (pid_of 256 number)

  -- of an object that is a process
  abbrev pub kind_name : Kind → ℕ → Option (List ℕ)
  kind_name Processes number = names number
  kind_name Descriptions number = None
  kind_name Pipes number = None

  -- of the process that makes a step
  abbrev pub maker_name : Step → Option (List ℕ)
  maker_name step = name_if (maker step)

  -- a step, and who makes it
  abbrev pub step_made_text : Step → List ℕ
  step_made_text step = step_text step ++ after_step (maker_name step)

  -- whether one of the processes below a number has a name
  unfoldable pub has_name : ℕ → Bool
  has_name zero = false
  has_name (suc n) = has_name n || is_some (names n)

  -- all that have one, by rising numbers, as a member of JSON where there are some
  abbrev pub names_member : List Token
  names_member =
      if has_name (limit_of Processes)
      then list_member (codes "names") (upto (λ q. named_item q (names q)) (limit_of Processes))
      else []
