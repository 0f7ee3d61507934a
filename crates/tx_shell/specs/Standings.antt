-- Where a session is, and how a line leads it on.
use Rattle.std.specs.Prelude.{◌≡◌, ◌≢◌, ◌⊎◌, ℕ, Bool, false, true, List, [], Option, Some, None, codes, map, replicate}
use Rattle.tx_shell.specs.Answers.{AnswersWords, Kept, StopsShortOf}
use Rattle.tx_shell.specs.Forms.{SaysNothing, SaysPosition}
use Rattle.tx_shell.specs.Meanings.{meant_line}
use Rattle.tx_shell.specs.Names.{given_as}
use Rattle.tx_shell.specs.Origins.{Origin, SaysNoOrigin, SaysOrigin, unsaid_origin}
use Rattle.tx_shell.specs.Places.{origin_of, Place, place_of}
use Rattle.tx_script.specs.declared.forms.Form.{Form}
use Rattle.tx_shell.specs.declared.answers.Interpreter.{Interpreter}
use Rattle.tx_shell.specs.declared.shell.Shell.{Shell}

-- in which form it is answered, how it began, whether a header may still come, the position of its
-- steps, and what is kept beside its steps
pub record Standing : Type 0 where
  pub form : Form
  pub origin : Origin
  pub is_fresh : Bool
  pub place : Place
  pub kept : Kept

abbrev pub kept_of : Interpreter → Kept
kept_of i =
    record { refused = i.refused.last; own = i.refused.own; names = map given_as i.given.items }

abbrev pub standing_of : Shell → Standing
standing_of shell =
    let i = shell.interpreter in
    record {
      form = i.form;
      origin = origin_of i.version i.session;
      is_fresh = shell.is_fresh;
      place = place_of i.session;
      kept = kept_of i;
    }

-- no step is made
abbrev pub at_start : Place
at_start = record { history = []; at = 0 }

-- no step was refused, and no process has a name
abbrev pub nothing_kept : Kept
nothing_kept = record { refused = None; own = replicate 256 None; names = [] }

-- a session that begins so, and may have no header any more
abbrev pub begun_by : Form → Origin → Standing
begun_by form o =
    record { form = form; origin = o; is_fresh = false; place = at_start; kept = nothing_kept }

-- before its first line, which may be a header
abbrev pub first_standing : Form → Standing
first_standing form = record (begun_by form unsaid_origin) { is_fresh = true }

-- a header may come, and is there: the session begins as it says
pub record Opens (s : Standing) (line text : List ℕ) (t : Standing) : Type 0 where
  pub fresh : s.is_fresh ≡ true
  pub says : SaysOrigin line t.origin
  pub report : SaysPosition s.form 0 text
  pub form : t.form ≡ s.form
  pub begun : t.is_fresh ≡ false
  pub place : t.place ≡ at_start
  pub kept : t.kept ≡ nothing_kept

-- no header may come, or none is there
abbrev pub IsNoHeader : Standing → List ℕ → Type 0
IsNoHeader s line = (s.is_fresh ≡ false) ⊎ SaysNoOrigin line

-- it goes on at that place, with what is kept then, and no header may come
abbrev pub going_on : Standing → Place → Kept → Standing
going_on s q kept =
    record { form = s.form; origin = s.origin; is_fresh = false; place = q; kept = kept }

-- what ends a session
abbrev pub quit_line : List ℕ
quit_line = codes "quit"

-- a line without a word says nothing, and any other as what it means, but for the one that ends the
-- session
abbrev pub AnswersMeant : Standing → List ℕ → Option (List ℕ) → List ℕ → Standing → Type 0
AnswersMeant s line None text t = SaysNothing s.form text × (t ≡ s)
AnswersMeant s line (Some words) text t =
    (words ≢ quit_line)
    × ((q : Place)
    × ((kept : Kept)
    × AnswersWords s.form s.origin s.place s.kept line words text q kept
    × (t ≡ going_on s q kept)))

-- how a line is answered, and where the session is then
abbrev pub Answers : Standing → List ℕ → List ℕ → Standing → Type 0
Answers s line text t =
    Opens s line text t
    ⊎ (IsNoHeader s line × AnswersMeant s line (meant_line s.origin.version line) text t)

-- the line asks for the end of the session
pub record IsQuit (s : Standing) (line : List ℕ) : Type 0 where
  pub no_header : IsNoHeader s line
  pub quit : meant_line s.origin.version line ≡ Some quit_line

-- memory was refused: nothing changed but perhaps the position, where the words ask for another one
abbrev pub StopsMeant : Standing → List ℕ → Standing → Type 0
StopsMeant s words t =
    (q : Place) × StopsShortOf s.origin s.place words q × (t ≡ record s { place = q })

abbrev pub Stops : Standing → List ℕ → Standing → Type 0
Stops s line t =
    (t ≡ s)
    ⊎ ((words : List ℕ) × (meant_line s.origin.version line ≡ Some words) × StopsMeant s words t)
