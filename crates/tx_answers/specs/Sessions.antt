-- What the lines of a text are answered in a session.
use Rattle.std.specs.Prelude.{ℕ, ℤ, pos, negsuc, zero, suc, List, [], Ok, Some, string_bytes}
use Rattle.tx_shell.specs.Events.{Event, IsServed}
use Rattle.tx_shell.specs.Standings.{first_standing, Standing}
use Rattle.tx_script.specs.declared.forms.Form.{Form}
use Rattle.tx_script.specs.declared.forms.Form.TheVariants as forms
use Rattle.tx_answers.specs.declared.answers.Answer.{Answer}
use Rattle.tx_answers.specs.declared.answers.Answer.TheVariants.{NoMemory, Read, Unread}

-- the form that a number names
abbrev pub form_of : ℤ → Form
form_of (pos zero) = forms.Text
form_of (pos (suc number)) = forms.Json
form_of (negsuc number) = forms.Json

-- a whole session of that form, whose lines are those of the text, and in which that is shown
pub record IsServedText (form : Form) (text written : List ℕ) : Type 0 where
  pub events : List Event
  pub left : List ℕ
  pub last : Standing
  pub served :
      IsServed (first_standing form) last
      (record { log = Some []; coming = Some text; shown = Some [] })
      (record { log = Some events; coming = Some left; shown = Some written }) (Ok tt)

-- what the lines of a text are answered, whatever they say
abbrev pub AnswersLines : Form → List ℕ → Answer → Type 0
AnswersLines form text (Read written) = IsServedText form text (string_bytes written)
AnswersLines form text (Unread written) = ⊥
AnswersLines form text NoMemory = Unit {0}
