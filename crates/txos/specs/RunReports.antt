-- The report of a run.
use Rattle.std.specs.Prelude.{ℕ, List}
use Rattle.tx_journal.specs.Sessions.{SessionState}
use Rattle.tx_script.specs.JsonLines.{text_of}
use Rattle.tx_script.specs.JsonRuns.{run_lines}
use Rattle.tx_script.specs.declared.forms.Form.{Form}
use Rattle.tx_script.specs.declared.forms.Form.TheVariants as forms
use Rattle.tx_workers.specs.RunText.{run_text}

-- the text of a session that was run, or its lines of JSON
abbrev pub report_in : Form → SessionState → List ℕ
report_in forms.Text k = run_text k
report_in forms.Json k = text_of (run_lines k)
