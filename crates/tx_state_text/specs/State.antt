-- The text of a state.
use Rattle.std.specs.Prelude.{ℕ, List, ◌++◌, codes}
use Rattle.tx_model.specs.View.{View, present}
use Rattle.tx_state_text.specs.Descriptors.{descs_text, pipes_text}
use Rattle.tx_state_text.specs.Processes.{procs_text}
use Rattle.tx_state_text.specs.Txns.{txns_text}

-- the text of a state
abbrev pub state_text : View → List ℕ
state_text V =
    codes "state\n"
    ++ (procs_text (present V).width (present V).procs
    ++ (descs_text (present V).descs
    ++ (pipes_text (present V).pipes
    ++ txns_text V.table.width V.table.marks (present V).held)))
