-- The tokens of a state.
use Rattle.std.specs.Prelude.{ℕ, List, ◌++◌}
use Rattle.json.specs.Token.{Token}
use Rattle.tx_json.specs.Descriptors.{descs_member, pipes_member}
use Rattle.tx_json.specs.Members.{begin_object, end_object}
use Rattle.tx_json.specs.Processes.{procs_member}
use Rattle.tx_json.specs.Txns.{txns_member}
use Rattle.tx_model.specs.State.{State}
use Rattle.tx_model.specs.View.{View, present}

-- the processes of the numbers up to a width, the descriptions and the pipes
abbrev pub parts_tokens : ℕ → State → List Token
parts_tokens width S = procs_member width S.procs ++ (descs_member S.descs ++ pipes_member S.pipes)

-- a state: its processes, descriptions, pipes and live transactions
abbrev pub state_tokens : View → List Token
state_tokens V =
    begin_object
    ++ (parts_tokens (present V).width (present V)
    ++ (txns_member V.table.width V.table.marks (present V).held ++ end_object))
