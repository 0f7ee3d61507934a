-- The line of a state reads back to what it says.
use Rattle.std.proofs.Common.{◌∙◌, List, ap}
use Rattle.json.proofs.Printed.Tokens.{tokens-print}
use Rattle.json.specs.Token.{Token}
use Rattle.tx_json.specs.Answers.{state_answer}
use Rattle.tx_reads_back.proofs.StatesPrintable.{place_printable}
use Rattle.tx_reads_back.proofs.StatesRead.{place_read}
use Rattle.tx_reads_back.specs.ReadBack.{StatesReadBack}
use Rattle.tx_reads_back.specs.ReadStates.{place_members}
use Rattle.tx_reads_back.specs.Reading.{object_by, whole}

pub states_read_back : StatesReadBack
states_read_back at V small kernel =
    ap (λ (tokens : List Token). whole (object_by place_members tokens)) (tokens-print (state_answer at V) (place_printable V kernel at small))
    ∙ ap whole (place_read V kernel at small)
