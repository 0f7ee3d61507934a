-- The line of a step reads back to what it says.
use Rattle.std.proofs.Common.{◌∙◌, List, ap}
use Rattle.json.proofs.Printed.Tokens.{tokens-print}
use Rattle.json.specs.Token.{Token}
use Rattle.tx_json.specs.Answers.{step_answer}
use Rattle.tx_reads_back.proofs.Printable.{step_printable}
use Rattle.tx_reads_back.proofs.RepliesRead.{step_read}
use Rattle.tx_reads_back.specs.ReadBack.{StepsReadBack}
use Rattle.tx_reads_back.specs.ReadReplies.{step_members}
use Rattle.tx_reads_back.specs.Reading.{object_by, whole}

pub steps_read_back : StepsReadBack
steps_read_back number reply small typed =
    ap (λ (tokens : List Token). whole (object_by step_members tokens)) (tokens-print (step_answer number reply) (step_printable number reply small typed))
    ∙ step_read number reply small typed
