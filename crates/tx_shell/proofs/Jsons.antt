-- The tokens of an answer, as they are written.
use Rattle.std.proofs.Common.{◌≡◌, ◌∙◌, ℕ, List, ◌++◌, ap, append_assoc, codes, subst}
use Rattle.json.specs.Token.{Token}
use Rattle.tx_json.specs.Answers.{lines_front, lines_member, lines_with}
use Rattle.tx_json.specs.Line.{IsLineOf}
use Rattle.tx_json.specs.Members.{begin_object, count_member, end_object}

-- an answer that has those members after its lines
pub said_with : (at : ℕ) (report text : List ℕ) (written members : List Token) → written ≡ lines_front at report ++ members → IsLineOf (written ++ end_object) text → IsLineOf (lines_with at report members) text
said_with at report text written members put line =
    let count = count_member (codes "at") at in
    let lines = lines_member report in
    subst (λ (tokens : List Token). IsLineOf tokens text)
    (ap (λ (t : List Token). t ++ end_object) put
    ∙ append_assoc (lines_front at report) members end_object
    ∙ append_assoc begin_object (count ++ lines) (members ++ end_object)
    ∙ ap (λ (t : List Token). begin_object ++ t) (append_assoc count lines (members ++ end_object))) line

-- members that are put one after another
pub three_members : (front one two three written after last : List Token) → written ≡ front ++ one → after ≡ written ++ two → last ≡ after ++ three → last ≡ front ++ (one ++ (two ++ three))
three_members front one two three written after last first second third =
    third ∙ ap (λ (t : List Token). t ++ three) (second ∙ ap (λ (t : List Token). t ++ two) first)
    ∙ append_assoc (front ++ one) two three ∙ append_assoc front one (two ++ three)
