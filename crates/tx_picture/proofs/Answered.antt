-- The answer to a text that was read, or what is reported of one that was not.
use Rattle.std.proofs.Common.{◌≡◌, ℕ, List, Result, Ok, Err, IfOk, IfErr, String, string_bytes, sym, subst}
use Rattle.tx_lines.specs.Schedule.{FaultsBy}
use Rattle.tx_lines.specs.declared.faults.Fault.{Fault}
use Rattle.tx_lines.specs.declared.faults.Fault.TheVariants.{NoMemory}
use Rattle.tx_translate.specs.Meant.{meant_of, IsOwnFault}
use Rattle.tx_script.specs.Grammars.{Grammar, AnswersText}

-- where the only fault is want of memory
pub answered : {A B : Type 0} (G : Grammar A) (text : List ℕ) (spelled : A) (result : Result (String B) Fault) → G.IsGood spelled → meant_of text ≡ G.text spelled
    → IfOk result (λ answer. string_bytes answer ≡ G.answer spelled) → IfErr result (λ fault. fault ≡ NoMemory) → AnswersText G text result
answered G text spelled (Ok answer) good same answers none = (spelled, good, same, answers)
answered G text spelled (Err fault) good same answers none = subst (FaultsBy (IsOwnFault G.IsFault text)) (sym none) tt
