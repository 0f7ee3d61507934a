-- The answer to a text that was read.
use Rattle.std.proofs.Common.{◌≡◌, ◌≢◌, ℕ, List, Result, Ok, Err, IfOk, IfErr, String, string_bytes, refl, subst, sym}
use Rattle.std.specs.Prelude.{IsErrAnd}
use Rattle.tx_check.specs.Kinds.{kind_of}
use Rattle.tx_check.specs.declared.kinds.Kind.{Kind}
use Rattle.tx_check.specs.declared.kinds.Kind.TheVariants as kinds
use Rattle.tx_lines.specs.Schedule.{FaultsBy, IsFaultOf}
use Rattle.tx_lines.specs.Walks.{IsWalkFault}
use Rattle.tx_lines.specs.declared.faults.Fault.{Fault}
use Rattle.tx_lines.specs.declared.faults.Fault.TheVariants.{NotALine, NoLabel, TooLong, Reader, Writer, NoMemory}
use Rattle.tx_translate.specs.Meant.{meant_of, IsOwnFault}
use Rattle.tx_script.specs.JsonTexts.{texts, IsFaultAs, Spelled}
use Rattle.tx_script.specs.Grammars.{AnswersText}

-- where the only fault is lack of memory
pub answers_text : {B : Type 0} (text : List ℕ) (spelled : Spelled) (result : Result (String B) Fault) → texts.IsGood spelled → meant_of text ≡ texts.text spelled
    → IfOk result (λ answer. string_bytes answer ≡ texts.answer spelled) → IfErr result (λ fault. fault ≡ NoMemory) → AnswersText texts text result
answers_text text spelled (Ok answer) good same answers none = (spelled, good, same, answers)
answers_text text spelled (Err fault) good same answers none = subst (FaultsBy (IsOwnFault texts.IsFault text)) (sym none) tt

-- a fault is handed up
pub faulted : {B : Type 0} (text : List ℕ) (result : Result (String B) Fault) (fault : Fault) → IsErrAnd result (λ reported. reported ≡ fault) → FaultsBy (IsOwnFault texts.IsFault text) fault → AnswersText texts text result
faulted text (Ok answer) fault none is = absurd none
faulted text (Err reported) fault same is = subst (FaultsBy (IsOwnFault texts.IsFault text)) (sym same) is

-- a fault of a text with commands, and of any other
pub as_walk : (text : List ℕ) → kind_of text ≡ kinds.Walk → (fault : Fault) → IsWalkFault text fault → IsFaultAs (kind_of text) text fault
as_walk text is fault found = subst (λ (kind : Kind). IsFaultAs kind text fault) (sym is) found

as_kind : (kind : Kind) (text : List ℕ) → kind ≢ kinds.Walk → (fault : Fault) → IsFaultOf text fault → IsFaultAs kind text fault
as_kind kinds.Schedule text other fault found = found
as_kind kinds.Walk text other fault found = absurd (other refl)
as_kind kinds.Program text other fault found = found

pub as_schedule : (text : List ℕ) → kind_of text ≢ kinds.Walk → (fault : Fault) → IsFaultOf text fault → IsFaultAs (kind_of text) text fault
as_schedule text = as_kind (kind_of text) text

-- a fault of the text is one of another kind, where each of the text that is meant is
pub own_as : (IsOne IsOther : List ℕ → Fault → Type 0) (text : List ℕ) (fault : Fault) → ((meant : Fault) → IsOne (meant_of text) meant → IsOther (meant_of text) meant)
    → FaultsBy (IsOwnFault IsOne text) fault → FaultsBy (IsOwnFault IsOther text) fault
own_as IsOne IsOther text (NotALine line) every is = record { meant = is.meant; is_fault = every is.meant is.is_fault; own = is.own }
own_as IsOne IsOther text (NoLabel line) every is = record { meant = is.meant; is_fault = every is.meant is.is_fault; own = is.own }
own_as IsOne IsOther text (TooLong line) every is = record { meant = is.meant; is_fault = every is.meant is.is_fault; own = is.own }
own_as IsOne IsOther text Reader every is = is
own_as IsOne IsOther text Writer every is = is
own_as IsOne IsOther text NoMemory every is = is
