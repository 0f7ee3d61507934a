-- Facts of texts and what they mean, with their proofs.
use Rattle.std.proofs.Common.{◌≡◌, ℕ, List, ap, subst, sym}
use Rattle.tx_lines.specs.Schedule.{FaultsBy}
use Rattle.tx_lines.specs.declared.faults.Fault.{Fault}
use Rattle.tx_lines.specs.declared.faults.Fault.TheVariants.{NotALine, NoLabel, TooLong, Reader, Writer, NoMemory}
use Rattle.tx_translate.specs.Meant.{bytes_of, fault_by, line_of, IsMeantBy, IsOwnFault}
use Rattle.tx_translate.specs.declared.meant.Meant.{Meant}

-- the fault of the text that is meant, reported at the line of the text itself
pub own_fault :
    (IsFault : List ℕ → Fault → Type 0) (text : List ℕ) (meant : Meant) (inner found : Fault)
    → IsMeantBy text meant → FaultsBy (IsFault (bytes_of meant)) inner
    → found ≡ fault_by (line_of meant) inner → FaultsBy (IsOwnFault IsFault text) found
own_fault IsFault text meant (NotALine line) found is fault reported =
    subst (FaultsBy (IsOwnFault IsFault text)) (sym reported) (record {
      meant = NotALine line;
      is_fault = subst (λ bytes. IsFault bytes (NotALine line)) is.bytes fault;
      own = ap (λ n. NotALine n) (is.lines line);
    })
own_fault IsFault text meant (NoLabel line) found is fault reported =
    subst (FaultsBy (IsOwnFault IsFault text)) (sym reported) (record {
      meant = NoLabel line;
      is_fault = subst (λ bytes. IsFault bytes (NoLabel line)) is.bytes fault;
      own = ap (λ n. NoLabel n) (is.lines line);
    })
own_fault IsFault text meant (TooLong line) found is fault reported =
    subst (FaultsBy (IsOwnFault IsFault text)) (sym reported) (record {
      meant = TooLong line;
      is_fault = subst (λ bytes. IsFault bytes (TooLong line)) is.bytes fault;
      own = ap (λ n. TooLong n) (is.lines line);
    })
own_fault IsFault text meant Reader found is fault reported = absurd fault
own_fault IsFault text meant Writer found is fault reported = absurd fault
own_fault IsFault text meant NoMemory found is fault reported =
    subst (FaultsBy (IsOwnFault IsFault text)) (sym reported) tt
