-- The spelling of a reply.
use Rattle.std.specs.Prelude.{ℕ, ℤ, pos, negsuc, ◌+◌, List, [], ◌∷◌, ◌++◌, Option, Some, None, codes, nat_eq, if◌then◌else◌}
use Rattle.std.specs.Fmt.{decimal, signed_decimal}
use Rattle.tx_base.specs.Errors.{error_number}
use Rattle.tx_base.specs.declared.errors.Errno.TheVariants.{NotPermitted, NoSuchProcess, BadDescriptor, NoChild, TryAgain, BadAddress, InvalidArgument, TooManyDescriptors, BrokenPipe}
use Rattle.tx_base.specs.declared.names.Missed.{Missed}
use Rattle.tx_base.specs.declared.steps.Refusal.{Refusal}
use Rattle.tx_base.specs.declared.steps.Refusal.TheVariants.{Busy}
use Rattle.tx_base.specs.declared.steps.Reply.{Reply}
use Rattle.tx_base.specs.declared.steps.Reply.TheVariants.{Done, Ended, Committed, Aborted, Out, No}
use Rattle.tx_lines.specs.Bytes.{bytes_text}
use Rattle.tx_lines.specs.Refusals.{refusal_word}
use Rattle.tx_state_text.specs.Each.{each_text}

-- a refusal: what it is called, and who holds what is wanted
abbrev pub refusal_text : Refusal → List ℕ
refusal_text (Busy starter_in_way) = codes "N8" ++ 32 ∷ decimal starter_in_way.0
refusal_text refusal = refusal_word refusal

-- a send that could not be delivered
abbrev pub missed_text : Missed → List ℕ
missed_text missed =
    32
    ∷ (decimal missed.target.0 ++ 58
    ∷ (decimal missed.signo.0 ++ 58 ∷ decimal (error_number missed.errno)))

-- those that could not be delivered, in order
abbrev pub undelivered_text : List Missed → List ℕ
undelivered_text undelivered = each_text missed_text undelivered

-- the spelling of a reply
abbrev pub reply_text : Reply → List ℕ
reply_text (Done ret) = codes "ok " ++ signed_decimal ret
reply_text Ended = codes "ended"
reply_text (Committed undelivered) = codes "committed" ++ undelivered_text undelivered.items
reply_text (Aborted status) = codes "aborted " ++ decimal status
reply_text (Out bytes) = codes "out " ++ bytes_text bytes.items
reply_text (No refusal) = codes "no " ++ refusal_text refusal

-- the name of the error of that number
abbrev pub numbered_name : ℕ → Option (List ℕ)
numbered_name number =
    if nat_eq number (error_number NotPermitted) then Some (codes "EPERM")
    else if nat_eq number (error_number NoSuchProcess) then Some (codes "ESRCH")
    else if nat_eq number (error_number BadDescriptor) then Some (codes "EBADF")
    else if nat_eq number (error_number NoChild) then Some (codes "ECHILD")
    else if nat_eq number (error_number TryAgain) then Some (codes "EAGAIN")
    else if nat_eq number (error_number BadAddress) then Some (codes "EFAULT")
    else if nat_eq number (error_number InvalidArgument) then Some (codes "EINVAL")
    else if nat_eq number (error_number TooManyDescriptors) then Some (codes "EMFILE")
    else if nat_eq number (error_number BrokenPipe) then Some (codes "EPIPE")
    else None

-- the name of the error whose number, below zero, a call returns
abbrev pub error_name : ℤ → Option (List ℕ)
error_name (pos n) = None
error_name (negsuc n) = numbered_name (n + 1)

-- a space and a name, where there is one
abbrev pub spaced_name : Option (List ℕ) → List ℕ
spaced_name None = []
spaced_name (Some name) = 32 ∷ name

-- what is beside a reply: the name of its error, after a space
abbrev pub name_beside : Reply → List ℕ
name_beside (Done ret) = spaced_name (error_name ret)
name_beside reply = []

-- the spelling of a reply, with the name of an error beside its number
abbrev pub named_reply_text : Reply → List ℕ
named_reply_text reply = reply_text reply ++ name_beside reply
