use Rattle.std.proofs.Common.{sym, subst, rules}
use Rattle.std.proofs.lemmas.Int.{to_z-of_z}
use Rattle.std.specs.Int.{w64}
use Rattle.std.specs.Prelude.{FitsSigned}
use Rattle.tx_base.specs.declared.steps.Call.{Call}
use Rattle.tx_change.specs.States.{state_of}
use Rattle.tx_kernel.proofs.Refused.{call_made, tells_made}
use Rattle.tx_kernel.specs.Actors.{effect_by, inside_of, me_of}
use Rattle.tx_kernel.specs.Refusals.{TellsWait}
use Rattle.tx_model.specs.Book.{page_of_call}
use Rattle.tx_kernel.proofs.actor.Actor.waits.Goals as goal

pub returns-in-Waitpid : goal.returns-in-Waitpid
returns-in-Waitpid c =
    let fits_number : FitsSigned w64 c.in-Waitpid.number = search rules in
    subst (λ (call : Call). TellsWait c.args.self.now c.waits_for_child.result (effect_by c.args.self.now (page_of_call call).outcome)) (sym c.in-Waitpid.is)
    (simp (to_z-of_z w64 c.in-Waitpid.number fits_number) at c.waits_for_child.ensures)

pub returns-in-Read : goal.returns-in-Read
returns-in-Read c =
    let fits_fd : FitsSigned w64 c.in-Read.fd = search rules in
    let fits_address : FitsSigned w64 c.in-Read.address = search rules in
    let fits_count : FitsSigned w64 c.in-Read.count = search rules in
    subst (λ (call : Call). TellsWait c.args.self.now c.waits_to_read.result (effect_by c.args.self.now (page_of_call call).outcome)) (sym c.in-Read.is)
    (simp (to_z-of_z w64 c.in-Read.fd fits_fd, to_z-of_z w64 c.in-Read.address fits_address, to_z-of_z w64 c.in-Read.count fits_count) at c.waits_to_read.ensures)

pub returns-in-Write : goal.returns-in-Write
returns-in-Write c =
    let fits_fd : FitsSigned w64 c.in-Write.fd = search rules in
    let fits_address : FitsSigned w64 c.in-Write.address = search rules in
    let fits_count : FitsSigned w64 c.in-Write.count = search rules in
    subst (λ (call : Call). TellsWait c.args.self.now c.waits_to_write.result (effect_by c.args.self.now (page_of_call call).outcome)) (sym c.in-Write.is)
    (simp (to_z-of_z w64 c.in-Write.fd fits_fd, to_z-of_z w64 c.in-Write.address fits_address, to_z-of_z w64 c.in-Write.count fits_count) at c.waits_to_write.ensures)

pub returns-in_default : goal.returns-in_default
returns-in_default c =
    let actor = c.args.self.now in
    tells_made actor (effect_by actor (page_of_call c.args.call.now).outcome)
    (λ held counted. call_made c.own_calls.ensures (inside_of actor.inside) actor.pid.0 c.args.call.now (me_of actor) (state_of held actor.parts.now)
    (record { waitpid = c.in_default.not-Waitpid; read = c.in_default.not-Read; write = c.in_default.not-Write }) (c.requires.free held))
