use Rattle.std.proofs.Common.{true, false, pos, refl}
use Rattle.tx_base.specs.declared.steps.Call.TheVariants.{Kill, Sigqueue}
use Rattle.tx_model.specs.SignalSets.{kill_signo}
use Rattle.tx_laws.proofs.DoomStays.{kill_dooms, doom_stays}
use Rattle.tx_laws.proofs.Doomed.{doomed_call, doomed_delivery, abort_answer, doomed_next}
use Rattle.tx_laws.proofs.doom.Goals as goal

pub returns-clause-call : goal.returns-clause-call
returns-clause-call c view pid call mark mine doomed = doomed_call view pid mark mine doomed call

pub returns-clause-delivery : goal.returns-clause-delivery
returns-clause-delivery c view pid signo mark mine doomed = doomed_delivery view pid mark mine doomed signo

pub returns-clause-doomed_status : goal.returns-clause-doomed_status
returns-clause-doomed_status c view starter = abort_answer view starter true

pub returns-clause-other_status : goal.returns-clause-other_status
returns-clause-other_status c view starter = abort_answer view starter false

pub returns-clause-members : goal.returns-clause-members
returns-clause-members c = doomed_next

pub returns-clause-kill : goal.returns-clause-kill
returns-clause-kill c view pid starter sound outside live other answered =
    kill_dooms view pid starter (Kill (pos starter) (pos kill_signo)) (pos 0) refl (λ me S. refl) sound outside live other answered

pub returns-clause-sigqueue : goal.returns-clause-sigqueue
returns-clause-sigqueue c view pid starter value sound outside live other answered =
    kill_dooms view pid starter (Sigqueue (pos starter) (pos kill_signo) value) value refl (λ me S. refl) sound outside live other answered

pub returns-clause-stays : goal.returns-clause-stays
returns-clause-stays c = doom_stays
