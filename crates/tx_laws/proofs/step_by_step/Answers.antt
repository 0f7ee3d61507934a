use Rattle.tx_laws.proofs.Coherence.{sound_by}
use Rattle.tx_laws.proofs.Erased.{start_sound}
use Rattle.tx_laws.proofs.StepView.{fitting}
use Rattle.tx_laws.proofs.StepByStep.{step_sound, step_form, schedule_lawful}
use Rattle.tx_laws.proofs.step_by_step.Goals as goal

pub returns-clause-start : goal.returns-clause-start
returns-clause-start c = start_sound

pub returns-clause-sound : goal.returns-clause-sound
returns-clause-sound c = step_sound

pub returns-clause-fits : goal.returns-clause-fits
returns-clause-fits c = λ view step sound a. let f = fitting view step sound a in (f.passes, f.fits)

pub returns-clause-role : goal.returns-clause-role
returns-clause-role c = λ role event process view. sound_by role view event process

pub returns-clause-well_formed : goal.returns-clause-well_formed
returns-clause-well_formed c = step_form

pub returns-clause-lawful : goal.returns-clause-lawful
returns-clause-lawful c = λ start history steps. schedule_lawful start history steps
