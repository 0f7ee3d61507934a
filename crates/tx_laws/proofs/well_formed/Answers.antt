use Rattle.tx_laws.proofs.FormHistory.{after_form, booted_form, history_form, held_formed, post_formed}
use Rattle.tx_laws.proofs.well_formed.Goals as goal

pub returns-clause-booted : goal.returns-clause-booted
returns-clause-booted c = booted_form

pub returns-clause-kept : goal.returns-clause-kept
returns-clause-kept c = after_form

pub returns-clause-history : goal.returns-clause-history
returns-clause-history c = λ start history left_out form lawful. history_form start history form lawful left_out

pub returns-clause-posted : goal.returns-clause-posted
returns-clause-posted c = post_formed

pub returns-clause-held : goal.returns-clause-held
returns-clause-held c = held_formed
