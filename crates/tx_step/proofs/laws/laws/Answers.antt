use Rattle.tx_step.proofs.laws.laws.Goals as goal

pub returns : goal.returns
returns c = record {
  whole = c.contents_are_whole.ensures;
  early = c.refusals_are_early.ensures;
  fits = c.step_by_step.ensures.fits;
  present = c.answers_of_states.ensures.present;
  follows = c.logs_keep.ensures.step;
  formed = c.step_by_step.ensures.well_formed;
  view = c.well_formed_table.ensures.step;
  keeps = c.well_formed-2.ensures.kept;
  answered = c.endings.ensures.answered;
  of_event = c.footprints.ensures.of_event;
  clear = c.footprints.ensures.clear;
  members = c.footprints.ensures.members;
  doom = c.answers_of_faces.ensures.doom;
  listed = c.well_formed_table.ensures.listed;
  shown = c.endings.ensures.shown;
}
