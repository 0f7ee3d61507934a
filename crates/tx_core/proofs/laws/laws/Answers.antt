use Rattle.tx_core.proofs.laws.laws.Goals as goal

pub returns : goal.returns
returns c = record {
  history = c.next_view.ensures.history;
  present = c.answers_of_states.ensures.present;
  content = c.booted_is_content.ensures;
}
