use Rattle.tx_kernel.proofs.laws.laws.Goals as goal

pub returns : goal.returns
returns c = record {
  changes = c.changes_state.ensures.in_turn;
  process = c.lists_change_state.ensures.process;
  applied = c.appended.ensures.applied;
  changed = c.appended.ensures.state;
  named = c.appended.ensures.named;
  places = c.places_stay.ensures.forth;
  taken = c.places_stay.ensures.taken;
  plans = c.counts_in_turn.ensures.named;
  call = c.counts_in_turn.ensures.call;
  replaced = c.counts_in_turn.ensures.process;
  others = c.counts_with_others.ensures;
  elsewhere = c.counts_agree.ensures.elsewhere;
  room = c.room_for_names.ensures.one;
  rooms = c.room_for_names.ensures.all;
  front = c.bytes_are_read_and_written.ensures.front;
  back = c.bytes_are_read_and_written.ensures.back;
  sizes = c.appended.ensures.sizes;
  nameless = c.counts_agree.ensures.nameless;
  again = c.exchanges_back.ensures;
  reverts = c.apply_then_revert.ensures;
  stays = c.stays_named.ensures;
  slots = c.counts_in_turn.ensures.slot;
}
