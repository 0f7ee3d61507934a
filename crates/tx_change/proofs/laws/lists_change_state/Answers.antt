use Rattle.tx_change.proofs.InLists.{list_names_its_objects, parts_replace_process}
use Rattle.tx_change.proofs.laws.lists_change_state.Goals as goal

pub returns-clause-elsewhere : goal.returns-clause-elsewhere
returns-clause-elsewhere c = list_names_its_objects

pub returns-clause-process : goal.returns-clause-process
returns-clause-process c = parts_replace_process
