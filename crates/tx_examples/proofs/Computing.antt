-- The definitions of the kernel, opened for computing: each worked schedule is proved by that alone.
use Rattle.tx_model.specs.State.{has_object, with_writes}
use Rattle.tx_model.specs.Posts.{after_posts, post_answers}
use Rattle.tx_model.specs.Descriptors.{first_free, open_in, pipes_of, description_removals, pipe_removals, some_below}
use Rattle.tx_model.specs.Processes.{children_below, orphan_writes}
use Rattle.tx_model.specs.Book.{member_sends}
use Rattle.tx_model.specs.Deliveries.{first_value, without_first, has_lower}
use Rattle.tx_model.specs.Events.{effect, objects, after, reply_of, run}
use Rattle.tx_model.specs.Membership.{others_open}
use Rattle.tx_model.specs.History.{table_of, survivors, without, targets, event_footprint, reserved_of}
use Rattle.tx_model.specs.View.{view, some_object, differs_at, in_way, least}
use Rattle.tx_model.specs.Answer.{answer}
use Rattle.tx_model.specs.Schedules.{history_of, answers_of}
use Rattle.tx_laws.specs.OneMoment.{parted, is_sent_to, is_silent}

-- to unfold this is to unfold all that a schedule is computed by
unfoldable pub computed : Unit {0}
unfolding has_object with_writes after_posts post_answers first_free open_in some_below pipes_of description_removals pipe_removals children_below orphan_writes member_sends first_value without_first has_lower effect objects after reply_of run others_open table_of survivors without targets event_footprint reserved_of view some_object differs_at in_way least answer history_of answers_of parted is_sent_to is_silent
computed = tt
