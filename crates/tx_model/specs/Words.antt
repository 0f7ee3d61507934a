-- Words of the contracts and proofs above, for what the rules say in other words.
use Rattle.std.proofs.Common.{◌≡◌, ℕ, Bool, true, false, List, [], ◌∷◌, ℤ, Option, Some, None, if◌then◌else◌, ◌==◌, slice_set, ◌++◌, ◌&&◌, not, slice_index, map, pos, nat_lt, length, unwrap_or}
use Rattle.tx_base.specs.declared.limits.TheConstants.{FRAMES, PAGES, ABORTED_BY_CALL, DESCRIPTORS}
use Rattle.tx_base.specs.declared.signals.Action.{Action}
use Rattle.tx_base.specs.declared.marks.Mark.{Mark}
use Rattle.tx_base.specs.declared.steps.Step.{Step}
use Rattle.tx_base.specs.declared.steps.Refusal.TheVariants.{Busy}
use Rattle.tx_model.specs.Numbers.{below}
use Rattle.tx_base.specs.declared.steps.Call.{Call}
use Rattle.tx_base.specs.declared.steps.Reply.{Reply}
use Rattle.tx_base.specs.declared.steps.Refusal.{Refusal}
use Rattle.tx_base.specs.declared.steps.Reply.TheVariants.{Done, No}
use Rattle.tx_model.specs.State.{Process, State, Object, Proc, Sending, Write, with_writes, Pipe, Ids, Desc, SetProc, Side, names_at, side_in}
use Rattle.tx_model.specs.Effects.{Inside, Effect, with_answer, process_effect, with_answer_if, Replies}
use Rattle.tx_model.specs.Book.{page_of_call}
use Rattle.tx_model.specs.Descriptors.{option_list, desc_objects, description_named, open_in, desc_pipe_objects, other_than, some_below, is_side}
use Rattle.tx_model.specs.Processes.{ending_objects, holder_of, Notice, pid_of, AtOnce, AtCommit, procs_of}
use Rattle.tx_model.specs.Deliveries.{delivery, delivery_page, is_killing}
use Rattle.tx_model.specs.Events.{Event, after, page_of_step}
use Rattle.tx_model.specs.Forms.{Caller, caller, effect_of, Kind, Choice}
use Rattle.tx_model.specs.View.{View, has_two_answers, some_object, in_way, present, has_pending}
use Rattle.tx_model.specs.Membership.{Role, Table, is_live, Within, member_end, Continues, Parks, Commits, table_after, outside_role, member_role}
use Rattle.tx_model.specs.History.{event_footprint, is_left_in, left_out_before, reserved_after, Starters}
use Rattle.tx_model.specs.Answer.{is_bad_choice, is_choice_in_use, delivers_kill}
use Rattle.tx_model.specs.Signals.{is_ignoring, disposition}
use Rattle.tx_model.specs.SignalSets.{kill_signo, with_one_more}
use Rattle.tx_model.specs.Memory.{PageView}

abbrev pub names_below : ℕ → ℕ → Option Process → Bool
names_below d n x = some_below (λ f. names_at d f x) n

abbrev pub is_named_below : ℕ → ℕ → State → Bool
is_named_below d n S = some_below (λ q. names_below d DESCRIPTORS (S.procs q)) n

abbrev pub has_side_below : (Side → Bool) → ℕ → ℕ → State → Bool
has_side_below test k n S = some_below (λ d. is_side test (side_in k (S.descs d))) n

abbrev pub pipe_list : List ℕ → List Object
pipe_list = map Pipe

abbrev pub with_queued : Sending → Process → Process
with_queued m q = record q { queued = q.queued ++ record { signo = m.signo; value = m.value } ∷ [] }

abbrev pub with_pending : ℕ → Process → Process
with_pending signo q = record q { pending = with_one_more q.pending signo }

abbrev pub starters_with : ℕ → Starters → Starters
starters_with s X n = if n == s then true else X n

abbrev pub starters_without : ℕ → Starters → Starters
starters_without s X n = if n == s then false else X n

abbrev pub kind_role : Table → ℕ → Kind → Reply → Option Mark → Role
kind_role t p kind r mark =
    elim mark [ None ↦ outside_role p kind | Some m ↦ member_role t m.starter.0 p kind r ]

-- what a step makes of its own process, and its reply
pub record Own : Type 0 where
  pub process : Process
  pub reply : Reply

abbrev pub answers_with : ℤ → Process → Own
answers_with r me = record { process = with_answer r me; reply = Done r }

-- the step concerns only its own process
abbrev pub own_effect : ℕ → Own → Effect
own_effect p own = process_effect p own.process [] own.reply

abbrev pub answer_effect : ℕ → ℤ → Process → Effect
answer_effect p r me = own_effect p (answers_with r me)

-- the same, with more writes
abbrev pub answer_effect_with : List Write → ℕ → ℤ → Process → Effect
answer_effect_with ws p r me = process_effect p (with_answer r me) ws (Done r)

-- the state as the effect's posts find it
abbrev pub before_sends : Effect → State → State
before_sends f S = with_writes f.writes S

-- what an exit and a waitpid name
abbrev pub exit_objects : Caller → List Object
exit_objects c = if c.number == 1 then [] else ending_objects c

abbrev pub member_end_role : Bool → ℕ → Role
member_end_role others s = if others then Within s Parks else Commits s

abbrev pub ordinary_role : Bool → Table → ℕ → ℕ → Role
ordinary_role ends t s p = if ends then member_end t s p else Within s Continues

abbrev pub event_if : Bool → Event → List Event → List Event
event_if here ev evs = if here then ev ∷ evs else evs

-- the processes that sends go to
abbrev pub processes_of : List Sending → List Object
processes_of [] = []
processes_of (m ∷ ms) = Proc m.target ∷ processes_of ms

-- whether the event meets what the transaction of s reserved
abbrev pub meets_reserved : View → Event → ℕ → Bool
meets_reserved V ev s = some_object (event_footprint V.table ev (present V)) (V.reserved s)

abbrev pub is_blocking : Bool → View → Event → ℕ → Bool
is_blocking other V ev s =
    if other then (if meets_reserved V ev s then true else has_two_answers V ev s) else false

abbrev pub after_if : Bool → Event → State → State
after_if made ev S = if made then after ev S else S

abbrev pub next_by : Role → Event → ℕ → View → View
next_by r ev p V = record {
  without = λ X. after_if (is_left_in r X) ev (V.without (left_out_before r X));
  table = table_after r p V.table;
  reserved = reserved_after r (event_footprint V.table ev (present V)) V.reserved;
}

-- nobody is in the way of the event
abbrev pub IsClear : View → Event → Type 0
IsClear V ev = (s : ℕ) → is_live V.table s ≡ true → in_way V ev s ≡ false

abbrev pub unless_refused : Option Refusal → Reply → Reply
unless_refused o r = elim o [ None ↦ r | Some why ↦ No why ]

abbrev pub notice_by : Option Inside → Notice
notice_by holder = elim holder [ None ↦ AtOnce | Some i ↦ AtCommit i.starter ]

abbrev pub parent_notice_by : Option Inside → ℕ → Notice
parent_notice_by inside parent = notice_by (holder_of parent inside)

abbrev pub fork_objects : ℕ → Process → List Object
fork_objects c me = Proc c ∷ desc_objects (open_in me.descriptors)

abbrev pub numbered_objects : Option ℕ → List Object
numbered_objects t = procs_of (option_list t)

abbrev pub waitpid_objects : ℤ → State → List Object
waitpid_objects t S = procs_of (option_list (pid_of S.width t))

abbrev pub pipe_objects : ℕ → ℕ → ℕ → List Object
pipe_objects q r w = Pipe q ∷ Desc r ∷ Desc w ∷ []

abbrev pub dup2_objects : Option ℕ → Option ℕ → Process → State → List Object
dup2_objects f g me S =
    desc_objects (option_list (description_named me f)) ++ desc_pipe_objects (other_than f g me) S

-- whether a signal with this action is ignored
abbrev pub is_ignored : ℕ → Action → Bool
is_ignored signo action = is_ignoring (disposition signo action)

-- whether a delivery of the signal ends a process with this action
abbrev pub is_fatal : ℕ → Action → Bool
is_fatal signo action = is_killing (disposition signo action)

-- a page that a program computed: 0 to 15
abbrev pub page_of : ℤ → Option ℕ
page_of page = below PAGES page

abbrev pub with_user : ℕ → Ids → Ids
with_user u ids = record ids { effective_user = u }

abbrev pub with_group : ℕ → Ids → Ids
with_group g ids = record ids { effective_group = g }

abbrev pub with_all_users : ℕ → Ids → Ids
with_all_users u ids = record ids { real_user = u; effective_user = u; saved_user = u }

abbrev pub with_all_groups : ℕ → Ids → Ids
with_all_groups g ids = record ids { real_group = g; effective_group = g; saved_group = g }

-- the last answer, which stays
abbrev pub last_ret : Process → ℤ
last_ret me = me.registers.ret

-- the process at another point, its last answer as it was
abbrev pub stands_at : ℕ → Process → Process
stands_at point me = record me { registers = record me.registers { point = point } }

abbrev pub with_register_slot : ℕ → ℤ → Process → Process
with_register_slot k value me =
    record me { registers = record me.registers { slots = slice_set me.registers.slots k value } }

-- the status of an abort by a member (own number)
abbrev pub called_by_status : ℕ
called_by_status = ABORTED_BY_CALL

-- whether a number that the call chooses is out of range, or one number is chosen twice: processes
-- are 1 to the width, pipes 0 to 31, descriptions 0 to 63
abbrev pub has_bad_number : ℕ → Step → Bool
has_bad_number width step = is_bad_choice width (page_of_step step).chooses

-- whether a number that the call chooses is in use
abbrev pub has_number_in_use : State → Step → Bool
has_number_in_use S step = is_choice_in_use S (page_of_step step).chooses

-- whether SIGKILL is pending at the process, and the step does not deliver it
abbrev pub is_stopped_by_kill : State → ℕ → Step → Bool
is_stopped_by_kill S p step = has_pending kill_signo (S.procs p) && not (delivers_kill step)

abbrev pub busy : Option ℕ → Option Refusal
busy None = None
busy (Some s) = Some (Busy (record { 0 = s }))

abbrev pub byte_in : ℕ → Option PageView → Option ℕ
byte_in offset None = None
byte_in offset (Some page) = Some (slice_index page.bytes offset)

abbrev pub byte_or_zero : Option ℕ → ℕ
byte_or_zero o = unwrap_or o 0

abbrev pub note_effect : ℕ → ℤ → Option Process → Effect
note_effect p r q =
    record {
      writes = SetProc p (with_answer_if r q) ∷ [];
      sends = [];
      conclusion = Replies (Done r);
    }

abbrev pub with_two_slots : ℕ → ℕ → Process → Process
with_two_slots f g me =
    record me {
      registers =
          record me.registers {
            slots = slice_set (slice_set me.registers.slots 0 (pos f)) 1 (pos g);
          };
    }

abbrev pub with_status : ℕ → Process → Process
with_status status me =
    record me {
      registers = record me.registers { slots = slice_set me.registers.slots 0 (pos status) };
    }

abbrev pub is_full : Process → Bool
is_full me = not (nat_lt (length me.frames) FRAMES)

-- what a call and a delivery of a process that runs do, and what they name beside it
abbrev pub call_effect : Option Inside → ℕ → Call → Process → State → Effect
call_effect inside p c me S = effect_of p me ((page_of_call c).outcome (caller inside p me S))

abbrev pub call_objects : Option Inside → Call → ℕ → Process → State → List Object
call_objects inside c p me S = (page_of_call c).names (caller inside p me S)

abbrev pub delivery_effect : Option Inside → ℕ → ℕ → Process → State → Effect
delivery_effect inside p signo me S = effect_of p me (delivery signo (caller inside p me S))

abbrev pub delivery_objects : Option Inside → ℕ → ℕ → Process → State → List Object
delivery_objects inside p signo me S = (delivery_page signo).names (caller inside p me S)

-- what a call is to transactions, and the numbers that it chooses
abbrev pub kind_of : Call → Kind
kind_of c = (page_of_call c).kind

abbrev pub chosen_in : Call → Choice
chosen_in c = (page_of_call c).chooses
