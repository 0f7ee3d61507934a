-- The signals of a process.
use Rattle.std.specs.Prelude.{ℕ, List, [], ◌++◌, codes, slice_index_or}
use Rattle.json.specs.Token.{Token}
use Rattle.tx_base.specs.Signals.{bits_of}
use Rattle.tx_base.specs.declared.limits.TheConstants.{SIGNALS}
use Rattle.tx_base.specs.declared.signals.Action.{Action}
use Rattle.tx_base.specs.declared.signals.Action.TheVariants.{Usual, Ignore, Catch}
use Rattle.tx_json.specs.Each.{each_tokens, upto}
use Rattle.tx_json.specs.Lists.{numbers_member, set_member}
use Rattle.tx_json.specs.Members.{begin_object, count_member, end_object, list_member, number_member, word_member}
use Rattle.tx_model.specs.State.{Frame, Process, Queued}

-- the action of a signal, where it is not the usual one
abbrev pub action_item : ℕ → Action → List Token
action_item signo Usual = []
action_item signo Ignore =
    begin_object
    ++ (count_member (codes "signo") signo
    ++ (word_member (codes "action") (codes "ignore") ++ end_object))
action_item signo (Catch point mask) =
    begin_object
    ++ (count_member (codes "signo") signo
    ++ (word_member (codes "action") (codes "catch")
    ++ (count_member (codes "point") point
    ++ (set_member (codes "mask") (bits_of mask) ++ end_object))))

-- the actions, by rising signal
abbrev pub actions_member : List Action → List Token
actions_member actions =
    list_member (codes "actions")
    (upto (λ signo. action_item signo (slice_index_or actions signo Usual)) SIGNALS)

-- an entry of the queue
abbrev pub entry_item : Queued → List Token
entry_item entry =
    begin_object
    ++ (count_member (codes "signo") entry.signo
    ++ (number_member (codes "value") entry.value ++ end_object))

-- the queue, the first to be taken first
abbrev pub queued_member : List Queued → List Token
queued_member entries = list_member (codes "queued") (each_tokens entry_item entries)

-- what a caught signal saved
abbrev pub frame_item : Frame → List Token
frame_item frame =
    begin_object
    ++ (count_member (codes "point") frame.registers.point
    ++ (number_member (codes "ret") frame.registers.ret
    ++ (set_member (codes "mask") frame.mask
    ++ (numbers_member (codes "slots") frame.registers.slots ++ end_object))))

-- what caught signals saved, the oldest first
abbrev pub frames_member : List Frame → List Token
frames_member frames = list_member (codes "frames") (each_tokens frame_item frames)

-- a process's signals: its mask, actions, pending standard signals, queue and frames
abbrev pub signals_members : Process → List Token
signals_members process =
    set_member (codes "mask") process.mask
    ++ (actions_member process.actions
    ++ (set_member (codes "pending") process.pending
    ++ (queued_member process.queued ++ frames_member process.frames)))
