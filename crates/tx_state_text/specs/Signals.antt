-- The text of the signals of a process.
use Rattle.std.specs.Prelude.{ℕ, List, [], ◌∷◌, ◌++◌, length, codes, if◌then◌else◌, ◌==◌, slice_index_or}
use Rattle.std.specs.Fmt.{decimal, signed_decimal}
use Rattle.tx_base.specs.declared.limits.TheConstants.{SIGNALS}
use Rattle.tx_base.specs.declared.signals.Action.{Action}
use Rattle.tx_base.specs.declared.signals.Action.TheVariants.{Usual, Ignore, Catch}
use Rattle.tx_model.specs.State.{Frame, Process, Queued}
use Rattle.tx_state_text.specs.Each.{each_text, upto}
use Rattle.tx_state_text.specs.Registers.{slots_end}
use Rattle.tx_lines.specs.Sets.{bits_text, set_text}

-- a line of a set after a word, where the set is not empty
abbrev pub set_line : List ℕ → ℕ → List ℕ
set_line word set = if set == 0 then [] else word ++ (bits_text set ++ 10 ∷ [])

-- the line of the action of a signal, where it is not the usual one
abbrev pub action_line : ℕ → Action → List ℕ
action_line signo Usual = []
action_line signo Ignore = codes "action " ++ (decimal signo ++ codes " ignore\n")
action_line signo (Catch point mask) =
    codes "action "
    ++ (decimal signo ++ (codes " catch " ++ (decimal point ++ 32 ∷ (set_text mask ++ 10 ∷ []))))

-- the lines of the actions, by rising signal
abbrev pub actions_text : List Action → List ℕ
actions_text actions =
    upto (λ signo. action_line signo (slice_index_or actions signo Usual)) SIGNALS

-- an entry of the queue
abbrev pub entry_text : Queued → List ℕ
entry_text entry = 32 ∷ (decimal entry.signo ++ 58 ∷ signed_decimal entry.value)

-- the line of the queue, the first to be taken first, where there is an entry
abbrev pub queued_line : List Queued → List ℕ
queued_line entries =
    if length entries == 0 then [] else codes "queued" ++ (each_text entry_text entries ++ 10 ∷ [])

-- the line of what a caught signal saved
abbrev pub frame_text : Frame → List ℕ
frame_text frame =
    codes "frame "
    ++ (decimal frame.registers.point ++ 32
    ∷ (signed_decimal frame.registers.ret ++ 32
    ∷ (bits_text frame.mask ++ slots_end frame.registers.slots)))

-- the lines of what caught signals saved, the oldest first
abbrev pub frames_text : List Frame → List ℕ
frames_text frames = each_text frame_text frames

-- the lines of a process's signals: its mask, actions, pending standard signals, queue and frames
abbrev pub signals_text : Process → List ℕ
signals_text process =
    set_line (codes "mask ") process.mask
    ++ (actions_text process.actions
    ++ (set_line (codes "pending ") process.pending
    ++ (queued_line process.queued ++ frames_text process.frames)))
