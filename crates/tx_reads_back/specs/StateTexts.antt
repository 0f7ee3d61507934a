-- What the text of a state says of the state.
use Rattle.std.specs.Prelude.{◌≡◌, ℕ, ◌<◌, ◌≤◌, ◌^◌, true, false, List, map, All, pos, FitsSigned, Option, Some, None}
use Rattle.std.specs.Int.{w64}
use Rattle.hex.specs.Hex.{IsBytes}
use Rattle.tx_base.specs.declared.limits.TheConstants.{WIDE_PROCESSES}
use Rattle.tx_base.specs.declared.marks.Mark.{Mark}
use Rattle.tx_base.specs.declared.names.Regs.{Regs}
use Rattle.tx_base.specs.declared.steps.Accepted.{Accepted}
use Rattle.tx_model.specs.Memory.{PageView}
use Rattle.tx_model.specs.State.{Frame, Process, Queued, Sending, State, boot_state, is_between}
use Rattle.tx_model.specs.Membership.{Table, defers_in, is_live, is_member_of}
use Rattle.tx_model.specs.View.{View, present, view}
use Rattle.tx_model.specs.Answer.{Lawful}
use Rattle.tx_laws.specs.WellFormed.{IsWellFormed}
use Rattle.tx_laws.specs.WellFormedTable.{IsWellFormedWith}
use Rattle.tx_state_text.specs.State.{state_text}

-- the answer and the slots are 64-bit numbers
pub record HasWords (registers : Regs) : Type 0 where
  pub ret : FitsSigned w64 registers.ret
  pub slots : All (FitsSigned w64) registers.slots

-- what a mapped page holds is bytes
abbrev pub HasBytes : Option PageView → Type 0
HasBytes None = Unit {0}
HasBytes (Some page) = IsBytes page.bytes

-- the number of a description, where there is one, is of 8 bits
abbrev pub IsDescNumber : Option ℕ → Type 0
IsDescNumber None = Unit {0}
IsDescNumber (Some number) = number < 2 ^ 8

-- the status of who ended is of 16 bits
abbrev pub IsStatus : Option ℕ → Type 0
IsStatus None = Unit {0}
IsStatus (Some status) = status < 2 ^ 16

-- what a queued or held signal brings, and what a caught one saved, is of 64 bits
abbrev pub HasEntryWord : Queued → Type 0
HasEntryWord entry = FitsSigned w64 entry.value

abbrev pub HasFrameWords : Frame → Type 0
HasFrameWords frame = HasWords frame.registers

abbrev pub HasSentWord : Sending → Type 0
HasSentWord sending = FitsSigned w64 sending.value

-- the numbers of a process are those of the kernel's types
pub record HasTypes (q : Process) : Type 0 where
  pub registers : HasWords q.registers
  pub status : IsStatus q.status
  pub pages : All HasBytes q.memory
  pub descriptors : All IsDescNumber q.descriptors
  pub queued : All HasEntryWord q.queued
  pub frames : All HasFrameWords q.frames

-- the numbers of a state are those of the kernel's types
pub record IsTyped (S : State) : Type 0 where
  pub width : S.width ≤ WIDE_PROCESSES
  pub procs : (n : ℕ) (q : Process) → S.procs n ≡ Some q → HasTypes q
  pub pipes : (k : ℕ) (bytes : List ℕ) → S.pipes k ≡ Some bytes → IsBytes bytes
  pub held : (s : ℕ) → All HasSentWord (S.held s)

-- what the law requires of a view
pub record IsOfKernel (V : View) : Type 0 where
  -- the table has the width of the state
  pub width : (present V).width ≡ V.table.width
  -- members of transactions have process numbers
  pub members : (s p : ℕ) → is_member_of V.table s p ≡ true → is_between V.table.width p ≡ true
  pub formed : IsWellFormed (present V)
  pub table : IsWellFormedWith V.table (present V)
  pub typed : IsTyped (present V)

-- registers without the point and the answer if a process has ended: no line prints them
abbrev pub shown_registers : Option ℕ → Regs → Regs
shown_registers None registers = registers
shown_registers (Some status) registers = record registers { point = 0; ret = pos 0 }

-- what lines show of a process: all but these
abbrev pub shown : Option Process → Option Process
shown None = None
shown (Some q) = Some (record q { registers = shown_registers q.status q.registers })

-- what a line shows of a signal on its way: all but who sent it
abbrev pub unsigned : Sending → Sending
unsigned sending = record sending { from = None }

-- what lines show of a state
abbrev pub shown_state : State → State
shown_state S = record S {
  procs = λ n. shown (S.procs n);
  held = λ s. map unsigned (S.held s);
}

-- what lines show of a mark: all but what it says of deferring
abbrev pub standing : Option Mark → Option Mark
standing None = None
standing (Some mark) = Some (record mark { defers = false })

-- what lines show of a table
abbrev pub shown_table : Table → Table
shown_table t = record t { marks = λ p. standing (t.marks p) }

-- what two views with one text have in common
pub record ShowSame (V W : View) : Type 0 where
  -- the same processes, descriptions and pipes, and the same sends held, as they are shown
  pub state : shown_state (present V) ≡ shown_state (present W)
  -- the same members of each live transaction, with their part ended in both or in neither
  pub table : shown_table V.table ≡ shown_table W.table
  -- each live transaction defers deliveries in both or in neither, as its starter's mark says
  pub defers : (s : ℕ) → is_live V.table s ≡ true →
      defers_in (V.table.marks s) ≡ defers_in (W.table.marks s)

-- the text of a state has the whole state
abbrev pub TextsDetermineStates : Type 0
TextsDetermineStates = (V W : View) → IsOfKernel V → IsOfKernel W →
    (present V).width ≡ (present W).width → state_text V ≡ state_text W → ShowSame V W

-- a process that has ended is at point 0 with the answer 0
abbrev pub IsAtRest : Option ℕ → Regs → Type 0
IsAtRest None registers = Unit {0}
IsAtRest (Some status) registers = (registers.point ≡ 0) × (registers.ret ≡ pos 0)

-- each ended process is at point 0 with the answer 0
abbrev pub EndedRest : State → Type 0
EndedRest S = (n : ℕ) (q : Process) → S.procs n ≡ Some q → IsAtRest q.status q.registers

-- if so, states that show the same have the same processes
abbrev pub RestingAreSame : Type 0
RestingAreSame = (S T : State) → EndedRest S → EndedRest T →
    shown_state S ≡ shown_state T → (n : ℕ) → S.procs n ≡ T.procs n

-- the view of every lawful history from a booted state has what the law requires, but for the types
-- of its numbers
abbrev pub HistoriesAreOfKernel : Type 0
HistoriesAreOfKernel = (width count : ℕ) (history : List Accepted) →
    1 ≤ count → count ≤ width → Lawful (boot_state width count) history →
    IsTyped (present (view (boot_state width count) history)) →
    IsOfKernel (view (boot_state width count) history)
