-- What is written of a state can be printed.
use Rattle.std.proofs.Common.{◌≡◌, ◌<◌, ◌≤◌, ◌+◌, ◌-◌, ◌^◌, ℕ, ℤ, zero, suc, Bool, true, false, cond, List, [], ◌++◌, Option, Some, None, arith, codes, nat_lt, refl, subst, sym}
use Rattle.std.specs.Int.{w64}
use Rattle.std.specs.List.{All}
use Rattle.std.specs.Prelude.{FitsSigned, slice_index_or}
use Rattle.json.proofs.Printed.Decimals.{IsNumber-decimal}
use Rattle.json.specs.Print.{ArePrintable}
use Rattle.json.specs.Token.{Token}
use Rattle.tx_base.specs.Signals.{bits_of}
use Rattle.tx_base.specs.declared.limits.TheConstants.{DESCRIPTIONS, DESCRIPTORS, LAST_ID, PIPES, SIGNALS}
use Rattle.tx_base.specs.declared.signals.Action.{Action}
use Rattle.tx_base.specs.declared.signals.Action.TheVariants.{Usual, Ignore, Catch}
use Rattle.tx_reads_back.specs.StateTexts.{IsDescNumber, IsOfKernel, IsStatus}
use Rattle.tx_laws.specs.WellFormed.{HasActionLimits}
use Rattle.tx_model.specs.Memory.{page_at, PageView}
use Rattle.tx_model.specs.SignalSets.{is_in_set}
use Rattle.tx_model.specs.State.{Description, Frame, Process, Queued, Sending, State}
use Rattle.tx_model.specs.View.{View, present}
use Rattle.tx_json.specs.Answers.{state_answer, state_key}
use Rattle.tx_json.specs.Descriptors.{desc_item, descs_member, fd_item, pipe_item, pipes_member}
use Rattle.tx_json.specs.Each.{each_tokens, upto}
use Rattle.tx_json.specs.Lists.{count_item, number_item, numbers_member, set_member, signal_item}
use Rattle.tx_json.specs.Members.{begin_object, count_member, end_object, flag_member, list_member, number_member, word_member}
use Rattle.tx_json.specs.Processes.{end_members, page_item, process_item, procs_member, three_ids}
use Rattle.tx_json.specs.Signals.{action_item, entry_item, frame_item}
use Rattle.tx_json.specs.Txns.{held_item, mark_item, txns_member}
use Rattle.tx_reads_back.proofs.Printable.{both, each_printable, list_printable, signed_number}
use Rattle.tx_reads_back.proofs.ProcessesRead.{good_entries, good_frames, IsEntry, IsFrame, IsKernelProcess}
use Rattle.tx_reads_back.proofs.SignalsRead.{IsCount}
use Rattle.tx_reads_back.proofs.Gathered.{or_nothing}
use Rattle.tx_reads_back.proofs.StatesRead.{good_process, good_txn, is_some_of, mark_written, txn_at, txn_is_item, written_txn, IsSend, IsTxn}
use Rattle.tx_reads_back.specs.Reading.{object_by}
use Rattle.tx_reads_back.specs.ReadStates.{txn_members, JsonTxn}

-- the tokens can be printed
record Prints (written : List Token) : Type 0 where
  pub all : ArePrintable written

infixr 10 ◌&◌
◌&◌ : {ts us : List Token} → Prints ts → Prints us → Prints (ts ++ us)
◌&◌ {ts = ts} {us = us} first second = record { all = both ts us first.all second.all }

listed : (name : List ℕ) (items : List Token) → Prints items → Prints (list_member name items)
listed name items good = record { all = list_printable name items good.all }

each_printed : {A : Type 0} (written : A → List Token) (Good : A → Type 0) → ((x : A) → Good x → Prints (written x)) → (xs : List A) → All Good xs → Prints (each_tokens written xs)
each_printed written Good one xs good = record { all = each_printable written Good (λ x is. (one x is).all) xs good }

opens : Prints begin_object
unfolding ArePrintable begin_object
opens = record { all = (tt, tt) }

closes : Prints end_object
unfolding ArePrintable end_object
closes = record { all = (tt, tt) }

count_printed : (name : List ℕ) (n : ℕ) → n < 2 ^ 64 → Prints (count_member name n)
unfolding ArePrintable count_member
count_printed name n small = record { all = (tt, (IsNumber-decimal n small, tt)) }

number_printed : (name : List ℕ) (z : ℤ) → FitsSigned w64 z → Prints (number_member name z)
unfolding ArePrintable number_member
number_printed name z fits = record { all = (tt, (signed_number z fits, tt)) }

word_printed : (name word : List ℕ) → Prints (word_member name word)
unfolding ArePrintable word_member
word_printed name word = record { all = (tt, (tt, tt)) }

flag_printed : (name : List ℕ) (flag : Bool) → Prints (flag_member name flag)
unfolding ArePrintable flag_member
flag_printed name flag = record { all = (tt, (tt, tt)) }

nothing : Prints []
unfolding ArePrintable
nothing = record { all = tt }

item_printed : (n : ℕ) → n < 2 ^ 64 → Prints (count_item n)
unfolding ArePrintable count_item
item_printed n small = record { all = (IsNumber-decimal n small, tt) }

signed_printed : (z : ℤ) → FitsSigned w64 z → Prints (number_item z)
unfolding ArePrintable number_item
signed_printed z fits = record { all = (signed_number z fits, tt) }

upto_printed : (tokens : ℕ → List Token) (limit : ℕ) → ((n : ℕ) → n < limit → Prints (tokens n)) → Prints (upto tokens limit)
unfolding upto
upto_printed tokens zero each = nothing
upto_printed tokens (suc limit) each = upto_printed tokens limit (λ n below. each n (omega (arith, below))) & each limit (omega arith)

counts_printed : (name counts : List ℕ) → All IsCount counts → Prints (list_member name (each_tokens count_item counts))
counts_printed name counts good = listed name (each_tokens count_item counts) (each_printed count_item IsCount item_printed counts good)

numbers_printed : (name : List ℕ) (numbers : List ℤ) → All (FitsSigned w64) numbers → Prints (numbers_member name numbers)
numbers_printed name numbers good = listed name (each_tokens number_item numbers) (each_printed number_item (FitsSigned w64) signed_printed numbers good)

set_printed : (name : List ℕ) (set : ℕ) → Prints (set_member name set)
set_printed name set = listed name (upto (signal_item set) SIGNALS) (upto_printed (signal_item set) SIGNALS (λ signo below. by signo below (is_in_set set signo)))
  where
    by : (signo : ℕ) → signo < 40 → (is : Bool) → Prints (cond is (count_item signo) [])
    by signo below true = item_printed signo (omega (arith, below))
    by signo below false = nothing

-- ---- a process

page_printed : (n : ℕ) (page : Option PageView) → n < 2 ^ 64 → Prints (page_item n page)
page_printed n None small = nothing
page_printed n (Some page) small = opens & count_printed (codes "page") n small & flag_printed (codes "writable") page.writable & word_printed (codes "bytes") _ & closes

fd_printed : (n : ℕ) (desc : Option ℕ) → n < 2 ^ 64 → IsDescNumber desc → Prints (fd_item n desc)
fd_printed n None small desc = nothing
fd_printed n (Some number) small desc = opens & count_printed (codes "fd") n small & count_printed (codes "desc") number (omega (arith, desc)) & closes

action_printed : (signo : ℕ) (action : Action) → signo < 2 ^ 64 → HasActionLimits action → Prints (action_item signo action)
action_printed signo Usual small limits = nothing
action_printed signo Ignore small limits = opens & count_printed (codes "signo") signo small & word_printed (codes "action") (codes "ignore") & closes
action_printed signo (Catch point mask) small limits =
    let at = limits.point in
    opens & count_printed (codes "signo") signo small & word_printed (codes "action") (codes "catch") & count_printed (codes "point") point (omega (arith, at)) & set_printed (codes "mask") (bits_of mask) & closes

entry_printed : (entry : Queued) → IsEntry entry → Prints (entry_item entry)
entry_printed entry good = opens & count_printed (codes "signo") entry.signo good.0 & number_printed (codes "value") entry.value good.1 & closes

frame_printed : (frame : Frame) → IsFrame frame → Prints (frame_item frame)
frame_printed frame good =
    opens & count_printed (codes "point") frame.registers.point good.point & number_printed (codes "ret") frame.registers.ret good.ret
    & set_printed (codes "mask") frame.mask & numbers_printed (codes "slots") frame.registers.slots good.slots & closes

three_printed : (name : List ℕ) (a b c : ℕ) → a ≤ LAST_ID → b ≤ LAST_ID → c ≤ LAST_ID → Prints (three_ids name a b c)
three_printed name a b c a_in b_in c_in = listed name (count_item a ++ (count_item b ++ count_item c)) (item_printed a (omega (arith, a_in)) & item_printed b (omega (arith, b_in)) & item_printed c (omega (arith, c_in)))

end_printed : (status : Option ℕ) → IsStatus status → Prints (end_members status)
end_printed None small = nothing
end_printed (Some status) small = by (nat_lt status 256)
  where
    by : (is : Bool) → Prints (cond is (count_member (codes "exit") status) (count_member (codes "killed") (status - 256)))
    by true = count_printed (codes "exit") status (omega (arith, small))
    by false = count_printed (codes "killed") (status - 256) (omega (arith, small))

process_printed : (n : ℕ) (q : Process) → IsKernelProcess (n, q) → Prints (process_item n (Some q))
process_printed n q good =
    let limits = good.limits in
    let ids = limits.ids in
    let types = good.types in
    let point = limits.point in
    let registers = count_printed (codes "point") q.registers.point (omega (arith, point)) & number_printed (codes "ret") q.registers.ret types.registers.ret & numbers_printed (codes "slots") q.registers.slots types.registers.slots in
    let owner = three_printed (codes "users") q.ids.real_user q.ids.effective_user q.ids.saved_user ids.real_user ids.effective_user ids.saved_user
    & three_printed (codes "groups") q.ids.real_group q.ids.effective_group q.ids.saved_group ids.real_group ids.effective_group ids.saved_group in
    let pages = listed (codes "pages") (upto (λ number. page_item number (page_at q.memory number)) 16)
    (upto_printed (λ number. page_item number (page_at q.memory number)) 16 (λ n below. page_printed n (page_at q.memory n) (omega (arith, below)))) in
    let fds = listed (codes "fds") (upto (λ fd. fd_item fd (slice_index_or q.descriptors fd None)) DESCRIPTORS)
    (upto_printed (λ fd. fd_item fd (slice_index_or q.descriptors fd None)) DESCRIPTORS
    (λ n below. fd_printed n (slice_index_or q.descriptors n None) (omega (arith, below)) (types.descriptors n None (let long = good.sizes.descriptors in omega (arith, below, long))))) in
    let actions = listed (codes "actions") (upto (λ signo. action_item signo (slice_index_or q.actions signo Usual)) SIGNALS)
    (upto_printed (λ signo. action_item signo (slice_index_or q.actions signo Usual)) SIGNALS
    (λ n below. action_printed n (slice_index_or q.actions n Usual) (omega (arith, below)) (limits.actions n Usual (let long = good.sizes.actions in omega (arith, below, long))))) in
    let queued = listed (codes "queued") (each_tokens entry_item q.queued) (each_printed entry_item IsEntry entry_printed q.queued (good_entries q.queued limits.queued types.queued)) in
    let frames = listed (codes "frames") (each_tokens frame_item q.frames) (each_printed frame_item IsFrame frame_printed q.frames (good_frames q.frames limits.frames types.frames)) in
    let signals = set_printed (codes "mask") q.mask & actions & set_printed (codes "pending") q.pending & queued & frames in
    opens & count_printed (codes "pid") n good.number & count_printed (codes "parent") q.parent good.parent & end_printed q.status types.status & (registers & owner & pages & fds & signals) & closes

-- ---- a state

desc_printed : (n : ℕ) (desc : Description) → n < 2 ^ 64 → desc.pipe < 2 ^ 64 → Prints (desc_item n (Some desc))
desc_printed n desc small pipe =
    opens & count_printed (codes "desc") n small & count_printed (codes "pipe") desc.pipe pipe & word_printed (codes "side") _ & flag_printed (codes "nonblock") desc.nonblock & closes

pipe_printed : (n : ℕ) (bytes : List ℕ) → n < 2 ^ 64 → Prints (pipe_item n (Some bytes))
pipe_printed n bytes small = opens & count_printed (codes "pipe") n small & word_printed (codes "bytes") _ & closes

held_printed : (m : Sending) → IsSend m → Prints (held_item m)
held_printed m good = opens & count_printed (codes "target") m.target good.target & count_printed (codes "signo") m.signo good.signo & number_printed (codes "value") m.value good.value & closes

txn_printed : (starter : ℕ) (txn : JsonTxn) → IsTxn (starter, txn) → Prints (written_txn starter txn)
txn_printed starter txn good =
    let held = listed (codes "held") (each_tokens held_item txn.held) (each_printed held_item IsSend held_printed txn.held good.held) in
    opens & count_printed (codes "txn") starter good.starter & flag_printed (codes "defers") txn.defers
    & (counts_printed (codes "open") txn.open_parts good.open_parts & counts_printed (codes "ended") txn.ended_parts good.ended_parts & held) & closes

-- what is there can be printed, and nothing else is written
if_there : {A : Type 0} (x : Option A) (tokens : Option A → List Token) → tokens None ≡ [] → ((found : A) → x ≡ Some found → Prints (tokens (Some found))) → Prints (tokens x)
if_there x tokens none some = grind (arith, nothing)

module _ (V : View) (kernel : IsOfKernel V) where
  abbrev S : State
  S = present V

  procs_printed : Prints (procs_member S.width S.procs)
  procs_printed =
      listed (codes "procs") (upto (λ done. process_item (done + 1) (S.procs (done + 1))) S.width) (upto_printed (λ done. process_item (done + 1) (S.procs (done + 1))) S.width
      (λ n below. if_there (S.procs (n + 1)) (process_item (n + 1)) refl (λ q is. process_printed (n + 1) q (good_process V kernel (n + 1) q is))))

  descs_printed : Prints (descs_member S.descs)
  descs_printed =
      listed (codes "descs") (upto (λ n. desc_item n (S.descs n)) DESCRIPTIONS) (upto_printed (λ n. desc_item n (S.descs n)) DESCRIPTIONS
      (λ n below. if_there (S.descs n) (desc_item n) refl (λ desc is.
      let pipe = is_some_of (S.pipes desc.pipe) (kernel.formed.named n desc is).2 in
      let small = (kernel.formed.pipes desc.pipe pipe.0 pipe.1).1 in
      desc_printed n desc (omega (arith, below)) (omega (arith, small)))))

  pipes_printed : Prints (pipes_member S.pipes)
  pipes_printed =
      listed (codes "pipes") (upto (λ n. pipe_item n (S.pipes n)) PIPES) (upto_printed (λ n. pipe_item n (S.pipes n)) PIPES
      (λ n below. if_there (S.pipes n) (pipe_item n) refl (λ bytes is. pipe_printed n bytes (omega (arith, below)))))

  txn_there : (n : ℕ) (txn : Option JsonTxn) → ((found : JsonTxn) → txn ≡ Some found → IsTxn (n, found)) → Prints (or_nothing (object_by txn_members) written_txn IsTxn txn_is_item n txn)
  txn_there n txn good = grind (arith, nothing, txn_printed)

  txns_printed : Prints (txns_member V.table.width V.table.marks S.held)
  txns_printed =
      listed (codes "txns") (upto (λ done. mark_item V.table.width V.table.marks (done + 1) (S.held (done + 1)) (V.table.marks (done + 1))) V.table.width)
      (upto_printed (λ done. mark_item V.table.width V.table.marks (done + 1) (S.held (done + 1)) (V.table.marks (done + 1))) V.table.width
      (λ n below. subst Prints (sym (mark_written V.table.width V.table.marks (n + 1) (S.held (n + 1)) (V.table.marks (n + 1)))) (txn_there (n + 1) (txn_at V kernel (n + 1)) (good_txn V kernel (n + 1)))))

  key_printed : Prints state_key
  unfolding ArePrintable state_key
  key_printed = record { all = (tt, tt) }

  place_printed : (at : ℕ) → at < 2 ^ 64 → Prints (state_answer at V)
  place_printed at small =
      opens & count_printed (codes "at") at small & key_printed & (opens & (procs_printed & descs_printed & pipes_printed) & txns_printed & closes) & closes

  pub place_printable : (at : ℕ) → at < 2 ^ 64 → ArePrintable (state_answer at V)
  place_printable at small = (place_printed at small).all
