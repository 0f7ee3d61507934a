-- Processes are read as they are written.
use Rattle.std.proofs.Common.{◌≡◌, ◌∙◌, ◌<◌, ◌≤◌, ◌+◌, ◌-◌, ◌^◌, ◌||◌, ℕ, Bool, true, false, cond, List, [], ◌∷◌, ◌++◌, Option, Some, None, ap, append_assoc, arith, codes, get_or, length, refl, subst, nat_lt}
use Rattle.std.proofs.lemmas.Bool.{ltb-false, or_right}
use Rattle.std.proofs.lemmas.List.Elements.{All-cons, All-nil}
use Rattle.std.specs.Int.{w64}
use Rattle.std.specs.List.{All}
use Rattle.std.specs.Prelude.{FitsSigned, slice_index_or, unwrap_or}
use Rattle.hex.specs.Hex.{IsBytes}
use Rattle.json.specs.Json.{after_end_array}
use Rattle.json.specs.Token.{Token}
use Rattle.tx_base.specs.Signals.{bits_of}
use Rattle.tx_base.specs.declared.limits.TheConstants.{DESCRIPTORS, LAST_ID, SIGNALS}
use Rattle.tx_model.specs.SignalSets.{is_in_set, is_one_of, is_realtime, standard_signals}
use Rattle.tx_base.specs.declared.signals.Action.{Action}
use Rattle.tx_base.specs.declared.signals.Action.TheVariants.{Usual, Ignore, Catch}
use Rattle.tx_model.specs.Memory.{page_at, Memory, PageView}
use Rattle.tx_model.specs.State.{Frame, Process, Queued}
use Rattle.tx_laws.specs.WellFormed.{HasActionLimits, HasFrameLimits, HasLimits, HasSizes, IsRealtimeEntry}
use Rattle.tx_reads_back.specs.StateTexts.{HasBytes, HasEntryWord, HasFrameWords, HasTypes, IsDescNumber, IsStatus}
use Rattle.tx_json.specs.Descriptors.{fd_item, fds_member}
use Rattle.tx_json.specs.Lists.{count_item, numbers_member, set_member}
use Rattle.tx_json.specs.Members.{begin_object, count_member, end_object, flag_member, number_member, word_member}
use Rattle.tx_json.specs.Processes.{end_members, ids_members, own_members, page_item, pages_member, process_item, registers_members, three_ids}
use Rattle.tx_json.specs.Signals.{action_item, actions_member, entry_item, frame_item, frames_member, queued_member, signals_members}
use Rattle.tx_reads_back.proofs.Gathered.{all_numbered, found_there, listed_read, or_nothing, table_whole}
use Rattle.tx_reads_back.proofs.Lists.{known_small, IsKnownSet}
use Rattle.tx_reads_back.proofs.MembersRead.{count_in_read, ends_with, goes_on, goes_on_there, list_read, number_in_read, object_read, IsItem}
use Rattle.tx_reads_back.proofs.NumbersRead.{bytes_read, count_read, number_read}
use Rattle.tx_reads_back.proofs.SignalsRead.{count_is_item, numbers_read, set_read, IsCount}
use Rattle.tx_reads_back.specs.ReadProcesses.{three_of, JsonSignals, action_members, actions_in, entry_members, fd_members, fds_in, frame_members, ids_in, own_in, page_members, pages_in, process_members, registers_in, set_in, signals_in, status_in, table, found_at, status_by, three_in}
use Rattle.tx_reads_back.specs.Reading.{◌>>=◌, bytes_in, count_at, count_in, flag_in, list_in, number_at, number_in, object_by, word_in}

-- ---- the queue

abbrev pub IsEntry : Queued → Type 0
IsEntry entry = (entry.signo < 2 ^ 64) × FitsSigned w64 entry.value

entry_is_item : IsItem (object_by entry_members) entry_item IsEntry
unfolding begin_object count_at count_in count_member end_object entry_members number_at number_in number_member object_by
entry_is_item = record {
  reads = λ entry rest good. rw (count_read entry.signo good.0, number_read entry.value good.1) refl;
  begins = λ entry rest good. refl;
  some = λ entry good. omega arith;
}

-- ---- frames

pub record IsFrame (frame : Frame) : Type 0 where
  pub point : frame.registers.point < 2 ^ 64
  pub ret : FitsSigned w64 frame.registers.ret
  pub slots : All (FitsSigned w64) frame.registers.slots
  pub mask : IsKnownSet frame.mask

frame_read : (frame : Frame) (rest : List Token) → IsFrame frame → object_by frame_members (frame_item frame ++ rest) ≡ Some (frame, rest)
unfolding frame_members
frame_read frame rest good =
    object_read frame_members _ rest frame
    (goes_on (count_in (codes "point")) _ (count_member (codes "point") frame.registers.point) frame.registers.point (λ r. count_in_read (codes "point") frame.registers.point r good.point) _ rest
    ∙ goes_on (number_in (codes "ret")) _ (number_member (codes "ret") frame.registers.ret) frame.registers.ret (λ r. number_in_read (codes "ret") frame.registers.ret r good.ret) _ rest
    ∙ goes_on (set_in (codes "mask")) _ (set_member (codes "mask") frame.mask) frame.mask (λ r. set_read (codes "mask") frame.mask r good.mask) _ rest
    ∙ goes_on (list_in (codes "slots") number_at) _ (numbers_member (codes "slots") frame.registers.slots) frame.registers.slots (λ r. numbers_read (codes "slots") frame.registers.slots r good.slots) _ rest)

frame_is_item : IsItem (object_by frame_members) frame_item IsFrame
unfolding begin_object
frame_is_item = record {
  reads = frame_read;
  begins = λ frame rest good. refl;
  some = λ frame good. omega arith;
}

-- ---- actions

-- an action that is not the usual one
abbrev listed_action : Action → Option Action
listed_action Usual = None
listed_action Ignore = Some Ignore
listed_action (Catch point mask) = Some (Catch point mask)

listed_again : (action : Action) → unwrap_or (listed_action action) Usual ≡ action
listed_again action = grind arith

abbrev IsListed : Action → Type 0
IsListed Usual = ⊥
IsListed Ignore = Unit {0}
IsListed (Catch point mask) = (point < 2 ^ 64) × IsKnownSet (bits_of mask)

abbrev IsAction : ℕ × Action → Type 0
IsAction one = (one.0 < 2 ^ 64) × IsListed one.1

abbrev written_action : ℕ × Action → List Token
written_action one = action_item one.0 one.1

catch_read : (signo point : ℕ) (mask : _) (rest : List Token) → signo < 2 ^ 64 → point < 2 ^ 64 → IsKnownSet (bits_of mask)
    → object_by action_members (action_item signo (Catch point mask) ++ rest) ≡ Some ((signo, Catch point mask), rest)
unfolding action_members begin_object count_at count_in count_member end_object object_by word_in word_member
catch_read signo point mask rest signo_small point_small known =
    rw (count_read signo signo_small, count_read point point_small, append_assoc (set_member (codes "mask") (bits_of mask)) (Token.end_object ∷ []) rest, set_read (codes "mask") (bits_of mask) (Token.end_object ∷ rest) known) refl

action_read : (signo : ℕ) (action : Action) (rest : List Token) → signo < 2 ^ 64 → IsListed action → object_by action_members (action_item signo action ++ rest) ≡ Some ((signo, action), rest)
unfolding action_members begin_object count_at count_in count_member end_object object_by word_in word_member
action_read signo Usual rest small listed = absurd listed
action_read signo Ignore rest small listed = rw (count_read signo small) refl
action_read signo (Catch point mask) rest small listed = catch_read signo point mask rest small listed.0 listed.1

action_begins : (signo : ℕ) (action : Action) → IsListed action → (more : List Token) × (action_item signo action ≡ Token.begin_object ∷ more)
unfolding begin_object
action_begins signo Usual listed = absurd listed
action_begins signo Ignore listed = (_, refl)
action_begins signo (Catch point mask) listed = (_, refl)

action_is_item : IsItem (object_by action_members) written_action IsAction
action_is_item = record {
  reads = λ one rest good. action_read one.0 one.1 rest good.0 good.1;
  begins = λ one rest good. let begins = action_begins one.0 one.1 good.1 in ap (λ (t : List Token). after_end_array (t ++ rest)) begins.1;
  some = λ one good. let begins = action_begins one.0 one.1 good.1 in let long = ap (λ (t : List Token). length t) begins.1 in omega (arith, long);
}

-- what is at each number below a limit
found_all : {A : Type 0} (at : ℕ → Option A) (limit n : ℕ) → n < limit → found_at (all_numbered (λ i. i) at limit) n ≡ at n
found_all at limit n below = found_there (λ i. i) at (λ i j same. same) limit n below

module _ (actions : List Action) (long : length actions ≡ SIGNALS) (limits : All HasActionLimits actions) where
  listed_at : ℕ → Option Action
  listed_at signo = listed_action (slice_index_or actions signo Usual)

  one_action : (signo : ℕ) (action : Action) → action_item signo action ≡ or_nothing (object_by action_members) (λ n x. action_item n x) IsAction action_is_item signo (listed_action action)
  one_action signo action = grind arith

  IsGoodListed : ℕ → Option Action → Type 0
  IsGoodListed signo None = Unit {0}
  IsGoodListed signo (Some listed) = IsAction (signo, listed)

  good_listed : (signo : ℕ) (action : Action) → signo < 40 → HasActionLimits action → IsGoodListed signo (listed_action action)
  unfolding IsGoodListed
  good_listed signo Usual below limits = tt
  good_listed signo Ignore below limits = (omega (arith, below), tt)
  good_listed signo (Catch point mask) below limits = let small = limits.point in (omega (arith, below), (omega (arith, small), limits.mask.known))

  good_action : (signo : ℕ) (listed action : Action) → signo < 40 → HasActionLimits action → listed_action action ≡ Some listed → IsAction (signo, listed)
  unfolding IsGoodListed
  good_action signo listed action below limits is = subst (IsGoodListed signo) is (good_listed signo action below limits)

  actions_read : (rest : List Token) → actions_in (actions_member actions ++ rest) ≡ Some (actions, rest)
  unfolding actions_in listed_at
  actions_read rest =
      ap (λ read. read >>= (λ (found : List (ℕ × Action) × List Token). Some (table (λ signo. unwrap_or (found_at found.0 signo) Usual) SIGNALS, found.1)))
      (listed_read (object_by action_members) (λ n x. action_item n x) IsAction action_is_item (codes "actions") (λ n. n) listed_at SIGNALS (λ signo. action_item signo (slice_index_or actions signo Usual)) rest
      (λ signo. one_action signo (slice_index_or actions signo Usual))
      (λ signo listed below is. good_action signo listed (slice_index_or actions signo Usual) below (limits signo Usual (omega (arith, below, long))) is))
      ∙ ap (λ (found : List Action). Some (found, rest)) (table_whole _ actions Usual SIGNALS long
      (λ signo below. ap (λ listed. unwrap_or listed Usual) (found_all listed_at SIGNALS signo below) ∙ listed_again (slice_index_or actions signo Usual)))

-- ---- ids, pages and descriptors

three_read : (name : List ℕ) (real effective saved : ℕ) (rest : List Token) → real ≤ LAST_ID → effective ≤ LAST_ID → saved ≤ LAST_ID → three_in name (three_ids name real effective saved ++ rest) ≡ Some ((real, effective, saved), rest)
unfolding three_in count_item
three_read name real effective saved rest a b c =
    let ids = real ∷ effective ∷ saved ∷ [] in
    let small : All IsCount ids = All-cons IsCount real (effective ∷ saved ∷ []) (omega (arith, a)) (All-cons IsCount effective (saved ∷ []) (omega (arith, b)) (All-cons IsCount saved [] (omega (arith, c)) (All-nil IsCount))) in
    ap (λ read. read >>= (λ (found : List ℕ × List Token). three_of found.0 >>= (λ (three : ℕ × ℕ × ℕ). Some (three, found.1)))) (list_read count_at count_item IsCount count_is_item name ids rest small)

abbrev IsPage : ℕ × PageView → Type 0
IsPage one = (one.0 < 2 ^ 64) × IsBytes one.1.bytes

page_is_item : IsItem (object_by page_members) (λ one. page_item one.0 (Some one.1)) IsPage
unfolding begin_object bytes_in count_at count_in count_member end_object flag_in flag_member object_by page_members word_in word_member
page_is_item = record {
  reads = λ one rest good. rw (count_read one.0 good.0, bytes_read one.1.bytes good.1) refl;
  begins = λ one rest good. refl;
  some = λ one good. omega arith;
}

one_page : (n : ℕ) (page : Option PageView) → page_item n page ≡ or_nothing (object_by page_members) (λ n page. page_item n (Some page)) IsPage page_is_item n page
one_page n page = grind arith

abbrev IsFd : ℕ × ℕ → Type 0
IsFd one = (one.0 < 2 ^ 64) × (one.1 < 2 ^ 64)

fd_is_item : IsItem (object_by fd_members) (λ one. fd_item one.0 (Some one.1)) IsFd
unfolding begin_object count_at count_in count_member end_object fd_members object_by
fd_is_item = record {
  reads = λ one rest good. rw (count_read one.0 good.0, count_read one.1 good.1) refl;
  begins = λ one rest good. refl;
  some = λ one good. omega arith;
}

one_fd : (n : ℕ) (desc : Option ℕ) → fd_item n desc ≡ or_nothing (object_by fd_members) (λ n desc. fd_item n (Some desc)) IsFd fd_is_item n desc
one_fd n desc = grind arith

-- ---- the signals of a process

known_pending : (set : ℕ) → ((signo : ℕ) → is_in_set set signo ≡ true → is_one_of standard_signals signo ≡ true) → IsKnownSet set
known_pending set standard signo is = ap (λ (b : Bool). b || is_realtime signo) (standard signo is)

small_entry : (signo : ℕ) → is_realtime signo ≡ true → signo < 2 ^ 64
small_entry signo is = let small = known_small signo (or_right (is_one_of standard_signals signo) (is_realtime signo) is) in omega (arith, small)

pub good_entries : (entries : List Queued) → All IsRealtimeEntry entries → All HasEntryWord entries → All IsEntry entries
good_entries entries known words i d below = (small_entry (get_or entries i d).signo (known i d below), words i d below)

pub good_frames : (frames : List Frame) → All HasFrameLimits frames → All HasFrameWords frames → All IsFrame frames
good_frames frames limits words = grind arith

module _ (q : Process) (sizes : HasSizes q) (limits : HasLimits q) (types : HasTypes q) where
  abbrev own_signals : JsonSignals
  own_signals = record { mask = q.mask; actions = q.actions; pending = q.pending; queued = q.queued; frames = q.frames }

  queued_read : (rest : List Token) → list_in (codes "queued") (object_by entry_members) (queued_member q.queued ++ rest) ≡ Some (q.queued, rest)
  queued_read rest = list_read (object_by entry_members) entry_item IsEntry entry_is_item (codes "queued") q.queued rest (good_entries q.queued limits.queued types.queued)

  frames_read : (rest : List Token) → list_in (codes "frames") (object_by frame_members) (frames_member q.frames ++ rest) ≡ Some (q.frames, rest)
  frames_read rest = list_read (object_by frame_members) frame_item IsFrame frame_is_item (codes "frames") q.frames rest (good_frames q.frames limits.frames types.frames)

  signals_read : (rest : List Token) → signals_in (signals_members q ++ rest) ≡ Some (own_signals, rest)
  unfolding signals_in
  signals_read rest =
      goes_on (set_in (codes "mask")) _ (set_member (codes "mask") q.mask) q.mask (λ r. set_read (codes "mask") q.mask r limits.mask.known) _ rest
      ∙ goes_on actions_in _ (actions_member q.actions) q.actions (actions_read q.actions sizes.actions limits.actions) _ rest
      ∙ goes_on (set_in (codes "pending")) _ (set_member (codes "pending") q.pending) q.pending (λ r. set_read (codes "pending") q.pending r (known_pending q.pending limits.pending)) _ rest
      ∙ goes_on (list_in (codes "queued") (object_by entry_members)) _ (queued_member q.queued) q.queued queued_read _ rest
      ∙ ends_with (list_in (codes "frames") (object_by frame_members)) _ (frames_member q.frames) q.frames frames_read rest

  -- ---- where it is, and its ids

  registers_read : (rest : List Token) → registers_in (registers_members q.registers ++ rest) ≡ Some (q.registers, rest)
  unfolding registers_in
  registers_read rest =
      let small = limits.point in
      goes_on (count_in (codes "point")) _ (count_member (codes "point") q.registers.point) q.registers.point (λ r. count_in_read (codes "point") q.registers.point r (omega (arith, small))) _ rest
      ∙ goes_on (number_in (codes "ret")) _ (number_member (codes "ret") q.registers.ret) q.registers.ret (λ r. number_in_read (codes "ret") q.registers.ret r types.registers.ret) _ rest
      ∙ ends_with (list_in (codes "slots") number_at) _ (numbers_member (codes "slots") q.registers.slots) q.registers.slots (λ r. numbers_read (codes "slots") q.registers.slots r types.registers.slots) rest

  ids_read : (rest : List Token) → ids_in (ids_members q.ids ++ rest) ≡ Some (q.ids, rest)
  unfolding ids_in
  ids_read rest =
      goes_on (three_in (codes "users")) _ (three_ids (codes "users") q.ids.real_user q.ids.effective_user q.ids.saved_user) (q.ids.real_user, q.ids.effective_user, q.ids.saved_user)
      (λ r. three_read (codes "users") q.ids.real_user q.ids.effective_user q.ids.saved_user r limits.ids.real_user limits.ids.effective_user limits.ids.saved_user) _ rest
      ∙ ends_with (three_in (codes "groups")) _ (three_ids (codes "groups") q.ids.real_group q.ids.effective_group q.ids.saved_group) (q.ids.real_group, q.ids.effective_group, q.ids.saved_group)
      (λ r. three_read (codes "groups") q.ids.real_group q.ids.effective_group q.ids.saved_group r limits.ids.real_group limits.ids.effective_group limits.ids.saved_group) rest

  -- ---- pages and descriptors

  pages_read : (rest : List Token) → pages_in (pages_member q.memory ++ rest) ≡ Some (q.memory, rest)
  unfolding pages_in
  pages_read rest =
      ap (λ read. read >>= (λ (found : List (ℕ × PageView) × List Token). Some (table (found_at found.0) 16, found.1)))
      (listed_read (object_by page_members) (λ n page. page_item n (Some page)) IsPage page_is_item (codes "pages") (λ n. n) (page_at q.memory) 16 (λ n. page_item n (page_at q.memory n)) rest
      (λ n. one_page n (page_at q.memory n))
      (λ n page below is. (omega (arith, below), subst HasBytes is (types.pages n None (let long = sizes.pages in omega (arith, below, long))))))
      ∙ ap (λ (memory : Memory). Some (memory, rest)) (table_whole (found_at (all_numbered (λ n. n) (page_at q.memory) 16)) q.memory None 16 sizes.pages (λ n below. found_all (page_at q.memory) 16 n below))

  fds_read : (rest : List Token) → fds_in (fds_member q.descriptors ++ rest) ≡ Some (q.descriptors, rest)
  unfolding fds_in
  fds_read rest =
      let at : ℕ → Option ℕ = λ fd. slice_index_or q.descriptors fd None in
      ap (λ read. read >>= (λ (found : List (ℕ × ℕ) × List Token). Some (table (found_at found.0) DESCRIPTORS, found.1)))
      (listed_read (object_by fd_members) (λ n desc. fd_item n (Some desc)) IsFd fd_is_item (codes "fds") (λ n. n) at DESCRIPTORS (λ fd. fd_item fd (at fd)) rest
      (λ n. one_fd n (at n))
      (λ n desc below is. (omega (arith, below), (let small : desc < 2 ^ 8 = subst IsDescNumber is (types.descriptors n None (let long = sizes.descriptors in omega (arith, below, long))) in omega (arith, small)))))
      ∙ ap (λ (descriptors : List (Option ℕ)). Some (descriptors, rest)) (table_whole (found_at (all_numbered (λ n. n) at DESCRIPTORS)) q.descriptors None DESCRIPTORS sizes.descriptors (λ n below. found_all at DESCRIPTORS n below))

  own_read : (rest : List Token) → own_in q.parent q.status (own_members q ++ rest) ≡ Some (q, rest)
  unfolding own_in
  own_read rest =
      goes_on registers_in _ (registers_members q.registers) q.registers registers_read _ rest
      ∙ goes_on ids_in _ (ids_members q.ids) q.ids ids_read _ rest
      ∙ goes_on pages_in _ (pages_member q.memory) q.memory pages_read _ rest
      ∙ goes_on fds_in _ (fds_member q.descriptors) q.descriptors fds_read _ rest
      ∙ ends_with signals_in _ (signals_members q) own_signals signals_read rest

-- ---- how a process ended

killed_read : (status : ℕ) (rest : List Token) → status < 2 ^ 16 → nat_lt status 256 ≡ false → status_in (count_member (codes "killed") (status - 256) ++ rest) ≡ Some (Some status, rest)
unfolding status_in count_at count_in count_member
killed_read status rest small other =
    let above : 256 ≤ status = ltb-false status 256 other in
    rw (count_read (status - 256) (omega (arith, small))) (ap (λ (n : ℕ). Some (Some n, rest)) (let again : status - 256 + 256 ≡ status = omega (arith, above) in again))

exit_read : (status : ℕ) (rest : List Token) → status < 2 ^ 16 → status_in (count_member (codes "exit") status ++ rest) ≡ Some (Some status, rest)
unfolding status_in count_at count_in count_member
exit_read status rest small = rw (count_read status (omega (arith, small))) refl

status_read : (status : Option ℕ) (rest : List Token) → IsStatus status → count_in (codes "exit") rest ≡ None → count_in (codes "killed") rest ≡ None → status_in (end_members status ++ rest) ≡ Some (status, rest)
unfolding status_in
status_read None rest small exit killed = ap (λ read. status_by read (count_in (codes "killed") rest) rest) exit ∙ ap (λ read. status_by None read rest) killed
status_read (Some status) rest small exit killed = by (nat_lt status 256) refl
  where
    by : (is : Bool) → nat_lt status 256 ≡ is → status_in (cond is (count_member (codes "exit") status) (count_member (codes "killed") (status - 256)) ++ rest) ≡ Some (Some status, rest)
    by true is = exit_read status rest small
    by false is = killed_read status rest small is

no_end_member : (q : Process) (rest : List Token) → (count_in (codes "exit") ((own_members q ++ end_object) ++ rest) ≡ None) × (count_in (codes "killed") ((own_members q ++ end_object) ++ rest) ≡ None)
unfolding count_in count_member
no_end_member q rest = (refl, refl)

-- ---- a process

pub record IsKernelProcess (one : ℕ × Process) : Type 0 where
  pub number : one.0 < 2 ^ 64
  pub parent : one.1.parent < 2 ^ 64
  pub sizes : HasSizes one.1
  pub limits : HasLimits one.1
  pub types : HasTypes one.1

process_read : (one : ℕ × Process) (rest : List Token) → IsKernelProcess one → object_by process_members (process_item one.0 (Some one.1) ++ rest) ≡ Some (one, rest)
unfolding process_members
process_read one rest good =
    let q = one.1 in
    let none = no_end_member q rest in
    object_read process_members _ rest one
    (goes_on (count_in (codes "pid")) _ (count_member (codes "pid") one.0) one.0 (λ r. count_in_read (codes "pid") one.0 r good.number) _ rest
    ∙ goes_on (count_in (codes "parent")) _ (count_member (codes "parent") q.parent) q.parent (λ r. count_in_read (codes "parent") q.parent r good.parent) _ rest
    ∙ goes_on_there status_in _ (end_members q.status) q.status _ rest (status_read q.status _ good.types.status none.0 none.1)
    ∙ goes_on (own_in q.parent q.status) _ (own_members q) q (own_read q good.sizes good.limits good.types) _ rest)

pub process_is_item : IsItem (object_by process_members) (λ one. process_item one.0 (Some one.1)) IsKernelProcess
unfolding begin_object
process_is_item = record {
  reads = process_read;
  begins = λ one rest good. refl;
  some = λ one good. omega arith;
}
