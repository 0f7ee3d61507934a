-- What holds of each line of a page holds of what the page comes to: for each page, with what is so
-- where its line decides.
use Rattle.std.proofs.Common.{◌≡◌, ℕ, ◌+◌, Bool, true, false, ◌&&◌, ◌||◌, not, List, [], ◌∷◌, ◌++◌, length, ℤ, pos, Option, Some, None, is_some, if◌then◌else◌, nat_lt, ◌==◌, min, take, drop, slice_set, refl, ap, ◌∙◌}
use Rattle.tx_base.specs.declared.errors.Errno.{Errno}
use Rattle.tx_base.specs.declared.errors.Errno.TheVariants.{NotPermitted, NoSuchProcess, BadDescriptor, NoChild, TryAgain, BadAddress, InvalidArgument, TooManyDescriptors}
use Rattle.tx_base.specs.declared.limits.TheConstants.{PIPE_BYTES, SLOTS, CONSOLE_BYTES, LAST_POINT, HELD_SENDS}
use Rattle.tx_base.specs.declared.signals.Action.{Action}
use Rattle.tx_base.specs.declared.signals.SigSet.{SigSet}
use Rattle.tx_base.specs.declared.steps.Refusal.{Refusal}
use Rattle.tx_base.specs.declared.steps.Refusal.TheVariants.{NumberTaken, Wait, NotDeliverable, Deferred, FramesFull, NoProcess, NotRunning}
use Rattle.tx_base.specs.declared.steps.Reply.TheVariants.{Done, Out}
use Rattle.tx_base.specs.declared.steps.When.{When}
use Rattle.tx_model.specs.Numbers.{below}
use Rattle.tx_model.specs.SignalSets.{kill_signo}
use Rattle.tx_model.specs.Memory.{PageView, page_at, zero_page, is_good, is_mapped, is_writable, stored_memory, loaded_byte, bytes_at, address_of}
use Rattle.tx_model.specs.State.{Process, State, Object, Proc, ReadSide, WriteSide, Description, Frame, SetProc, SetDesc, SetPipe, SetHeld}
use Rattle.tx_model.specs.Effects.{Inside, Effect, idle, with_answer}
use Rattle.tx_model.specs.Book.{id_of, is_privileged, is_own_user, is_own_group, has_writer, has_reader, bytes_in, is_read_side, is_write_side, broken_pipe, sendable, sending_from, member_sends, closed_inside, is_jump_taken, map, unmap, protect, store, load, fork, exit, waitpid, setuid, seteuid, setgid, setegid, pipe, dup, dup2, close, set_nonblock, description_at, release, end_at, is_empty, read, write, sigqueue, sigaction, sigreturn, console_write, jump, keep, with_memory, with_ids}
use Rattle.tx_model.specs.Words.{page_of, with_user, with_group, with_all_users, with_all_groups, last_ret, stands_at, with_register_slot, is_ignored, is_full, with_status, with_two_slots}
use Rattle.tx_model.specs.Signals.{known_signal, newest_frame, with_frame, is_bad_action, with_action, without_signal, Disposition, Ignored, Fatal, Caught, disposition}
use Rattle.tx_model.specs.Descriptors.{description_named, descriptor, lowest_free, with_descriptor, is_pipe_in_use, option_list}
use Rattle.tx_model.specs.Processes.{holder_of, child_of, ending, exit_status, pid_of}
use Rattle.tx_model.specs.Deliveries.{delivered_value, is_deferred, is_killing, ends_by, killed_status, at_catch_point, reaction, action_at, without_delivered, delivery}
use Rattle.tx_model.specs.Events.{effect_at, objects_at}
use Rattle.tx_model.specs.Forms.{Caller, caller, effect_of, Page, Outcome, fails, answers, changes, stands, posts, refuses, does, ◌or◌, ◌when◌}

module _ {R : Type 0} (P : R → Type 0) where
  -- what holds of both ways of a line holds of the line
  pub through_or : {A : Type 0} (o : Option A) (r : R) (rest : A → R) → P r
      → ((x : A) → o ≡ Some x → P (rest x)) → P ((o or r) rest)
  through_or None r rest none some = none
  through_or (Some x) r rest none some = some x refl

  pub through_when : (b : Bool) (r rest : R) → (b ≡ true → P r) → (b ≡ false → P rest)
      → P ((r when b) rest)
  through_when true r rest one two = one refl
  through_when false r rest one two = two refl

  pub through_unless : (b : Bool) (r rest : R) → (b ≡ false → P r) → (b ≡ true → P rest)
      → P ((r when not b) rest)
  through_unless true r rest one two = two refl
  through_unless false r rest one two = one refl

-- a process that runs makes a page as it says
module _ (inside : Option Inside) (p : ℕ) (page : Page) (S : State) where
  pub runs_as : (me : Process) → S.procs p ≡ Some me → me.status ≡ None
      → effect_at inside p page S ≡ effect_of p me (page.outcome (caller inside p me S))
  runs_as me there runs =
      ap
      (λ (x : Option Process).
      (x or idle NoProcess)
      (λ me.
      (idle NotRunning when is_some me.status)
      (effect_of p me (page.outcome (caller inside p me S))))) there
      ∙ ap
      (λ (status : Option ℕ).
      (idle NotRunning when is_some status)
      (effect_of p me (page.outcome (caller inside p me S)))) runs

  pub names_as : (me : Process) → S.procs p ≡ Some me
      → objects_at inside p page S ≡ Proc p ∷ page.names (caller inside p me S)
  names_as me there =
      ap (λ (x : Option Process). Proc p ∷ ((x or []) λ me. page.names (caller inside p me S)))
      there

  -- and one that does not run does nothing
  pub where_runs : (P : Effect → Type 0) → ((why : Refusal) → P (idle why))
      → ((me : Process) → S.procs p ≡ Some me → me.status ≡ None
      → P (effect_of p me (page.outcome (caller inside p me S))))
      → P (effect_at inside p page S)
  where_runs P idles runs =
      through_or P (S.procs p) _ _ (idles NoProcess)
      λ me there. by me there me.status refl
    where
      by : (me : Process) → S.procs p ≡ Some me → (status : Option ℕ) → me.status ≡ status
          → P
          ((idle NotRunning when is_some status)
          (effect_of p me (page.outcome (caller inside p me S))))
      by me there None e = runs me there e
      by me there (Some status) e = idles NotRunning

  pub where_there : (P : List Object → Type 0) → P (Proc p ∷ [])
      → ((me : Process) → S.procs p ≡ Some me → P (Proc p ∷ page.names (caller inside p me S)))
      → P (objects_at inside p page S)
  where_there P none some =
      through_or (λ (os : List Object). P (Proc p ∷ os)) (S.procs p) _ _ none some

-- a delivery, and whether it ends its process
module _ (P : Outcome → Type 0) (c : Caller) (signo : ℕ)
    (refused : (why : Refusal)
    → ends_by c.inside signo c.process (delivered_value signo c.process) ≡ false
    → P (refuses why)) where
  pub delivery_lines :
      ((value : ℤ) → delivered_value signo c.process ≡ Some value
      → ends_by c.inside signo c.process (delivered_value signo c.process) ≡ false
      → P (stands (without_delivered signo c.process) (Done c.process.registers.ret)))
      → ((value : ℤ) → delivered_value signo c.process ≡ Some value
      → ends_by c.inside signo c.process (delivered_value signo c.process) ≡ true
      → P
      (does
      (ending (killed_status signo)
      (record c { process = without_delivered signo c.process }))))
      → ((value : ℤ) (point : ℕ) (mask : SigSet) → delivered_value signo c.process ≡ Some value
      → ends_by c.inside signo c.process (delivered_value signo c.process) ≡ false
      → disposition signo (action_at signo c.process) ≡ Caught point mask
      → is_full c.process ≡ false
      → P
      (stands (at_catch_point signo value point mask (without_delivered signo c.process))
      (Done value)))
      → P (delivery signo c)
  delivery_lines ignored fatal catches = by (delivered_value signo c.process) refl
    where
      me : Process
      me = c.process

      what : Disposition
      what = disposition signo (action_at signo me)

      acts : (value : ℤ) → delivered_value signo me ≡ Some value → (d : Disposition) → what ≡ d
          → ends_by c.inside signo me (delivered_value signo me) ≡ is_killing d
          → P (reaction signo value d (record c { process = without_delivered signo me }))
      acts value e Ignored k ends = ignored value e ends
      acts value e Fatal k ends = fatal value e ends
      acts value e (Caught point mask) k ends =
          through_when P (is_full me) _ _ (λ z. refused FramesFull ends)
          (catches value point mask e ends k)

      by : (o : Option ℤ) → delivered_value signo me ≡ o
          → P ((o or refuses NotDeliverable)
          (λ value. (refuses Deferred when is_deferred c.inside signo)
          (reaction signo value what (record c { process = without_delivered signo me }))))
      by None e = refused NotDeliverable (ap (ends_by c.inside signo me) e)
      by (Some value) e =
          through_when P (is_deferred c.inside signo) _ _
          (λ d.
          refused Deferred
          (ap (ends_by c.inside signo me) e
          ∙ ap (λ (b : Bool). if b then false else is_killing what) d))
          (λ d.
          acts value e what refl
          (ap (ends_by c.inside signo me) e
          ∙ ap (λ (b : Bool). if b then false else is_killing what) d))

module _ (P : Outcome → Type 0) (c : Caller) (error : (e : Errno) → P (fails e)) where
  pub map_lines : (n : ℤ)
      → ((k : ℕ) → page_of n ≡ Some k → is_mapped (page_at c.process.memory k) ≡ false
      → P (with_memory (slice_set c.process.memory k (Some zero_page)) c))
      → P (map n c)
  map_lines n mapped =
      through_or P (page_of n) _ _ (error InvalidArgument)
      λ k e.
      through_when P (is_mapped (page_at c.process.memory k)) _ _ (λ t. error InvalidArgument)
      (mapped k e)

  pub unmap_lines : (n : ℤ)
      → ((k : ℕ) → page_of n ≡ Some k → is_mapped (page_at c.process.memory k) ≡ true
      → P (with_memory (slice_set c.process.memory k None) c))
      → P (unmap n c)
  unmap_lines n unmapped =
      through_or P (page_of n) _ _ (error InvalidArgument)
      λ k e.
      through_unless P (is_mapped (page_at c.process.memory k)) _ _ (λ t. error InvalidArgument)
      (unmapped k e)

  pub protect_lines : (n : ℤ) (writable : Bool)
      → ((k : ℕ) (page : PageView) → page_of n ≡ Some k → page_at c.process.memory k ≡ Some page
      → P
      (with_memory (slice_set c.process.memory k (Some (record page { writable = writable })))
      c))
      → P (protect n writable c)
  protect_lines n writable flagged =
      through_or P (page_of n) _ _ (error InvalidArgument)
      λ k e.
      through_or P (page_at c.process.memory k) _ _ (error InvalidArgument) λ page at.
      flagged k page e at

  pub store_lines : (address : ℤ) (bytes : List ℕ)
      → (is_good is_writable c.process.memory address (length bytes) ≡ true
      → P (with_memory (stored_memory c.process.memory (address_of address) bytes) c))
      → P (store address bytes c)
  store_lines address bytes good =
      through_unless P (is_good is_writable c.process.memory address (length bytes)) _ _
      (λ t. error BadAddress) good

  pub load_lines : (address : ℤ)
      → ((byte : ℕ) → loaded_byte c.process.memory (address_of address) ≡ Some byte
      → P (answers (pos byte)))
      → P (load address c)
  load_lines address found =
      through_or P (loaded_byte c.process.memory (address_of address)) _ _ (error BadAddress) found

  pub fork_lines : (child : ℕ) → (is_some (c.state.procs child) ≡ true → P (refuses NumberTaken))
      → (is_some (c.state.procs child) ≡ false
      → P
      (changes (pos child) c.process
      (SetProc child (Some (child_of c.number c.process)) ∷ [])))
      → P (fork child c)
  fork_lines child taken free = through_when P (is_some (c.state.procs child)) _ _ taken free

  pub exit_lines : (status : ℤ)
      → ((c.number == 1) ≡ false → P (does (ending (exit_status status) c))) → P (exit status c)
  exit_lines status ends = through_when P (c.number == 1) _ _ (λ t. error NotPermitted) ends

  pub waitpid_lines : (t : ℤ) (nohang : Bool) → P (answers (pos 0)) → P (refuses Wait)
      → ((child status : ℕ) (q : Process) → pid_of c.state.width t ≡ Some child
      → c.state.procs child ≡ Some q → (q.parent == c.number) ≡ true → q.status ≡ Some status
      → P (changes (pos child) (with_status status c.process) (SetProc child None ∷ [])))
      → P (waitpid t nohang c)
  waitpid_lines t nohang runs waits ended =
      through_or P (pid_of c.state.width t) _ _ (error NoChild)
      λ child e. through_or P (c.state.procs child) _ _ (error NoChild)
      λ q there. through_unless P (q.parent == c.number) _ _ (λ z. error NoChild)
      λ mine.
      through_or P q.status _ _ (by nohang) λ status is. ended child status q e there mine is
    where
      by : (b : Bool) → P (if b then answers (pos 0) else refuses Wait)
      by true = runs
      by false = waits

  pub setuid_lines : (v : ℤ)
      → ((u : ℕ) → id_of v ≡ Some u → is_privileged c.process.ids ≡ true
      → P (with_ids (with_all_users u c.process.ids) c))
      → ((u : ℕ) → id_of v ≡ Some u → is_own_user u c.process.ids ≡ true
      → P (with_ids (with_user u c.process.ids) c))
      → P (setuid v c)
  setuid_lines v all one =
      through_or P (id_of v) _ _ (error InvalidArgument)
      λ u e. through_when P (is_privileged c.process.ids) _ _ (all u e)
      λ n. through_when P (is_own_user u c.process.ids) _ _ (one u e) (λ z. error NotPermitted)

  pub seteuid_lines : (v : ℤ)
      → ((u : ℕ) → id_of v ≡ Some u → P (with_ids (with_user u c.process.ids) c)) → P (seteuid v c)
  seteuid_lines v one =
      through_or P (id_of v) _ _ (error InvalidArgument)
      λ u e.
      through_when P (is_privileged c.process.ids || is_own_user u c.process.ids) _ _
      (λ z. one u e) (λ z. error NotPermitted)

  pub setgid_lines : (v : ℤ)
      → ((g : ℕ) → id_of v ≡ Some g → is_privileged c.process.ids ≡ true
      → P (with_ids (with_all_groups g c.process.ids) c))
      → ((g : ℕ) → id_of v ≡ Some g → is_own_group g c.process.ids ≡ true
      → P (with_ids (with_group g c.process.ids) c))
      → P (setgid v c)
  setgid_lines v all one =
      through_or P (id_of v) _ _ (error InvalidArgument)
      λ g e. through_when P (is_privileged c.process.ids) _ _ (all g e)
      λ n. through_when P (is_own_group g c.process.ids) _ _ (one g e) (λ z. error NotPermitted)

  pub setegid_lines : (v : ℤ)
      → ((g : ℕ) → id_of v ≡ Some g → P (with_ids (with_group g c.process.ids) c)) → P (setegid v c)
  setegid_lines v one =
      through_or P (id_of v) _ _ (error InvalidArgument)
      λ g e.
      through_when P (is_privileged c.process.ids || is_own_group g c.process.ids) _ _
      (λ z. one g e) (λ z. error NotPermitted)

  pub pipe_lines : (q r w : ℕ) → P (refuses NumberTaken)
      → ((f g : ℕ) → is_pipe_in_use q r w c.state ≡ false → lowest_free c.process ≡ Some f
      → lowest_free (with_descriptor f (Some r) c.process) ≡ Some g
      → P (changes (pos 0)
      (with_two_slots f g (with_descriptor g (Some w) (with_descriptor f (Some r) c.process)))
      (SetPipe q (Some [])
      ∷ SetDesc r (Some (record { pipe = q; side = ReadSide; nonblock = false }))
      ∷ SetDesc w (Some (record { pipe = q; side = WriteSide; nonblock = false })) ∷ [])))
      → P (pipe q r w c)
  pipe_lines q r w taken opened =
      through_when P (is_pipe_in_use q r w c.state) _ _ (λ z. taken)
      λ free. through_or P (lowest_free c.process) _ _ (error TooManyDescriptors)
      λ f one.
      through_or P (lowest_free (with_descriptor f (Some r) c.process)) _ _
      (error TooManyDescriptors) λ g two. opened f g free one two

  pub dup_lines : (f : ℤ)
      → ((d g : ℕ) → description_at f c ≡ Some d → lowest_free c.process ≡ Some g
      → P (changes (pos g) (with_descriptor g (Some d) c.process) []))
      → P (dup f c)
  dup_lines f given =
      through_or P (description_at f c) _ _ (error BadDescriptor)
      λ d e.
      through_or P (lowest_free c.process) _ _ (error TooManyDescriptors) λ g free.
      given d g e free

  pub dup2_lines : (a b : ℤ) → ((g : ℕ) → P (answers (pos g)))
      → ((f d g : ℕ) → descriptor a ≡ Some f → description_named c.process (Some f) ≡ Some d
      → descriptor b ≡ Some g → (f == g) ≡ false
      → P
      (release (option_list (description_named c.process (Some g))) (pos g)
      (with_descriptor g (Some d) c.process) c))
      → P (dup2 a b c)
  dup2_lines a b same renamed =
      through_or P (descriptor a) _ _ (error BadDescriptor)
      λ f first. through_or P (description_named c.process (Some f)) _ _ (error BadDescriptor)
      λ d e. through_or P (descriptor b) _ _ (error BadDescriptor)
      λ g second.
      through_when P (f == g) _ _ (λ z. same g) λ other. renamed f d g first e second other

  pub close_lines : (a : ℤ)
      → ((f d : ℕ) → descriptor a ≡ Some f → description_named c.process (Some f) ≡ Some d
      → P (release (d ∷ []) (pos 0) (with_descriptor f None c.process) c))
      → P (close a c)
  close_lines a closed =
      through_or P (descriptor a) _ _ (error BadDescriptor)
      λ f first.
      through_or P (description_named c.process (Some f)) _ _ (error BadDescriptor) λ d e.
      closed f d first e

  pub set_nonblock_lines : (f : ℤ) (on : Bool)
      → ((d : ℕ) (x : Description) → description_at f c ≡ Some d → c.state.descs d ≡ Some x
      → P (changes (pos 0) c.process (SetDesc d (Some (record x { nonblock = on })) ∷ [])))
      → P (set_nonblock f on c)
  set_nonblock_lines f on flagged =
      through_or P (description_at f c) _ _ (error BadDescriptor)
      λ d e. through_or P (c.state.descs d) _ _ (error BadDescriptor) λ x there. flagged d x e there

  pub read_lines : (f address v : ℤ) → P (answers (pos 0)) → P (refuses Wait)
      → ((end : Description) (n : ℕ) → end_at is_read_side f c ≡ Some end
      → below (PIPE_BYTES + 1) v ≡ Some n → is_good is_writable c.process.memory address n ≡ true
      → P (changes (pos (min n (length (bytes_in (c.state.pipes end.pipe)))))
      (record c.process {
        memory =
            stored_memory c.process.memory (address_of address)
            (take (min n (length (bytes_in (c.state.pipes end.pipe))))
            (bytes_in (c.state.pipes end.pipe)));
      })
      (SetPipe end.pipe
      (Some
      (drop (min n (length (bytes_in (c.state.pipes end.pipe))))
      (bytes_in (c.state.pipes end.pipe))))
      ∷ [])))
      → P (read f address v c)
  read_lines f address v nothing waits taken =
      through_or P (end_at is_read_side f c) _ _ (error BadDescriptor)
      λ end e. through_or P (below (PIPE_BYTES + 1) v) _ _ (error InvalidArgument)
      λ n small. through_when P (n == 0) _ _ (λ z. nothing)
      λ some.
      through_unless P (is_good is_writable c.process.memory address n) _ _
      (λ z. error BadAddress)
      λ good.
      through_when P
      (is_empty (bytes_in (c.state.pipes end.pipe)) && not (has_writer end.pipe c.state)) _ _
      (λ z. nothing)
      λ goes.
      through_when P (is_empty (bytes_in (c.state.pipes end.pipe)) && end.nonblock) _ _
      (λ z. error TryAgain)
      λ blocks.
      through_when P (is_empty (bytes_in (c.state.pipes end.pipe))) _ _ (λ z. waits) λ held.
      taken end n e small good

  pub write_lines : (f address v : ℤ) → P (answers (pos 0)) → P (refuses Wait)
      → P (does (broken_pipe c.number c.process))
      → ((end : Description) (n : ℕ) → end_at is_write_side f c ≡ Some end
      → below (PIPE_BYTES + 1) v ≡ Some n → is_good is_mapped c.process.memory address n ≡ true
      → nat_lt PIPE_BYTES (length (bytes_in (c.state.pipes end.pipe)) + n) ≡ false
      → P
      (changes (pos n) c.process
      (SetPipe end.pipe
      (Some
      (bytes_in (c.state.pipes end.pipe)
      ++ bytes_at c.process.memory (address_of address) n))
      ∷ [])))
      → P (write f address v c)
  write_lines f address v nothing waits broken put =
      through_or P (end_at is_write_side f c) _ _ (error BadDescriptor)
      λ end e. through_or P (below (PIPE_BYTES + 1) v) _ _ (error InvalidArgument)
      λ n small. through_when P (n == 0) _ _ (λ z. nothing)
      λ some.
      through_unless P (is_good is_mapped c.process.memory address n) _ _ (λ z. error BadAddress)
      λ good. through_unless P (has_reader end.pipe c.state) _ _ (λ z. broken)
      λ read.
      through_when P
      (nat_lt PIPE_BYTES (length (bytes_in (c.state.pipes end.pipe)) + n) && end.nonblock) _ _
      (λ z. error TryAgain)
      λ blocks.
      through_when P (nat_lt PIPE_BYTES (length (bytes_in (c.state.pipes end.pipe)) + n)) _ _
      (λ z. waits) λ room. put end n e small good room

  pub sigqueue_lines : (t s value : ℤ) → P (answers closed_inside)
      → ((signo target : ℕ) → sendable s ≡ Some signo → pid_of c.state.width t ≡ Some target
      → holder_of target c.inside ≡ None → P (posts (sending_from c.process target signo value)))
      → ((signo target : ℕ) (i : Inside) → sendable s ≡ Some signo
      → pid_of c.state.width t ≡ Some target → holder_of target c.inside ≡ Some i
      → (signo == 0) ≡ false
      → nat_lt (member_sends (c.state.held i.starter)) HELD_SENDS ≡ true
      → P
      (changes (pos 0) c.process
      (SetHeld i.starter
      (c.state.held i.starter ++ sending_from c.process target signo value ∷ [])
      ∷ [])))
      → P (sigqueue t s value c)
  sigqueue_lines t s value closed posted held =
      through_or P (sendable s) _ _ (error InvalidArgument)
      λ signo e. through_or P (pid_of c.state.width t) _ _ (error NoSuchProcess)
      λ target there. by signo target e there (holder_of target c.inside) refl
    where
      by : (signo target : ℕ) → sendable s ≡ Some signo → pid_of c.state.width t ≡ Some target
          → (o : Option Inside) → holder_of target c.inside ≡ o
          → P ((o or posts (sending_from c.process target signo value))
          (λ i. (answers closed_inside when signo == 0)
          ((fails TryAgain when not (nat_lt (member_sends (c.state.held i.starter)) HELD_SENDS))
          (changes (pos 0) c.process
          (SetHeld i.starter
          (c.state.held i.starter ++ sending_from c.process target signo value ∷ [])
          ∷ [])))))
      by signo target e there None out = posted signo target e there out
      by signo target e there (Some i) is =
          through_when P (signo == 0) _ _ (λ z. closed)
          λ some.
          through_unless P (nat_lt (member_sends (c.state.held i.starter)) HELD_SENDS) _ _
          (λ z. error TryAgain) λ room. held signo target i e there is some room

  pub sigaction_lines : (s : ℤ) (action : Action)
      → ((signo : ℕ) → known_signal s ≡ Some signo
      → (signo == kill_signo || is_bad_action action) ≡ false
      → P
      (changes (pos 0)
      (with_action signo action
      (if is_ignored signo action
      then without_signal signo c.process
      else c.process))
      []))
      → P (sigaction s action c)
  sigaction_lines s action acts =
      through_or P (known_signal s) _ _ (error InvalidArgument)
      λ signo e.
      through_when P (signo == kill_signo || is_bad_action action) _ _
      (λ z. error InvalidArgument) λ good. acts signo e good

  pub sigreturn_lines :
      ((frame : Frame) → newest_frame c.process.frames ≡ Some frame
      → P (stands (with_frame frame c.process) (Done frame.registers.ret)))
      → P (sigreturn c)
  sigreturn_lines back =
      through_or P (newest_frame c.process.frames) _ _ (error InvalidArgument) back

  pub console_write_lines : (address v : ℤ) → P (answers closed_inside)
      → ((n : ℕ) → below (CONSOLE_BYTES + 1) v ≡ Some n
      → is_good is_mapped c.process.memory address n ≡ true
      → P
      (stands (with_answer (pos n) c.process)
      (Out (record { items = bytes_at c.process.memory (address_of address) n }))))
      → P (console_write address v c)
  console_write_lines address v closed shown =
      through_when P (is_some c.inside) _ _ (λ z. closed)
      λ outside. through_or P (below (CONSOLE_BYTES + 1) v) _ _ (error InvalidArgument)
      λ n small.
      through_unless P (is_good is_mapped c.process.memory address n) _ _ (λ z. error BadAddress)
      λ good. shown n small good

  pub jump_lines : (point : ℕ) (if_so : When) → P (answers (last_ret c.process))
      → (nat_lt LAST_POINT point ≡ false
      → P (stands (stands_at point c.process) (Done (last_ret c.process))))
      → P (jump point if_so c)
  jump_lines point if_so goes jumps =
      through_when P (nat_lt LAST_POINT point) _ _ (λ z. error InvalidArgument)
      λ small.
      through_unless P (is_jump_taken if_so (last_ret c.process)) _ _ (λ z. goes) λ z. jumps small

  pub keep_lines : (slot : ℤ)
      → ((k : ℕ) → below SLOTS slot ≡ Some k
      → P (changes (last_ret c.process)
      (with_register_slot k (last_ret c.process) c.process) []))
      → P (keep slot c)
  keep_lines slot kept = through_or P (below SLOTS slot) _ _ (error InvalidArgument) kept
