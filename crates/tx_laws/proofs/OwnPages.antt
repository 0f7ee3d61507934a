-- The calls that concern their own process alone: what their pages leave of it.
use Rattle.std.proofs.Common.{◌≡◌, ◌<◌, ◌≤◌, ◌+◌, ℕ, Bool, true, false, [], ◌∷◌, length, ℤ, pos, Option, Some, None, if◌then◌else◌, nat_lt, slice_set, refl, subst, arith}
use Rattle.std.specs.Prelude.{All}
use Rattle.std.proofs.lemmas.List.{length-set}
use Rattle.std.proofs.lemmas.List.Elements.{All-set}
use Rattle.tx_base.specs.Signals.{bits_of}
use Rattle.tx_base.specs.declared.signals.Action.{Action}
use Rattle.tx_base.specs.declared.steps.Call.{Call}
use Rattle.tx_base.specs.declared.steps.Call.TheVariants as call
use Rattle.tx_model.specs.Memory.{Memory, PageView, address_of, bytes_at, zero_page}
use Rattle.tx_laws.proofs.KeepsFormTransfers.{taken_fewer}
use Rattle.tx_laws.proofs.Mild.{goes}
use Rattle.tx_laws.proofs.OfPages.{Owes, answers_owes, fails_owes, own_owes, stands_owe}
use Rattle.tx_base.specs.declared.limits.TheConstants.{CONSOLE_BYTES}
use Rattle.tx_model.specs.Numbers.{below}
use Rattle.std.proofs.lemmas.Bool.{lt-ltb}
use Rattle.tx_model.specs.Answer.{IsAccepted}
use Rattle.tx_model.specs.Book.{page_of_call}
use Rattle.tx_model.specs.Signals.{without_signal, changed_mask, with_action}
use Rattle.tx_model.specs.State.{Ids, Process, State}
use Rattle.tx_model.specs.Effects.{with_answer}
use Rattle.tx_model.specs.Words.{Own, answers_with, own_effect, last_ret, is_ignored}
use Rattle.tx_model.specs.Forms.{Caller, Outcome, fails, answers, changes, stands, posts, refuses, does, effect_of}
use Rattle.tx_laws.specs.OwnCalls.{IsOwnOutcome, OwnCallsStayOwn, concerns_itself_alone}
use Rattle.tx_laws.specs.WellFormed.{HasIdLimits, IsWholePage}
use Rattle.tx_laws.proofs.InPlace.{KeepsPlace, in_place}
use Rattle.tx_laws.proofs.KeepsFormOwn.{KeepsSizes, plain, sizes_trans, noted_sizes, discarded_sizes, action_sizes, restored_sizes, stored_paged}
use Rattle.tx_model.specs.BookLaws.{map_lines, unmap_lines, protect_lines, store_lines, load_lines, setuid_lines, seteuid_lines, setgid_lines, setegid_lines, sigaction_lines, sigreturn_lines, console_write_lines, jump_lines, keep_lines}
use Rattle.tx_laws.proofs.WithinOwn.{below_limit, KeepsLimits, noted_limits, id_limit, one_user, one_group, all_users, all_groups, identified_limits, registered, not_over, acted_limits, masked_limits, restored_limits, paged_limits, whole_at, stored_whole}

-- the process keeps its place among the others, its sizes and its limits
pub record KeepsOwn (me new : Process) : Type 0 where
  pub place : KeepsPlace me new
  pub sizes : KeepsSizes me new
  pub limits : KeepsLimits me new

-- the outcome answers a number at most, or the process keeps what is its own, and goes on
abbrev pub StaysOwn : Process → Outcome → Type 0
StaysOwn me (fails e) = Unit {0}
StaysOwn me (answers r) = Unit {0}
StaysOwn me (changes r q []) = KeepsOwn me q
StaysOwn me (stands q reply) = KeepsOwn me q × (goes reply ≡ true) × IsAccepted reply
StaysOwn me outcome = ⊥

-- what is shown fits its reply
shown_fits : (address v : ℤ) (n : ℕ) (me : Process) → below (CONSOLE_BYTES + 1) v ≡ Some n → nat_lt (length (bytes_at me.memory (address_of address) n)) (CONSOLE_BYTES + 1) ≡ true
shown_fits address v n me e =
    let small : n < 65 = below_limit (CONSOLE_BYTES + 1) n v e in
    let fewer : length (bytes_at me.memory (address_of address) n) ≤ n = taken_fewer me.memory (address_of address) n in
    let less : length (bytes_at me.memory (address_of address) n) < 65 = omega arith in
    lt-ltb (length (bytes_at me.memory (address_of address) n)) 65 less

own_keeps : (me new : Process) → KeepsPlace me new → KeepsSizes me new → KeepsLimits me new → KeepsOwn me new
own_keeps me new place sizes limits = record { place = place; sizes = sizes; limits = limits }

same_keeps : (me : Process) → KeepsOwn me me
same_keeps me = own_keeps me me (in_place me me refl refl refl) (plain me me refl refl refl refl refl refl refl) (λ h. h)

pub noted_keeps : (r : ℤ) (me q : Process) → KeepsOwn me q → KeepsOwn me (with_answer r q)
noted_keeps r me q k =
    own_keeps me (with_answer r q) (in_place me (with_answer r q) k.place.parent k.place.descriptors k.place.status) (noted_sizes r me q k.sizes) (λ h. noted_limits r q (k.limits h))

module _ (c : Caller) where
  abbrev me : Process
  me = c.process

  abbrev Owned : Outcome → Type 0
  Owned = StaysOwn me

  memory_keeps : (memory : Memory) → length memory ≡ length me.memory → (All IsWholePage me.memory → All IsWholePage memory) → KeepsOwn me (record me { memory = memory })
  memory_keeps memory same whole = own_keeps me _ (in_place me _ refl refl refl) (plain me _ refl refl refl refl same refl refl) (paged_limits me memory whole)

  page_keeps : (k : ℕ) (page : Option PageView) → (All IsWholePage me.memory → IsWholePage page) → KeepsOwn me (record me { memory = slice_set me.memory k page })
  page_keeps k page whole = memory_keeps _ (length-set me.memory k page) (λ h. All-set IsWholePage me.memory k page (whole h) h)

  ids_keeps : (ids : Ids) → (HasIdLimits me.ids → HasIdLimits ids) → KeepsOwn me (record me { ids = ids })
  ids_keeps ids k = own_keeps me _ (in_place me _ refl refl refl) (plain me _ refl refl refl refl refl refl refl) (identified_limits me ids k)

  acted_keeps : (signo : ℕ) (action : Action) (b : Bool) → KeepsSizes me (with_action signo action (if b then without_signal signo me else me))
  acted_keeps signo action true = sizes_trans me (without_signal signo me) _ (discarded_sizes signo me) (action_sizes signo action (without_signal signo me))
  acted_keeps signo action false = action_sizes signo action me

  acted_place : (signo : ℕ) (action : Action) (b : Bool) → KeepsPlace me (with_action signo action (if b then without_signal signo me else me))
  acted_place signo action true = in_place me _ refl refl refl
  acted_place signo action false = in_place me _ refl refl refl

  -- the page of such a call leaves what is the process's own
  pub own_page : (asked : Call) → concerns_itself_alone asked ≡ true → Owned ((page_of_call asked).outcome c)
  own_page (call.Map n) own = map_lines Owned c (λ e. tt) n λ k e free. page_keeps k (Some zero_page) (λ h. refl)
  own_page (call.Unmap n) own = unmap_lines Owned c (λ e. tt) n λ k e there. page_keeps k None (λ h. tt)
  own_page (call.Protect n writable) own =
      protect_lines Owned c (λ e. tt) n writable λ k page e there. page_keeps k _ (λ h. subst IsWholePage there (whole_at me.memory k h))
  own_page (call.Store address bytes) own =
      store_lines Owned c (λ e. tt) address bytes.items λ good.
      memory_keeps _ (stored_paged me.memory (address_of address) bytes.items) (stored_whole me.memory (address_of address) bytes.items)
  own_page (call.Load address) own = load_lines Owned c (λ e. tt) address λ byte e. tt
  own_page (call.Setuid v) own =
      setuid_lines Owned c (λ e. tt) v (λ u e any. ids_keeps _ (all_users u me.ids (id_limit v u e))) (λ u e one. ids_keeps _ (one_user u me.ids (id_limit v u e)))
  own_page (call.Seteuid v) own = seteuid_lines Owned c (λ e. tt) v λ u e. ids_keeps _ (one_user u me.ids (id_limit v u e))
  own_page (call.Setgid v) own =
      setgid_lines Owned c (λ e. tt) v (λ g e any. ids_keeps _ (all_groups g me.ids (id_limit v g e))) (λ g e one. ids_keeps _ (one_group g me.ids (id_limit v g e)))
  own_page (call.Setegid v) own = setegid_lines Owned c (λ e. tt) v λ g e. ids_keeps _ (one_group g me.ids (id_limit v g e))
  own_page (call.Sigaction s action) own =
      sigaction_lines Owned c (λ e. tt) s action λ signo e good.
      own_keeps me _ (acted_place signo action (is_ignored signo action)) (acted_keeps signo action (is_ignored signo action)) (acted_limits signo action me good)
  own_page (call.Sigprocmask how set) own =
      own_keeps me _ (in_place me _ refl refl refl) (plain me _ refl refl refl refl refl refl refl) (masked_limits me (changed_mask how (bits_of set) me.mask))
  own_page call.Sigreturn own =
      sigreturn_lines Owned c (λ e. tt) λ frame e. (own_keeps me _ (in_place me _ refl refl refl) (restored_sizes frame me e) (restored_limits frame me e), refl, tt)
  own_page (call.ConsoleWrite address v) own =
      console_write_lines Owned c (λ e. tt) address v tt λ n e good. (noted_keeps (pos n) me me (same_keeps me), shown_fits address v n me e, tt)
  own_page (call.Jump point if_so) own =
      jump_lines Owned c (λ e. tt) point if_so tt λ small.
      (own_keeps me _ (in_place me _ refl refl refl) (plain me _ refl refl refl refl refl refl refl) (registered me point (last_ret me) me.registers.slots (not_over point small)), refl, tt)
  own_page (call.Keep slot) own =
      keep_lines Owned c (λ e. tt) slot λ k e.
      own_keeps me _ (in_place me _ refl refl refl) (plain me _ refl refl refl (length-set me.registers.slots k (last_ret me)) refl refl refl)
      (λ h. registered me me.registers.point (last_ret me) (slice_set me.registers.slots k (last_ret me)) h.point h)
  own_page (call.Fork child) own = cc
  own_page (call.Exit status) own = cc
  own_page (call.Waitpid t nohang) own = cc
  own_page (call.Pipe q r w) own = cc
  own_page (call.Dup f) own = cc
  own_page (call.Dup2 f g) own = cc
  own_page (call.Close f) own = cc
  own_page (call.SetNonblock f on) own = cc
  own_page (call.Read f address n) own = cc
  own_page (call.Write f address n) own = cc
  own_page (call.Kill t signo) own = cc
  own_page (call.Sigqueue t signo value) own = cc
  -- each other page answers at most
  own_page asked own = tt

-- what such an outcome is as an effect: of its own process alone
pub own_of : (p : ℕ) (old : Process) (outcome : Outcome) → StaysOwn old outcome → (own : Own) × (effect_of p old outcome ≡ own_effect p own) × KeepsOwn old own.process × (goes own.reply ≡ true)
own_of p old (fails e) h = (answers_with _ old, refl, noted_keeps _ old old (same_keeps old), refl)
own_of p old (answers r) h = (answers_with r old, refl, noted_keeps r old old (same_keeps old), refl)
own_of p old (changes r q []) h = (answers_with r q, refl, noted_keeps r old q h, refl)
own_of p old (changes r q (w ∷ ws)) h = absurd h
own_of p old (stands q reply) h = (record { process = q; reply = reply }, refl, h.0, h.1)
own_of p old (posts m) h = absurd h
own_of p old (refuses why) h = absurd h
own_of p old (does f) h = absurd h

-- and what it owes
pub own_owed : (p : ℕ) (old : Process) (S : State) (outcome : Outcome) → StaysOwn old outcome → Owes p old S [] outcome
own_owed p old S (fails e) h = fails_owes p old S [] e
own_owed p old S (answers r) h = answers_owes p old S [] r
own_owed p old S (changes r q []) h = own_owes p old S [] r q h.place
own_owed p old S (changes r q (w ∷ ws)) h = absurd h
own_owed p old S (stands q reply) h = stands_owe p old S [] q reply h.0.place h.1
own_owed p old S (posts m) h = absurd h
own_owed p old S (refuses why) h = absurd h
own_owed p old S (does f) h = absurd h

-- the law, without what is kept
pub own_stays : OwnCallsStayOwn
own_stays c asked alone = by ((page_of_call asked).outcome c) (own_page c asked alone)
  where
    by : (outcome : Outcome) → StaysOwn c.process outcome → IsOwnOutcome outcome
    by (fails e) h = tt
    by (answers r) h = tt
    by (changes r q []) h = tt
    by (changes r q (w ∷ ws)) h = absurd h
    by (stands q reply) h = h.2
    by outcome h = absurd h
