-- The calls that concern their own process alone keep the limits of what it has.
use Rattle.std.proofs.Common.{◌≡◌, ◌≢◌, ℕ, zero, suc, ◌+◌, ◌-◌, ◌<◌, ◌≤◌, Bool, true, false, ◌||◌, ◌^◌, ◌/◌, ◌%◌, List, [], ◌∷◌, length, ℤ, pos, negsuc, Option, Some, None, if◌then◌else◌, nat_lt, ◌==◌, slice_get, refl, sym, ◌∙◌, subst, eq-eqb, arith}
use Rattle.std.specs.Prelude.{All}
use Rattle.std.proofs.lemmas.Bool.{both_ways, ltb-true, ltb-false}
use Rattle.std.proofs.lemmas.List.{length-set, get_or-set_other}
use Rattle.std.proofs.lemmas.List.Elements.{All-cons, All-head, All-tail, All-set, All-take}
use Rattle.tx_base.specs.Signals.{bits_of}
use Rattle.tx_base.specs.declared.signals.Action.{Action}
use Rattle.tx_base.specs.declared.signals.Action.TheVariants.{Usual, Ignore, Catch}
use Rattle.tx_base.specs.declared.limits.TheConstants.{PAGE_BYTES, LAST_ID, LAST_POINT}
use Rattle.tx_model.specs.Numbers.{below}
use Rattle.tx_model.specs.Memory.{Memory, PageView, page_at, with_byte, put_byte, put_bytes, stored_memory}
use Rattle.tx_model.specs.State.{Ids, Process, Frame, Queued}
use Rattle.tx_model.specs.Effects.{next_point, with_answer}
use Rattle.tx_model.specs.Book.{id_of}
use Rattle.tx_model.specs.Words.{with_user, with_group, with_all_users, with_all_groups, is_ignored}
use Rattle.tx_model.specs.SignalSets.{kill_signo, maskable}
use Rattle.tx_model.specs.Signals.{is_bad_action, with_action, maskable_action, without_signal, queued_others, newest_frame, with_frame}
use Rattle.tx_laws.specs.WellFormed.{IsWholePage, HasIdLimits, HasFrameLimits, HasActionLimits, IsRealtimeEntry, HasLimits}
use Rattle.tx_laws.proofs.WithinSets.{in_less, maskable_mask}

-- the limits are kept
abbrev pub KeepsLimits : Process → Process → Type 0
KeepsLimits me new = HasLimits me → HasLimits new

-- the next point is one
pub next_within : (point : ℕ) → point ≤ LAST_POINT → next_point point ≤ LAST_POINT
next_within point h = by (nat_lt point LAST_POINT) refl
  where
    by : (b : Bool) → nat_lt point LAST_POINT ≡ b → (if b then point + 1 else point) ≤ LAST_POINT
    by true e = let less : point < LAST_POINT = ltb-true point LAST_POINT e in omega arith
    by false e = h

-- the process with an answer
pub noted_limits : (r : ℤ) (me : Process) → KeepsLimits me (with_answer r me)
noted_limits r me h = record {
  point = next_within me.registers.point h.point;
  pages = h.pages;
  ids = h.ids;
  mask = h.mask;
  actions = h.actions;
  kill = h.kill;
  pending = h.pending;
  queued = h.queued;
  frames = h.frames;
}

-- other ids
pub below_limit : (limit n : ℕ) (v : ℤ) → below limit v ≡ Some n → n < limit
below_limit limit n (pos m) h = by (nat_lt m limit) refl h
  where
    by : (b : Bool) → nat_lt m limit ≡ b → (if b then Some m else None) ≡ Some n → n < limit
    by true e k = let same : m ≡ n = cc in subst (λ (i : ℕ). i < limit) same (ltb-true m limit e)
    by false e k = cc
below_limit limit n (negsuc m) h = cc

pub id_limit : (v : ℤ) (n : ℕ) → id_of v ≡ Some n → n ≤ LAST_ID
id_limit v n h = let small : n < 65536 = below_limit 65536 n v h in omega arith

pub one_user : (u : ℕ) (ids : Ids) → u ≤ LAST_ID → HasIdLimits ids → HasIdLimits (with_user u ids)
one_user u ids k h = record {
  real_user = h.real_user;
  effective_user = k;
  saved_user = h.saved_user;
  real_group = h.real_group;
  effective_group = h.effective_group;
  saved_group = h.saved_group;
}

pub one_group : (g : ℕ) (ids : Ids) → g ≤ LAST_ID → HasIdLimits ids → HasIdLimits (with_group g ids)
one_group g ids k h = record {
  real_user = h.real_user;
  effective_user = h.effective_user;
  saved_user = h.saved_user;
  real_group = h.real_group;
  effective_group = k;
  saved_group = h.saved_group;
}

pub all_users : (u : ℕ) (ids : Ids) → u ≤ LAST_ID → HasIdLimits ids → HasIdLimits (with_all_users u ids)
all_users u ids k h = record {
  real_user = k;
  effective_user = k;
  saved_user = k;
  real_group = h.real_group;
  effective_group = h.effective_group;
  saved_group = h.saved_group;
}

pub all_groups : (g : ℕ) (ids : Ids) → g ≤ LAST_ID → HasIdLimits ids → HasIdLimits (with_all_groups g ids)
all_groups g ids k h = record {
  real_user = h.real_user;
  effective_user = h.effective_user;
  saved_user = h.saved_user;
  real_group = k;
  effective_group = k;
  saved_group = k;
}

pub identified_limits : (me : Process) (ids : Ids) → (HasIdLimits me.ids → HasIdLimits ids) → KeepsLimits me (record me { ids = ids })
identified_limits me ids k h = record {
  point = h.point;
  pages = h.pages;
  ids = k h.ids;
  mask = h.mask;
  actions = h.actions;
  kill = h.kill;
  pending = h.pending;
  queued = h.queued;
  frames = h.frames;
}

-- the same process with other registers
pub registered : (me : Process) (point : ℕ) (ret : ℤ) (slots : List ℤ) → point ≤ LAST_POINT
    → KeepsLimits me (record me { registers = record { point = point; ret = ret; slots = slots } })
registered me point ret slots small h = record {
  point = small;
  pages = h.pages;
  ids = h.ids;
  mask = h.mask;
  actions = h.actions;
  kill = h.kill;
  pending = h.pending;
  queued = h.queued;
  frames = h.frames;
}

pub slotted : (me : Process) (slots : List ℤ) → KeepsLimits me (record me { registers = record { point = me.registers.point; ret = me.registers.ret; slots = slots } })
slotted me slots h = registered me me.registers.point me.registers.ret slots h.point h

pub not_over : (point : ℕ) → nat_lt LAST_POINT point ≡ false → point ≤ LAST_POINT
not_over point e = ltb-false LAST_POINT point e

-- signals
pub discarded_limits : (signo : ℕ) (me : Process) → KeepsLimits me (without_signal signo me)
discarded_limits signo me h = record {
  point = h.point;
  pages = h.pages;
  ids = h.ids;
  mask = h.mask;
  actions = h.actions;
  kill = h.kill;
  pending = λ n k. h.pending n (in_less me.pending (2 ^ signo) n k).0;
  queued = others me.queued h.queued;
  frames = h.frames;
}
  where
    others : (entries : List Queued) → All IsRealtimeEntry entries → All IsRealtimeEntry (queued_others signo entries)
    others [] k = k
    others (entry ∷ entries) k = by (entry.signo == signo) (others entries (All-tail IsRealtimeEntry entry entries k))
      where
        by : (b : Bool) → All IsRealtimeEntry (queued_others signo entries) → All IsRealtimeEntry (if b then queued_others signo entries else entry ∷ queued_others signo entries)
        by true l = l
        by false l = All-cons IsRealtimeEntry entry (queued_others signo entries) (All-head IsRealtimeEntry entry entries k) l

kept_limits : (action : Action) → is_bad_action action ≡ false → HasActionLimits (maskable_action action)
kept_limits Usual e = tt
kept_limits Ignore e = tt
kept_limits (Catch point mask) e = record { point = not_over point e; mask = maskable_mask (bits_of mask) }

action_limits : (signo : ℕ) (action : Action) (me : Process) → signo ≢ kill_signo → is_bad_action action ≡ false → KeepsLimits me (with_action signo action me)
action_limits signo action me other good h = record {
  point = h.point;
  pages = h.pages;
  ids = h.ids;
  mask = h.mask;
  actions = All-set HasActionLimits me.actions signo (maskable_action action) (kept_limits action good) h.actions;
  kill = get_or-set_other me.actions signo kill_signo (maskable_action action) Usual (λ z. other (sym z)) ∙ h.kill;
  pending = h.pending;
  queued = h.queued;
  frames = h.frames;
}

neither : (a b : Bool) → (a || b) ≡ false → (a ≡ false) × (b ≡ false)
neither true b h = cc
neither false true h = cc
neither false false h = (refl, refl)

pub acted_limits : (signo : ℕ) (action : Action) (me : Process) → (signo == kill_signo || is_bad_action action) ≡ false
    → KeepsLimits me (with_action signo action (if is_ignored signo action then without_signal signo me else me))
acted_limits signo action me e = by (is_ignored signo action)
  where
    good : (signo ≡ kill_signo → ⊥) × (is_bad_action action ≡ false)
    good = let r = neither (signo == kill_signo) (is_bad_action action) e in (λ z. both_ways (signo == kill_signo) r.0 (eq-eqb signo kill_signo z), r.1)

    by : (b : Bool) → KeepsLimits me (with_action signo action (if b then without_signal signo me else me))
    by true h = action_limits signo action (without_signal signo me) good.0 good.1 (discarded_limits signo me h)
    by false h = action_limits signo action me good.0 good.1 h

pub masked_limits : (me : Process) (set : ℕ) → KeepsLimits me (record me { mask = maskable set })
masked_limits me set h = record {
  point = h.point;
  pages = h.pages;
  ids = h.ids;
  mask = maskable_mask set;
  actions = h.actions;
  kill = h.kill;
  pending = h.pending;
  queued = h.queued;
  frames = h.frames;
}

-- what was saved is within its limits
pub found_all : {X : Type 0} (P : X → Type 0) (xs : List X) (i : ℕ) (x : X) → slice_get xs i ≡ Some x → All P xs → P x
found_all {X} P [] i x e h = cc
found_all {X} P (y ∷ xs) zero x e h = let same : y ≡ x = cc in subst P same (All-head P y xs h)
found_all {X} P (y ∷ xs) (suc i) x e h = found_all P xs i x e (All-tail P y xs h)

pub restored_limits : (frame : Frame) (me : Process) → newest_frame me.frames ≡ Some frame → KeepsLimits me (with_frame frame me)
restored_limits frame me e h =
    let saved : HasFrameLimits frame = found_all HasFrameLimits me.frames (length me.frames - 1) frame e h.frames in
    record {
      point = saved.point;
      pages = h.pages;
      ids = h.ids;
      mask = saved.mask;
      actions = h.actions;
      kill = h.kill;
      pending = h.pending;
      queued = h.queued;
      frames = All-take HasFrameLimits (length me.frames - 1) me.frames h.frames;
    }

-- memory
pub paged_limits : (me : Process) (memory : Memory) → (All IsWholePage me.memory → All IsWholePage memory) → KeepsLimits me (record me { memory = memory })
paged_limits me memory k h = record {
  point = h.point;
  pages = k h.pages;
  ids = h.ids;
  mask = h.mask;
  actions = h.actions;
  kill = h.kill;
  pending = h.pending;
  queued = h.queued;
  frames = h.frames;
}

pub whole_at : (memory : Memory) (n : ℕ) → All IsWholePage memory → IsWholePage (page_at memory n)
whole_at [] n h = tt
whole_at (x ∷ memory) zero h = All-head IsWholePage x memory h
whole_at (x ∷ memory) (suc n) h = whole_at memory n (All-tail IsWholePage x memory h)

byte_whole : (offset byte : ℕ) (page : Option PageView) → IsWholePage page → IsWholePage (with_byte offset byte page)
byte_whole offset byte None h = tt
byte_whole offset byte (Some page) h = length-set page.bytes offset byte ∙ h

put_whole : (memory : Memory) (address : ℕ) (bytes : List ℕ) → All IsWholePage memory → All IsWholePage (put_bytes memory address bytes)
put_whole memory address [] h = h
put_whole memory address (byte ∷ bytes) h =
    put_whole (put_byte memory address byte) (address + 1) bytes
    (All-set IsWholePage memory (address / PAGE_BYTES) _ (byte_whole (address % PAGE_BYTES) byte (page_at memory (address / PAGE_BYTES)) (whole_at memory (address / PAGE_BYTES) h)) h)

pub stored_whole : (memory : Memory) (address : Option ℕ) (bytes : List ℕ) → All IsWholePage memory → All IsWholePage (stored_memory memory address bytes)
stored_whole memory None bytes h = h
stored_whole memory (Some address) bytes h = put_whole memory address bytes h
