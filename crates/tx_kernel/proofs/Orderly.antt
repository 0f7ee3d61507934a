-- What the plans of calls use of a well-formed state.
use Rattle.std.proofs.Common.{◌≡◌, ◌<◌, ◌≤◌, ◌^◌, ◌-◌, ℕ, Bool, true, false, ◌==◌, ◌||◌, nat_lt, List, [], ◌∷◌, length, Option, Some, None, IsSome, is_some, bit_and, refl, sym, subst, arith, eqb-true}
use Rattle.std.proofs.lemmas.Bool.{ltb-false, ltb-true, ne_eqb}
use Rattle.std.proofs.lemmas.Nat.{and_le_r}
use Rattle.std.proofs.lemmas.Nat.Bits.{bit_at-lt, bit_at_and, bit_at_ones, bit_at_ones_above, same_from_bits}
use Rattle.std.specs.Int.{bit_at}
use Rattle.std.specs.List.{All}
use Rattle.tx_base.specs.Signals.{bits_of}
use Rattle.tx_base.specs.declared.signals.Action.{Action}
use Rattle.tx_base.specs.declared.signals.Action.TheVariants.{Usual, Ignore, Catch}
use Rattle.tx_laws.specs.WellFormed.{HasActionLimits, IsMask, IsWellFormed}
use Rattle.tx_model.specs.SignalSets.{is_known, is_one_of, is_realtime, realtime_signals, standard_signals}
use Rattle.tx_model.specs.State.{has_parent, Description, Process, Queued, State}

-- process 1 runs, has no parent, and nothing is ever pending at it
pub record IsCalm (q : Process) : Type 0 where
  pub parent : q.parent ≡ 0
  pub runs : q.status ≡ None
  pub pending : q.pending ≡ 0
  pub queued : q.queued ≡ []

abbrev pub HasCalm : Option Process → Type 0
HasCalm None = ⊥
HasCalm (Some q) = IsCalm q

-- a set of signals of numbers 0 to 39
abbrev pub IsLow : ℕ → Type 0
IsLow set = set < 2 ^ 40

-- an action blocks such signals
abbrev pub BlocksLow : Action → Type 0
BlocksLow Usual = Unit {0}
BlocksLow Ignore = Unit {0}
BlocksLow (Catch point mask) = IsLow (bits_of mask)

-- what the process blocks, now or after a caught signal or the return from one, are such signals
pub record HasLowMasks (q : Process) : Type 0 where
  pub mask : IsLow q.mask
  pub actions : All BlocksLow q.actions
  pub frames : All (λ frame. IsLow frame.mask) q.frames

abbrev pub HasMasks : Option Process → Type 0
HasMasks None = Unit {0}
HasMasks (Some q) = HasLowMasks q

-- the pipe of the description is there, if this is one
abbrev pub HasItsPipe : State → Option Description → Type 0
HasItsPipe S None = Unit {0}
HasItsPipe S (Some d) = IsSome (S.pipes d.pipe)

-- process 1 is there, no process is its own parent or blocks what is no signal, and each description has its pipe
pub record IsOrderly (S : State) : Type 0 where
  pub first : HasCalm (S.procs 1)
  pub parents : (n : ℕ) → has_parent n (S.procs n) ≡ false
  pub masks : (n : ℕ) → HasMasks (S.procs n)
  pub piped : (d : ℕ) → HasItsPipe S (S.descs d)

abbrev AreLow : List ℕ → Type 0
AreLow [] = Unit {0}
AreLow (m ∷ ms) = (m < 40) × AreLow ms

one_of_low : (ms : List ℕ) (n : ℕ) → AreLow ms → is_one_of ms n ≡ true → n < 40
one_of_low [] n low e = cc
one_of_low (m ∷ ms) n low e = by (m == n) refl (one_of_low ms n low.1) e
  where
    by : (b : Bool) → (m == n) ≡ b → (is_one_of ms n ≡ true → n < 40) → (b || is_one_of ms n) ≡ true → n < 40
    by true same rest e = subst (λ (k : ℕ). k < 40) (eqb-true m n same) low.0
    by false other rest e = rest e

-- a known signal has a number below 40
known_low : (n : ℕ) → is_known n ≡ true → n < 40
known_low n e = by (is_one_of standard_signals n) refl e
  where
    standard : AreLow standard_signals
    standard = (omega arith, (omega arith, (omega arith, (omega arith, (omega arith, (omega arith, (omega arith, (omega arith, (omega arith, (omega arith, (omega arith, tt)))))))))))

    realtime : AreLow realtime_signals
    realtime = (omega arith, (omega arith, (omega arith, (omega arith, (omega arith, (omega arith, (omega arith, (omega arith, tt))))))))

    by : (b : Bool) → is_one_of standard_signals n ≡ b → (b || is_realtime n) ≡ true → n < 40
    by true one e = one_of_low standard_signals n standard one
    by false none e = one_of_low realtime_signals n realtime e

-- so a mask lies below 2 ^ 40
mask_low : (set : ℕ) → IsMask set → set < 2 ^ 40
mask_low set is =
    let same : set ≡ bit_and set (2 ^ 40 - 1) = same_from_bits set (bit_and set (2 ^ 40 - 1)) (λ i. by i (nat_lt i 40) refl) in
    omega (arith, same, and_le_r set (2 ^ 40 - 1))
  where
    off : (i : ℕ) → 40 ≤ i → bit_at set i ≡ 0
    off i high = at (bit_at set i == 1) refl
      where
        at : (b : Bool) → (bit_at set i == 1) ≡ b → bit_at set i ≡ 0
        at true on = let low = known_low i (is.known i on) in omega (arith, low, high)
        at false off = let other = λ (e : bit_at set i ≡ 1). subst (λ (k : ℕ). (k == 1) ≡ false → ⊥) (sym e) (λ z. cc) off in
            omega (arith, bit_at-lt set i, other)

    by : (i : ℕ) (b : Bool) → nat_lt i 40 ≡ b → bit_at set i ≡ bit_at (bit_and set (2 ^ 40 - 1)) i
    by i true low = omega (arith, bit_at_and set (2 ^ 40 - 1) i, bit_at_ones 40 i (ltb-true i 40 low), bit_at-lt set i)
    by i false high = omega (arith, bit_at_and set (2 ^ 40 - 1) i, bit_at_ones_above 40 i (ltb-false i 40 high), off i (ltb-false i 40 high))

action_low : (action : Action) → HasActionLimits action → BlocksLow action
action_low Usual limits = tt
action_low Ignore limits = tt
action_low (Catch point mask) limits = mask_low _ limits.mask

no_entries : (entries : List Queued) → length entries ≡ 0 → entries ≡ []
no_entries [] none = refl
no_entries (entry ∷ entries) none = cc

there_is : (pipe : Option (List ℕ)) → is_some pipe ≡ true → IsSome pipe
there_is None e = cc
there_is (Some bytes) e = refl

pub formed_orderly : (S : State) → IsWellFormed S → IsOrderly S
formed_orderly S formed =
    let first = formed.first in
    record {
      first = subst HasCalm (sym first.1) (record { parent = first.2.parent; runs = first.2.runs; pending = first.2.pending; queued = no_entries first.0.queued first.2.queued });
      parents = λ n. other n (S.procs n) refl;
      masks = λ n. masked n (S.procs n) refl;
      piped = λ d. piped d (S.descs d) refl;
    }
  where
    other : (n : ℕ) (x : Option Process) → S.procs n ≡ x → has_parent n x ≡ false
    other n None there = refl
    other n (Some q) there = ne_eqb q.parent n (formed.placed n q there).other

    masked : (n : ℕ) (x : Option Process) → S.procs n ≡ x → HasMasks x
    masked n None there = tt
    masked n (Some q) there =
        let limits = formed.limits n q there in
        record {
          mask = mask_low q.mask limits.mask;
          actions = λ k d few. action_low _ (limits.actions k d few);
          frames = λ k d few. mask_low _ (limits.frames k d few).mask;
        }

    piped : (d : ℕ) (x : Option Description) → S.descs d ≡ x → HasItsPipe S x
    piped d None there = tt
    piped d (Some x) there = there_is (S.pipes x.pipe) (formed.named d x there).2
