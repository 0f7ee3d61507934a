-- What a number has, and who reserved it, is what the view says.
use Rattle.std.proofs.Common.{◌≡◌, ℕ, zero, suc, ◌≤◌, Bool, true, false, not, ◌&&◌, length, Option, Some, None, Bor, if◌then◌else◌, is_some, is_none, List, slice_index_or, refl, sym, ap, ◌∙◌, subst, arith, eq-eqb, eqb-true, ltb-true, lt-ltb}
use Rattle.std.specs.Option.{option_copied}
use Rattle.tx_base.specs.Slots.{slot_at}
use Rattle.tx_change.specs.Exchange.{pipe_at}
use Rattle.tx_core.proofs.Reading.{state_read, width_read}
use Rattle.tx_core.specs.OwnerFacts.{reserved_read}
use Rattle.tx_core.specs.Owners.{other_owner}
use Rattle.tx_core.proofs.LeastNumbers.{least_none, least_only}
use Rattle.tx_core.specs.Laws.{MachineLaws}
use Rattle.tx_desc.specs.Descriptions.{described}
use Rattle.tx_desc.specs.declared.opened.Opened.{Opened}
use Rattle.tx_step.specs.Contents.{IsContent}
use Rattle.tx_content.specs.Content.{view_of}
use Rattle.tx_content.specs.declared.content.Content.{Content}
use Rattle.tx_model.specs.Membership.{is_live, is_member_of}
use Rattle.tx_model.specs.State.{State, is_between}
use Rattle.tx_model.specs.View.{present}
use Rattle.tx_proc.specs.Parts.{process_in}
use Rattle.tx_proc.specs.declared.proc.Proc.{Proc as TheProc}
use Rattle.tx_reserve.specs.Objects.{object_of}
use Rattle.tx_reserve.specs.Reservations.{owner_of}
use Rattle.tx_reserve.specs.declared.objects.Object.{Object as TheObject}

within : (limit n : ℕ) → is_between limit n ≡ true → n ≤ limit
within limit zero h = omega arith
within limit (suc n) h = let low = ltb-true n limit h in omega (arith, low)

pub between : (limit n : ℕ) → 1 ≤ n → n ≤ limit → is_between limit n ≡ true
between limit zero low high = absurd (omega (arith, low))
between limit (suc n) low high = lt-ltb n limit (omega (arith, high))

and_right : (a b : Bool) → (a && b) ≡ true → b ≡ true
and_right true b h = h
and_right false b h = cc

and_never : (a b c : Bool) → c ≡ false → (a && (b && c)) ≡ false
and_never true true c h = h
and_never true false c h = refl
and_never false b c h = refl

and_always : (a b c : Bool) → a ≡ true → c ≡ true → (a && (b && c)) ≡ b
and_always a true c h k = rw (h, k) refl
and_always a false c h k = rw h refl

module _ (k : Content) (is : IsContent k) (p : ℕ) (object : TheObject) where
  -- whether s is a live transaction of others that reserved the object
  abbrev reserves : ℕ → Bool
  reserves s = is_live (view_of k).table s && (not (is_member_of (view_of k).table s p) && (view_of k).reserved s (object_of object))

  -- what nobody owns is reserved by nobody
  pub nobody_reserves : None ≡ owner_of k.owners (object_of object) → None ≡ other_owner (view_of k) p (object_of object)
  nobody_reserves own = least_none reserves (view_of k).table.width (λ s below. and_never (is_live (view_of k).table s) (not (is_member_of (view_of k).table s p)) ((view_of k).reserved s (object_of object)) (reserved_read k s object None own))

  owner_reserved : (t : ℕ) → Some t ≡ owner_of k.owners (object_of object) → (view_of k).reserved t (object_of object) ≡ true
  owner_reserved t own = reserved_read k t object (Some t) own ∙ eq-eqb t t refl

  -- what a transaction owns is reserved from all but its members
  owner_reserves : (t : ℕ) (member : Bool) → Some t ≡ owner_of k.owners (object_of object) → member ≡ is_member_of (view_of k).table t p →
      (if not member then Some t else None) ≡ other_owner (view_of k) p (object_of object)
  unfolding view_of
  owner_reserves t member own same =
      let reserved : (view_of k).reserved t (object_of object) ≡ true = owner_reserved t own in
      let live : is_live (view_of k).table t ≡ true = is.kept.sound.owned_live t (object_of object) reserved in
      ap (λ (b : Bool). if b then Some t else None)
      (ap not same
      ∙ sym (and_always (is_live (view_of k).table t) (not (is_member_of (view_of k).table t p)) ((view_of k).reserved t (object_of object)) live reserved))
      ∙ sym (least_only reserves (view_of k).table.width t
      (λ s passes. sym (eqb-true t s (sym (reserved_read k s object (Some t) own) ∙ and_right (not (is_member_of (view_of k).table s p)) ((view_of k).reserved s (object_of object))
      (and_right (is_live (view_of k).table s) (not (is_member_of (view_of k).table s p) && (view_of k).reserved s (object_of object)) passes))))
      (within (view_of k).table.width t (is.kept.sound.bounded t t live)))

  pub member_owns : (t : ℕ) → Some t ≡ owner_of k.owners (object_of object) → true ≡ is_member_of (view_of k).table t p → None ≡ other_owner (view_of k) p (object_of object)
  member_owns t own is_member = owner_reserves t true own is_member

  pub other_owns : (t : ℕ) → Some t ≡ owner_of k.owners (object_of object) → false ≡ is_member_of (view_of k).table t p → Some t ≡ other_owner (view_of k) p (object_of object)
  other_owns t own no_member = owner_reserves t false own no_member

-- what was found at a number, by whether something was
none_found : {A : Type 0} (found : Option A) (vacant : Bool) → is_some found ≡ not vacant → vacant ≡ is_none found
none_found None true h = refl
none_found None false h = cc
none_found (Some x) true h = cc
none_found (Some x) false h = refl

none_copied : {A : Type 0} (found : Option (Bor A)) (slot : Option A) (vacant : Bool) → option_copied found ≡ slot → is_some found ≡ not vacant → vacant ≡ is_none slot
none_copied found slot vacant same h = none_found found vacant h ∙ by found ∙ ap is_none same
  where
    by : {A : Type 0} (x : Option (Bor A)) → is_none x ≡ is_none (option_copied x)
    by None = refl
    by (Some r) = refl

-- that a number has nothing, the tables say
pub no_process : (laws : MachineLaws) (k : Content) (n : ℕ) (found : Option (Bor TheProc)) (vacant : Bool) → option_copied found ≡ slot_at k.parts.procs n → is_some found ≡ not vacant →
    vacant ≡ is_none ((present (view_of k)).procs n)
no_process laws k n found vacant same h = none_copied found (slot_at k.parts.procs n) vacant same h ∙ by (slot_at k.parts.procs n) ∙ ap (λ (S : State). is_none (S.procs n)) (state_read laws k)
  where
    by : (slot : Option TheProc) → is_none slot ≡ is_none (process_in slot)
    by None = refl
    by (Some proc) = refl

pub no_pipe : (laws : MachineLaws) (k : Content) (n : ℕ) (found : Option (Bor (List ℕ))) (vacant : Bool) → option_copied found ≡ pipe_at k.parts.pipes n → is_some found ≡ not vacant →
    vacant ≡ is_none ((present (view_of k)).pipes n)
no_pipe laws k n found vacant same h = none_copied found (pipe_at k.parts.pipes n) vacant same h ∙ ap (λ (S : State). is_none (S.pipes n)) (state_read laws k)

pub no_description : (laws : MachineLaws) (k : Content) (n : ℕ) (found : Option Opened) (vacant : Bool) → found ≡ slice_index_or k.parts.descs n None → is_some found ≡ not vacant →
    vacant ≡ is_none ((present (view_of k)).descs n)
no_description laws k n found vacant same h =
    none_found found vacant h ∙ by found ∙ ap (λ (x : Option Opened). is_none (described x)) same ∙ ap (λ (S : State). is_none (S.descs n)) (state_read laws k)
  where
    by : (x : Option Opened) → is_none x ≡ is_none (described x)
    by None = refl
    by (Some opened) = refl

-- a process number that there is
pub number_there : (k : Content) → IsContent k → (n : ℕ) → 1 ≤ n → n ≤ length k.parts.procs → is_between (view_of k).table.width n ≡ true
number_there k is n low high = between (view_of k).table.width n low (subst (λ (w : ℕ). n ≤ w) (width_read k is) high)

-- whether a number is free, by whether it has nothing and by whether it is reserved
pub free_then : (vacant reserved none taken : Bool) → vacant ≡ none → vacant ≡ true → reserved ≡ taken → not reserved ≡ (none && not taken)
free_then vacant reserved none taken e h r = let z : none ≡ true = sym e ∙ h in rw z (ap not r)

pub free_else : (vacant none taken : Bool) → vacant ≡ none → vacant ≡ false → vacant ≡ (none && not taken)
free_else vacant none taken e h = let z : none ≡ false = sym e ∙ h in rw z h
