-- A new pipe with its two descriptions.
use Rattle.std.proofs.Common.{◌≡◌, ◌≢◌, ℕ, ◌<◌, true, false, List, [], ◌∷◌, length, pos, Option, Some, None, is_some, if◌then◌else◌, get_or, refl, sym, ap, ◌∙◌, inl, inr, arith, get_or-set_same, get_or-set_other, length-set}
use Rattle.std.proofs.Math.ListN.{set}
use Rattle.tx_base.specs.declared.names.PipeNo.{PipeNo}
use Rattle.tx_base.specs.declared.errors.Errno.TheVariants.{TooManyDescriptors}
use Rattle.tx_model.specs.Book as the
use Rattle.tx_model.specs.State.{Process, SetDesc, SetPipe, put_at, with_writes}
use Rattle.tx_model.specs.Effects.{Effect}
use Rattle.tx_model.specs.Words.{before_sends, with_two_slots}
use Rattle.tx_model.specs.Forms.{Caller, Rule, changes, fails, effect_of}
use Rattle.tx_model.specs.Descriptors.{first_free, lowest_free, is_pipe_in_use, with_descriptor}
use Rattle.tx_model.specs.StateLaws.{put_cases}
use Rattle.tx_desc.specs.declared.opened.Opened.{Opened}
use Rattle.tx_desc.specs.Places.{Descriptors, two_free}
use Rattle.tx_desc.specs.declared.opened.Side.TheVariants.{Read, Write}
use Rattle.tx_desc.specs.Descriptions.{HasDescs, description_at, described, first_named}
use Rattle.tx_desc.specs.Outcomes.{state_after, with_table}
use Rattle.tx_desc.proofs.Free.{two_none}

module _ (pipe : PipeNo) (r w : ℕ) (c : Caller) (table : Descriptors) (D : List (Option Opened)) (same : c.process.descriptors ≡ table)
    (has : HasDescs c.state D) (no_pipe : c.state.pipes pipe.0 ≡ None) (no_read : get_or D r None ≡ None) (no_write : get_or D w None ≡ None) where
  not_taken : is_pipe_in_use pipe.0 r w c.state ≡ false
  not_taken =
      let read : c.state.descs r ≡ None = has r ∙ ap described no_read in
      let write : c.state.descs w ≡ None = has w ∙ ap described no_write in
      λ i. if is_some (no_pipe i) then true else (if is_some (read i) then true else is_some (write i))

  first : (x : Option ℕ) → first_free 0 table ≡ x → lowest_free c.process ≡ x
  first x h = ap (first_free 0) same ∙ h

  next : (f : ℕ) (x : Option ℕ) → first_free 0 (set table f (Some r)) ≡ x → lowest_free (with_descriptor f (Some r) c.process) ≡ x
  next f x h = ap (λ (t : Descriptors). first_free 0 (set t f (Some r))) same ∙ h

  pub pipe_full : None ≡ two_free r table → the.pipe pipe.0 r w c ≡ fails TooManyDescriptors
  pipe_full h = elim (two_none r table h) [
    | inl none ↦ rw (not_taken, first None none) refl
    | inr one ↦ rw (not_taken, first (Some one.0) one.1, next one.0 None one.2) refl
  ]

  pub pipe_done : (f g : ℕ) (new : Descriptors) (after : List (Option Opened)) → first_free 0 table ≡ Some f → first_free 0 (set table f (Some r)) ≡ Some g →
      new ≡ set (set table f (Some r)) g (Some w) → get_or after r None ≡ Some (first_named pipe Read) → get_or after w None ≡ Some (first_named pipe Write) →
      the.pipe pipe.0 r w c
      ≡ changes (pos 0) (with_two_slots f g (with_table new c.process)) (SetPipe pipe.0 (Some []) ∷ SetDesc r (description_at after r) ∷ SetDesc w (description_at after w) ∷ [])
  pipe_done f g new after one two changed read write =
      let table_is : set (set c.process.descriptors f (Some r)) g (Some w) ≡ new = ap (λ (t : Descriptors). set (set t f (Some r)) g (Some w)) same ∙ sym changed in
      rw (not_taken, first (Some f) one, next f (Some g) two, read, write, table_is) refl

-- what the two numbers have

pub first_there : (r w : ℕ) (x y : Opened) (D mid after : List (Option Opened)) → r ≢ w → r < length D → mid ≡ set D r (Some x) → after ≡ set mid w (Some y) →
    get_or after r None ≡ Some x
first_there r w x y D mid after apart inside one two =
    ap (λ (l : List (Option Opened)). get_or l r None) two ∙ get_or-set_other mid w r (Some y) None apart
    ∙ ap (λ (l : List (Option Opened)). get_or l r None) one ∙ get_or-set_same D r (Some x) None inside

pub second_there : (w : ℕ) (y : Opened) (mid after : List (Option Opened)) → w < length mid → after ≡ set mid w (Some y) → get_or after w None ≡ Some y
second_there w y mid after inside two = ap (λ (l : List (Option Opened)). get_or l w None) two ∙ get_or-set_same mid w (Some y) None inside

pub still_free : (r w : ℕ) (x : Opened) (D mid : List (Option Opened)) → r ≢ w → mid ≡ set D r (Some x) → get_or D w None ≡ None → get_or mid w None ≡ None
still_free r w x D mid apart one free =
    let other : w ≢ r = λ z. apart (sym z) in
    ap (λ (l : List (Option Opened)). get_or l w None) one ∙ get_or-set_other D r w (Some x) None other ∙ free

pub still_inside : (r w : ℕ) (x : Opened) (D mid : List (Option Opened)) → mid ≡ set D r (Some x) → w < length D → w < length mid
still_inside r w x D mid one inside = let all = ap length one ∙ length-set D r (Some x) in omega arith

-- the state has the two descriptions, and the rest as it was
pub pipe_keeps : (rule : Rule) (c : Caller) (q r w : ℕ) (new : Process) (x y : Opened) (D mid after : List (Option Opened)) →
    rule c ≡ changes (pos 0) new (SetPipe q (Some []) ∷ SetDesc r (description_at after r) ∷ SetDesc w (description_at after w) ∷ []) →
    mid ≡ set D r (Some x) → after ≡ set mid w (Some y) → HasDescs c.state D → HasDescs (state_after rule c) after
unfolding with_writes
pipe_keeps rule c q r w new x y D mid after e one two has k =
    ap (λ (F : Effect). (before_sends F c.state).descs k) (ap (effect_of c.number c.process) e)
    ∙ elim (put_cases (put_at c.state.descs r (description_at after r)) w (description_at after w) k) [
      | inl z ↦ z.1 ∙ ap (description_at after) (sym z.0)
      | inr z ↦ z.1 ∙ elim (put_cases c.state.descs r (description_at after r) k) [
        | inl v ↦ v.1 ∙ ap (description_at after) (sym v.0)
        | inr v ↦ v.1 ∙ has k ∙ sym (ap described (ap (λ (l : List (Option Opened)). get_or l k None) two ∙ get_or-set_other mid w k (Some y) None z.0
            ∙ ap (λ (l : List (Option Opened)). get_or l k None) one ∙ get_or-set_other D r k (Some x) None v.0))
      ]
    ]
