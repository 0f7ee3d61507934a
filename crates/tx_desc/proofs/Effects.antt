-- What the calls come to, by what the code found.
use Rattle.std.proofs.Common.{◌≡◌, ◌≢◌, ℕ, Bool, false, List, [], ◌∷◌, length, ℤ, pos, Option, Some, None, Result, Ok, Err, IsErr, ◌==◌, get_or, refl, sym, ap, ◌∙◌, subst, eq-eqb, eqb-true}
use Rattle.std.proofs.lemmas.Bool.{false_from_ne_true}
use Rattle.std.proofs.Math.ListN.{set}
use Rattle.tx_base.specs.declared.errors.Errno.{Errno}
use Rattle.tx_base.specs.declared.errors.Errno.TheVariants.{BadDescriptor, TooManyDescriptors}
use Rattle.tx_model.specs.Book.{description_at, release, dup, dup2, close, set_nonblock}
use Rattle.tx_model.specs.State.{Process, SetDesc, with_writes}
use Rattle.tx_model.specs.Effects.{Effect}
use Rattle.tx_model.specs.Words.{answer_effect, before_sends}
use Rattle.tx_model.specs.Forms.{Caller, Outcome, Rule, answers, changes, fails, effect_of, ◌or◌}
use Rattle.tx_model.specs.Descriptors.{description_named, descriptor, first_free, lowest_free, option_list, pipes_of, description_removals, pipe_removals}
use Rattle.tx_desc.specs.declared.opened.Opened.{Opened}
use Rattle.tx_desc.specs.declared.plans.NewDesc.{NewDesc}
use Rattle.tx_desc.specs.Places.{Descriptors, named_in}
use Rattle.tx_desc.specs.Plans.{put_descs}
use Rattle.tx_desc.specs.Descriptions.{HasDescs, described, with_flag}
use Rattle.tx_desc.specs.Counts.{Agrees, HasRoom, others_of}
use Rattle.tx_desc.specs.Outcomes.{RunsWith, effect_in, state_after, with_table, described_again}
use Rattle.tx_desc.proofs.Counting.{room_there}
use Rattle.tx_desc.proofs.Gone.{Sheds}
use Rattle.tx_desc.proofs.Running.{running_gives}

named_is : (me : Process) (table : Descriptors) (x : Option ℕ) → me.descriptors ≡ table → description_named me x ≡ named_in table x
named_is me table None same = refl
named_is me table (Some f) same = ap (λ (t : Descriptors). get_or t f None) same

-- what was found

pub found_named : (me : Process) (table : Descriptors) (x : Option ℕ) (f d : ℕ) → me.descriptors ≡ table → x ≡ Some f → get_or table f None ≡ Some d → description_named me x ≡ Some d
found_named me table x f d same h is = named_is me table x same ∙ ap (named_in table) h ∙ is

pub none_named : (me : Process) (table : Descriptors) (x : Option ℕ) → me.descriptors ≡ table → named_in table x ≡ None → description_named me x ≡ None
none_named me table x same h = named_is me table x same ∙ h

pub found_room : (room : ℕ) (table : Descriptors) (D : List (Option Opened)) (x : Option ℕ) (f d : ℕ) → x ≡ Some f → get_or table f None ≡ Some d →
    HasRoom room (named_in table x) D → HasRoom room (Some d) D
found_room room table D x f d h is r = subst (λ (y : Option ℕ). HasRoom room y D) (ap (named_in table) h ∙ is) r

-- what a rule keeps

pub done_keeps : (rule : Rule) (c : Caller) (r : ℤ) (q : Process) (D : List (Option Opened)) → effect_in rule c ≡ answer_effect c.number r q →
    HasDescs c.state D → HasDescs (state_after rule c) D
unfolding with_writes
done_keeps rule c r q D e has d = ap (λ (F : Effect). (before_sends F c.state).descs d) e ∙ has d

-- an error puts nothing in place
pub error_keeps : {A : Type 0} (r : Result A Errno) (news : Result A Errno → List NewDesc) → IsErr r → ((e : Errno) → news (Err e) ≡ []) →
    (rule : Rule) (c : Caller) (errno : Errno) (D : List (Option Opened)) → rule c ≡ fails errno → HasDescs c.state D →
    HasDescs (state_after rule c) (put_descs (news r) D)
error_keeps (Ok x) news err none rule c errno D is has = let never : ⊥ = cc in absurd never
error_keeps (Err e) news err none rule c errno D is has =
    subst (λ (l : List NewDesc). HasDescs (state_after rule c) (put_descs l D)) (sym (none e))
    (done_keeps rule c _ c.process D (ap (effect_of c.number c.process) is) has)

pub gives_keeps : (rule : Rule) (c : Caller) (ds : List ℕ) (r : ℤ) (table new : Descriptors) (before after : List (Option Opened)) →
    effect_in rule c ≡ effect_in (release ds r (with_table new c.process)) c → RunsWith c.number c.process c.state table → length new ≡ 16 →
    HasDescs c.state before → Agrees (new ∷ others_of c.number c.state) after → Sheds ds before after → HasDescs (state_after rule c) after
gives_keeps rule c ds r table new before after e w full has a sheds =
    subst (λ (F : Effect). HasDescs (before_sends F c.state) after) (sym e) (running_gives ds r c table new before after w full has a sheds)

module _ (c : Caller) (table : Descriptors) (same : c.process.descriptors ≡ table) where
  as_table : with_table table c.process ≡ c.process
  as_table = sym (ap (λ (t : Descriptors). with_table t c.process) same)

  at_table : (f : ℕ) (x : Option ℕ) → get_or table f None ≡ x → description_named c.process (Some f) ≡ x
  at_table f x h = ap (λ (t : Descriptors). get_or t f None) same ∙ h

  -- a descriptor that is not open
  unnamed : (x : Option ℕ) (rest : ℕ → ℕ → Outcome) → named_in table x ≡ None →
      (x or fails BadDescriptor) (λ f. (description_named c.process (Some f) or fails BadDescriptor) (rest f)) ≡ fails BadDescriptor
  unnamed None rest none = refl
  unnamed (Some f) rest none = ap (λ (y : Option ℕ). (y or fails BadDescriptor) (rest f)) (at_table f None none)

  -- and one that is
  opened : (x : Option ℕ) (f d : ℕ) (rest : ℕ → ℕ → Outcome) → x ≡ Some f → get_or table f None ≡ Some d →
      (x or fails BadDescriptor) (λ f. (description_named c.process (Some f) or fails BadDescriptor) (rest f)) ≡ rest f d
  opened x f d rest h is =
      ap (λ (y : Option ℕ). (y or fails BadDescriptor) (λ f. (description_named c.process (Some f) or fails BadDescriptor) (rest f))) h
      ∙ ap (λ (y : Option ℕ). (y or fails BadDescriptor) (rest f)) (at_table f (Some d) is)

  -- dup

  pub dup_bad : (fd : ℤ) → description_at fd c ≡ None → dup fd c ≡ fails BadDescriptor
  dup_bad fd h = rw h refl

  free_of : lowest_free c.process ≡ first_free 0 table
  free_of = ap (first_free 0) same

  pub dup_full : (fd : ℤ) (d : ℕ) → description_at fd c ≡ Some d → None ≡ first_free 0 table → dup fd c ≡ fails TooManyDescriptors
  dup_full fd d h full = rw (h, free_of ∙ sym full) refl

  pub dup_done : (fd : ℤ) (d f : ℕ) (new : Descriptors) → description_at fd c ≡ Some d → Some f ≡ first_free 0 table → new ≡ set table f (Some d) →
      dup fd c ≡ changes (pos f) (with_table new c.process) []
  dup_done fd d f new h free changed =
      rw (h, free_of ∙ sym free) (ap (λ (t : Descriptors). changes (pos f) (with_table t c.process) []) (ap (λ (t : Descriptors). set t f (Some d)) same ∙ sym changed))

  -- close

  pub close_bad : (fd : ℤ) → named_in table (descriptor fd) ≡ None → close fd c ≡ fails BadDescriptor
  close_bad fd none = unnamed (descriptor fd) _ none

  pub close_done : (fd : ℤ) (f d : ℕ) (new : Descriptors) → descriptor fd ≡ Some f → get_or table f None ≡ Some d → new ≡ set table f None →
      close fd c ≡ release (d ∷ []) (pos 0) (with_table new c.process) c
  close_done fd f d new h is changed =
      opened (descriptor fd) f d _ h is
      ∙ ap (λ (t : Descriptors). release (d ∷ []) (pos 0) (with_table t c.process) c) (ap (λ (t : Descriptors). set t f None) same ∙ sym changed)

  -- dup2

  pub dup2_bad : (fd other : ℤ) → named_in table (descriptor fd) ≡ None → dup2 fd other c ≡ fails BadDescriptor
  dup2_bad fd other none = unnamed (descriptor fd) _ none

  pub dup2_other : (fd other : ℤ) (f d : ℕ) → descriptor fd ≡ Some f → get_or table f None ≡ Some d → None ≡ descriptor other →
      dup2 fd other c ≡ fails BadDescriptor
  dup2_other fd other f d h is none = opened (descriptor fd) f d _ h is ∙ rw (← none) refl

  gives_none : (r : ℤ) → answer_effect c.number r c.process ≡ effect_in (release [] r c.process) c
  unfolding description_removals pipe_removals pipes_of
  gives_none r = refl

  pub dup2_same : (fd other : ℤ) (f d g : ℕ) → descriptor fd ≡ Some f → get_or table f None ≡ Some d → Some g ≡ descriptor other → f ≡ g →
      effect_in (dup2 fd other) c ≡ effect_in (release [] (pos g) (with_table table c.process)) c
  dup2_same fd other f d g h is there z =
      let whole : dup2 fd other c ≡ answers (pos g) = opened (descriptor fd) f d _ h is ∙ rw (← there, eq-eqb f g z) refl in
      ap (effect_of c.number c.process) whole ∙ gives_none (pos g) ∙ ap (λ (q : Process). effect_in (release [] (pos g) q) c) (sym as_table)

  pub dup2_done : (fd other : ℤ) (f d g : ℕ) (new : Descriptors) (ds : List ℕ) → descriptor fd ≡ Some f → get_or table f None ≡ Some d →
      Some g ≡ descriptor other → f ≢ g → new ≡ set table g (Some d) → ds ≡ option_list (get_or table g None) →
      dup2 fd other c ≡ release ds (pos g) (with_table new c.process) c
  dup2_done fd other f d g new ds h is there apart changed names =
      let differ : (f == g) ≡ false = false_from_ne_true (f == g) (λ k. apart (eqb-true f g k)) in
      opened (descriptor fd) f d _ h is ∙ rw (← there, differ) refl
      ∙ ap (λ (t : Descriptors). release (option_list (get_or t g None)) (pos g) (with_table (set t g (Some d)) c.process) c) same
      ∙ (λ i. release (sym names i) (pos g) (with_table (sym changed i) c.process) c)

-- set_nonblock

pub nonblock_bad : (fd : ℤ) (on : Bool) (c : Caller) → description_at fd c ≡ None → set_nonblock fd on c ≡ fails BadDescriptor
nonblock_bad fd on c h = rw h refl

flags : (on : Bool) (c : Caller) (d : ℕ) (o : Option Opened) → o ≢ None →
    (described o or fails BadDescriptor) (λ x. changes (pos 0) c.process (SetDesc d (Some (record x { nonblock = on })) ∷ []))
    ≡ changes (pos 0) c.process (SetDesc d (described (with_flag on o)) ∷ [])
flags on c d None there = absurd (there refl)
flags on c d (Some o) there = refl

pub nonblock_done : (fd : ℤ) (on : Bool) (c : Caller) (d : ℕ) (D new : List (Option Opened)) → description_at fd c ≡ Some d →
    HasRoom 0 (Some d) D → get_or new d None ≡ with_flag on (get_or D d None) → HasDescs c.state D →
    set_nonblock fd on c ≡ changes (pos 0) c.process (described_again (description_at fd c) new)
nonblock_done fd on c d D new h b now has =
    rw (h, has d, now) (flags on c d (get_or D d None) (room_there d 0 D b))
