-- What the calls make of the counts and of the descriptions, by what they put in place.
use Rattle.std.proofs.Common.{◌≡◌, ◌≢◌, ℕ, ◌+◌, ◌-◌, ◌<◌, Bool, List, length, pos, Option, Some, None, if◌then◌else◌, get_or, refl, sym, ap, ◌∙◌, subst, inl, inr, arith, get_or-set_same, length-set}
use Rattle.std.proofs.lemmas.Bool.{lt-ltb}
use Rattle.std.proofs.lemmas.List.{set-set, set-get_or}
use Rattle.std.proofs.Math.ListN.{set}
use Rattle.tx_model.specs.State.{with_writes}
use Rattle.tx_model.specs.Effects.{Effect}
use Rattle.tx_model.specs.Words.{before_sends}
use Rattle.tx_model.specs.Forms.{Caller, Rule, changes, effect_of}
use Rattle.tx_model.specs.Descriptors.{option_list}
use Rattle.tx_model.specs.StateLaws.{put_cases}
use Rattle.std.specs.Prelude.{option_map}
use Rattle.tx_base.specs.declared.names.DescNo.{DescNo}
use Rattle.tx_desc.specs.declared.opened.Opened.{Opened}
use Rattle.tx_desc.specs.Places.{Descriptors, number_in}
use Rattle.tx_desc.specs.Plans.{desc_fewer, given_fewer, listed_desc, put_descs}
use Rattle.tx_desc.specs.Descriptions.{HasDescs, IsGone, gone_between, description_at, described, changed_at, with_more, with_fewer, with_flag}
use Rattle.tx_desc.specs.Counts.{HasRoom, IsEnough, KeepsCounts}
use Rattle.tx_desc.specs.Outcomes.{described_again, state_after}
use Rattle.tx_desc.proofs.Counting.{hit_cases, moves_keeps, changed_other, room_inside}
use Rattle.tx_desc.proofs.Gone.{IsIn, Sheds, SameDescs, raise_same, lower_sheds}

-- descriptor f came to name y, where it named x
pub moved : (f : ℕ) (x y : Option ℕ) (t new : Descriptors) (D after : List (Option Opened)) → f < length t → HasRoom 1 y D →
    get_or t f None ≡ x → new ≡ set t f y → after ≡ changed_at (with_fewer 1) x (changed_at (with_more 1) y D) → KeepsCounts t new D after
moved f x y t new D after inside room is changed moves =
    let end : after ≡ changed_at (with_fewer 1) (get_or t f None) (changed_at (with_more 1) y D)
    = moves ∙ ap (λ (z : Option ℕ). changed_at (with_fewer 1) z (changed_at (with_more 1) y D)) (sym is) in
    subst (λ (l : List (Option Opened)). KeepsCounts t new D l) (sym end)
    (subst (λ (l : Descriptors). KeepsCounts t l D (changed_at (with_fewer 1) (get_or t f None) (changed_at (with_more 1) y D))) (sym changed)
    (moves_keeps f y t D inside room))

pub moved_sheds : (x y : Option ℕ) (D after : List (Option Opened)) → after ≡ changed_at (with_fewer 1) x (changed_at (with_more 1) y D) → Sheds (option_list x) D after
moved_sheds x y D after moves =
    subst (Sheds (option_list x) D) (sym moves)
    (lower_sheds (option_list x) x D (changed_at (with_more 1) y D) (λ e is. subst (λ (z : Option ℕ). IsIn e (option_list z)) (sym is) (inl refl)) (λ k. inl (raise_same y D k)))

-- one more and one fewer is nothing
more_fewer : (room : ℕ) (p : Option Opened) → IsEnough 1 room p → with_fewer 1 (with_more 1 p) ≡ p
more_fewer room None h = absurd (omega (arith, h))
more_fewer room (Some o) h =
    let some : 1 < o.names + 1 = omega (arith, h.0) in
    let same : o.names + 1 - 1 ≡ o.names = omega arith in
    ap (λ (b : Bool). if b then Some (record { desc = o.desc; names = o.names + 1 - 1 }) else None) (lt-ltb 1 (o.names + 1) some)
    ∙ ap (λ (n : ℕ). Some (record { desc = o.desc; names = n })) same

pub rename_same : (d : ℕ) (D : List (Option Opened)) → HasRoom 1 (Some d) D → D ≡ changed_at (with_fewer 1) (Some d) (changed_at (with_more 1) (Some d) D)
rename_same d D room =
    let raised = set D d (with_more 1 (get_or D d None)) in
    sym (ap (λ (p : Option Opened). set raised d (with_fewer 1 p)) (get_or-set_same D d (with_more 1 (get_or D d None)) None (room_inside d 1 D room))
    ∙ set-set D d (with_more 1 (get_or D d None)) (with_fewer 1 (with_more 1 (get_or D d None)))
    ∙ ap (set D d) (more_fewer 1 (get_or D d None) room) ∙ set-get_or D d None)

-- a name that was given up says what went, also where another description was changed before
left_gone : (d e : ℕ) (y : Option Opened) (D : List (Option Opened)) → HasRoom 0 (Some e) D →
    gone_between (get_or D e None) (with_fewer 1 (get_or D e None)) ≡ gone_between (get_or D e None) (get_or (set (set D d y) e (with_fewer 1 (get_or D e None))) e None)
left_gone d e y D room =
    let inside = room_inside e 0 D room in
    let all = length-set D d y in
    ap (gone_between (get_or D e None)) (sym (get_or-set_same (set D d y) e (with_fewer 1 (get_or D e None)) None (omega arith)))

pub rename_gone : (d : ℕ) (x : Option DescNo) (y : Option Opened) (D : List (Option Opened)) {z : Option ℕ} → number_in x ≡ z → HasRoom 0 z D →
    IsGone (option_map (given_fewer D) x) D (put_descs (listed_desc (option_map (desc_fewer D) x)) (set D d y))
rename_gone d None y D is room = tt
rename_gone d (Some e) y D is room = left_gone d e.0 y D (subst (λ (k : Option ℕ). HasRoom 0 k D) (sym is) room)

pub raised_same : (y : Option ℕ) (D mid : List (Option Opened)) → mid ≡ changed_at (with_more 1) y D → SameDescs D mid
raised_same y D mid raised = subst (SameDescs D) (sym raised) (raise_same y D)

-- a description has another flag, and the rest is as it was
pub flag_descs : (rule : Rule) (c : Caller) (on : Bool) (x : Option ℕ) (d : ℕ) (D new : List (Option Opened)) →
    rule c ≡ changes (pos 0) c.process (described_again x new) → x ≡ Some d → new ≡ changed_at (with_flag on) (Some d) D → HasDescs c.state D →
    HasDescs (state_after rule c) new
unfolding with_writes
flag_descs rule c on x d D new e is changed has k =
    ap (λ (F : Effect). (before_sends F c.state).descs k)
    (ap (effect_of c.number c.process) (e ∙ ap (λ (y : Option ℕ). changes (pos 0) c.process (described_again y new)) is))
    ∙ elim (put_cases c.state.descs d (description_at new d) k) [
      | inl z ↦ z.1 ∙ ap (description_at new) (sym z.0)
      | inr z ↦ z.1 ∙ has k ∙ sym (ap described (ap (λ (l : List (Option Opened)). get_or l k None) changed ∙ away z.0))
    ]
  where
    away : k ≢ d → get_or (changed_at (with_flag on) (Some d) D) k None ≡ get_or D k None
    away apart = elim (hit_cases k (Some d)) [ inl h ↦ absurd (apart (let same : d ≡ k = cc in sym same)) | inr h ↦ changed_other (with_flag on) (Some d) D k h ]
