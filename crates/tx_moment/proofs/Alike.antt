-- Tables that have the same of one transaction, and the steps of its members.
use Rattle.std.proofs.Common.{◌≡◌, ℕ, zero, suc, Bool, true, false, Option, Some, None, if◌then◌else◌, ◌==◌, refl, ap, ap₂, ◌∙◌}
use Rattle.tx_base.specs.declared.marks.Mark.{Mark}
use Rattle.tx_base.specs.declared.steps.Reply.{Reply}
use Rattle.tx_base.specs.declared.steps.Step.{Step}
use Rattle.tx_base.specs.declared.steps.Step.TheVariants.{Call as Calls, Deliver, KernelAbort}
use Rattle.tx_model.specs.Events.{Event, process_of}
use Rattle.tx_model.specs.Membership.{Table, is_of, is_open_of, others_open, inside_by, Kind, Ordinary, Forking, Beginning, Leaving, Aborting, says_ended, member_end, role, kind_event, event_in, event}
use Rattle.tx_model.specs.Words.{member_end_role, ordinary_role, kind_of, kind_role}

-- the two tables have the same members of the transaction of u, and the same of them have not ended their part
pub record AlikeFor (u : ℕ) (t v : Table) : Type 0 where
  pub width : t.width ≡ v.width
  pub of : (n : ℕ) → is_of u (t.marks n) ≡ is_of u (v.marks n)
  pub unended : (n : ℕ) → is_open_of u (t.marks n) ≡ is_open_of u (v.marks n)

module _ (t v : Table) where
  others_alike : (u p n : ℕ) → AlikeFor u t v → others_open t u p n ≡ others_open v u p n
  unfolding others_open
  others_alike u p zero alike = refl
  others_alike u p (suc n) alike =
      ap₂ (λ (x y : Bool). if x then true else (if suc n == p then false else y)) (others_alike u p n alike) (alike.unended (suc n))

  ends_alike : (u p : ℕ) → AlikeFor u t v → member_end t u p ≡ member_end v u p
  ends_alike u p alike =
      ap (λ (b : Bool). member_end_role b u) (others_alike u p t.width alike ∙ ap (λ (w : ℕ). others_open v u p w) alike.width)

  ordinary_alike : (b : Bool) (u p : ℕ) → AlikeFor u t v → ordinary_role b t u p ≡ ordinary_role b v u p
  ordinary_alike true u p alike = ends_alike u p alike
  ordinary_alike false u p alike = refl

  inside_alike : (m : Mark) → AlikeFor m.starter.0 t v → inside_by t (Some m) ≡ inside_by v (Some m)
  inside_alike m alike =
      λ i. Some (record { starter = m.starter.0; members = λ n. alike.of n i; defers = m.defers })

  -- what a step of who has this mark is to the transactions, and its event
  abbrev IsSame : ℕ → Step → Kind → Reply → Option Mark → Type 0
  IsSame p step k r m = (kind_role t p k r m ≡ kind_role v p k r m) × (kind_event t p step k m ≡ kind_event v p step k m)

  marked_alike : (p : ℕ) (step : Step) (k : Kind) (r : Reply) (m : Mark) → AlikeFor m.starter.0 t v → IsSame p step k r (Some m)
  marked_alike p step Ordinary r m alike = (ordinary_alike (says_ended r) m.starter.0 p alike, ap (Event.Do step) (inside_alike m alike))
  marked_alike p step (Forking c) r m alike = (refl, ap (Event.Do step) (inside_alike m alike))
  marked_alike p step (Beginning defers) r m alike = (refl, refl)
  marked_alike p step Leaving r m alike = (ends_alike m.starter.0 p alike, refl)
  marked_alike p step Aborting r m alike = (refl, refl)

  unmarked_alike : (p : ℕ) (step : Step) (k : Kind) (r : Reply) → IsSame p step k r None
  unmarked_alike p step Ordinary r = (refl, refl)
  unmarked_alike p step (Forking c) r = (refl, refl)
  unmarked_alike p step (Beginning defers) r = (refl, refl)
  unmarked_alike p step Leaving r = (refl, refl)
  unmarked_alike p step Aborting r = (refl, refl)

  kind_alike : (p : ℕ) (step : Step) (k : Kind) (r : Reply) (m n : Option Mark) → m ≡ n → ((x : Mark) → m ≡ Some x → AlikeFor x.starter.0 t v)
      → (kind_role t p k r m ≡ kind_role v p k r n) × (kind_event t p step k m ≡ kind_event v p step k n)
  kind_alike p step k r m n e alike = let same : IsSame p step k r m = by m refl in (same.0 ∙ ap (kind_role v p k r) e, same.1 ∙ ap (kind_event v p step k) e)
    where
      by : (x : Option Mark) → m ≡ x → IsSame p step k r x
      by None h = unmarked_alike p step k r
      by (Some x) h = marked_alike p step k r x (alike x h)

  -- a step is the same on both tables, where its process has the same mark, and the tables are alike for the transaction of that
  pub step_alike : (step : Step) (r : Reply) → t.marks (process_of step) ≡ v.marks (process_of step) → ((x : Mark) → t.marks (process_of step) ≡ Some x → AlikeFor x.starter.0 t v)
      → (role t step r ≡ role v step r) × (event t step r ≡ event v step r)
  step_alike (Calls p call) r e alike =
      let same = kind_alike p.0 (Calls p call) (kind_of call) r (t.marks p.0) (v.marks p.0) e alike in (same.0, ap₂ event_in same.0 same.1)
  step_alike (Deliver p signo) r e alike =
      let same = kind_alike p.0 (Deliver p signo) Ordinary r (t.marks p.0) (v.marks p.0) e alike in (same.0, ap₂ event_in same.0 same.1)
  step_alike (KernelAbort s) r e alike = (refl, refl)
