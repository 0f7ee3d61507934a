-- Where no transaction is live, no process is a member, and nobody is in the way.
use Rattle.std.proofs.Common.{◌≡◌, ℕ, zero, suc, Bool, false, Option, Some, None, refl, sym, ◌∙◌}
use Rattle.std.proofs.lemmas.Bool.{both_ways}
use Rattle.tx_base.specs.Slots.{slot_at}
use Rattle.tx_base.specs.declared.marks.Mark.{Mark}
use Rattle.tx_base.specs.declared.names.Pid.{Pid}
use Rattle.tx_laws.specs.TwoStates.{states_view}
use Rattle.tx_content.specs.Content.{view_of}
use Rattle.tx_content.specs.declared.content.Content.{Content}
use Rattle.tx_model.specs.Events.{Event}
use Rattle.tx_model.specs.Membership.{is_live}
use Rattle.tx_model.specs.View.{in_way, least, starter_in_way}
use Rattle.tx_step.proofs.Refusals.{marked_live}
use Rattle.tx_step.specs.Contents.{IsContent, IsIdle}
use Rattle.tx_txn.specs.Marks.{table_at}

-- no number passes, so none is the least that does
least_never : (P : ℕ → Bool) (n : ℕ) → ((s : ℕ) → P s ≡ false) → least P n ≡ None
unfolding least
least_never P zero never = rw (never zero) refl
least_never P (suc n) never = rw (least_never P n never, never (suc n)) refl

module _ (k : Content) (is : IsContent k) (idle : IsIdle k) where
  none_live : (s : ℕ) → is_live (table_at k.marks) s ≡ false
  none_live s = sym (is.kept.live s) ∙ rw (idle s) refl

  pub idle_mark : (pid : Pid) → slot_at k.marks pid.0 ≡ None
  idle_mark pid = by (slot_at k.marks pid.0) refl
    where
      by : (mark : Option Mark) → slot_at k.marks pid.0 ≡ mark → mark ≡ None
      by None at = refl
      by (Some m) at = absurd (both_ways _ (none_live m.starter.0) (marked_live k pid m is.kept at))

  pub idle_clear : (ev : Event) → starter_in_way (view_of k) ev ≡ None
  unfolding view_of states_view in_way
  idle_clear ev = least_never (in_way (view_of k) ev) _ (λ s. rw (none_live s) refl)
