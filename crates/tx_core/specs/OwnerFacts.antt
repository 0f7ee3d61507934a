-- Facts of who has reserved what, with their proofs.
use Rattle.std.proofs.Common.{◌≡◌, ℕ, Option, ap, refl, sym, ◌∙◌}
use Rattle.tx_laws.specs.TwoStates.{is_owner, states_view}
use Rattle.tx_content.specs.Content.{owner_at, view_of}
use Rattle.tx_content.specs.declared.content.Content.{Content}
use Rattle.tx_reserve.specs.Objects.{object_of}
use Rattle.tx_reserve.specs.Reservations.{owner_of}
use Rattle.tx_reserve.specs.declared.objects.Object.{Object}
use Rattle.tx_reserve.specs.declared.objects.Object.TheVariants as the

-- who owns a process, a description or a pipe is in the table of owners
owner_read : (k : Content) (object : Object)
    → owner_at k (object_of object) ≡ owner_of k.owners (object_of object)
owner_read k (the.Proc pid) = refl
owner_read k (the.Desc number) = refl
owner_read k (the.Pipe number) = refl

-- s reserved it exactly if s is its owner
pub reserved_read : (k : Content) (s : ℕ) (object : Object) (owner : Option ℕ)
    → owner ≡ owner_of k.owners (object_of object)
    → (view_of k).reserved s (object_of object) ≡ is_owner s owner
unfolding view_of states_view
reserved_read k s object owner own = ap (is_owner s) (owner_read k object ∙ sym own)
