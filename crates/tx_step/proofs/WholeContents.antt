-- What a view shows of the content now; and contents that steps lead to have whole parts.
use Rattle.std.proofs.Common.{◌≡◌, [], ap, subst}
use Rattle.std.proofs.lemmas.List.Elements.{All-nil}
use Rattle.tx_base.specs.Slots.{slot_at}
use Rattle.tx_base.specs.declared.names.Pid.{Pid}
use Rattle.tx_step.specs.Contents.{ContentsAreWhole, IsContent}
use Rattle.tx_laws.specs.Laws.{HeldKeepsForm}
use Rattle.tx_laws.specs.LawsOfTwoStates.{PresentIsNow}
use Rattle.tx_laws.specs.WellFormed.{IsHeldSending, IsWellFormed}
use Rattle.tx_content.specs.Content.{content_of, now_of, view_of}
use Rattle.tx_content.specs.declared.content.Content.{Content}
use Rattle.tx_model.specs.History.{nobody}
use Rattle.tx_model.specs.State.{State}
use Rattle.tx_model.specs.View.{present}
use Rattle.tx_proc.specs.Parts.{process_in}
use Rattle.tx_txn.specs.Content.{two_states_of}

pub now_seen : PresentIsNow → (k : Content) → present (view_of k) ≡ now_of k
unfolding view_of
now_seen seen k = seen (two_states_of (content_of k))

pub slot_seen : PresentIsNow → (k : Content) (pid : Pid) → (present (view_of k)).procs pid.0 ≡ process_in (slot_at k.parts.procs pid.0)
slot_seen seen k pid = ap (λ (S : State). S.procs pid.0) (now_seen seen k)

-- the state is well formed
pub now_formed : PresentIsNow → (k : Content) → IsContent k → IsWellFormed (now_of k)
now_formed seen k is = subst IsWellFormed (now_seen seen k) (is.formed nobody)

pub contents_whole : PresentIsNow → HeldKeepsForm → ContentsAreWhole
contents_whole seen held k is = record {
  counts = is.shaped.counts;
  places = is.shaped.places;
  few = is.shaped.few;
  formed = held (λ starter. []) (now_of k) (λ starter. All-nil (IsHeldSending (now_of k).width)) (now_formed seen k is);
}
