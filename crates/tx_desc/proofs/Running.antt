-- What a call makes of the descriptions, where its process runs in a well-formed state.
use Rattle.std.proofs.Common.{◌≡◌, ℕ, zero, suc, ◌≤◌, true, List, ◌∷◌, length, ℤ, Option, Some, None, is_some, arith}
use Rattle.std.proofs.lemmas.Bool.{ltb-true}
use Rattle.tx_model.specs.Book.{release}
use Rattle.tx_model.specs.Forms.{Caller}
use Rattle.tx_model.specs.State.{Process, State, SetProc, write_one, is_between}
use Rattle.tx_model.specs.Effects.{with_answer}
use Rattle.tx_desc.specs.declared.opened.Opened.{Opened}
use Rattle.tx_desc.specs.Places.{Descriptors}
use Rattle.tx_desc.specs.Descriptions.{HasDescs}
use Rattle.tx_desc.specs.Counts.{Agrees, HasNamed, others_of}
use Rattle.tx_desc.specs.Outcomes.{RunsWith, state_after, with_table}
use Rattle.tx_desc.proofs.Gone.{Sheds, answered_in, shed_descs, gives_descs}
use Rattle.tx_desc.proofs.Named.{named_running, named_ended}

number-le : (width n : ℕ) → is_between width n ≡ true → n ≤ width
number-le width zero h = omega arith
number-le width (suc n) h = let below = ltb-true n width h in omega arith

pub running_named : (p : ℕ) (r : ℤ) (me : Process) (S : State) (table new : Descriptors) → RunsWith p me S table → length new ≡ 16 →
    HasNamed (write_one (SetProc p (Some (with_answer r (with_table new me)))) S) (new ∷ others_of p S)
running_named p r me S table new w full =
    named_running p (with_answer r (with_table new me)) S w.sized full
    (number-le S.width p w.within) w.runs

pub running_gives : (ds : List ℕ) (r : ℤ) (c : Caller) (table new : Descriptors) (before after : List (Option Opened)) →
    RunsWith c.number c.process c.state table → length new ≡ 16 → HasDescs c.state before → Agrees (new ∷ others_of c.number c.state) after →
    Sheds ds before after → HasDescs (state_after (release ds r (with_table new c.process)) c) after
running_gives ds r c table new before after w full has a sheds =
    gives_descs ds r (with_table new c.process) c after
    (shed_descs ds (new ∷ others_of c.number c.state) (answered_in r (with_table new c.process) c) before after a
    (running_named c.number r c.process c.state table new w full) has sheds)

pub any_running : (p : ℕ) (me new : Process) (S : State) (table : Descriptors) → RunsWith p me S table → length new.descriptors ≡ 16 → new.status ≡ None →
    HasNamed (write_one (SetProc p (Some new)) S) (new.descriptors ∷ others_of p S)
any_running p me new S table w full runs =
    named_running p new S w.sized full (number-le S.width p w.within) runs

pub any_ended : (p : ℕ) (me new : Process) (S : State) (table : Descriptors) → RunsWith p me S table → length new.descriptors ≡ 16 → is_some new.status ≡ true →
    HasNamed (write_one (SetProc p (Some new)) S) (others_of p S)
any_ended p me new S table w full ended =
    named_ended p new S w.sized full (number-le S.width p w.within) ended
