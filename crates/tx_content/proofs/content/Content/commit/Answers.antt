use Rattle.std.proofs.Common.{◌≡◌, Bool, List, Option, Some, None, ap, subst, sym, ◌∙◌}
use Rattle.tx_base.specs.SlotFacts.{slot_twice}
use Rattle.tx_base.specs.Slots.{with_slot}
use Rattle.tx_kernel.specs.Acts.{event_of}
use Rattle.tx_content.proofs.Committed.{commit_answers, commit_done, places_are, rest_of, signals_are}
use Rattle.tx_content.specs.ContentFacts.{is_covered}
use Rattle.tx_content.proofs.Insides.{put_back}
use Rattle.tx_content.specs.Commits.{MakesLast}
use Rattle.tx_content.specs.HeldPosts.{PostsAll}
use Rattle.tx_content.specs.Insides.{inside_in}
use Rattle.tx_content.specs.Inverses.{with_txn}
use Rattle.tx_content.specs.Made.{IsMade}
use Rattle.tx_content.specs.declared.content.BoxedTxn.{BoxedTxn}
use Rattle.tx_content.specs.declared.content.Content.{Content}
use Rattle.tx_content.specs.declared.inverse.Inverse.TheVariants.{Committed}
use Rattle.tx_model.specs.Events.{Commit}
use Rattle.tx_model.specs.Membership.{Commits}
use Rattle.tx_txn.specs.Marks.{IsCovered}
use Rattle.tx_txn.specs.Outboxes.{Held}
use Rattle.tx_txn.specs.declared.txn.Txn.{Txn}
use Rattle.tx_content.proofs.content.Content.commit.Goals as goal

pub returns-in_default-clause-err : goal.returns-in_default-clause-err
returns-in_default-clause-err c =
    let old : Content = c.args.self.now in
    λ j. record {
      parts = c.in_default.ensures.parts j;
      marks = old.marks;
      owners = old.owners;
      txns = put_back old.txns c.put.new.self c.args.starter.0 c.unwrap-boxed.result c.make_last-made.new.txn (sym c.take.ensures.taken ∙ c.unwrap-boxed.ensures)
          (c.in_default.ensures.txn ∙ c.deref_mut.ensures.value)
          (c.put.ensures ∙ ap (λ (txns : List (Option BoxedTxn)). with_slot txns c.args.starter.0 (Some (with_txn c.unwrap-boxed.result c.make_last-made.new.txn))) c.take.ensures.emptied
          ∙ slot_twice old.txns c.args.starter.0 None (Some (with_txn c.unwrap-boxed.result c.make_last-made.new.txn))) j;
    }

pub post_held-requires-clause-signals : goal.post_held-requires-clause-signals
post_held-requires-clause-signals c =
    let old : Content = c.args.self.now in
    let steps : MakesLast old.parts c.make_last-made.new.parts old.marks c.args.pid c.args.act.now c.unwrap-boxed.result.txn.value c.deref_mut-2.result.now c.in-Ok.field-0
    = subst (λ (t : Txn). MakesLast old.parts c.make_last-made.new.parts old.marks c.args.pid c.args.act.now c.unwrap-boxed.result.txn.value t c.in-Ok.field-0) (sym c.deref_mut-2.ensures.value)
    (subst (λ (t : Txn). MakesLast old.parts c.make_last-made.new.parts old.marks c.args.pid c.args.act.now t c.make_last-made.new.txn c.in-Ok.field-0) c.deref_mut.ensures.value c.in-Ok.ensures.made) in
    signals_are c.laws.ensures old old c.make_last-made.new.parts old.txns c.args.pid c.args.starter c.args.act.now c.unwrap-boxed.result c.deref_mut-2.result.now c.deref_mut-2.result.now c.deref_mut-2.result.now c.in-Ok.field-0
    c.requires.shaped c.requires.kept (sym c.take.ensures.taken ∙ c.unwrap-boxed.ensures) steps c.requires.signals

pub post_held-requires-clause-posts : goal.post_held-requires-clause-posts
post_held-requires-clause-posts c =
    let old : Content = c.args.self.now in
    let steps : MakesLast old.parts c.make_last-made.new.parts old.marks c.args.pid c.args.act.now c.unwrap-boxed.result.txn.value c.deref_mut-2.result.now c.in-Ok.field-0
    = subst (λ (t : Txn). MakesLast old.parts c.make_last-made.new.parts old.marks c.args.pid c.args.act.now c.unwrap-boxed.result.txn.value t c.in-Ok.field-0) (sym c.deref_mut-2.ensures.value)
    (subst (λ (t : Txn). MakesLast old.parts c.make_last-made.new.parts old.marks c.args.pid c.args.act.now t c.make_last-made.new.txn c.in-Ok.field-0) c.deref_mut.ensures.value c.in-Ok.ensures.made) in
    places_are c.laws.ensures old old c.make_last-made.new.parts old.txns c.args.pid c.args.starter c.args.act.now c.unwrap-boxed.result c.deref_mut-2.result.now c.deref_mut-2.result.now c.deref_mut-2.result.now c.in-Ok.field-0
    c.requires.shaped c.requires.kept (sym c.take.ensures.taken ∙ c.unwrap-boxed.ensures) steps

pub end-requires : goal.end-requires
end-requires c =
    let old : Content = c.args.self.now in
    let there = sym c.take.ensures.taken ∙ c.unwrap-boxed.ensures in
    let was = c.requires.shaped.each c.args.starter.0 c.unwrap-boxed.result there in
    let steps : MakesLast old.parts c.make_last-made.new.parts old.marks c.args.pid c.args.act.now c.unwrap-boxed.result.txn.value c.make_last-made.new.txn c.in-Ok.field-0
    = subst (λ (t : Txn). MakesLast old.parts c.make_last-made.new.parts old.marks c.args.pid c.args.act.now t c.make_last-made.new.txn c.in-Ok.field-0) c.deref_mut.ensures.value c.in-Ok.ensures.made in
    let led : c.deref_mut-3.result.now ≡ record c.make_last-made.new.txn { outbox = c.post_held.new.outbox }
    = c.deref_mut-3.ensures.value ∙ ap (λ (t : Txn). record t { outbox = c.post_held.new.outbox }) c.deref_mut-2.ensures.value in
    subst (λ (objects : _). IsCovered c.deref_mut-3.result.now.starter.0 old.marks objects)
    (sym (ap (λ (t : Txn). t.objects) led ∙ ap (λ (t : Txn). t.objects) steps.makes.rest))
    (is_covered old c.args.starter.0 c.unwrap-boxed.result.txn.value c.deref_mut-3.result.now.starter.0
    (ap (λ (t : Txn). t.starter.0) led ∙ ap (λ (t : Txn). t.starter.0) steps.makes.rest ∙ was.starter) was)

pub returns-clause-made : goal.returns-clause-made
returns-clause-made c = λ fits.
    let old : Content = c.args.self.now in
    let new : Content = record { parts = c.post_held.new.parts; marks = c.end.new.marks; owners = c.end.new.owners; txns = c.post_held.new.txns } in
    let steps : MakesLast old.parts c.make_last-made.new.parts old.marks c.args.pid c.args.act.now c.unwrap-boxed.result.txn.value c.deref_mut-2.result.now c.in-Ok.field-0
    = subst (λ (t : Txn). MakesLast old.parts c.make_last-made.new.parts old.marks c.args.pid c.args.act.now c.unwrap-boxed.result.txn.value t c.in-Ok.field-0) (sym c.deref_mut-2.ensures.value)
    (subst (λ (t : Txn). MakesLast old.parts c.make_last-made.new.parts old.marks c.args.pid c.args.act.now t c.make_last-made.new.txn c.in-Ok.field-0) c.deref_mut.ensures.value c.in-Ok.ensures.made) in
    let outbox : c.deref_mut-3.result.now.outbox ≡ c.post_held.new.outbox = ap (λ (t : Txn). t.outbox) c.deref_mut-3.ensures.value in
    rw (c.put_inverse.ensures.content, c.put_inverse.ensures.place) (subst (λ (held : Bool). IsMade old (Commits c.args.starter.0) (Commit c.args.starter.0 (event_of (inside_in old c.args.starter) c.args.pid c.args.act.now)) c.args.pid.0 new
    (Committed (with_txn c.unwrap-boxed.result c.end.new.self) c.in-Ok.field-0.count held)) (sym c.hands_out-held.ensures)
    (commit_done c.laws.ensures old new c.make_last-made.new.parts c.take.new.self c.args.pid c.args.starter c.args.act.now c.unwrap-boxed.result c.deref_mut-2.result.now c.deref_mut-3.result.now c.end.new.self c.in-Ok.field-0
    c.requires.shaped c.requires.kept (sym c.take.ensures.taken ∙ c.unwrap-boxed.ensures) steps c.take.ensures.emptied
    (ap (λ (h : Held). h.sendings) outbox ∙ c.post_held.ensures.sendings) (rest_of c.deref_mut-3.result.now c.deref_mut-2.result.now c.post_held.new.outbox c.deref_mut-3.ensures.value)
    (subst (λ (h : Held). PostsAll c.make_last-made.new.parts new.parts c.take.new.self new.txns c.deref_mut-2.result.now.outbox.sendings h.posts) (sym outbox) c.post_held.ensures.posts)
    c.end.ensures.marks c.end.ensures.length c.end.ensures.owners c.sized.ensures c.end.ensures.rest c.end.ensures.joined c.end.ensures.ended c.requires.unowned c.requires.end fits
    (signals_are c.laws.ensures old old c.make_last-made.new.parts old.txns c.args.pid c.args.starter c.args.act.now c.unwrap-boxed.result c.deref_mut-2.result.now c.deref_mut-2.result.now c.deref_mut-2.result.now c.in-Ok.field-0
    c.requires.shaped c.requires.kept (sym c.take.ensures.taken ∙ c.unwrap-boxed.ensures) steps c.requires.signals)))

pub returns-clause-answer : goal.returns-clause-answer
returns-clause-answer c =
    let old : Content = c.args.self.now in
    let new : Content = record { parts = c.post_held.new.parts; marks = c.end.new.marks; owners = c.end.new.owners; txns = c.post_held.new.txns } in
    let steps : MakesLast old.parts c.make_last-made.new.parts old.marks c.args.pid c.args.act.now c.unwrap-boxed.result.txn.value c.deref_mut-2.result.now c.in-Ok.field-0
    = subst (λ (t : Txn). MakesLast old.parts c.make_last-made.new.parts old.marks c.args.pid c.args.act.now c.unwrap-boxed.result.txn.value t c.in-Ok.field-0) (sym c.deref_mut-2.ensures.value)
    (subst (λ (t : Txn). MakesLast old.parts c.make_last-made.new.parts old.marks c.args.pid c.args.act.now t c.make_last-made.new.txn c.in-Ok.field-0) c.deref_mut.ensures.value c.in-Ok.ensures.made) in
    let outbox : c.deref_mut-3.result.now.outbox ≡ c.post_held.new.outbox = ap (λ (t : Txn). t.outbox) c.deref_mut-3.ensures.value in
    rw c.put_inverse.ensures.place (commit_answers c.laws.ensures old new c.make_last-made.new.parts c.take.new.self c.args.pid c.args.starter c.args.act.now c.unwrap-boxed.result c.deref_mut-2.result.now c.deref_mut-3.result.now c.end.new.self c.in-Ok.field-0
    c.requires.shaped c.requires.kept (sym c.take.ensures.taken ∙ c.unwrap-boxed.ensures) steps
    (ap (λ (h : Held). h.sendings) outbox ∙ c.post_held.ensures.sendings)
    (subst (λ (h : Held). PostsAll c.make_last-made.new.parts new.parts c.take.new.self new.txns c.deref_mut-2.result.now.outbox.sendings h.posts) (sym outbox) c.post_held.ensures.posts)
    c.end.ensures.rest c.requires.end)
