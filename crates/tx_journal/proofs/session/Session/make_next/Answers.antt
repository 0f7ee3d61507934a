use Rattle.std.proofs.Common.{◌≡◌, ℕ, ◌+◌, ◌≤◌, List, [], ◌∷◌, ◌++◌, Some, length, slice_get, sym, ap, subst, ◌∙◌}
use Rattle.std.proofs.lemmas.Option.{slice_get-get_or}
use Rattle.tx_journal.proofs.Aheads.{nothing_ahead}
use Rattle.tx_journal.proofs.Walked.{journal_next}
use Rattle.tx_journal.specs.Sessions.{lives_at_end, session_state, position_of, IsJournal, SessionState}
use Rattle.tx_journal.specs.declared.entry.Entry.{Entry}
use Rattle.tx_content.specs.declared.inverse.Inverse.{Inverse}
use Rattle.tx_journal.proofs.session.Session.make_next.Goals as goal

pub invariant_of-self-2 : goal.invariant_of-self-2
invariant_of-self-2 c =
    let at : Some c.in-Some.entry.now ≡ slice_get c.deref.result.now c.position-position.result
    = ap (λ (e : Entry). Some e) c.in-Some.ensures.lookup.1 ∙ sym (slice_get-get_or c.deref.result.now c.position-position.result c.in-Some.entry.now c.in-Some.ensures.lookup.3.0) in
    let next : Some c.in-Some.entry.now ≡ slice_get c.self.inside.journal.entries.items (length c.self.inside.journal.crossings.inverses)
    = at ∙ (λ i. slice_get (c.deref.ensures.value i) (c.position-position.ensures.count i)) ∙ ap (λ (k : SessionState). slice_get c.self.inside.journal.entries.items (position_of k)) (sym c.self.view_is) in (
      subst (λ (xs : List Inverse). IsJournal (record { machine = c.step_into-is_made.new.self; entries = c.self.inside.journal.entries.items; inverses = xs; width = c.self.inside.width; count = c.self.inside.count }))
          (sym (c.push.ensures.inverses ∙ ap (λ (xs : List Inverse). xs ++ c.step_into-is_made.new.inverse ∷ []) c.cut.ensures.inverses))
          (journal_next (session_state c.self.inside.machine c.self.inside.journal c.self.inside.width c.self.inside.count) c.self.invariant.0 c.in-Some.entry.now next c.step_into-is_made.new.self c.step_into-is_made.new.inverse c.step_into-is_made.new.reply
          (c.step_into-is_made.ensures.accepted c.if-not-is_made.false).accepted c.step_into-is_made.ensures.answer (c.step_into-is_made.ensures.history (c.step_into-is_made.ensures.accepted c.if-not-is_made.false).accepted)
          (c.step_into-is_made.ensures.back c.if-not-is_made.false) (c.step_into-is_made.ensures.accepted c.if-not-is_made.false).back (c.step_into-is_made.ensures.accepted c.if-not-is_made.false).whole),
      record {
        entries = c.self.invariant.1.entries;
        inverses = subst (λ (n : ℕ). length c.self.inside.journal.entries.items + lives_at_end (session_state c.self.inside.machine c.self.inside.journal c.self.inside.width c.self.inside.count) ≤ n) (sym (c.push.ensures.room ∙ c.cut.ensures.room)) c.self.invariant.1.inverses;
      },
      nothing_ahead
          (record { machine = c.step_into-is_made.new.self; entries = c.self.inside.journal.entries.items; inverses = c.push.new.self.inverses; width = c.self.inside.width; count = c.self.inside.count })
          c.push.new.self.undone c.push.new.self.stack c.push.ensures.undone,
    )
