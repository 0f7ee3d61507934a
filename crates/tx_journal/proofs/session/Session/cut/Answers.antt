use Rattle.std.proofs.Common.{◌≡◌, ℕ, take, ap, subst, sym, ◌∙◌}
use Rattle.std.specs.Prelude.{vec_capacity}
use Rattle.tx_journal.proofs.Aheads.{nothing_ahead}
use Rattle.tx_journal.proofs.Cut.{cut_of, journal_cut, room_cut}
use Rattle.tx_journal.specs.Sessions.{HasRoom, IsJournal, SessionState, session_state, position_of}
use Rattle.tx_journal.proofs.session.Session.cut.Goals as goal

pub invariant_of-self : goal.invariant_of-self
invariant_of-self c =
    let k : SessionState = session_state c.self.inside.machine c.self.inside.journal c.self.inside.width c.self.inside.count in
    let at : c.position-position.result ≡ position_of k = c.position-position.ensures.count ∙ ap position_of (sym c.self.view_is) in
    let left : c.truncate.new.self.items ≡ take (position_of k) k.entries = c.truncate.ensures.items ∙ ap (λ (n : ℕ). take n k.entries) at in
    let after : SessionState = record { machine = k.machine; entries = c.truncate.new.self.items; inverses = c.cut.new.self.inverses; width = k.width; count = k.count } in
    let same : cut_of k ≡ after = λ i. record { machine = k.machine; entries = sym left i; inverses = sym c.cut.ensures.inverses i; width = k.width; count = k.count } in (
      subst IsJournal same (journal_cut k c.self.invariant.0),
      subst (λ (it : SessionState). HasRoom it (vec_capacity c.truncate.new.self) c.cut.new.self.room) same
          (subst (λ (room : ℕ). HasRoom (cut_of k) room c.cut.new.self.room) (sym c.truncate.ensures.capacity)
          (subst (λ (room : ℕ). HasRoom (cut_of k) (vec_capacity c.self.inside.journal.entries) room) (sym c.cut.ensures.room)
          (room_cut k c.self.invariant.0 (vec_capacity c.self.inside.journal.entries) c.self.inside.journal.crossings.room c.self.invariant.1))),
      nothing_ahead after c.cut.new.self.undone c.cut.new.self.stack c.cut.ensures.undone,
    )
