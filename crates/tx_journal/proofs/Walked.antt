-- A session that went back by an entry, or forward by one.
use Rattle.std.proofs.Common.{◌≡◌, ℕ, ◌+◌, ◌<◌, ◌≤◌, List, [], ◌∷◌, ◌++◌, length, map, reverse, take, drop, get_or, Some, None, slice_get, ◌⊎◌, inl, inr, arith, refl, sym, ap, subst, ◌∙◌, length-append}
use Rattle.std.proofs.lemmas.List.{length-map, length-reverse, map-append, reverse-append, take_more, take-append-drop}
use Rattle.std.proofs.lemmas.Option.{get_or_from_slice_get, slice_get_cases}
use Rattle.tx_base.specs.declared.steps.Accepted.{Accepted}
use Rattle.tx_base.specs.declared.steps.Refusal.TheVariants.{NoMemory}
use Rattle.tx_base.specs.declared.steps.Reply.{Reply}
use Rattle.tx_base.specs.declared.steps.Reply.TheVariants.{No}
use Rattle.tx_core.specs.Undo.{LeadsBack}
use Rattle.tx_journal.proofs.Extended.{history_more, walks_view}
use Rattle.tx_journal.specs.Entries.{accepted_of, history_of}
use Rattle.tx_journal.specs.Sessions.{IsJournal, SessionState, position_of, start_of}
use Rattle.tx_journal.specs.Walks.{WalksBack}
use Rattle.tx_journal.specs.declared.entry.Entry.{Entry}
use Rattle.tx_content.specs.Content.{view_of}
use Rattle.tx_content.specs.Inverses.{Undoes}
use Rattle.tx_content.specs.Redone.{EndsWhole}
use Rattle.tx_content.specs.declared.content.Content.{Content}
use Rattle.tx_content.specs.declared.inverse.Inverse.{Inverse}
use Rattle.tx_model.specs.Answer.{IsAccepted, Lawful, answer}
use Rattle.tx_model.specs.State.{State}
use Rattle.tx_model.specs.View.{view}

pub history_length : (entries : List Entry) → length (history_of entries) ≡ length entries
history_length entries = length-reverse (map accepted_of entries) ∙ length-map entries accepted_of

-- the history of the entries up to one of them
pub history_to : (entries : List Entry) (n : ℕ) (d : Entry) → n < length entries → history_of (take (n + 1) entries) ≡ accepted_of (get_or entries n d) ∷ history_of (take n entries)
history_to entries n d under = ap history_of (take_more entries n d under) ∙ history_more (take n entries) (get_or entries n d)

-- what is lawful is so without its newest steps
lawful_before : (start : State) (later earlier : List Accepted) → Lawful start (later ++ earlier) → Lawful start earlier
unfolding Lawful
lawful_before start [] earlier lawful = lawful
lawful_before start (e ∷ later) earlier lawful = lawful_before start later earlier lawful.0

-- the history up to an entry, with what follows
pub history_parts : (entries : List Entry) (n : ℕ) → history_of entries ≡ history_of (drop n entries) ++ history_of (take n entries)
history_parts entries n =
    ap history_of (sym (take-append-drop n entries)) ∙ ap reverse (map-append accepted_of (take n entries) (drop n entries)) ∙ reverse-append (map accepted_of (take n entries)) (map accepted_of (drop n entries))

pub lawful_to : (start : State) (entries : List Entry) (n : ℕ) → Lawful start (history_of entries) → Lawful start (history_of (take n entries))
lawful_to start entries n lawful = lawful_before start (history_of (drop n entries)) (history_of (take n entries)) (subst (Lawful start) (history_parts entries n) lawful)

-- the session without its newest inverse
module _ (k : SessionState) (is : IsJournal k) (rest : List Inverse) (inverse : Inverse) (parts : k.inverses ≡ rest ++ inverse ∷ []) where
  pub fewer : position_of k ≡ length rest + 1
  fewer = ap length parts ∙ length-append rest (inverse ∷ [])

  walked : WalksBack (start_of k) k.machine (inverse ∷ reverse rest) (history_of (take (length rest + 1) k.entries))
  walked = grind (arith, fewer, reverse-append)

  first_walk : (entries : List Entry) → entries ≡ k.entries → LeadsBack k.machine inverse × ((before : Content) × Undoes k.machine inverse before × WalksBack (start_of k) before (reverse rest) (history_of (take (length rest) k.entries)))
      × EndsWhole k.machine inverse
  unfolding WalksBack
  first_walk [] none = let f = fewer in let few = is.few in let no : length k.entries ≡ 0 = ap length (sym none) in absurd (omega (arith, f, few, no))
  first_walk (d ∷ entries) some =
      let under : length rest < length k.entries = let f = fewer in let few = is.few in omega (arith, f, few) in
      let at : WalksBack (start_of k) k.machine (inverse ∷ reverse rest) (accepted_of (get_or k.entries (length rest) d) ∷ history_of (take (length rest) k.entries))
      = subst (WalksBack (start_of k) k.machine (inverse ∷ reverse rest)) (history_to k.entries (length rest) d under) walked in
      (at.1, at.2, at.3)

  pub leads_back : LeadsBack k.machine inverse
  leads_back = (first_walk k.entries refl).0

  pub ends_whole : EndsWhole k.machine inverse
  ends_whole = (first_walk k.entries refl).2

  abbrev pub less : Content → SessionState
  less before = record { machine = before; entries = k.entries; inverses = rest; width = k.width; count = k.count }

  pub journal_less : (new : Content) → ((before : Content) → Undoes k.machine inverse before → new ≡ before) → IsJournal (less new)
  journal_less new undone = grind (arith, fewer, first_walk)

-- the session after it made the next entry
pub within : (entries : List Entry) (n : ℕ) (entry : Entry) → Some entry ≡ slice_get entries n → n < length entries
within entries n entry at = by (slice_get_cases entries n).1
  where
    by : ((x : Entry) × (n < length entries) × (slice_get entries n ≡ Some x) × (get_or entries n x ≡ x)) ⊎ ((length entries ≤ n) × (slice_get entries n ≡ None)) → n < length entries
    by (inl (x, under, is, same)) = under
    by (inr (past, none)) = let clash : Some entry ≡ None = at ∙ none in cc

module _ (k : SessionState) (is : IsJournal k) (entry : Entry) (next : Some entry ≡ slice_get k.entries (position_of k)) where
  abbrev earlier : List Accepted
  earlier = history_of (take (position_of k) k.entries)

  under : position_of k < length k.entries
  under = within k.entries (position_of k) entry next

  pub seen : view_of k.machine ≡ view (start_of k) earlier
  seen = walks_view (start_of k) k.machine (reverse k.inverses) earlier is.walks

  pub next_history : history_of (take (position_of k + 1) k.entries) ≡ accepted_of entry ∷ earlier
  next_history = history_to k.entries (position_of k) entry under ∙ ap (λ (e : Entry). accepted_of e ∷ earlier) (get_or_from_slice_get k.entries (position_of k) entry entry (sym next))

  next_lawful : Lawful (start_of k) (accepted_of entry ∷ earlier)
  next_lawful = subst (Lawful (start_of k)) next_history (lawful_to (start_of k) k.entries (position_of k + 1) is.lawful)

  -- the entry's reply is the answer to its step
  its_reply : (reply : Reply) → IsAccepted reply → (reply ≡ No NoMemory) ⊎ (answer (view_of k.machine) entry.step ≡ reply) → reply ≡ entry.reply
  unfolding Lawful
  its_reply reply accepted answered = grind (arith, next_lawful, seen)

  -- the session once the entry is made again
  pub journal_made : (new : Content) (inverse : Inverse) → view_of new ≡ view (start_of k) (accepted_of entry ∷ earlier) → LeadsBack new inverse → Undoes new inverse k.machine → EndsWhole new inverse →
      IsJournal (record { machine = new; entries = k.entries; inverses = k.inverses ++ inverse ∷ []; width = k.width; count = k.count })
  unfolding WalksBack
  journal_made new inverse view_new leads undoes whole = grind (arith, length-append, next_history, reverse-append, under)

  pub journal_next : (new : Content) (inverse : Inverse) (reply : Reply) → IsAccepted reply → (reply ≡ No NoMemory) ⊎ (answer (view_of k.machine) entry.step ≡ reply) →
      ((start : State) (earlier : List Accepted) → Lawful start earlier → view_of k.machine ≡ view start earlier →
      Lawful start (record { step = entry.step; reply = reply } ∷ earlier) × (view_of new ≡ view start (record { step = entry.step; reply = reply } ∷ earlier))) →
      LeadsBack new inverse → Undoes new inverse k.machine → EndsWhole new inverse →
      IsJournal (record { machine = new; entries = k.entries; inverses = k.inverses ++ inverse ∷ []; width = k.width; count = k.count })
  unfolding Lawful
  journal_next new inverse reply accepted answered along leads undoes whole = journal_made new inverse view_new leads undoes whole
    where
      view_new : view_of new ≡ view (start_of k) (accepted_of entry ∷ earlier)
      view_new = (along (start_of k) earlier next_lawful.0 seen).1 ∙ ap (λ (r : Reply). view (start_of k) (record { step = entry.step; reply = r } ∷ earlier)) (its_reply reply accepted answered)
