-- What notes say of a history is what the history says.
use Rattle.std.proofs.Common.{◌≡◌, ℕ, suc, get_or, subst, ◌+◌, ◌-◌, ◌<◌, ◌≤◌, true, false, not, ◌&&◌, List, [], ◌∷◌, ◌++◌, Option, None, length, option_map, reverse, take, drop, nat_lt, if◌then◌else◌, arith, refl, sym, ap, ◌∙◌, eqb-true, le-ltb, length-append}
use Rattle.std.proofs.Math.Seq.{drop-append_seam, take-append_seam}
use Rattle.std.proofs.lemmas.List.{length-take-le}
use Rattle.tx_base.specs.declared.steps.Accepted.{Accepted}
use Rattle.tx_journal.proofs.Parting.{back_more}
use Rattle.tx_journal.proofs.Walked.{history_length, history_parts, history_to, lawful_to}
use Rattle.tx_journal.specs.Entries.{accepted_of, history_of}
use Rattle.tx_journal.specs.Moved.{Moving, moved_at, numbers_above, numbers_parted, moving_by, moving_of}
use Rattle.tx_journal.specs.Noted.{commit_of, is_silent_by, is_starter, noted_back, notes_in, parted_by}
use Rattle.tx_journal.specs.declared.entry.Entry.{Entry}
use Rattle.tx_laws.specs.OneMoment.{begins_it, is_silent, is_step_of, tells_moment}
use Rattle.tx_model.specs.Answer.{Lawful}
use Rattle.tx_model.specs.Membership.{Role}
use Rattle.tx_model.specs.State.{State}
use Rattle.tx_journal.specs.Notes.{IsNoteOf, Noted, begins_one, commits_one, starter_by, reveals_of}
use Rattle.tx_journal.specs.declared.notes.Note.{Note}

begins_same : (s : ℕ) (r : Role) → (begins_one r && is_starter s (starter_by r)) ≡ begins_it s r
begins_same s r = grind arith

own_same : (s : ℕ) (r : Role) → is_starter s (starter_by r) ≡ is_step_of s r
own_same s r = grind arith

reveals_same : (S : State) (s : ℕ) (e : Accepted) (h : List Accepted) (o : Option ℕ) → is_starter s o ≡ true → reveals_of o S e h ≡ tells_moment S s e h
reveals_same S s e h o is = grind (arith, eqb-true)

pub notes_length : (S : State) (h : List Accepted) → length (notes_in S h) ≡ length h
unfolding notes_in
notes_length S [] = refl
notes_length S (e ∷ h) = ap suc (notes_length S h)

-- the entries are parted by the notes as by the history
parted_same : (S : State) (s : ℕ) (h : List Accepted) → parted_by s (notes_in S h) ≡ numbers_parted S s h
unfolding notes_in parted_by numbers_parted
parted_same S s [] = refl
parted_same S s (e ∷ h) = grind (arith, begins_same, own_same, notes_length, parted_same S s h)

silent_same : (S : State) (s : ℕ) (h : List Accepted) → is_silent_by s (notes_in S h) ≡ is_silent S s h
unfolding notes_in is_silent_by is_silent
silent_same S s [] = refl
silent_same S s (e ∷ h) = grind (arith, begins_same, own_same, reveals_same, silent_same S s h)

-- what is answered for the step of a note, which commits the transaction of s, where so many steps follow it
abbrev pub moving_with : ℕ → Noted → List Noted → ℕ → Moving
moving_with count last ns s = record {
  numbers = reverse (numbers_above (suc (length ns)) count ++ suc (length ns) ∷ (parted_by s ns).own ++ (parted_by s ns).others);
  one_moment = not last.reveals && is_silent_by s ns;
}

-- what is answered for a step
moving_in_role : (S : State) (later : List Accepted) (e : Accepted) (h : List Accepted) (r : Role) →
    option_map (moving_with (length later) (record { starter = starter_by r; begins = begins_one r; commits = commits_one r; reveals = reveals_of (starter_by r) S e h }) (notes_in S h)) (if commits_one r then starter_by r else None)
    ≡ moving_by r S later e h
moving_in_role S later e h r = grind (arith, notes_length, parted_same, silent_same)

moving_noted : (S : State) (later h : List Accepted) (last : Noted) (ns : List Noted) → last ∷ ns ≡ notes_in S h → option_map (moving_with (length later) last ns) (commit_of last) ≡ moving_of S later h
unfolding notes_in
moving_noted S later h last ns is = grind (arith, moving_in_role)

moving_none : (S : State) (later h : List Accepted) → [] ≡ notes_in S h → moving_of S later h ≡ None
unfolding notes_in
moving_none S later h is = grind arith

-- of an entry that is there
pub moved_there : (S : State) (h later earlier : List Accepted) (k : ℕ) → h ≡ later ++ earlier → length earlier ≡ k → moved_at S h k ≡ moving_of S later earlier
moved_there S h later earlier k parts place =
    let whole : length h ≡ length later + length earlier = ap length parts ∙ length-append later earlier in
    let there : nat_lt (length h) k ≡ false = le-ltb (length h) k (omega (arith, whole, place)) in
    let count : length h - k ≡ length later = omega (arith, whole, place) in
    (λ j. if there j then None else moving_of S (take (count j) (parts j)) (drop (count j) (parts j)))
    ∙ (λ j. moving_of S (take-append_seam later earlier j) (drop-append_seam later earlier j))

module _ (S : State) (entries : List Entry) (k : ℕ) (few : k ≤ length entries) where
  place : length (history_of (take k entries)) ≡ k
  place = history_length (take k entries) ∙ length-take-le k entries few

  after : length (history_of (drop k entries)) ≡ length entries - k
  after =
      let whole : length (history_of entries) ≡ length (history_of (drop k entries)) + length (history_of (take k entries)) = ap length (history_parts entries k) ∙ length-append (history_of (drop k entries)) (history_of (take k entries)) in
      let all : length (history_of entries) ≡ length entries = history_length entries in
      let at : length (history_of (take k entries)) ≡ k = place in
      omega (arith, whole, all, at)

  there : moved_at S (history_of entries) k ≡ moving_of S (history_of (drop k entries)) (history_of (take k entries))
  there = moved_there S (history_of entries) (history_of (drop k entries)) (history_of (take k entries)) k (history_parts entries k) place

  -- by the notes of the steps up to the entry, of which its own is the first
  pub moved_noted : (last : Noted) (ns : List Noted) → last ∷ ns ≡ notes_in S (history_of (take k entries)) → option_map (moving_with (length entries - k) last ns) (commit_of last) ≡ moved_at S (history_of entries) k
  moved_noted last ns is = grind (arith, after, there, moving_noted)

  pub moved_unnoted : [] ≡ notes_in S (history_of (take k entries)) → moved_at S (history_of entries) k ≡ None
  moved_unnoted is = there ∙ moving_none S (history_of (drop k entries)) (history_of (take k entries)) is

-- the history up to an entry, and the notes of its steps
module _ (entries : List Entry) (i : ℕ) (entry : Entry) (under : i < length entries) (at : entry ≡ get_or entries i entry) where
  pub history_here : history_of (take (i + 1) entries) ≡ accepted_of entry ∷ history_of (take i entries)
  history_here = history_to entries i entry under ∙ ap (λ (e : Entry). accepted_of e ∷ history_of (take i entries)) (sym at)

module _ (S : State) (entries : List Entry) (i : ℕ) (entry : Entry) (under : i < length entries) (at : entry ≡ get_or entries i entry) where
  pub lawful_here : Lawful S (history_of entries) → Lawful S (accepted_of entry ∷ history_of (take i entries))
  lawful_here lawful = subst (Lawful S) (history_here entries i entry under at) (lawful_to S entries (i + 1) lawful)

  pub noted_more : (old new : List Note) (note : Note) → new ≡ old ++ note ∷ [] → IsNoteOf S (accepted_of entry) (history_of (take i entries)) note →
      noted_back old ≡ notes_in S (history_of (take i entries)) → noted_back new ≡ notes_in S (history_of (take (i + 1) entries))
  unfolding notes_in
  noted_more old new note added is before = back_more new old note added ∙ (λ j. is j ∷ before j) ∙ ap (notes_in S) (sym (history_here entries i entry under at))

pub lawful_first : (S T : State) (entries first : List Entry) (n : ℕ) → T ≡ S → first ≡ take n entries → Lawful S (history_of entries) → Lawful T (history_of first)
lawful_first S T entries first n same is lawful = subst (λ (x : State). Lawful x (history_of first)) (sym same) (subst (λ (es : List Entry). Lawful S (history_of es)) (sym is) (lawful_to S entries n lawful))
