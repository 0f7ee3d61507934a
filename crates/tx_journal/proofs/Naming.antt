-- The numbers of a moved history name its entries.
use Rattle.std.proofs.Common.{◌≡◌, ℕ, zero, suc, ◌+◌, ◌-◌, ◌<◌, ◌≤◌, Bool, true, false, List, [], ◌∷◌, ◌++◌, ◌⊎◌, inl, inr, Option, Some, None, length, map, option_map, reverse, slice_get, take, drop, get_or, nat_lt, if◌then◌else◌, arith, refl, sym, ap, subst, ◌∙◌, length-append}
use Rattle.std.proofs.lemmas.Bool.{ltb-false}
use Rattle.std.proofs.lemmas.List.{append_assoc, append-nil, length-drop, length-take-le, map-append, reverse-append, take_all, take-append-drop}
use Rattle.std.proofs.lemmas.Option.{slice_get_cases}
use Rattle.tx_base.specs.declared.steps.Accepted.{Accepted}
use Rattle.tx_journal.proofs.Walked.{history_length, history_to}
use Rattle.tx_journal.specs.Entries.{accepted_of, entry_at, history_of}
use Rattle.tx_journal.specs.Moved.{IsMoved, Numbers, Moving, entries_named, moved_at, moved_numbers, numbers_above, numbers_parted, moving_by, moving_in, moving_of}
use Rattle.tx_journal.specs.Sessions.{SessionState, start_of}
use Rattle.tx_journal.specs.declared.entry.Entry.{Entry}
use Rattle.tx_journal.specs.declared.moved.Moved.{Moved}
use Rattle.tx_laws.specs.OneMoment.{Parted, is_one_moment, moved_history, parted}
use Rattle.tx_model.specs.History.{role_in}
use Rattle.tx_model.specs.Membership.{Role, Outside, Within, Commits, Aborts}
use Rattle.tx_model.specs.State.{State}
use Rattle.tx_moment.specs.Moments.{HasMoments}

-- each step of the history has the name of its number
unfoldable Names : (ℕ → Option Accepted) → List Accepted → Type 0
Names name [] = Unit {0}
Names name (e ∷ h) = (name (suc (length h)) ≡ Some e) × Names name h

names_earlier : (name : ℕ → Option Accepted) (later h : List Accepted) → Names name (later ++ h) → Names name h
unfolding Names
names_earlier name [] h are = are
names_earlier name (e ∷ later) h are = names_earlier name later h are.1

-- the numbers of the newest steps name them
newest_named : (name : ℕ → Option Accepted) (later h : List Accepted) → Names name (later ++ h) → map name (numbers_above (length h) (length later)) ≡ map Some later
unfolding Names numbers_above
newest_named name [] h are = refl
newest_named name (e ∷ later) h are =
    let first : name (suc (length later + length h)) ≡ Some e = ap (λ (n : ℕ). name (suc n)) (sym (length-append later h)) ∙ are.0 in
    λ j. first j ∷ newest_named name later h are.1 j

all_named : (name : ℕ → Option Accepted) (h : List Accepted) → Names name h → map name (numbers_above 0 (length h)) ≡ map Some h
all_named name h are = newest_named name h [] (subst (Names name) (sym (append-nil h)) are)

-- the numbers of the steps of a transaction name them, and those of the others too
record AreNamed (name : ℕ → Option Accepted) (n : Numbers) (p : Parted) : Type 0 where
  own : map name n.own ≡ map Some p.own
  others : map name n.others ≡ map Some p.others

parts_named : (name : ℕ → Option Accepted) (S : State) (s : ℕ) (h : List Accepted) → Names name h → AreNamed name (numbers_parted S s h) (parted S s h)
unfolding Names numbers_parted parted
parts_named name S s [] are = record { own = refl; others = refl }
parts_named name S s (e ∷ h) are = grind (arith, all_named, parts_named name S s h)

moved_named : (name : ℕ → Option Accepted) (S : State) (s : ℕ) (later : List Accepted) (e : Accepted) (h : List Accepted) → Names name (later ++ e ∷ h) →
    map name (moved_numbers S s later h) ≡ map Some (moved_history S s later e h)
unfolding Names
moved_named name S s later e h are = grind (arith, append_assoc, map-append, names_earlier, newest_named, parts_named)

-- the names of a history backward
map_reverse : {A B : Type 0} (f : A → B) (xs : List A) → map f (reverse xs) ≡ reverse (map f xs)
map_reverse f [] = refl
map_reverse f (x ∷ xs) =
    ap (map f) (reverse-append (x ∷ []) xs) ∙ map-append f (reverse xs) (x ∷ []) ∙ ap (λ ys. ys ++ f x ∷ []) (map_reverse f xs) ∙ sym (reverse-append (f x ∷ []) (map f xs))

abbrev name_in : List Entry → ℕ → Option Accepted
name_in entries n = option_map accepted_of (entry_at entries n)

names_to : (entries : List Entry) (n : ℕ) → n ≤ length entries → Names (name_in entries) (history_of (take n entries))
unfolding Names
names_to entries zero few = tt
names_to entries (suc n) few = by (names_to entries n (omega (arith, few))) (slice_get_cases entries n).1
  where
    more : Names (name_in entries) (history_of (take n entries)) → (x : Entry) → n < length entries → slice_get entries n ≡ Some x → get_or entries n x ≡ x → Names (name_in entries) (history_of (take (suc n) entries))
    more before x under is same =
        let next : n + 1 ≡ suc n = omega arith in
        let parts : history_of (take (suc n) entries) ≡ accepted_of x ∷ history_of (take n entries)
        = ap (λ (k : ℕ). history_of (take k entries)) (sym next) ∙ history_to entries n x under ∙ ap (λ (d : Entry). accepted_of d ∷ history_of (take n entries)) same in
        let count : length (history_of (take n entries)) ≡ n = history_length (take n entries) ∙ length-take-le n entries (omega (arith, under)) in
        subst (Names (name_in entries)) (sym parts) (ap (λ (k : ℕ). name_in entries (suc k)) count ∙ ap (option_map accepted_of) is, before)

    by : Names (name_in entries) (history_of (take n entries)) →
        ((x : Entry) × (n < length entries) × (slice_get entries n ≡ Some x) × (get_or entries n x ≡ x)) ⊎ ((length entries ≤ n) × (slice_get entries n ≡ None)) → Names (name_in entries) (history_of (take (suc n) entries))
    by before (inl (x, under, is, same)) = more before x under is same
    by before (inr (past, none)) = absurd (omega (arith, few, past))

names_all : (entries : List Entry) → Names (name_in entries) (history_of entries)
names_all entries = subst (λ (es : List Entry). Names (name_in entries) (history_of es)) (take_all (length entries) entries (omega arith)) (names_to entries (length entries) (omega arith))

-- what is answered for a commit holds of the moved history
module _ (k : SessionState) (number : ℕ) (m : Moved) (answer : moved_at (start_of k) (history_of k.entries) number ≡ Some (moving_in m))
    (moments : HasMoments (start_of k) (history_of k.entries)) where
  abbrev start : State
  start = start_of k

  by_role : (later : List Accepted) (e : Accepted) (earlier : List Accepted) → history_of k.entries ≡ later ++ e ∷ earlier → suc (length earlier) ≡ number → (r : Role) → role_in start e earlier ≡ r →
      moving_by r start later e earlier ≡ Some (moving_in m) → IsMoved k number m
  unfolding HasMoments
  by_role later e earlier split place Outside is same = cc
  by_role later e earlier split place (Within s part) is same = cc
  by_role later e earlier split place (Commits s) is same =
      let parts : record { numbers = reverse (moved_numbers start s later earlier); one_moment = is_one_moment start s e earlier } ≡ moving_in m = cc in
      record {
        answer = answer;
        starter = s;
        later = later;
        last = e;
        earlier = earlier;
        split = split;
        place = place;
        commits = is;
        named = ap (entries_named k.entries) (sym (ap (λ (t : Moving). t.numbers) parts)) ∙ map_reverse (name_in k.entries) (moved_numbers start s later earlier)
            ∙ ap reverse (moved_named (name_in k.entries) start s later e earlier (subst (Names (name_in k.entries)) split (names_all k.entries)))
            ∙ sym (map_reverse Some (moved_history start s later e earlier));
        counts = sym (ap (λ (t : Moving). t.one_moment) parts);
        moment = λ one. moments later e earlier s split is (ap (λ (t : Moving). t.one_moment) parts ∙ one);
      }
  by_role later e earlier split place (Aborts s status) is same = cc

  by_parts : (later h : List Accepted) → history_of k.entries ≡ later ++ h → length h ≡ number → moving_of start later h ≡ Some (moving_in m) → IsMoved k number m
  by_parts later h split place same = grind (arith, by_role)

  pub is_moved : IsMoved k number m
  is_moved = by (nat_lt (length h) number) refl answer
    where
      h : List Accepted
      h = history_of k.entries

      by : (past : Bool) → nat_lt (length h) number ≡ past → (if past then None else moving_of start (take (length h - number) h) (drop (length h - number) h)) ≡ Some (moving_in m) → IsMoved k number m
      by true is same = cc
      by false is same =
          let few : number ≤ length h = ltb-false (length h) number is in
          by_parts (take (length h - number) h) (drop (length h - number) h) (sym (take-append-drop (length h - number) h)) (let place : length (drop (length h - number) h) ≡ length h - (length h - number) = length-drop (length h - number) h in omega (arith, few, place)) same
