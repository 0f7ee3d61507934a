-- A session without its last entries.
use Rattle.std.proofs.Common.{◌≡◌, ◌≢◌, ℕ, zero, suc, ◌+◌, ◌≤◌, true, List, [], ◌∷◌, ◌++◌, Option, length, drop, take, arith, sym, ap, ◌∙◌, length-append}
use Rattle.std.proofs.lemmas.List.{length-take-le, take_all}
use Rattle.tx_base.specs.declared.marks.Mark.{Mark}
use Rattle.tx_base.specs.declared.steps.Accepted.{Accepted}
use Rattle.tx_core.specs.Lives.{lives, lives_to}
use Rattle.tx_journal.proofs.Lives.{LessBut, above, one_less, one_most}
use Rattle.tx_journal.proofs.Walked.{history_length, history_parts, lawful_to}
use Rattle.tx_journal.specs.Entries.{history_of}
use Rattle.tx_journal.specs.Sessions.{HasRoom, IsJournal, SessionState, lives_at_end, made_of, position_of, start_of}
use Rattle.tx_model.specs.History.{table_of}
use Rattle.tx_model.specs.Membership.{Continues, Parks, Forks, Begins, Role, Outside, Within, Commits, Aborts, Table, is_of, parked_mark, table_after, mark_unless_of}
use Rattle.tx_model.specs.State.{State, put_at}

-- what is live is live in the other table too, but for one number
but_one : (s : ℕ) (new old : Table) (n : ℕ) → LessBut s new old → lives_to new n ≤ lives_to old n + 1
unfolding lives_to
but_one s new old zero less = omega arith
but_one s new old (suc n) less = grind (arith, above, one_less, one_most, but_one s new old n)

-- the mark at another place stays
put_other : (p n : ℕ) (marks : ℕ → Option Mark) (mark : Option Mark) → n ≢ p → is_of n (marks n) ≡ true → is_of n (put_at marks p mark n) ≡ true
put_other p n marks mark other is = grind arith

put_parked : (p n : ℕ) (marks : ℕ → Option Mark) → is_of n (marks n) ≡ true → is_of n (put_at marks p (parked_mark (marks p)) n) ≡ true
put_parked p n marks is = grind arith

-- a mark of another transaction stays
still_marked : (s n : ℕ) (mark : Option Mark) → n ≢ s → is_of n mark ≡ true → is_of n (mark_unless_of s mark) ≡ true
still_marked s n mark other is = grind arith

-- a step ends one transaction at most
one_ends : (r : Role) (p : ℕ) (t : Table) → lives t ≤ lives (table_after r p t) + 1
one_ends Outside p t = omega arith
one_ends (Within u Continues) p t = omega arith
one_ends (Within u Parks) p t = but_one 0 t (table_after (Within u Parks) p t) t.width (λ n other is. put_parked p n t.marks is)
one_ends (Within u (Forks c)) p t = but_one c t (table_after (Within u (Forks c)) p t) t.width (λ n other is. put_other c n t.marks _ other is)
one_ends (Within u (Begins defers)) p t = but_one u t (table_after (Within u (Begins defers)) p t) t.width (λ n other is. put_other u n t.marks _ other is)
one_ends (Commits u) p t = but_one u t (table_after (Commits u) p t) t.width (λ n other is. still_marked u n (t.marks n) other is)
one_ends (Aborts u k) p t = but_one u t (table_after (Aborts u k) p t) t.width (λ n other is. still_marked u n (t.marks n) other is)

-- so before the last entries no more are live than after them, and one for each
pub lives_before : (S : State) (later h : List Accepted) → lives (table_of S h) ≤ lives (table_of S (later ++ h)) + length later
unfolding table_of
lives_before S [] h = omega arith
lives_before S (e ∷ later) h = grind (arith, one_ends, lives_before S later h)

-- the session without the entries after its position
abbrev pub cut_of : SessionState → SessionState
cut_of k = record { machine = k.machine; entries = take (position_of k) k.entries; inverses = k.inverses; width = k.width; count = k.count }

module _ (k : SessionState) (is : IsJournal k) where
  made_length : length (made_of k) ≡ position_of k
  made_length = length-take-le (position_of k) k.entries is.few

  all_made : take (position_of k) (made_of k) ≡ made_of k
  all_made = take_all (position_of k) (made_of k) (let l = made_length in omega (arith, l))

  pub journal_cut : IsJournal (cut_of k)
  journal_cut = grind (arith, all_made, lawful_to, made_length)

  pub room_cut : (room places : ℕ) → HasRoom k room places → HasRoom (cut_of k) room places
  room_cut room places has =
      let later : List Accepted = history_of (drop (position_of k) k.entries) in
      let before : lives_at_end (cut_of k) ≤ lives (table_of (start_of k) (later ++ history_of (made_of k))) + length later = lives_before (start_of k) later (history_of (made_of k)) in
      let whole : lives (table_of (start_of k) (later ++ history_of (made_of k))) ≡ lives_at_end k = ap (λ (h : List Accepted). lives (table_of (start_of k) h)) (sym (history_parts k.entries (position_of k))) in
      let long : length k.entries ≡ length later + length (history_of (made_of k)) =
      sym (history_length k.entries) ∙ ap length (history_parts k.entries (position_of k)) ∙ length-append later (history_of (made_of k)) in
      let made : length (history_of (made_of k)) ≡ length (made_of k) = history_length (made_of k) in
      let entries = has.entries in
      let inverses = has.inverses in
      record { entries = omega (arith, before, whole, long, made, entries); inverses = omega (arith, before, whole, long, made, inverses) }
