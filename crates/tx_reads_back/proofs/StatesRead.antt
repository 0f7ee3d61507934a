-- States are read as they are written.
use Rattle.std.proofs.Common.{◌≡◌, ◌∙◌, ◌<◌, ◌≤◌, ◌+◌, ◌^◌, ℕ, zero, suc, Bool, true, false, cond, List, [], ◌∷◌, ◌++◌, Option, Some, None, add-one, ap, arith, codes, inl, inr, map, refl, subst, sym}
use Rattle.std.proofs.lemmas.Bool.{both_ways, cases_lt, ltb-true}
use Rattle.std.proofs.lemmas.Bool.Decides.{eqb_tells}
use Rattle.std.proofs.lemmas.List.{append-nil}
use Rattle.std.proofs.lemmas.List.Elements.{All-cons, All-head, All-nil, All-tail}
use Rattle.std.specs.Int.{w64}
use Rattle.std.specs.List.{All}
use Rattle.std.specs.Prelude.{FitsSigned, is_some, unwrap_or}
use Rattle.hex.specs.Hex.{IsBytes}
use Rattle.json.specs.Token.{Token}
use Rattle.tx_base.specs.declared.limits.TheConstants.{DESCRIPTIONS, PIPES}
use Rattle.tx_base.specs.declared.marks.Mark.{Mark}
use Rattle.tx_reads_back.specs.StateTexts.{unsigned, HasSentWord, IsOfKernel}
use Rattle.tx_laws.specs.WellFormed.{IsHeldSending}
use Rattle.tx_model.specs.Answer.{is_running}
use Rattle.tx_model.specs.Membership.{is_of}
use Rattle.tx_model.specs.State.{is_between, Description, Process, ReadSide, Sending, State, WriteSide}
use Rattle.tx_model.specs.View.{View, present}
use Rattle.tx_state_text.specs.Txns.{is_listed_in}
use Rattle.tx_json.specs.Descriptors.{desc_item, descs_member, pipe_item, pipes_member}
use Rattle.tx_json.specs.Each.{each_tokens}
use Rattle.tx_json.specs.Lists.{count_item}
use Rattle.tx_json.specs.Members.{begin_object, count_member, end_object, flag_member, list_member, number_member, word_member}
use Rattle.tx_json.specs.Processes.{process_item, procs_member}
use Rattle.tx_json.specs.Answers.{state_answer, state_key}
use Rattle.tx_json.specs.State.{parts_tokens, state_tokens}
use Rattle.tx_json.specs.Txns.{held_item, mark_item, members_list, txn_item, txns_member}
use Rattle.tx_reads_back.proofs.Gathered.{all_numbered, found_nowhere, found_there, gathered_good, gathered_written, listed_read, or_nothing}
use Rattle.tx_reads_back.proofs.Lists.{known_small}
use Rattle.tx_reads_back.proofs.MembersRead.{count_in_read, ends_with, flag_in_read, goes_on, list_read, object_read, IsItem}
use Rattle.tx_reads_back.proofs.NumbersRead.{bytes_read, count_read, number_read}
use Rattle.tx_reads_back.proofs.ProcessesRead.{process_is_item, IsKernelProcess}
use Rattle.tx_reads_back.proofs.SignalsRead.{count_is_item, IsCount}
use Rattle.tx_reads_back.specs.ReadProcesses.{found_at, process_members}
use Rattle.tx_reads_back.specs.ReadStates.{desc_members, held_members, lists_in, parts_in, pipe_members, place_members, state_members, txn_members, JsonState, JsonTxn}
use Rattle.tx_reads_back.specs.Reading.{bytes_in, count_at, count_in, flag_in, list_in, number_at, number_in, object_by, word_in}
use Rattle.tx_reads_back.specs.JsonStates.{members_of, state_in_json, txn_of, txn_in_json}

-- ---- descriptions and pipes

abbrev IsDesc : ℕ × Description → Type 0
IsDesc one = (one.0 < 2 ^ 64) × (one.1.pipe < 2 ^ 64)

desc_read : (number pipe : ℕ) (side : _) (nonblock : Bool) (rest : List Token) → number < 2 ^ 64 → pipe < 2 ^ 64
    → object_by desc_members (desc_item number (Some (record { pipe = pipe; side = side; nonblock = nonblock })) ++ rest) ≡ Some ((number, record { pipe = pipe; side = side; nonblock = nonblock }), rest)
unfolding begin_object count_at count_in count_member desc_members end_object flag_in flag_member object_by word_in word_member
desc_read number pipe ReadSide nonblock rest number_small pipe_small = rw (count_read number number_small, count_read pipe pipe_small) refl
desc_read number pipe WriteSide nonblock rest number_small pipe_small = rw (count_read number number_small, count_read pipe pipe_small) refl

desc_is_item : IsItem (object_by desc_members) (λ one. desc_item one.0 (Some one.1)) IsDesc
unfolding begin_object
desc_is_item = record {
  reads = λ one rest good. desc_read one.0 one.1.pipe one.1.side one.1.nonblock rest good.0 good.1;
  begins = λ one rest good. refl;
  some = λ one good. omega arith;
}

one_desc : (n : ℕ) (desc : Option Description) → desc_item n desc ≡ or_nothing (object_by desc_members) (λ n desc. desc_item n (Some desc)) IsDesc desc_is_item n desc
one_desc n desc = grind arith

abbrev IsPipe : ℕ × List ℕ → Type 0
IsPipe one = (one.0 < 2 ^ 64) × IsBytes one.1

pipe_is_item : IsItem (object_by pipe_members) (λ one. pipe_item one.0 (Some one.1)) IsPipe
unfolding begin_object bytes_in count_at count_in count_member end_object object_by pipe_members word_in word_member
pipe_is_item = record {
  reads = λ one rest good. rw (count_read one.0 good.0, bytes_read one.1 good.1) refl;
  begins = λ one rest good. refl;
  some = λ one good. omega arith;
}

one_pipe : (n : ℕ) (bytes : Option (List ℕ)) → pipe_item n bytes ≡ or_nothing (object_by pipe_members) (λ n bytes. pipe_item n (Some bytes)) IsPipe pipe_is_item n bytes
one_pipe n bytes = grind arith

one_process : (n : ℕ) (q : Option Process) → process_item n q ≡ or_nothing (object_by process_members) (λ n q. process_item n (Some q)) IsKernelProcess process_is_item n q
one_process n q = grind arith

-- ---- live transactions

pub record IsSend (m : Sending) : Type 0 where
  pub target : m.target < 2 ^ 64
  pub signo : m.signo < 2 ^ 64
  pub value : FitsSigned w64 m.value
  pub from : m.from ≡ None

held_read : (m : Sending) (rest : List Token) → IsSend m → object_by held_members (held_item m ++ rest) ≡ Some (m, rest)
unfolding begin_object count_at count_in count_member end_object held_members number_at number_in number_member object_by
held_read m rest good =
    rw (count_read m.target good.target, count_read m.signo good.signo, number_read m.value good.value)
    (ap (λ from. Some (record { target = m.target; signo = m.signo; value = m.value; from = from }, rest)) (sym good.from))

held_is_item : IsItem (object_by held_members) held_item IsSend
unfolding begin_object
held_is_item = record {
  reads = held_read;
  begins = λ m rest good. refl;
  some = λ m good. omega arith;
}

-- a transaction, as JSON has it
abbrev pub written_lists : JsonTxn → List Token
written_lists txn =
    list_member (codes "open") (each_tokens count_item txn.open_parts)
    ++ (list_member (codes "ended") (each_tokens count_item txn.ended_parts) ++ list_member (codes "held") (each_tokens held_item txn.held))

abbrev pub written_txn : ℕ → JsonTxn → List Token
written_txn starter txn =
    begin_object
    ++ (count_member (codes "txn") starter
    ++ (flag_member (codes "defers") txn.defers ++ (written_lists txn ++ end_object)))

pub record IsTxn (one : ℕ × JsonTxn) : Type 0 where
  pub starter : one.0 < 2 ^ 64
  pub open_parts : All IsCount one.1.open_parts
  pub ended_parts : All IsCount one.1.ended_parts
  pub held : All IsSend one.1.held

lists_read : (txn : JsonTxn) (rest : List Token) → All IsCount txn.open_parts → All IsCount txn.ended_parts → All IsSend txn.held → lists_in txn.defers (written_lists txn ++ rest) ≡ Some (txn, rest)
unfolding lists_in
lists_read txn rest open_good ended_good held_good =
    goes_on (list_in (codes "open") count_at) _ (list_member (codes "open") (each_tokens count_item txn.open_parts)) txn.open_parts
    (λ r. list_read count_at count_item IsCount count_is_item (codes "open") txn.open_parts r open_good) _ rest
    ∙ goes_on (list_in (codes "ended") count_at) _ (list_member (codes "ended") (each_tokens count_item txn.ended_parts)) txn.ended_parts
    (λ r. list_read count_at count_item IsCount count_is_item (codes "ended") txn.ended_parts r ended_good) _ rest
    ∙ ends_with (list_in (codes "held") (object_by held_members)) _ (list_member (codes "held") (each_tokens held_item txn.held)) txn.held
    (λ r. list_read (object_by held_members) held_item IsSend held_is_item (codes "held") txn.held r held_good) rest

txn_read : (one : ℕ × JsonTxn) (rest : List Token) → IsTxn one → object_by txn_members (written_txn one.0 one.1 ++ rest) ≡ Some (one, rest)
unfolding txn_members
txn_read one rest good =
    let txn = one.1 in
    object_read txn_members _ rest one
    (goes_on (count_in (codes "txn")) _ (count_member (codes "txn") one.0) one.0 (λ r. count_in_read (codes "txn") one.0 r good.starter) _ rest
    ∙ goes_on (flag_in (codes "defers")) _ (flag_member (codes "defers") txn.defers) txn.defers (λ r. flag_in_read (codes "defers") txn.defers r) _ rest
    ∙ goes_on (lists_in txn.defers) _ (written_lists txn) txn (λ r. lists_read txn r good.open_parts good.ended_parts good.held) _ rest)

pub txn_is_item : IsItem (object_by txn_members) (λ one. written_txn one.0 one.1) IsTxn
unfolding begin_object
txn_is_item = record {
  reads = txn_read;
  begins = λ one rest good. refl;
  some = λ one good. omega arith;
}

-- ---- what JSON has of a transaction

one_member : (is : Bool) (n : ℕ) → cond is (count_item n) [] ≡ each_tokens count_item (cond is (n ∷ []) [])
unfolding count_item
one_member is n = grind arith

-- who sent what is held is not written
held_unsigned : (sendings : List Sending) → each_tokens held_item sendings ≡ each_tokens held_item (map unsigned sendings)
held_unsigned [] = refl
held_unsigned (m ∷ sendings) = ap (λ (t : List Token). held_item m ++ t) (held_unsigned sendings)

module _ (width : ℕ) (marks : ℕ → Option Mark) where
  members_written : (name : List ℕ) (starter : ℕ) (ended : Bool) → members_list name width marks starter ended ≡ list_member name (each_tokens count_item (members_of width marks starter ended))
  members_written name starter ended = grind (arith, gathered_written, one_member)

  txn_written : (starter : ℕ) (defers : Bool) (sendings : List Sending) → txn_item width marks starter defers sendings ≡ written_txn starter (txn_of width marks starter defers sendings)
  txn_written starter defers sendings = grind (arith, held_unsigned, members_written)

  pub mark_written : (starter : ℕ) (sendings : List Sending) (mark : Option Mark)
      → mark_item width marks starter sendings mark ≡ or_nothing (object_by txn_members) written_txn IsTxn txn_is_item starter (txn_in_json width marks starter sendings mark)
  mark_written starter sendings mark = grind (arith, or_nothing, txn_is_item, txn_written)

  members_small : (starter : ℕ) (ended : Bool) → width ≤ 256 → All IsCount (members_of width marks starter ended)
  members_small starter ended wide = gathered_good IsCount _ width (λ done below. by done below (is_listed_in (marks (done + 1)) starter ended))
    where
      by : (done : ℕ) → done < width → (is : Bool) → All IsCount (cond is ((done + 1) ∷ []) [])
      by done below true = All-cons IsCount (done + 1) [] (omega (arith, below, wide)) (All-nil IsCount)
      by done below false = All-nil IsCount

-- ---- a state of the kernel

-- the numbers of the kernel's processes
between_above : (width n : ℕ) → is_between width n ≡ true → (1 ≤ n) × (n ≤ width)
between_above width n is = grind (arith, both_ways, ltb-true)

-- nothing is where nothing may be
none_unless : {A : Type 0} (x : Option A) → ((found : A) → x ≡ Some found → ⊥) → x ≡ None
none_unless x other = grind arith

pub is_some_of : {A : Type 0} (x : Option A) → is_some x ≡ true → (found : A) × (x ≡ Some found)
is_some_of x is = grind (arith, both_ways)

is_there : {A : Type 0} → Option A → Type 0
is_there None = ⊥
is_there (Some found) = Unit {0}

none_is_some : {A : Type 0} {x : A} → None ≡ Some x → ⊥
unfolding is_there
none_is_some is = subst is_there (sym is) tt

some_same : {A : Type 0} {x y : A} → Some x ≡ Some y → x ≡ y
some_same {x = x} is = ap (λ found. unwrap_or found x) is

runs_there : (q : Option Process) → is_running q ≡ true → (found : Process) × (q ≡ Some found)
runs_there q is = grind (arith, both_ways)

plus_one : (n : ℕ) → n + 1 ≡ suc n
plus_one n = add-one n

apart : (i j : ℕ) → i + 1 ≡ j + 1 → i ≡ j
apart i j same = omega (arith, same)

parent_in : Option Process → ℕ
parent_in None = 0
parent_in (Some q) = q.parent

module _ (V : View) (kernel : IsOfKernel V) where
  abbrev S : State
  S = present V

  wide : S.width ≤ 256
  wide = kernel.typed.width

  place_of : (n : ℕ) (q : Process) → S.procs n ≡ Some q → (1 ≤ n) × (n ≤ S.width)
  place_of n q is = between_above S.width n (kernel.formed.placed n q is).number

  parent_small : (n : ℕ) (q : Process) → S.procs n ≡ Some q → q.parent ≤ 256
  unfolding parent_in
  parent_small n q is = elim (eqb_tells n 1) [
    | inl first ↦ grind (arith, kernel.formed.first)
    | inr other ↦ grind (arith, runs_there, place_of, (kernel.formed.placed n q is).parent other.1, wide)
  ]

  pub good_process : (n : ℕ) (q : Process) → S.procs n ≡ Some q → IsKernelProcess (n, q)
  good_process n q is =
      let inside = (place_of n q is).1 in
      let parent = parent_small n q is in
      record {
        number = omega (arith, inside, wide);
        parent = omega (arith, parent);
        sizes = (kernel.formed.placed n q is).sizes;
        limits = kernel.formed.limits n q is;
        types = kernel.typed.procs n q is;
      }

  good_send : (s : ℕ) → All IsSend (map unsigned (S.held s))
  good_send s = unsigned_good (S.held s) (kernel.formed.held s) (kernel.typed.held s)
    where
      unsigned_good : (sendings : List Sending) → All (IsHeldSending S.width) sendings → All HasSentWord sendings → All IsSend (map unsigned sendings)
      unsigned_good [] known words = All-nil IsSend
      unsigned_good (m ∷ sendings) known words =
          let first = All-head (IsHeldSending S.width) m sendings known in
          let inside = (between_above S.width m.target first.target).1 in
          let small = known_small m.signo first.known in
          All-cons IsSend (unsigned m) (map unsigned sendings)
          (record { target = omega (arith, inside, wide); signo = omega (arith, small); value = All-head HasSentWord m sendings words; from = refl })
          (unsigned_good sendings (All-tail (IsHeldSending S.width) m sendings known) (All-tail HasSentWord m sendings words))

  abbrev pub txn_at : ℕ → Option JsonTxn
  txn_at starter = txn_in_json V.table.width V.table.marks starter (S.held starter) (V.table.marks starter)

  -- what JSON has of a transaction is of one that is live
  txn_of_live : (starter : ℕ) (mark : Option Mark) (txn : JsonTxn) → txn_in_json V.table.width V.table.marks starter (S.held starter) mark ≡ Some txn
      → (is_of starter mark ≡ true) × ((defers : Bool) × (txn_of V.table.width V.table.marks starter defers (S.held starter) ≡ txn))
  txn_of_live starter mark txn is = grind (arith, none_is_some, some_same)

  pub good_txn : (starter : ℕ) (txn : JsonTxn) → txn_at starter ≡ Some txn → IsTxn (starter, txn)
  good_txn starter txn is = grind (arith, between_above, good_send, members_small, txn_of_live, wide)

  -- ---- the lists of a state

  abbrev procs_there : List (ℕ × Process)
  procs_there = all_numbered (λ n. n + 1) S.procs S.width

  abbrev descs_there : List (ℕ × Description)
  descs_there = all_numbered (λ n. n) S.descs DESCRIPTIONS

  abbrev pipes_there : List (ℕ × List ℕ)
  pipes_there = all_numbered (λ n. n) S.pipes PIPES

  abbrev txns_there : List (ℕ × JsonTxn)
  txns_there = all_numbered (λ n. n + 1) txn_at V.table.width

  procs_read : (rest : List Token) → list_in (codes "procs") (object_by process_members) (procs_member S.width S.procs ++ rest) ≡ Some (procs_there, rest)
  procs_read rest =
      listed_read (object_by process_members) (λ n q. process_item n (Some q)) IsKernelProcess process_is_item (codes "procs") (λ n. n + 1) S.procs S.width
      (λ done. process_item (done + 1) (S.procs (done + 1))) rest (λ n. one_process (n + 1) (S.procs (n + 1))) (λ n q below is. good_process (n + 1) q is)

  descs_read : (rest : List Token) → list_in (codes "descs") (object_by desc_members) (descs_member S.descs ++ rest) ≡ Some (descs_there, rest)
  descs_read rest =
      listed_read (object_by desc_members) (λ n desc. desc_item n (Some desc)) IsDesc desc_is_item (codes "descs") (λ n. n) S.descs DESCRIPTIONS
      (λ n. desc_item n (S.descs n)) rest (λ n. one_desc n (S.descs n))
      (λ n desc below is. (omega (arith, below), (let pipe = is_some_of (S.pipes desc.pipe) (kernel.formed.named n desc is).2 in let small = (kernel.formed.pipes desc.pipe pipe.0 pipe.1).1 in omega (arith, small))))

  pipes_read : (rest : List Token) → list_in (codes "pipes") (object_by pipe_members) (pipes_member S.pipes ++ rest) ≡ Some (pipes_there, rest)
  pipes_read rest =
      listed_read (object_by pipe_members) (λ n bytes. pipe_item n (Some bytes)) IsPipe pipe_is_item (codes "pipes") (λ n. n) S.pipes PIPES
      (λ n. pipe_item n (S.pipes n)) rest (λ n. one_pipe n (S.pipes n)) (λ n bytes below is. (omega (arith, below), kernel.typed.pipes n bytes is))

  txns_read : (rest : List Token) → list_in (codes "txns") (object_by txn_members) (txns_member V.table.width V.table.marks S.held ++ rest) ≡ Some (txns_there, rest)
  txns_read rest =
      listed_read (object_by txn_members) written_txn IsTxn txn_is_item (codes "txns") (λ n. n + 1) txn_at V.table.width
      (λ done. mark_item V.table.width V.table.marks (done + 1) (S.held (done + 1)) (V.table.marks (done + 1))) rest
      (λ n. mark_written V.table.width V.table.marks (n + 1) (S.held (n + 1)) (V.table.marks (n + 1))) (λ n txn below is. good_txn (n + 1) txn is)

  -- ---- what is at each number

  from_one : {A : Type 0} (at : ℕ → Option A) (width : ℕ) → ((n : ℕ) (x : A) → at n ≡ Some x → (1 ≤ n) × (n ≤ width)) → (n : ℕ) → found_at (all_numbered (λ n. n + 1) at width) n ≡ at n
  from_one at width inside zero =
      found_nowhere (λ n. n + 1) at width zero (λ i below same. absurd (omega (arith, same))) ∙ sym (none_unless (at zero) (λ x is. let low = (inside zero x is).0 in absurd (omega (arith, low))))
  from_one at width inside (suc n) = elim (cases_lt n width) [
    | inl below ↦ subst (λ (m : ℕ). found_at (all_numbered (λ n. n + 1) at width) m ≡ at m) (plus_one n) (found_there (λ n. n + 1) at apart width n below)
    | inr above ↦ found_nowhere (λ n. n + 1) at width (suc n) (λ i below same. absurd (omega (arith, same, below, above)))
        ∙ sym (none_unless (at (suc n)) (λ x is. let high = (inside (suc n) x is).1 in absurd (omega (arith, high, above))))
  ]

  from_zero : {A : Type 0} (at : ℕ → Option A) (limit : ℕ) → ((n : ℕ) (x : A) → at n ≡ Some x → n < limit) → (n : ℕ) → found_at (all_numbered (λ n. n) at limit) n ≡ at n
  from_zero at limit inside n = elim (cases_lt n limit) [
    | inl below ↦ found_there (λ n. n) at (λ i j same. same) limit n below
    | inr above ↦ found_nowhere (λ n. n) at limit n (λ i below same. absurd (omega (arith, same, below, above)))
        ∙ sym (none_unless (at n) (λ x is. let low = inside n x is in absurd (omega (arith, low, above))))
  ]

  read_same : record { procs = found_at procs_there; descs = found_at descs_there; pipes = found_at pipes_there; txns = found_at txns_there } ≡ state_in_json V
  read_same = λ i. record {
    procs = λ n. from_one S.procs S.width place_of n i;
    descs = λ n. from_zero S.descs DESCRIPTIONS (λ n desc is. (kernel.formed.named n desc is).1) n i;
    pipes = λ n. from_zero S.pipes PIPES (λ n bytes is. (kernel.formed.pipes n bytes is).1) n i;
    txns = λ n. from_one txn_at V.table.width (λ n txn is. between_above V.table.width n (kernel.members n n (txn_of_live n (V.table.marks n) txn is).0)) n i;
  }

  parts_read : (rest : List Token) → parts_in (parts_tokens S.width S ++ rest) ≡ Some ((procs_there, descs_there, pipes_there), rest)
  unfolding parts_in
  parts_read rest =
      goes_on (list_in (codes "procs") (object_by process_members)) _ (procs_member S.width S.procs) procs_there procs_read _ rest
      ∙ goes_on (list_in (codes "descs") (object_by desc_members)) _ (descs_member S.descs) descs_there descs_read _ rest
      ∙ ends_with (list_in (codes "pipes") (object_by pipe_members)) _ (pipes_member S.pipes) pipes_there pipes_read rest

  -- the object of a state
  pub state_read : (rest : List Token) → object_by state_members (state_tokens V ++ rest) ≡ Some (state_in_json V, rest)
  unfolding state_members
  state_read rest =
      object_read state_members _ rest (state_in_json V)
      (goes_on parts_in _ (parts_tokens S.width S) (procs_there, descs_there, pipes_there) parts_read _ rest
      ∙ goes_on (list_in (codes "txns") (object_by txn_members)) _ (txns_member V.table.width V.table.marks S.held) txns_there txns_read _ rest
      ∙ ap (λ (found : JsonState). Some (found, end_object ++ rest)) read_same)

  -- and the position before it
  pub place_read : (at : ℕ) → at < 2 ^ 64 → object_by place_members (state_answer at V) ≡ Some ((at, state_in_json V), [])
  unfolding place_members state_key
  place_read at small =
      ap (object_by place_members) (sym (append-nil (state_answer at V)))
      ∙ object_read place_members _ [] (at, state_in_json V)
      (goes_on (count_in (codes "at")) _ (count_member (codes "at") at) at (λ r. count_in_read (codes "at") at r small) _ []
      ∙ goes_on (object_by state_members) _ (state_tokens V) (state_in_json V) state_read _ [])
