-- The text of a state determines the state.
use Rattle.std.proofs.Common.{◌≡◌, ℕ, zero, suc, ◌+◌, ◌<◌, ◌≤◌, ◌^◌, Bool, true, false, List, [], ◌++◌, codes, Option, Some, None, drop, map, refl, sym, ap, ◌∙◌, arith, eq-eqb, inl, inr, add-one}
use Rattle.std.specs.Prelude.{All, is_some}
use Rattle.std.proofs.lemmas.Bool.{both_ways, cases_lt}
use Rattle.std.proofs.lemmas.Bool.Decides.{eqb_tells}
use Rattle.std.proofs.lemmas.List.{append-nil}
use Rattle.tx_base.specs.declared.limits.TheConstants.{DESCRIPTIONS, PIPES, WIDE_PROCESSES}
use Rattle.tx_base.specs.declared.marks.Mark.{Mark}
use Rattle.tx_model.specs.Membership.{is_live, is_member_of, is_of}
use Rattle.tx_model.specs.State.{Description, Process, State, is_between}
use Rattle.tx_model.specs.Answer.{is_running}
use Rattle.tx_model.specs.View.{View, present}
use Rattle.tx_laws.specs.WellFormed.{IsWellFormed}
use Rattle.tx_state_text.specs.Descriptors.{descs_text, pipes_text}
use Rattle.tx_state_text.specs.Processes.{procs_text}
use Rattle.tx_state_text.specs.State.{state_text}
use Rattle.tx_state_text.specs.Txns.{is_listed_in, txns_text}
use Rattle.tx_reads_back.specs.StateTexts.{IsOfKernel, IsTyped, shown, standing, TextsDetermineStates, unsigned}
use Rattle.tx_reads_back.proofs.Descriptors.{descs_rank, descs_unique, HoldsBytes, IsOfPipe, pipes_rank, pipes_unique}
use Rattle.tx_reads_back.proofs.Processes.{IsPrintableAt, procs_unique}
use Rattle.tx_reads_back.proofs.Ranks.{rank}
use Rattle.tx_reads_back.proofs.Gathered.{each_there}
use Rattle.tx_reads_back.proofs.Lists.{known_small}
use Rattle.tx_reads_back.proofs.Txns.{IsPrintableSending, SameThere, SameTransaction, txns_rank, txns_unique}
use borrow.Author.Tests.{ltb-true}

-- a number from 1 to a limit
in_range : (limit n : ℕ) → is_between limit n ≡ true → (i : ℕ) × (i < limit) × (i + 1 ≡ n)
in_range limit zero is = absurd (both_ways false refl is)
in_range limit (suc i) is = (i, ltb-true i limit is, add-one i)

module _ (S : State) (formed : IsWellFormed S) (typed : IsTyped S) where
  runs_inside : (n : ℕ) → is_running (S.procs n) ≡ true → n ≤ S.width
  runs_inside n runs = each_there (λ x. is_running x ≡ true → n ≤ S.width) (S.procs n) (λ none. absurd (both_ways false refl none)) (λ q is some. (let at = in_range S.width n (formed.placed n q is).number in omega (arith, at.1, at.2))) runs

  parent_small : (n : ℕ) (q : Process) → S.procs n ≡ Some q → q.parent < 2 ^ 64
  parent_small n q is = elim (eqb_tells n 1) [
    | inl h ↦ grind (arith, formed.first)
    | inr h ↦ (let inside = runs_inside q.parent ((formed.placed n q is).parent h.1) in let few : S.width ≤ WIDE_PROCESSES = typed.width in omega arith)
  ]

  proc_printable : (n : ℕ) → IsPrintableAt (S.procs n)
  proc_printable n =
      each_there IsPrintableAt (S.procs n) tt (λ q is. record { parent = parent_small n q is; sizes = (formed.placed n q is).sizes; limits = formed.limits n q is; types = typed.procs n q is })

  no_proc : (n : ℕ) → (is_between S.width n ≡ true → ⊥) → S.procs n ≡ None
  no_proc n outside = each_there (λ x. x ≡ None) (S.procs n) refl (λ q is. absurd (outside (formed.placed n q is).number))

  desc_of_pipe : (d : ℕ) → IsOfPipe (S.descs d)
  desc_of_pipe d = by (S.descs d) refl
    where
      there : (k : ℕ) (x : Option (List ℕ)) → S.pipes k ≡ x → is_some x ≡ true → k < PIPES
      there k None is some = absurd (both_ways false refl some)
      there k (Some bytes) is some = (formed.pipes k bytes is).1

      by : (x : Option Description) → S.descs d ≡ x → IsOfPipe x
      by None is = tt
      by (Some x) is = let inside : x.pipe < PIPES = there x.pipe (S.pipes x.pipe) refl (formed.named d x is).2 in omega arith

  no_desc : (d : ℕ) → DESCRIPTIONS ≤ d → S.descs d ≡ None
  no_desc d outside = each_there (λ x. x ≡ None) (S.descs d) refl (λ x is. absurd (omega (arith, outside, (formed.named d x is).1)))

  pipe_bytes : (k : ℕ) → HoldsBytes (S.pipes k)
  pipe_bytes k = grind arith

  no_pipe : (k : ℕ) → PIPES ≤ k → S.pipes k ≡ None
  no_pipe k outside = each_there (λ x. x ≡ None) (S.pipes k) refl (λ bytes is. absurd (omega (arith, outside, (formed.pipes k bytes is).1)))

  sends_printable : (s : ℕ) → All IsPrintableSending (S.held s)
  sends_printable s = grind (arith, in_range, known_small)

-- whom a list names, by which transaction and list it is
listed_means : (x : Option Mark) (s : ℕ) (ended : Bool) → is_listed_in x s ended ≡ true → standing x ≡ Some (record { starter = record { 0 = s }; ended = ended; defers = false })
listed_means x s ended is = grind (arith, both_ways, eqb_tells)

is_listed : (mark : Mark) → is_listed_in (Some mark) mark.starter.0 mark.ended ≡ true
is_listed mark = grind (arith, eq-eqb)

-- a mark is where a text with the same lists has it
module _ (V W : View) (is : IsOfKernel V)
    (lists : (i : ℕ) → i < V.table.width → is_live V.table (i + 1) ≡ true → (ended : Bool) (k : ℕ) → k < V.table.width →
    is_listed_in (V.table.marks (k + 1)) (i + 1) ended ≡ is_listed_in (W.table.marks (k + 1)) (i + 1) ended) where
  stands : (p : ℕ) (mark : Mark) → V.table.marks p ≡ Some mark → standing (V.table.marks p) ≡ standing (W.table.marks p)
  stands p mark has =
      let s : ℕ = mark.starter.0 in
      let member : is_member_of V.table s p ≡ true = ap (is_of s) has ∙ eq-eqb s s refl in
      let live : is_live V.table s ≡ true = is.table.members s p member in
      let first = in_range V.table.width s (is.members s s live) in
      let own = in_range V.table.width p (is.members s p member) in
      let same = lists first.0 first.1 (ap (is_live V.table) first.2 ∙ live) mark.ended own.0 own.1 in
      let there : is_listed_in (W.table.marks p) s mark.ended ≡ true =
      sym (λ j. is_listed_in (W.table.marks (own.2 j)) (first.2 j) mark.ended) ∙ sym same ∙ (λ j. is_listed_in (V.table.marks (own.2 j)) (first.2 j) mark.ended)
      ∙ ap (λ (x : Option Mark). is_listed_in x s mark.ended) has ∙ is_listed mark in
      ap standing has ∙ sym (listed_means (W.table.marks p) s mark.ended there)

text_at : ℕ → View → List ℕ
text_at width V =
    procs_text width (present V).procs ++ (descs_text (present V).descs ++ (pipes_text (present V).pipes ++ (txns_text width V.table.marks (present V).held ++ [])))

whole : (V : View) → IsOfKernel V → state_text V ≡ codes "state\n" ++ text_at (present V).width V
unfolding text_at
whole V is = grind (arith, append-nil)

module _ (V W : View) (v : IsOfKernel V) (w : IsOfKernel W) (width : (present V).width ≡ (present W).width) where
  same_proc : ((i : ℕ) → i < (present V).width → shown ((present V).procs (i + 1)) ≡ shown ((present W).procs (i + 1))) → (n : ℕ) → shown ((present V).procs n) ≡ shown ((present W).procs n)
  same_proc same n = grind (arith, both_ways, in_range, no_proc)

  module _ (unique : (i : ℕ) → i < (present V).width → SameThere (present V).width V.table.marks W.table.marks ((present V).held (i + 1)) ((present W).held (i + 1)) (i + 1)) where
    same_live : (s : ℕ) → is_live V.table s ≡ true → SameThere (present V).width V.table.marks W.table.marks ((present V).held s) ((present W).held s) s
    same_live s live = grind (arith, in_range)

    live_back : (s : ℕ) → is_live W.table s ≡ true → is_live V.table s ≡ true
    live_back s live = grind (arith, in_range)

    same_transaction : (s : ℕ) → is_live V.table s ≡ true → SameTransaction (present V).width V.table.marks W.table.marks ((present V).held s) ((present W).held s) s
    same_transaction s live = (same_live s live).unique live

    same_standing : (p : ℕ) → standing (V.table.marks p) ≡ standing (W.table.marks p)
    same_standing p = grind (arith, live_back, same_transaction, stands)

    same_sends : (s : ℕ) → map unsigned ((present V).held s) ≡ map unsigned ((present W).held s)
    same_sends s = by (is_live V.table s) (is_live W.table s) refl refl
      where
        by : (b c : Bool) → is_live V.table s ≡ b → is_live W.table s ≡ c → map unsigned ((present V).held s) ≡ map unsigned ((present W).held s)
        by true c is is' = (same_transaction s is).sends
        by false true is is' = absurd (both_ways (is_live V.table s) is (live_back s is'))
        by false false is is' = ap (map unsigned) (v.table.others s is ∙ sym (w.table.others s is'))

pub texts_determine : TextsDetermineStates
unfolding text_at
texts_determine V W v w width e =
    let n : ℕ = (present V).width in
    let small : n < 2 ^ 16 = omega (arith, v.typed.width) in
    let text : text_at n V ≡ text_at n W = ap (drop 6) (sym (whole V v) ∙ e ∙ whole W w ∙ ap (λ (m : ℕ). codes "state\n" ++ text_at m W) (sym width)) in
    let txns : View → List ℕ = λ V. txns_text n V.table.marks (present V).held ++ [] in
    let pipes : View → List ℕ = λ V. pipes_text (present V).pipes ++ txns V in
    let descs : View → List ℕ = λ V. descs_text (present V).descs ++ pipes V in
    let after_pipes : (V : View) → 12 < rank (txns V) = λ V. (let r = txns_rank n V.table.marks (present V).held [] (omega arith) in omega arith) in
    let after_descs : (V : View) → 11 < rank (pipes V) = λ V. pipes_rank (present V).pipes (txns V) (let r = after_pipes V in omega arith) in
    let after_procs : (V : View) → 10 < rank (descs V) = λ V. descs_rank (present V).descs (pipes V) (let r = after_descs V in omega arith) in
    let processes = procs_unique n (present V).procs (present W).procs (descs V) (descs W) small (proc_printable (present V) v.formed v.typed) (proc_printable (present W) w.formed w.typed)
    (after_procs V) (after_procs W) text in
    let descriptions = descs_unique (present V).descs (present W).descs (pipes V) (pipes W) (desc_of_pipe (present V) v.formed v.typed) (desc_of_pipe (present W) w.formed w.typed)
    (after_descs V) (after_descs W) processes.1 in
    let kept = pipes_unique (present V).pipes (present W).pipes (txns V) (txns W) (pipe_bytes (present V) v.formed v.typed) (pipe_bytes (present W) w.formed w.typed)
    (after_pipes V) (after_pipes W) descriptions.1 in
    let live = txns_unique n V.table.marks W.table.marks small (present V).held (present W).held [] [] (sends_printable (present V) v.formed v.typed) (sends_printable (present W) w.formed w.typed)
    (omega arith) (omega arith) kept.1 in
    let same_desc : (d : ℕ) → (present V).descs d ≡ (present W).descs d = λ d. elim (cases_lt d DESCRIPTIONS) [
      | inl inside ↦ descriptions.0 d inside
      | inr outside ↦ no_desc (present V) v.formed v.typed d outside ∙ sym (no_desc (present W) w.formed w.typed d outside)
    ] in
    let same_pipe : (k : ℕ) → (present V).pipes k ≡ (present W).pipes k = λ k. elim (cases_lt k PIPES) [
      | inl inside ↦ kept.0 k inside
      | inr outside ↦ no_pipe (present V) v.formed v.typed k outside ∙ sym (no_pipe (present W) w.formed w.typed k outside)
    ] in
    let table_width : V.table.width ≡ W.table.width = sym v.width ∙ width ∙ w.width in
    record {
      state = λ j. record {
        width = width j;
        procs = λ n. same_proc V W v w width processes.0 n j;
        descs = λ d. same_desc d j;
        pipes = λ k. same_pipe k j;
        held = λ s. same_sends V W v w width live.0 s j;
      };
      table = λ j. record { width = table_width j; marks = λ p. same_standing V W v w width live.0 p j };
      defers = λ s on. (same_transaction V W v w width live.0 s on).defers;
    }
