-- The signals of a process in a text.
use Rattle.std.proofs.Common.{◌≡◌, ℕ, ◌<◌, ◌≤◌, true, ◌==◌, List, [], ◌∷◌, ◌++◌, codes, Option, Some, None, drop, get_or, length, refl, sym, ap, ◌∙◌, arith, append_assoc, eqb-true}
use Rattle.std.specs.Prelude.{All}
use Rattle.std.specs.Fmt.{decimal, signed_decimal}
use Rattle.std.proofs.lemmas.Bool.{or_left, or_right}
use Rattle.tx_base.specs.Signals.{bits_of}
use Rattle.tx_base.specs.declared.limits.TheConstants.{SIGNALS}
use Rattle.tx_base.specs.declared.signals.Action.{Action}
use Rattle.tx_base.specs.declared.signals.Action.TheVariants.{Usual, Ignore, Catch}
use Rattle.tx_model.specs.SignalSets.{is_one_of, is_realtime, standard_signals}
use Rattle.tx_model.specs.State.{Frame, Process, Queued}
use Rattle.tx_laws.specs.WellFormed.{HasActionLimits, HasFrameLimits, HasLimits, HasSizes, IsRealtimeEntry}
use Rattle.tx_lines.specs.Sets.{bits_text, set_text}
use Rattle.tx_state_text.specs.Each.{each_text}
use Rattle.tx_state_text.specs.Registers.{slots_end}
use Rattle.tx_state_text.specs.Signals.{action_line, actions_text, entry_text, frame_text, frames_text, queued_line, set_line, signals_text}
use Rattle.tx_reads_back.specs.StateTexts.{HasEntryWord, HasFrameWords, HasTypes}
use Rattle.tx_reads_back.proofs.Fronts.{in_number, number_unique, other_byte, regroup, signed_unique, Stops}
use Rattle.tx_reads_back.proofs.Items.{all_unique, AreItems, items_follow, optional_rank, optional_unique, rank_front}
use Rattle.tx_reads_back.proofs.Lists.{IsKnownSet, known_small, set_unique}
use Rattle.tx_reads_back.proofs.Lines.{AreLines, list_rank, list_unique}
use Rattle.tx_reads_back.proofs.Numbered.{numbered, Determines}
use Rattle.tx_reads_back.proofs.Ranks.{rank}
use Rattle.tx_reads_back.proofs.Registers.{end_stops, EndsLine, slots_end_unique, slots_stop}

-- a line of a set, where the set is not empty
module _ (k : ℕ) (word : List ℕ) (ranked : (t : List ℕ) → rank (word ++ t) ≡ k) (cut : (s t : List ℕ) → word ++ s ≡ word ++ t → s ≡ t) where
  line_rank : (set : ℕ) (t : List ℕ) → rank ((word ++ (bits_text set ++ 10 ∷ [])) ++ t) ≡ k
  line_rank set t = ap rank (append_assoc word (bits_text set ++ 10 ∷ []) t) ∙ ranked ((bits_text set ++ 10 ∷ []) ++ t)

  pub set_line_unique : (set other : ℕ) (R S : List ℕ) → IsKnownSet set → IsKnownSet other → k < rank R → k < rank S → set_line word set ++ R ≡ set_line word other ++ S → (set ≡ other) × (R ≡ S)
  set_line_unique set other R S known known' r s e =
      let a : List ℕ = bits_text set ++ 10 ∷ [] in
      let b : List ℕ = bits_text other ++ 10 ∷ [] in
      optional_unique k (set ≡ other) (set == 0) (other == 0) (word ++ a) (word ++ b) R S (line_rank set) (line_rank other) r s
      (λ none none'. eqb-true set 0 none ∙ sym (eqb-true other 0 none'))
      (λ some some' same.
      let line : a ++ R ≡ b ++ S = cut (a ++ R) (b ++ S) (sym (append_assoc word a R) ∙ same ∙ append_assoc word b S) in
      let unique = set_unique set other (10 ∷ R) (10 ∷ S) known known' refl refl (regroup (bits_text set) (10 ∷ []) R (bits_text other) (10 ∷ []) S line) in
      (unique.0, ap (drop 1) unique.1)) e

  pub set_line_rank : (set : ℕ) (R : List ℕ) → k ≤ rank R → k ≤ rank (set_line word set ++ R)
  set_line_rank set R r = optional_rank k (set == 0) (word ++ (bits_text set ++ 10 ∷ [])) R (line_rank set) r

action_rest : Action → Option (List ℕ)
action_rest Usual = None
action_rest Ignore = Some (codes "ignore\n")
action_rest (Catch point mask) = Some (codes "catch " ++ (decimal point ++ 32 ∷ (set_text mask ++ 10 ∷ [])))

action_numbered : (signo : ℕ) (x : Action) → action_line signo x ≡ numbered (codes "action ") 32 signo (action_rest x)
unfolding action_rest
action_numbered signo x = grind arith

action_unique : (x y : Action) (R S : List ℕ) → HasActionLimits x → HasActionLimits y → Determines (action_rest x) (action_rest y) R S (x ≡ y)
unfolding action_rest
action_unique Usual Usual R S in_x in_y = refl
action_unique Usual Ignore R S in_x in_y = tt
action_unique Usual (Catch n b) R S in_x in_y = tt
action_unique Ignore Usual R S in_x in_y = tt
action_unique Ignore Ignore R S in_x in_y = λ e. (refl, ap (drop 7) e)
action_unique Ignore (Catch n b) R S in_x in_y = λ e. absurd (other_byte 0 e refl)
action_unique (Catch m a) Usual R S in_x in_y = tt
action_unique (Catch m a) Ignore R S in_x in_y = λ e. absurd (other_byte 0 e refl)
action_unique (Catch m a) (Catch n b) R S in_x in_y = λ e.
    (let a_end : List ℕ = set_text a ++ 10 ∷ [] in
    let b_end : List ℕ = set_text b ++ 10 ∷ [] in
    let point = number_unique m n (32 ∷ (a_end ++ R)) (32 ∷ (b_end ++ S)) (omega (arith, in_x.point)) (omega (arith, in_y.point)) refl refl
    (regroup (decimal m) (32 ∷ a_end) R (decimal n) (32 ∷ b_end) S (ap (drop 6) e)) in
    let mask = set_unique (bits_of a) (bits_of b) (10 ∷ R) (10 ∷ S) in_x.mask.known in_y.mask.known refl refl
    (regroup (set_text a) (10 ∷ []) R (set_text b) (10 ∷ []) S (ap (drop 1) point.1)) in
    ((λ j. Catch (point.0 j) (record { 0 = mask.0 j })), ap (drop 1) mask.1))

action_lines : AreLines 6 (codes "action ") action_line action_rest (λ x. x) HasActionLimits
action_lines = record { ranked = λ t. refl; spelled = action_numbered; unique = λ x y R S in_x in_y r s. action_unique x y R S in_x in_y }

-- an entry of the queue is a known signal with a number of 64 bits
IsGoodEntry : Queued → Type 0
IsGoodEntry entry = IsRealtimeEntry entry × HasEntryWord entry

entries_are : AreItems entry_text (λ x. x) IsGoodEntry (Stops in_number) EndsLine
unfolding IsGoodEntry
entries_are = record {
  unique = λ x y R S in_x in_y r s e.
      (let small : (z : Queued) → IsRealtimeEntry z → z.signo < 40 = λ z is. known_small z.signo (or_right (is_one_of standard_signals z.signo) (is_realtime z.signo) is) in
      let x_small : x.signo < 40 = small x in_x.0 in
      let y_small : y.signo < 40 = small y in_y.0 in
      let signo = number_unique x.signo y.signo (58 ∷ (signed_decimal x.value ++ R)) (58 ∷ (signed_decimal y.value ++ S)) (omega arith) (omega arith) refl refl
      (regroup (decimal x.signo) (58 ∷ signed_decimal x.value) R (decimal y.signo) (58 ∷ signed_decimal y.value) S (ap (drop 1) e)) in
      let value = signed_unique x.value y.value R S in_x.1 in_y.1 r s (ap (drop 1) signo.1) in
      ((λ j. record { signo = signo.0 j; value = value.0 j }), value.1));
  follows = λ x R. refl;
  ends = end_stops;
  no_end = λ x R S end e. let first : 32 ≡ get_or S 0 0 = ap (λ (t : List ℕ). get_or t 0 0) e in omega arith;
}

queued_unique : (xs ys : List Queued) (R S : List ℕ) → All IsRealtimeEntry xs → All IsRealtimeEntry ys → All HasEntryWord xs → All HasEntryWord ys → 8 < rank R → 8 < rank S →
    queued_line xs ++ R ≡ queued_line ys ++ S → (xs ≡ ys) × (R ≡ S)
unfolding IsGoodEntry
queued_unique xs ys R S x_known y_known x_word y_word r s e =
    let a : List ℕ = each_text entry_text xs ++ 10 ∷ [] in
    let b : List ℕ = each_text entry_text ys ++ 10 ∷ [] in
    optional_unique 8 (xs ≡ ys) (length xs == 0) (length ys == 0) (codes "queued" ++ a) (codes "queued" ++ b) R S (λ t. refl) (λ t. refl) r s
    (λ none none'. empty xs none ∙ sym (empty ys none'))
    (λ some some' same.
    let unique = all_unique entries_are xs ys (10 ∷ R) (10 ∷ S)
    (λ i d below. (x_known i d below, x_word i d below)) (λ i d below. (y_known i d below, y_word i d below)) refl refl
    (regroup (each_text entry_text xs) (10 ∷ []) R (each_text entry_text ys) (10 ∷ []) S (ap (drop 6) same)) in
    (unique.0, ap (drop 1) unique.1)) e
  where
    empty : (zs : List Queued) → (length zs == 0) ≡ true → zs ≡ []
    empty [] none = refl
    empty (z ∷ zs) none = let count : length (z ∷ zs) ≡ 0 = eqb-true (length (z ∷ zs)) 0 none in absurd (omega arith)

-- what a caught signal saved is within its limits
IsGoodFrame : Frame → Type 0
IsGoodFrame frame = HasFrameLimits frame × HasFrameWords frame

frame_unique : (x y : Frame) (R S : List ℕ) → HasFrameLimits x → HasFrameLimits y → HasFrameWords x → HasFrameWords y → frame_text x ++ R ≡ frame_text y ++ S → (x ≡ y) × (R ≡ S)
frame_unique x y R S x_limits y_limits x_words y_words e =
    let a_end : List ℕ = bits_text x.mask ++ slots_end x.registers.slots in
    let b_end : List ℕ = bits_text y.mask ++ slots_end y.registers.slots in
    let point = number_unique x.registers.point y.registers.point (32 ∷ ((signed_decimal x.registers.ret ++ 32 ∷ a_end) ++ R)) (32 ∷ ((signed_decimal y.registers.ret ++ 32 ∷ b_end) ++ S))
    (omega (arith, x_limits.point)) (omega (arith, y_limits.point)) refl refl
    (regroup (decimal x.registers.point) (32 ∷ (signed_decimal x.registers.ret ++ 32 ∷ a_end)) R (decimal y.registers.point) (32 ∷ (signed_decimal y.registers.ret ++ 32 ∷ b_end)) S (ap (drop 6) e)) in
    let ret = signed_unique x.registers.ret y.registers.ret (32 ∷ (a_end ++ R)) (32 ∷ (b_end ++ S)) x_words.ret y_words.ret refl refl
    (regroup (signed_decimal x.registers.ret) (32 ∷ a_end) R (signed_decimal y.registers.ret) (32 ∷ b_end) S (ap (drop 1) point.1)) in
    let mask = set_unique x.mask y.mask (slots_end x.registers.slots ++ R) (slots_end y.registers.slots ++ S) x_limits.mask.known y_limits.mask.known
    (slots_stop x.registers.slots R) (slots_stop y.registers.slots S)
    (regroup (bits_text x.mask) (slots_end x.registers.slots) R (bits_text y.mask) (slots_end y.registers.slots) S (ap (drop 1) ret.1)) in
    let slots = slots_end_unique x.registers.slots y.registers.slots R S x_words.slots y_words.slots mask.1 in
    ((λ j. record { registers = record { point = point.0 j; ret = ret.0 j; slots = slots.0 j }; mask = mask.0 j }), slots.1)

frames_are : AreItems frame_text (λ x. x) IsGoodFrame (λ t. 9 ≤ rank t) (λ t. 9 < rank t)
unfolding IsGoodFrame
frames_are = grind (arith, frame_unique, rank)

-- two processes have the same of signals
pub record HaveSameSignals (p q : Process) : Type 0 where
  pub mask : p.mask ≡ q.mask
  pub actions : p.actions ≡ q.actions
  pub pending : p.pending ≡ q.pending
  pub queued : p.queued ≡ q.queued
  pub frames : p.frames ≡ q.frames

module _ (p : Process) (R : List ℕ) (r : 9 < rank R) where
  after_queue : 8 < rank (frames_text p.frames ++ R)
  after_queue = items_follow frames_are p.frames R r

  after_pending : 7 < rank ((queued_line p.queued ++ frames_text p.frames) ++ R)
  after_pending = grind (arith, after_queue, optional_rank, rank_front)

  after_actions : 6 < rank ((set_line (codes "pending ") p.pending ++ (queued_line p.queued ++ frames_text p.frames)) ++ R)
  after_actions = grind (arith, after_pending, rank_front, set_line_rank)

  after_mask : 5 < rank ((actions_text p.actions ++ (set_line (codes "pending ") p.pending ++ (queued_line p.queued ++ frames_text p.frames))) ++ R)
  after_mask = rank_front 6 (actions_text p.actions) (set_line (codes "pending ") p.pending ++ (queued_line p.queued ++ frames_text p.frames)) R
      (list_rank action_lines SIGNALS (omega arith) Usual p.actions ((set_line (codes "pending ") p.pending ++ (queued_line p.queued ++ frames_text p.frames)) ++ R) (omega (arith, after_actions)))

  pub signals_rank : 4 < rank (signals_text p ++ R)
  signals_rank = rank_front 5 (set_line (codes "mask ") p.mask) (actions_text p.actions ++ (set_line (codes "pending ") p.pending ++ (queued_line p.queued ++ frames_text p.frames))) R
      (set_line_rank 5 (codes "mask ") (λ t. refl) (λ s t same. ap (drop 5) same) p.mask
      ((actions_text p.actions ++ (set_line (codes "pending ") p.pending ++ (queued_line p.queued ++ frames_text p.frames))) ++ R) (omega (arith, after_mask)))

pub signals_unique : (p q : Process) (R S : List ℕ) → HasSizes p → HasSizes q → HasLimits p → HasLimits q → HasTypes p → HasTypes q → 9 < rank R → 9 < rank S →
    signals_text p ++ R ≡ signals_text q ++ S → HaveSameSignals p q × (R ≡ S)
unfolding IsGoodFrame
signals_unique p q R S p_sizes q_sizes p_limits q_limits p_types q_types r s e =
    let queue : (x : Process) → List ℕ = λ x. queued_line x.queued ++ frames_text x.frames in
    let pend : (x : Process) → List ℕ = λ x. set_line (codes "pending ") x.pending ++ queue x in
    let acts : (x : Process) → List ℕ = λ x. actions_text x.actions ++ pend x in
    let mask = set_line_unique 5 (codes "mask ") (λ t. refl) (λ s t same. ap (drop 5) same) p.mask q.mask (acts p ++ R) (acts q ++ S) p_limits.mask.known q_limits.mask.known
    (after_mask p R r) (after_mask q S s) (regroup (set_line (codes "mask ") p.mask) (acts p) R (set_line (codes "mask ") q.mask) (acts q) S e) in
    let actions = list_unique action_lines SIGNALS (omega arith) Usual p.actions q.actions (pend p ++ R) (pend q ++ S) p_sizes.actions q_sizes.actions p_limits.actions q_limits.actions
    (after_actions p R r) (after_actions q S s) (regroup (actions_text p.actions) (pend p) R (actions_text q.actions) (pend q) S mask.1) in
    let pending = set_line_unique 7 (codes "pending ") (λ t. refl) (λ s t same. ap (drop 8) same) p.pending q.pending (queue p ++ R) (queue q ++ S)
    (λ signo is. or_left (is_one_of standard_signals signo) (is_realtime signo) (p_limits.pending signo is)) (λ signo is. or_left (is_one_of standard_signals signo) (is_realtime signo) (q_limits.pending signo is))
    (after_pending p R r) (after_pending q S s) (regroup (set_line (codes "pending ") p.pending) (queue p) R (set_line (codes "pending ") q.pending) (queue q) S actions.1) in
    let queued = queued_unique p.queued q.queued (frames_text p.frames ++ R) (frames_text q.frames ++ S) p_limits.queued q_limits.queued p_types.queued q_types.queued
    (after_queue p R r) (after_queue q S s) (regroup (queued_line p.queued) (frames_text p.frames) R (queued_line q.queued) (frames_text q.frames) S pending.1) in
    let frames = all_unique frames_are p.frames q.frames R S
    (λ i d below. (p_limits.frames i d below, p_types.frames i d below)) (λ i d below. (q_limits.frames i d below, q_types.frames i d below)) r s queued.1 in
    (record { mask = mask.0; actions = actions.0; pending = pending.0; queued = queued.0; frames = frames.0 }, frames.1)
