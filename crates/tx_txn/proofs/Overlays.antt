-- What leads a state back, where two states are the same but for what is pending at a starter.
use Rattle.std.proofs.Common.{◌≡◌, ℕ, Bool, true, false, List, [], ◌∷◌, Option, Some, None, if◌then◌else◌, ◌==◌, option_map, refl, sym, ap, ◌∙◌, subst, eqb-true}
use Rattle.tx_change.specs.Exchange.{object_of}
use Rattle.tx_change.specs.Laws.{AreElsewhere}
use Rattle.tx_change.specs.Pipes.{piped_in}
use Rattle.tx_change.specs.States.{changed, changed_by}
use Rattle.tx_change.specs.declared.change.Change.{Change}
use Rattle.tx_change.specs.declared.change.Change.TheVariants.{Slot, Part, Description as DescChange, Pipe as PipeChange}
use Rattle.tx_desc.specs.Descriptions.{described}
use Rattle.tx_model.specs.State.{Process, Description, State, Object, Proc, Desc, Pipe, Held, same_object}
use Rattle.tx_model.specs.StateLaws.{EqualAt}
use Rattle.tx_proc.specs.Parts.{process_in, revised}
use Rattle.tx_proc.specs.declared.proc.Part.{Part as ProcPart}
use Rattle.tx_proc.specs.declared.proc.Part.TheVariants as part
use Rattle.tx_signal.specs.Parts.{PendingView}
use Rattle.tx_txn.specs.Content.{Txn, overlay, overlay_if, with_kept, led_by, is_named}
use Rattle.tx_txn.specs.Faces.{pending_in}
use Rattle.tx_txn.specs.Steps.{AgreeBut}
use Rattle.tx_txn.proofs.Facts.{none_left}

-- a process with nothing pending
abbrev pub blank : Option Process → Option Process
blank x = overlay (pending_in None) x

pub overlay_twice : (P Q : PendingView) (x : Option Process) → overlay P (overlay Q x) ≡ overlay P x
overlay_twice P Q None = refl
overlay_twice P Q (Some q) = refl

overlay_own : (x : Option Process) → overlay (pending_in x) x ≡ x
overlay_own None = refl
overlay_own (Some q) = refl

-- where two are the same but for what is pending, they are the same with the same pending
overlay_same : (b : Bool) (P : PendingView) (x y : Option Process) → overlay_if b (pending_in None) x ≡ overlay_if b (pending_in None) y → overlay_if b P x ≡ overlay_if b P y
overlay_same false P x y h = h
overlay_same true P x y h = sym (overlay_twice P (pending_in None) x) ∙ ap (overlay P) h ∙ overlay_twice P (pending_in None) y

overlay_if_twice : (b : Bool) (P : PendingView) (x : Option Process) → overlay_if b (pending_in None) (overlay_if b P x) ≡ overlay_if b (pending_in None) x
overlay_if_twice false P x = refl
overlay_if_twice true P x = overlay_twice (pending_in None) P x

-- what is pending is no matter to an edit of another part, and goes with one of that part
part_blank : (p : ProcPart) (q : Process) → blank (Some (revised p (record q { pending = 0; queued = [] }))) ≡ blank (Some (revised p q))
part_blank (part.Answer x) q = refl
part_blank p q = refl

blank_part : (p : ProcPart) (x : Option Process) → blank (option_map (λ me. revised p me) (blank x)) ≡ blank (option_map (λ me. revised p me) x)
blank_part p None = refl
blank_part p (Some q) = part_blank p q

overlay_part : (b : Bool) (p : ProcPart) (x y : Option Process) → overlay_if b (pending_in None) x ≡ overlay_if b (pending_in None) y
    → overlay_if b (pending_in None) (option_map (λ me. revised p me) x) ≡ overlay_if b (pending_in None) (option_map (λ me. revised p me) y)
overlay_part false p x y h = ap (λ (z : Option Process). option_map (λ me. revised p me) z) h
overlay_part true p x y h = sym (blank_part p x) ∙ ap (λ (z : Option Process). blank (option_map (λ me. revised p me) z)) h ∙ blank_part p y

-- an edit at k of what stands there, in two maps that a function sees alike
edit_seen : {A B : Type 0} (see : A → B) (g : A → A) (f h : ℕ → A) (k n : ℕ) → see (f n) ≡ see (h n) → (see (f n) ≡ see (h n) → see (g (f n)) ≡ see (g (h n)))
    → see (if n == k then g (f k) else f n) ≡ see (if n == k then g (h k) else h n)
edit_seen {A} {B} see g f h k n e to = by (n == k) (λ z. eqb-true n k z)
  where
    by : (b : Bool) → (b ≡ true → n ≡ k) → see (if b then g (f k) else f n) ≡ see (if b then g (h k) else h n)
    by true z = subst (λ (m : ℕ). see (g (f m)) ≡ see (g (h m))) (z refl) (to e)
    by false z = e

-- a change that is led back in both leaves them the same
changed_but : (s : ℕ) (change : Change) (S R : State) (o : Object) → AgreeBut s S R o → AgreeBut s (changed change S) (changed change R) o
changed_but s (Slot pid slot) S R (Proc n) h = by (n == pid.0)
  where
    by : (b : Bool) → overlay_if (n == s) (pending_in None) (if b then process_in slot else S.procs n) ≡ overlay_if (n == s) (pending_in None) (if b then process_in slot else R.procs n)
    by true = refl
    by false = h
changed_but s (Slot pid slot) S R (Desc n) h = h
changed_but s (Slot pid slot) S R (Pipe n) h = h
changed_but s (Slot pid slot) S R (Held n) h = h
changed_but s (Part pid p) S R (Proc n) h =
    edit_seen (λ (x : Option Process). overlay_if (n == s) (pending_in None) x) (λ (x : Option Process). option_map (λ me. revised p me) x) S.procs R.procs pid.0 n h
    (λ e. overlay_part (n == s) p (S.procs n) (R.procs n) e)
changed_but s (Part pid p) S R (Desc n) h = h
changed_but s (Part pid p) S R (Pipe n) h = h
changed_but s (Part pid p) S R (Held n) h = h
changed_but s (DescChange number opened) S R (Proc n) h = h
changed_but s (DescChange number opened) S R (Desc n) h = ap (λ (x : Option Description). if n == number.0 then described opened else x) h
changed_but s (DescChange number opened) S R (Pipe n) h = h
changed_but s (DescChange number opened) S R (Held n) h = h
changed_but s (PipeChange number p) S R (Proc n) h = h
changed_but s (PipeChange number p) S R (Desc n) h = h
changed_but s (PipeChange number p) S R (Pipe n) h =
    edit_seen (λ (x : Option (List ℕ)). x) (λ (x : Option (List ℕ)). piped_in x p) S.pipes R.pipes number.0 n h (λ e. ap (λ (x : Option (List ℕ)). piped_in x p) e)
changed_but s (PipeChange number p) S R (Held n) h = h

pub changed_by_but : (s : ℕ) (log : List Change) (S R : State) (o : Object) → AgreeBut s S R o → AgreeBut s (changed_by log S) (changed_by log R) o
changed_by_but s [] S R o h = h
changed_by_but s (change ∷ log) S R o h = changed_by_but s log (changed change S) (changed change R) o (changed_but s change S R o h)

pub but_part : (s : ℕ) (S R : State) (o : Object) → EqualAt S R o → AgreeBut s S R o
but_part s S R (Proc n) h = ap (λ (x : Option Process). overlay_if (n == s) (pending_in None) x) h
but_part s S R (Desc n) h = h
but_part s S R (Pipe n) h = h
but_part s S R (Held n) h = ap (λ xs. if n == s then [] else xs) h

pub but_sym : (s : ℕ) (S R : State) (o : Object) → AgreeBut s S R o → AgreeBut s R S o
but_sym s S R (Proc n) h = sym h
but_sym s S R (Desc n) h = sym h
but_sym s S R (Pipe n) h = sym h
but_sym s S R (Held n) h = sym h

pub but_trans : (s : ℕ) (S R Q : State) (o : Object) → AgreeBut s S R o → AgreeBut s R Q o → AgreeBut s S Q o
but_trans s S R Q (Proc n) h k = h ∙ k
but_trans s S R Q (Desc n) h k = h ∙ k
but_trans s S R Q (Pipe n) h k = h ∙ k
but_trans s S R Q (Held n) h k = h ∙ k

-- with the same pending they are the same
pub with_kept_part : (s : ℕ) (P : PendingView) (S R : State) (o : Object) → AgreeBut s S R o → EqualAt (with_kept s P S) (with_kept s P R) o
with_kept_part s P S R (Proc n) h = overlay_same (n == s) P (S.procs n) (R.procs n) h
with_kept_part s P S R (Desc n) h = h
with_kept_part s P S R (Pipe n) h = h
with_kept_part s P S R (Held n) h = h

pub with_kept_but : (s : ℕ) (P : PendingView) (S : State) (o : Object) → AgreeBut s (with_kept s P S) S o
with_kept_but s P S (Proc n) = overlay_if_twice (n == s) P (S.procs n)
with_kept_but s P S (Desc n) = refl
with_kept_but s P S (Pipe n) = refl
with_kept_but s P S (Held n) = by (n == s)
  where
    by : (b : Bool) → (if b then [] else (if b then [] else S.held n)) ≡ (if b then [] else S.held n)
    by true = refl
    by false = refl

-- led back, they are the same
pub led_part : (s : ℕ) (t : Txn) (S R : State) (o : Object) → AgreeBut s S R o → EqualAt (led_by s (Some t) S) (led_by s (Some t) R) o
led_part s t S R o h = with_kept_part s t.pending (changed_by t.log S) (changed_by t.log R) o (changed_by_but s t.log S R o h)

-- a state that is the same but for what is pending, with the other's pending, is the same
pub with_own : (s : ℕ) (S K : State) (o : Object) → AgreeBut s S K o → ((n : ℕ) → o ≡ Held n → (n == s) ≡ true → K.held n ≡ []) → EqualAt (with_kept s (pending_in (K.procs s)) S) K o
with_own s S K (Proc n) h e = overlay_same (n == s) (pending_in (K.procs s)) (S.procs n) (K.procs n) h ∙ by (n == s) (λ z. eqb-true n s z)
  where
    by : (b : Bool) → (b ≡ true → n ≡ s) → overlay_if b (pending_in (K.procs s)) (K.procs n) ≡ K.procs n
    by true z = subst (λ (m : ℕ). overlay (pending_in (K.procs m)) (K.procs n) ≡ K.procs n) (z refl) (overlay_own (K.procs n))
    by false z = refl
with_own s S K (Desc n) h e = h
with_own s S K (Pipe n) h e = h
with_own s S K (Held n) h e = h ∙ by (n == s) (λ z. e n refl z)
  where
    by : (b : Bool) → (b ≡ true → K.held n ≡ []) → (if b then [] else K.held n) ≡ K.held n
    by true z = sym (z refl)
    by false z = refl

-- at another object than the starter and what it holds nothing is put over
pub with_kept_else : (s : ℕ) (P : PendingView) (S : State) (o : Object) → same_object o (Proc s) ≡ false → same_object o (Held s) ≡ false → EqualAt (with_kept s P S) S o
with_kept_else s P S (Proc n) h k = rw h refl
with_kept_else s P S (Desc n) h k = refl
with_kept_else s P S (Pipe n) h k = refl
with_kept_else s P S (Held n) h k = rw k refl

pub changed_by_width : (log : List Change) (S : State) → (changed_by log S).width ≡ S.width
changed_by_width [] S = refl
changed_by_width (change ∷ log) S = changed_by_width log (changed change S) ∙ one change
  where
    one : (c : Change) → (changed c S).width ≡ S.width
    one (Slot pid slot) = refl
    one (Part pid p) = refl
    one (DescChange number opened) = refl
    one (PipeChange number p) = refl

-- what is not named is elsewhere
pub unnamed : (o : Object) (log : List Change) → is_named o log ≡ false → AreElsewhere o log
unfolding is_named
unnamed o [] h = tt
unnamed o (change ∷ log) h = let k = none_left (same_object o (object_of change)) (is_named o log) h in (k.0, unnamed o log k.1)
