-- set_nonblock, reads and writes leave a state well formed.
use Rattle.std.proofs.Common.{◌≡◌, ℕ, zero, suc, ◌+◌, ◌-◌, ◌<◌, ◌≤◌, Bool, true, false, List, [], ◌∷◌, ◌++◌, length, ℤ, pos, Option, Some, None, is_some, if◌then◌else◌, nat_lt, min, take, drop, refl, sym, ap, ◌∙◌, subst, inl, inr, arith, length-append, length-drop}
use Rattle.std.proofs.lemmas.Bool.{ltb-false}
use Rattle.tx_base.specs.declared.errors.Errno.{Errno}
use Rattle.tx_base.specs.declared.errors.Errno.TheVariants.{BrokenPipe}
use Rattle.tx_base.specs.declared.steps.Refusal.TheVariants.{Wait}
use Rattle.tx_base.specs.declared.limits.TheConstants.{PIPE_BYTES}
use Rattle.tx_model.specs.Numbers.{error_answer}
use Rattle.tx_model.specs.Memory.{Memory, address_of, stored_memory, bytes_at, bytes_from}
use Rattle.tx_model.specs.State.{Process, Side, Description, State, SetProc, SetDesc, SetPipe, put_at, write_one, with_writes, names_at}
use Rattle.tx_model.specs.Effects.{Inside, with_answer}
use Rattle.tx_model.specs.Forms.{Caller, Outcome, fails, changes, effect_of, caller}
use Rattle.tx_model.specs.Book.{set_nonblock, read, write, description_at, of_side, description_in, end_at, bytes_in, is_read_side, is_write_side}
use Rattle.tx_model.specs.StateLaws.{put_cases}
use Rattle.tx_laws.proofs.KeepsFormParts.{IsArranged, some_of, IsNamed, IsEnd, IsLinked, form_from, tabled_of, linked_of, form_edit}
use Rattle.tx_laws.proofs.KeepsFormOwn.{stays_from, plain, stored_paged}
use Rattle.tx_laws.proofs.KeepsFormReleased.{tabled_same}
use Rattle.tx_model.specs.BookLaws.{set_nonblock_lines, read_lines, write_lines}
use Rattle.tx_laws.proofs.KeepsFormNames.{KeepsForm, idle_form, noted_form, done_form}

-- the processes as they were name the same
pub named_as : (d : ℕ) (S T : State) → T.procs ≡ S.procs → IsNamed d S → IsNamed d T
named_as d S T procs h = record { process = h.process; place = h.place; names = ap (λ (f : ℕ → Option Process). names_at d h.place (f h.process)) procs ∙ h.names }

pub end_as : (k : ℕ) (S T : State) → T.descs ≡ S.descs → IsEnd k S → IsEnd k T
end_as k S T descs h = record { number = h.number; description = h.description; there = ap (λ (f : ℕ → Option Description). f h.number) descs ∙ h.there; pipe = h.pipe }

-- what is there is still there where something is put in
pub still_some : {A : Type 0} (f : ℕ → Option A) (k : ℕ) (v : A) (n : ℕ) → is_some (f n) ≡ true → is_some (put_at f k (Some v) n) ≡ true
still_some {A} f k v n h = elim (put_cases f k (Some v) n) [ inl z ↦ ap (λ (x : Option A). is_some x) z.1 | inr z ↦ ap (λ (x : Option A). is_some x) z.1 ∙ h ]

-- a description is replaced by one of the same pipe
module _ (T : State) (d : ℕ) (x y : Description) (e : T.descs d ≡ Some x) (same : y.pipe ≡ x.pipe) (w : IsArranged T) where
  abbrev edited : State
  edited = write_one (SetDesc d (Some y)) T

  l : IsLinked T
  l = linked_of T w

  desc_named : (c : ℕ) (z : Description) → edited.descs c ≡ Some z → IsNamed c edited × (c < 64) × (is_some (T.pipes z.pipe) ≡ true)
  desc_named c z h = elim (put_cases T.descs d (Some y) c) [
    | inl a ↦
        let r = l.named d x e in
        let both : Some y ≡ Some z = sym a.1 ∙ h in
        let is : y ≡ z = cc in
        let pipe : x.pipe ≡ z.pipe = sym same ∙ ap (λ (u : Description). u.pipe) is in (
          subst (λ (i : ℕ). IsNamed i edited) (sym a.0) (named_as d T edited refl r.0),
          subst (λ (i : ℕ). i < 64) (sym a.0) r.1,
          subst (λ (i : ℕ). is_some (T.pipes i) ≡ true) pipe r.2,
        )
    | inr a ↦ let r = l.named c z (sym a.1 ∙ h) in (named_as c T edited refl r.0, r.1, r.2)
  ]

  desc_end : (k : ℕ) → IsEnd k T → IsEnd k edited
  desc_end k h = elim (put_cases T.descs d (Some y) h.number) [
    | inl a ↦
        let both : Some h.description ≡ Some x = sym h.there ∙ ap T.descs a.0 ∙ e in
        let is : h.description ≡ x = cc in
        record { number = h.number; description = y; there = a.1; pipe = same ∙ sym (ap (λ (u : Description). u.pipe) is) ∙ h.pipe }
    | inr a ↦ record { number = h.number; description = h.description; there = a.1 ∙ h.there; pipe = h.pipe }
  ]

  pub desc_edit : IsArranged (write_one (SetDesc d (Some y)) T)
  desc_edit = form_from edited (tabled_same T edited refl refl (tabled_of T w)) (record {
    names = λ n f c h. still_some T.descs d y c (l.names n f c h);
    named = desc_named;
    pipes = λ k bytes h. let r = l.pipes k bytes h in (desc_end k r.0, r.1, r.2);
  })

-- the bytes of a pipe are replaced
module _ (T : State) (k : ℕ) (old new : List ℕ) (e : T.pipes k ≡ Some old) (room : length new ≤ PIPE_BYTES) (w : IsArranged T) where
  abbrev filled : State
  filled = write_one (SetPipe k (Some new)) T

  links : IsLinked T
  links = linked_of T w

  bytes_pipes : (j : ℕ) (bytes : List ℕ) → filled.pipes j ≡ Some bytes → IsEnd j filled × (j < 32) × (length bytes ≤ PIPE_BYTES)
  bytes_pipes j bytes h = elim (put_cases T.pipes k (Some new) j) [
    | inl a ↦
        let r = links.pipes k old e in
        let both : Some new ≡ Some bytes = sym a.1 ∙ h in
        let is : new ≡ bytes = cc in (
          subst (λ (i : ℕ). IsEnd i filled) (sym a.0) (end_as k T filled refl r.0),
          subst (λ (i : ℕ). i < 32) (sym a.0) r.1,
          subst (λ (bs : List ℕ). length bs ≤ 512) is room,
        )
    | inr a ↦ let r = links.pipes j bytes (sym a.1 ∙ h) in (end_as j T filled refl r.0, r.1, r.2)
  ]

  pub bytes_edit : IsArranged (write_one (SetPipe k (Some new)) T)
  bytes_edit = form_from filled (tabled_same T filled refl refl (tabled_of T w)) (record {
    names = links.names;
    named = λ d x h. let r = links.named d x h in (named_as d T filled refl r.0, r.1, still_some T.pipes k new x.pipe r.2);
    pipes = bytes_pipes;
  })

-- so many bytes are taken from memory at most
from_fewer : (memory : Memory) (address n : ℕ) → length (bytes_from memory address n) ≡ n
from_fewer memory address zero = refl
from_fewer memory address (suc n) = ap suc (from_fewer memory (address + 1) n)

pub taken_fewer : (memory : Memory) (address : Option ℕ) (n : ℕ) → length (bytes_at memory address n) ≤ n
taken_fewer memory None n = omega arith
taken_fewer memory (Some address) n = let same : length (bytes_from memory address n) ≡ n = from_fewer memory address n in omega arith

-- the end of a pipe that a descriptor is open for is a description that is there
side_of : (test : Side → Bool) (o : Option Description) (x : Description) → of_side test o ≡ Some x → o ≡ Some x
side_of test None x h = cc
side_of test (Some y) x h = by (test y.side) h
  where
    by : (b : Bool) → (if b then Some y else None) ≡ Some x → Some y ≡ Some x
    by true k = k
    by false k = cc

described_at : (d : Option ℕ) (S : State) (x : Description) → description_in d S ≡ Some x → (n : ℕ) × (S.descs n ≡ Some x)
described_at None S x h = cc
described_at (Some d) S x h = (d, h)

module _ (S : State) (p : ℕ) (me : Process) (inside : Option Inside) (e : S.procs p ≡ Some me) (w : IsArranged S) where
  abbrev c : Caller
  c = caller inside p me S

  abbrev FormKept : Outcome → Type 0
  FormKept outcome = KeepsForm S (effect_of p me outcome)

  error_form : (errno : Errno) → FormKept (fails errno)
  error_form errno = done_form S p me e w (error_answer errno)

  pub set_nonblock_form : (f : ℤ) (on : Bool) → FormKept (set_nonblock f on c)
  unfolding with_writes
  set_nonblock_form f on =
      set_nonblock_lines FormKept c error_form f on
      λ d x named there. desc_edit (write_one (SetProc p (Some (with_answer (pos 0) me))) S) d x (record x { nonblock = on }) there refl (noted_form S p me e w (pos 0))

  -- and so is its pipe
  end_there : (test : Side → Bool) (f : ℤ) (end : Description) → end_at test f c ≡ Some end → (bytes : List ℕ) × (S.pipes end.pipe ≡ Some bytes)
  end_there test f end h =
      let d = described_at (description_at f c) S end (side_of test (description_in (description_at f c) S) end h) in
      some_of (S.pipes end.pipe) (w.named d.0 end d.1).2

  module _ (k n : ℕ) (address : ℤ) where
    abbrev takes : List ℕ → Outcome
    takes held =
        changes (pos (min n (length held))) (record me { memory = stored_memory me.memory (address_of address) (take (min n (length held)) held) })
        (SetPipe k (Some (drop (min n (length held)) held)) ∷ [])

    takes_form : (bytes : List ℕ) → S.pipes k ≡ Some bytes → FormKept (takes bytes)
    unfolding with_writes
    takes_form bytes h =
        let m : ℕ = min n (length bytes) in
        let now : Process = with_answer (pos m) (record me { memory = stored_memory me.memory (address_of address) (take m bytes) }) in
        let sized = plain me now refl refl refl refl (stored_paged me.memory (address_of address) (take m bytes)) refl refl in
        let most : length bytes ≤ 512 = ((linked_of S w).pipes k bytes h).2 in
        let rest : length (drop m bytes) ≡ length bytes - m = length-drop m bytes in
        let room : length (drop m bytes) ≤ 512 = omega arith in
        bytes_edit (write_one (SetProc p (Some now)) S) k bytes (drop m bytes) h room (form_edit S p me now e (stays_from p me now refl refl sized) refl w)

    abbrev puts : List ℕ → Outcome
    puts held = changes (pos n) me (SetPipe k (Some (held ++ bytes_at me.memory (address_of address) n)) ∷ [])

    puts_form : (bytes : List ℕ) → S.pipes k ≡ Some bytes → nat_lt PIPE_BYTES (length bytes + n) ≡ false → FormKept (puts bytes)
    unfolding with_writes
    puts_form bytes h fits =
        let within : length bytes + n ≤ 512 = ltb-false 512 (length bytes + n) fits in
        let fewer : length (bytes_at me.memory (address_of address) n) ≤ n = taken_fewer me.memory (address_of address) n in
        let sum : length (bytes ++ bytes_at me.memory (address_of address) n) ≡ length bytes + length (bytes_at me.memory (address_of address) n) =
        length-append bytes (bytes_at me.memory (address_of address) n) in
        let room : length (bytes ++ bytes_at me.memory (address_of address) n) ≤ 512 = omega arith in
        bytes_edit (write_one (SetProc p (Some (with_answer (pos n) me))) S) k bytes (bytes ++ bytes_at me.memory (address_of address) n) h room (noted_form S p me e w (pos n))

  pub read_form : (f address v : ℤ) → FormKept (read f address v c)
  read_form f address v =
      read_lines FormKept c error_form f address v (done_form S p me e w (pos 0)) (idle_form S Wait w)
      λ end n h small good.
      let bytes = end_there is_read_side f end h in
      subst (λ (y : Option (List ℕ)). FormKept (takes end.pipe n address (bytes_in y))) (sym bytes.1) (takes_form end.pipe n address bytes.0 bytes.1)

  pub write_form : (f address v : ℤ) → FormKept (write f address v c)
  write_form f address v =
      write_lines FormKept c error_form f address v (done_form S p me e w (pos 0)) (idle_form S Wait w) (done_form S p me e w (error_answer BrokenPipe))
      λ end n h small good room.
      let bytes = end_there is_write_side f end h in
      subst (λ (y : Option (List ℕ)). nat_lt PIPE_BYTES (length (bytes_in y) + n) ≡ false → FormKept (puts end.pipe n address (bytes_in y))) (sym bytes.1)
      (puts_form end.pipe n address bytes.0 bytes.1) room
