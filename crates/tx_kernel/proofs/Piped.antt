-- What reads and writes come to, by the pages.
use Rattle.std.proofs.Common.{◌≡◌, ◌≢◌, ◌==◌, ℕ, Bool, true, false, not, ◌&&◌, ◌+◌, List, [], ◌∷◌, ◌++◌, length, if◌then◌else◌, ℤ, pos, nat_lt, Option, Some, None, Result, Ok, Err, refl, ap, ◌∙◌}
use Rattle.std.proofs.lemmas.Bool.{ne_eqb}
use Rattle.tx_base.specs.declared.errors.Errno.{Errno}
use Rattle.tx_base.specs.declared.errors.Errno.TheVariants.{BadDescriptor, TryAgain}
use Rattle.tx_base.specs.declared.limits.TheConstants.{PIPE_BYTES}
use Rattle.tx_change.specs.States.{state_of}
use Rattle.tx_base.specs.declared.steps.Refusal.TheVariants.{Wait}
use Rattle.tx_desc.specs.Descriptions.{description_of, described, end_for, side_test}
use Rattle.tx_desc.specs.declared.opened.Desc.{Desc}
use Rattle.tx_desc.specs.declared.opened.Opened.{Opened}
use Rattle.tx_desc.specs.declared.opened.Side.{Side}
use Rattle.tx_kernel.proofs.PageLines.{decides, finds, passes}
use Rattle.tx_kernel.specs.Actors.{me_of}
use Rattle.tx_kernel.specs.Piped.{IsPutting, calling, end_at, opened_at, writing_outcome}
use Rattle.tx_kernel.specs.declared.actor.Actor.{Actor}
use Rattle.tx_kernel.specs.declared.transfers.Writing.{Writing}
use Rattle.tx_kernel.specs.declared.transfers.Writing.TheVariants as writing
use Rattle.tx_model.specs.Book.{end_at as end_in, is_empty, of_side, read, write, broken_pipe, bytes_in, has_reader, has_writer, is_read_side, is_write_side}
use Rattle.tx_model.specs.Book as book
use Rattle.tx_model.specs.Descriptors.{descriptor, description_named}
use Rattle.tx_model.specs.Forms.{Rule, changes, does, fails, refuses, ◌when◌, ◌>>◌}
use Rattle.tx_model.specs.Memory.{address_of, bytes_at, is_good, is_mapped}
use Rattle.tx_model.specs.Numbers.{below}
use Rattle.tx_model.specs.State.{Description, Sending, SetPipe}

-- an end that is open

side_of : (side : Side) (opened : Option Opened) (desc : Desc) → end_at side opened ≡ Ok desc → of_side (side_test side) (described opened) ≡ Some (description_of desc)
side_of side None desc e = cc
side_of side (Some opened) desc e = by (side_test side (end_for opened.desc.side)) e
  where
    by : (b : Bool) → (if b then Ok opened.desc else Err BadDescriptor) ≡ Ok desc → (if b then Some (description_of opened.desc) else None) ≡ Some (description_of desc)
    by true e = let same : opened.desc ≡ desc = cc in ap (λ (x : Desc). Some (description_of x)) same
    by false e = cc

opened_is : (actor : Actor) (x : Option ℕ) (held : ℕ → List Sending) → book.description_in x (state_of held actor.parts.now) ≡ described (opened_at actor.parts.now.descs x)
opened_is actor None held = refl
opened_is actor (Some d) held = refl

pub open_end_is : (actor : Actor) (side : Side) (fd : ℤ) (desc : Desc) (held : ℕ → List Sending) → end_at side (opened_at actor.parts.now.descs (description_named (me_of actor) (descriptor fd))) ≡ Ok desc →
    end_in (side_test side) fd (calling actor held) ≡ Some (description_of desc)
open_end_is actor side fd desc held is =
    ap (of_side (side_test side)) (opened_is actor (description_named (me_of actor) (descriptor fd)) held) ∙ side_of side (opened_at actor.parts.now.descs (description_named (me_of actor) (descriptor fd))) desc is

-- write

pub writes_broken : (actor : Actor) (desc : Desc) (fd address count : ℤ) (n : ℕ) (held : ℕ → List Sending) → end_in is_write_side fd (calling actor held) ≡ Some (description_of desc) →
    below 513 count ≡ Some n → n ≢ 0 → is_good is_mapped (me_of actor).memory address n ≡ true → has_reader desc.pipe.0 (state_of held actor.parts.now) ≡ false →
    write fd address count (calling actor held) ≡ does (broken_pipe actor.pid.0 (me_of actor))
writes_broken actor desc fd address count n held end number some good reader =
    finds (end_in is_write_side fd (calling actor held)) (description_of desc) _ _ end
    ∙ finds (below 513 count) n _ _ number
    ∙ passes (n == 0) _ _ (ne_eqb n 0 some)
    ∙ passes (not (is_good is_mapped (me_of actor).memory address n)) _ _ (ap not good)
    ∙ decides (not (has_reader desc.pipe.0 (state_of held actor.parts.now))) _ _ (ap not reader)

-- the lines of a write that has a reader
abbrev puts : Description → ℤ → ℕ → Rule
puts end address n c = do
  let held = bytes_in (c.state.pipes end.pipe)
  let is_full = nat_lt PIPE_BYTES (length held + n)
  fails TryAgain when is_full && end.nonblock
  refuses Wait when is_full
  changes (pos n) c.process (SetPipe end.pipe (Some (held ++ bytes_at c.process.memory (address_of address) n)) ∷ [])

puts_so : (actor : Actor) (desc : Desc) (address : ℤ) (n : ℕ) (result : Result Writing Errno) (held : ℕ → List Sending) → IsPutting actor desc n result →
    puts (description_of desc) address n (calling actor held) ≡ writing_outcome address result (calling actor held)
puts_so actor desc address n (Ok writing.Nothing) held is = absurd is
puts_so actor desc address n (Ok writing.Breaks) held is = absurd is
puts_so actor desc address n (Ok writing.Waits) held is = rw is.0 (rw is.1 refl)
puts_so actor desc address n (Ok (writing.Puts to m)) held is = rw is.0 (rw is.1 (rw is.2 refl))
puts_so actor desc address n (Err errno) held is = rw is.1 (rw is.2 (rw is.0 refl))

pub writes_put : (actor : Actor) (desc : Desc) (fd address count : ℤ) (n : ℕ) (result : Result Writing Errno) (held : ℕ → List Sending) →
    end_in is_write_side fd (calling actor held) ≡ Some (description_of desc) → below 513 count ≡ Some n → n ≢ 0 → is_good is_mapped (me_of actor).memory address n ≡ true →
    has_reader desc.pipe.0 (state_of held actor.parts.now) ≡ true → IsPutting actor desc n result →
    write fd address count (calling actor held) ≡ writing_outcome address result (calling actor held)
writes_put actor desc fd address count n result held end number some good reader putting =
    finds (end_in is_write_side fd (calling actor held)) (description_of desc) _ _ end
    ∙ finds (below 513 count) n _ _ number
    ∙ passes (n == 0) _ _ (ne_eqb n 0 some)
    ∙ passes (not (is_good is_mapped (me_of actor).memory address n)) _ _ (ap not good)
    ∙ passes (not (has_reader desc.pipe.0 (state_of held actor.parts.now))) _ (puts (description_of desc) address n (calling actor held)) (ap not reader)
    ∙ puts_so actor desc address n result held putting
