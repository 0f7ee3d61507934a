-- Writes that a step leaves as they are, and those that have none of the bytes in the pipe.
use Rattle.std.proofs.Common.{◌≡◌, ◌∙◌, ℕ, ◌-◌, ◌==◌, Bool, true, false, List, [], ◌∷◌, Option, map, drop, take, if◌then◌else◌, ap, ap₂, refl, sym, subst, arith, true≢false}
use Rattle.std.proofs.lemmas.List.{take-append-drop}
use Rattle.std.proofs.lemmas.List.Sums.{fold-append}
use Rattle.std.specs.List.{fold}
use Rattle.tx_base.specs.declared.names.Pid.{Pid}
use Rattle.tx_base.specs.declared.steps.Reply.{Reply}
use Rattle.tx_base.specs.declared.steps.Reply.TheVariants.{Done, Ended, Committed, Aborted, Out, No}
use Rattle.tx_picture.specs.Passages.{is_inside, let_go, settled, settles, taken_from, taken_with, Taking}
use Rattle.tx_picture.specs.declared.passages.Passage.{Passage}
use Rattle.tx_picture.specs.declared.passages.Reading.{Reading}
use Rattle.tx_picture.specs.declared.passages.Written.{Written}

-- a step that ends no transaction lets go of no write
not_let_go : (reply : Reply) (written : Written) → settles reply ≡ false → let_go reply written ≡ written
not_let_go (No why) written other = refl
not_let_go (Done ret) written other = refl
not_let_go Ended written other = refl
not_let_go (Committed undelivered) written other = absurd (true≢false other)
not_let_go (Aborted status) written other = absurd (true≢false other)
not_let_go (Out bytes) written other = refl

either : (inside : Bool) (after written : Written) → after ≡ written → (if inside then after else written) ≡ written
either true after written same = same
either false after written same = refl

pub unsettled : (starter : Option Pid) (reply : Reply) (written : List Written) → settles reply ≡ false → map (settled starter reply) written ≡ written
unsettled starter reply [] other = refl
unsettled starter reply (one ∷ written) other =
    ap₂ (λ (w : Written) (ws : List Written). w ∷ ws) (either (is_inside starter one) (let_go reply one) one (not_let_go reply one other)) (unsettled starter reply written other)

-- where no byte of the pipe is older, older writes have none of them
none_of_one : (reading : Reading) (passages : List Passage) (written : Written) → taken_from reading (record { rest = 0; passages = passages }) written ≡ record { rest = 0; passages = passages }
none_of_one reading passages written = by (written.pipe.0 == reading.pipe.0)
  where
    nothing : taken_with reading written (0 - written.count) (record { rest = 0; passages = passages }) ≡ record { rest = 0; passages = passages }
    nothing =
        let zero : 0 - written.count ≡ 0 = omega arith in
        ap (λ (older : ℕ). taken_with reading written older (record { rest = 0; passages = passages })) zero

    by : (same : Bool) → (if same then taken_with reading written (0 - written.count) (record { rest = 0; passages = passages }) else record { rest = 0; passages = passages }) ≡ record { rest = 0; passages = passages }
    by true = nothing
    by false = refl

none_of_all : (reading : Reading) (passages : List Passage) (written : List Written) → fold (taken_from reading) (record { rest = 0; passages = passages }) written ≡ record { rest = 0; passages = passages }
none_of_all reading passages [] = refl
none_of_all reading passages (one ∷ written) = ap (λ (t : Taking). fold (taken_from reading) t written) (none_of_one reading passages one) ∙ none_of_all reading passages written

pub none_older : (reading : Reading) (start : Taking) (written : List Written) (i rest : ℕ) (passages : List Passage) → rest ≡ 0
    → record { rest = rest; passages = passages } ≡ fold (taken_from reading) start (take i written) → passages ≡ (fold (taken_from reading) start written).passages
none_older reading start written i rest passages none so_far =
    let f : Taking → Written → Taking = taken_from reading in
    let now : Taking = record { rest = 0; passages = passages } in
    let at : now ≡ fold f start (take i written) = subst (λ (r : ℕ). record { rest = r; passages = passages } ≡ fold f start (take i written)) none so_far in
    ap (λ (t : Taking). t.passages)
    (sym (none_of_all reading passages (drop i written)) ∙ ap (λ (t : Taking). fold f t (drop i written)) at ∙ sym (fold-append f start (take i written) (drop i written))
    ∙ ap (fold f start) (take-append-drop i written))
