-- The loops that list what the end of a process changes of others.
use Rattle.std.proofs.Common.{◌≡◌, ◌<◌, ◌≤◌, ◌+◌, ℕ, suc, Bool, true, false, List, [], ◌∷◌, ◌++◌, length, Option, Some, None, if◌then◌else◌, drop, get_or, refl, ap, sym, ◌∙◌, arith, append_assoc, append-nil}
use Rattle.std.proofs.lemmas.List.{at_drop_more, at_drop_all}
use Rattle.tx_change.specs.declared.change.Change.{Change}
use Rattle.tx_change.specs.declared.change.Change.TheVariants.{Pipe}
use Rattle.tx_change.specs.declared.pipes.PipePart.TheVariants.{Whole}
use Rattle.tx_change.specs.declared.parts.Parts.{Parts}
use Rattle.tx_desc.specs.Places.{Descriptors}
use Rattle.tx_desc.specs.declared.opened.Opened.{Opened}
use Rattle.tx_desc.specs.Descriptions.{described}
use Rattle.tx_kernel.specs.Endings.{child_at, gone_at, gone_changes, orphan_changes, pipe_in, pipe_through, plain}
use Rattle.tx_kernel.specs.Plans.{Extends}
use Rattle.tx_model.specs.Descriptors.{has_description, open_in, pipe_of, pipes_of}
use Rattle.tx_model.specs.Processes.{children_below}
use Rattle.tx_model.specs.State.{State, has_parent}

pub extends_by : (before between now more : List Change) → Extends before between → now ≡ between ++ more → Extends before now
extends_by before between now more so_far last = record {
  more = so_far.more ++ more;
  added = last ∙ ap (λ (xs : List Change). xs ++ more) so_far.added ∙ append_assoc before so_far.more more;
}

-- the children

orphans_next : (p b : ℕ) (S : State) → orphan_changes (children_below p (b + 1) S) ≡ orphan_changes (child_at p b S) ++ orphan_changes (children_below p b S)
unfolding children_below
orphans_next p b S = ap (λ (n : ℕ). orphan_changes (children_below p n S)) next ∙ by (has_parent p (S.procs b))
  where
    next : b + 1 ≡ suc b
    next = omega arith

    by : (c : Bool) → orphan_changes (if c then b ∷ children_below p b S else children_below p b S)
        ≡ orphan_changes (if c then b ∷ [] else []) ++ orphan_changes (children_below p b S)
    by true = refl
    by false = refl

-- one number further down
pub orphans_step : (p k b : ℕ) (S : State) (log next all : List Change) → k ≡ b → next ≡ log ++ orphan_changes (child_at p k S) →
    log ++ orphan_changes (children_below p (b + 1) S) ≡ all → next ++ orphan_changes (children_below p k S) ≡ all
orphans_step p k b S log next all same one so_far =
    ap (λ (xs : List Change). xs ++ orphan_changes (children_below p k S)) one
    ∙ append_assoc log (orphan_changes (child_at p k S)) (orphan_changes (children_below p k S))
    ∙ ap (λ (xs : List Change). log ++ xs) (sym (orphans_next p k S))
    ∙ ap (λ (n : ℕ). log ++ orphan_changes (children_below p (n + 1) S)) same
    ∙ so_far

-- number 0 has no process
pub orphans_end : (p b : ℕ) (parts : Parts) (log all : List Change) → b ≤ 0 → log ++ orphan_changes (children_below p (b + 1) (plain parts)) ≡ all → log ≡ all
unfolding children_below
orphans_end p b parts log all over so_far =
    let none : b ≡ 0 = omega arith in
    sym (append-nil log) ∙ ap (λ (n : ℕ). log ++ orphan_changes (children_below p (n + 1) (plain parts))) (sym none) ∙ so_far

-- the pipes

gone_first : (parts : Parts) (R : State) (x : Option ℕ) (rest : Descriptors) →
    gone_changes (pipes_of (open_in (x ∷ rest)) (plain parts)) R ≡ gone_at (pipe_through parts.descs x) R ++ gone_changes (pipes_of (open_in rest) (plain parts)) R
unfolding open_in pipes_of gone_changes
gone_first parts R None rest = refl
gone_first parts R (Some d) rest = by (get_or parts.descs d None)
  where
    ks : List ℕ
    ks = pipes_of (open_in rest) (plain parts)

    named : (opened : Opened) (b : Bool) → (if b then gone_changes ks R else Pipe opened.desc.pipe (Whole None) ∷ gone_changes ks R)
        ≡ (if b then [] else Pipe opened.desc.pipe (Whole None) ∷ []) ++ gone_changes ks R
    named opened true = refl
    named opened false = refl

    by : (place : Option Opened) → gone_changes (pipe_of (described place) ++ ks) R ≡ gone_at (pipe_in place) R ++ gone_changes ks R
    by None = refl
    by (Some opened) = named opened (has_description opened.desc.pipe.0 R)

pub gone_step : (parts : Parts) (R : State) (fd : ℕ) (table : Descriptors) (log next all : List Change) → fd < length table →
    next ≡ log ++ gone_at (pipe_through parts.descs (get_or table fd None)) R →
    log ++ gone_changes (pipes_of (open_in (drop fd table)) (plain parts)) R ≡ all →
    next ++ gone_changes (pipes_of (open_in (drop (fd + 1) table)) (plain parts)) R ≡ all
gone_step parts R fd table log next all inside one so_far =
    let rest : List Change = gone_changes (pipes_of (open_in (drop (fd + 1) table)) (plain parts)) R in
    let left : gone_changes (pipes_of (open_in (drop fd table)) (plain parts)) R ≡ gone_at (pipe_through parts.descs (get_or table fd None)) R ++ rest
    = at_drop_more (λ (t : Descriptors). gone_changes (pipes_of (open_in t) (plain parts)) R) table fd None inside
    ∙ gone_first parts R (get_or table fd None) (drop (fd + 1) table) in
    ap (λ (xs : List Change). xs ++ rest) one
    ∙ append_assoc log (gone_at (pipe_through parts.descs (get_or table fd None)) R) rest
    ∙ ap (λ (xs : List Change). log ++ xs) (sym left) ∙ so_far

pub gone_end : (parts : Parts) (R : State) (fd : ℕ) (table : Descriptors) (log all : List Change) → length table ≤ fd →
    log ++ gone_changes (pipes_of (open_in (drop fd table)) (plain parts)) R ≡ all → log ≡ all
unfolding open_in pipes_of gone_changes
gone_end parts R fd table log all over so_far =
    let none = at_drop_all (λ (t : Descriptors). gone_changes (pipes_of (open_in t) (plain parts)) R) table fd over in
    sym (append-nil log) ∙ ap (λ (xs : List Change). log ++ xs) (sym none) ∙ so_far
