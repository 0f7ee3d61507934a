-- Who makes a step within a transaction, and what the steps of others do to its marks.
use Rattle.std.proofs.Common.{◌≡◌, ℕ, Bool, true, false, Option, Some, None, is_some, ◌==◌, refl, sym, subst, eq-eqb, eqb-true}
use Rattle.std.proofs.lemmas.Bool.{both_ways}
use Rattle.tx_base.specs.declared.marks.Mark.{Mark}
use Rattle.tx_base.specs.declared.steps.Reply.{Reply}
use Rattle.tx_base.specs.declared.steps.Step.{Step}
use Rattle.tx_base.specs.declared.steps.Step.TheVariants.{Call as Calls, Deliver, KernelAbort}
use Rattle.tx_model.specs.Events.{process_of}
use Rattle.tx_model.specs.Membership.{Table, is_of, others_open, Progress, Continues, Parks, Forks, Begins, Within, Aborts, Kind, Ordinary, Forking, Beginning, Leaving, Aborting, says_ended, role, mark_unless_of}
use Rattle.tx_model.specs.Words.{member_end_role, ordinary_role, kind_of, kind_role}
use Rattle.tx_laws.specs.OneMoment.{is_step_of}

-- the table without the marks of the transaction of s
abbrev pub without_marks : ℕ → Table → Table
without_marks s t = record { width = t.width; marks = λ n. mark_unless_of s (t.marks n) }

within_starter : {s u : ℕ} {a b : Progress} → Within u a ≡ Within s b → u ≡ s
within_starter h = cc

ends_starter : (b : Bool) (u s : ℕ) (part : Progress) → member_end_role b u ≡ Within s part → u ≡ s
ends_starter true u s part h = within_starter h
ends_starter false u s part h = cc

ordinary_starter : (b : Bool) (t : Table) (u p s : ℕ) (part : Progress) → ordinary_role b t u p ≡ Within s part → u ≡ s
ordinary_starter true t u p s part h = ends_starter (others_open t u p t.width) u s part h
ordinary_starter false t u p s part h = within_starter h

-- who makes a step within the transaction of s has a mark of it; or is s, without a mark, and begins it
abbrev pub ActorFits : ℕ → ℕ → Option Mark → Progress → Type 0
ActorFits s p m Continues = is_of s m ≡ true
ActorFits s p m Parks = is_of s m ≡ true
ActorFits s p m (Forks c) = is_of s m ≡ true
ActorFits s p m (Begins defers) = (p ≡ s) × (is_some m ≡ false)

ends_fits : (b : Bool) (s p : ℕ) (m : Mark) (part : Progress) → member_end_role b m.starter.0 ≡ Within s part → ActorFits s p (Some m) part
ends_fits true s p m Continues h = cc
ends_fits true s p m Parks h = eq-eqb m.starter.0 s (within_starter h)
ends_fits true s p m (Forks c) h = cc
ends_fits true s p m (Begins defers) h = cc
ends_fits false s p m part h = cc

ordinary_fits : (b : Bool) (t : Table) (s p : ℕ) (m : Mark) (part : Progress) → ordinary_role b t m.starter.0 p ≡ Within s part → ActorFits s p (Some m) part
ordinary_fits true t s p m part h = ends_fits (others_open t m.starter.0 p t.width) s p m part h
ordinary_fits false t s p m Continues h = eq-eqb m.starter.0 s (within_starter h)
ordinary_fits false t s p m Parks h = cc
ordinary_fits false t s p m (Forks c) h = cc
ordinary_fits false t s p m (Begins defers) h = cc

kind_fits : (t : Table) (s p : ℕ) (k : Kind) (r : Reply) (m : Option Mark) (part : Progress) → kind_role t p k r m ≡ Within s part → ActorFits s p m part
kind_fits t s p Ordinary r None part h = cc
kind_fits t s p Ordinary r (Some m) part h = ordinary_fits (says_ended r) t s p m part h
kind_fits t s p (Forking c) r None part h = cc
kind_fits t s p (Forking c) r (Some m) Continues h = cc
kind_fits t s p (Forking c) r (Some m) Parks h = cc
kind_fits t s p (Forking c) r (Some m) (Forks d) h = eq-eqb m.starter.0 s (within_starter h)
kind_fits t s p (Forking c) r (Some m) (Begins defers) h = cc
kind_fits t s p (Beginning defers) r None Continues h = cc
kind_fits t s p (Beginning defers) r None Parks h = cc
kind_fits t s p (Beginning defers) r None (Forks c) h = cc
kind_fits t s p (Beginning defers) r None (Begins d) h = (within_starter h, refl)
kind_fits t s p (Beginning defers) r (Some m) Continues h = eq-eqb m.starter.0 s (within_starter h)
kind_fits t s p (Beginning defers) r (Some m) Parks h = cc
kind_fits t s p (Beginning defers) r (Some m) (Forks c) h = cc
kind_fits t s p (Beginning defers) r (Some m) (Begins d) h = cc
kind_fits t s p Leaving r None part h = cc
kind_fits t s p Leaving r (Some m) part h = ends_fits (others_open t m.starter.0 p t.width) s p m part h
kind_fits t s p Aborting r None part h = cc
kind_fits t s p Aborting r (Some m) part h = cc

pub actor_fits : (t : Table) (step : Step) (r : Reply) (s : ℕ) (part : Progress) → role t step r ≡ Within s part → ActorFits s (process_of step) (t.marks (process_of step)) part
actor_fits t (Calls p call) r s part h = kind_fits t s p.0 (kind_of call) r (t.marks p.0) part h
actor_fits t (Deliver p signo) r s part h = kind_fits t s p.0 Ordinary r (t.marks p.0) part h
actor_fits t (KernelAbort u) r s part h = cc

-- a step of who has a mark of s is one of the transaction of s
ends_mine : (b : Bool) (u s : ℕ) → (u == s) ≡ true → is_step_of s (member_end_role b u) ≡ true
ends_mine true u s h = h
ends_mine false u s h = h

ordinary_mine : (b : Bool) (t : Table) (u p s : ℕ) → (u == s) ≡ true → is_step_of s (ordinary_role b t u p) ≡ true
ordinary_mine true t u p s h = ends_mine (others_open t u p t.width) u s h
ordinary_mine false t u p s h = h

kind_mine : (t : Table) (p : ℕ) (k : Kind) (r : Reply) (m : Option Mark) (s : ℕ) → is_of s m ≡ true → is_step_of s (kind_role t p k r m) ≡ true
kind_mine t p k r None s h = cc
kind_mine t p Ordinary r (Some m) s h = ordinary_mine (says_ended r) t m.starter.0 p s h
kind_mine t p (Forking c) r (Some m) s h = h
kind_mine t p (Beginning defers) r (Some m) s h = h
kind_mine t p Leaving r (Some m) s h = ends_mine (others_open t m.starter.0 p t.width) m.starter.0 s h
kind_mine t p Aborting r (Some m) s h = h

false_or : (b c : Bool) → (b ≡ true → c ≡ true) → c ≡ false → b ≡ false
false_or true c f h = absurd (both_ways c h (f refl))
false_or false c f h = refl

-- a mark of another transaction is none of this
pub other_of : (u s : ℕ) (m : Option Mark) → is_of u m ≡ true → (u == s) ≡ false → is_of s m ≡ false
other_of u s None k h = cc
other_of u s (Some m) k h = subst (λ (x : ℕ). (x == s) ≡ false) (sym (eqb-true m.starter.0 u k)) h

-- who makes a step of another transaction, or of none, has no mark of s; at the kernel's abort that is so by its starter
pub not_mine : (t : Table) (step : Step) (r : Reply) (s : ℕ) → ((u : ℕ) (status : ℕ) → role t step r ≡ Aborts u status → is_of u (t.marks u) ≡ true) → is_step_of s (role t step r) ≡ false
    → is_of s (t.marks (process_of step)) ≡ false
not_mine t (Calls p call) r s aborts h = false_or (is_of s (t.marks p.0)) (is_step_of s (role t (Calls p call) r)) (kind_mine t p.0 (kind_of call) r (t.marks p.0) s) h
not_mine t (Deliver p signo) r s aborts h = false_or (is_of s (t.marks p.0)) (is_step_of s (role t (Deliver p signo) r)) (kind_mine t p.0 Ordinary r (t.marks p.0) s) h
not_mine t (KernelAbort u) r s aborts h = other_of u.0 s (t.marks u.0) (aborts u.0 _ refl) h
