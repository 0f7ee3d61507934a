use Rattle.std.proofs.Common.{List, ◌≡◌, if◌then◌else◌, nat_lt, ◌<◌, ◌∙◌, ◌+◌, ℕ, length, Some, None, take, get_or, sym, ap, subst, arith}
use Rattle.arrayvec.specs.ArrayVec.{ArrayVec}
use Rattle.std.proofs.lemmas.List.{take_all}
use Rattle.tx_desc.specs.Places.{Descriptors}
use Rattle.tx_desc.specs.Counts.{count_in}
use Rattle.tx_desc.specs.Descriptions.{recounted}
use Rattle.tx_desc.specs.Plans.{entries_of, put_descs}
use Rattle.tx_desc.proofs.Vacant.{recounted_none}
use Rattle.tx_desc.specs.declared.plans.NewDesc.{NewDesc}
use Rattle.tx_desc.proofs.Whole.{Left, Planned, left_none, left_push, left_skip, left_some, named_some, planned_push, planned_skip, named_inside}
use Rattle.tx_desc.proofs.descs.Descs.plan_all.Goals as goal
use Rattle.tx_desc.proofs.descs.Descs.plan_all.Goals.{in-Some+then-count-gt0, in-Some+else-count-gt0, in_default}

pub bounds-left-d : goal.bounds-left-d
bounds-left-d c =
    let there = named_inside c.loop-fd.fd c.in-Some.d.0 c.args.table.now c.args.self.now c.requires (sym c.in-Some.ensures) in omega arith

pub loop-fd-preserved : goal.loop-fd-preserved
loop-fd-preserved c =
    let table = c.args.table.now in
    let i = c.loop-fd.fd in
    let inside : i < length table = omega arith in
    elim c.match-get.branch [
      | in-Some+then-count-gt0 w ↦
          let is : get_or table i None ≡ Some w.in-Some.d.0 = sym w.in-Some.ensures in
          let there : w.in-Some.d.0 < length c.args.self.now = named_inside i w.in-Some.d.0 table c.args.self.now c.requires is in
          let below : w.in-Some.d.0 < 64 = omega arith in
          let first = left_some i w.in-Some.d.0 table c.loop-fd.left c.loop-fd.invariant.left w.if-count-gt0.true in
          record {
            planned =
                subst (Planned c.args.names table c.args.self.now (i + 1)) (sym (ap (λ (v : ArrayVec NewDesc). v.items) w.plan-is ∙ w.push.ensures.items))
                (planned_push c.args.names i w.in-Some.d table c.args.self.now c.loop-fd.plan.items w.plan_one.result inside c.sized-2.ensures is
                first.0 below w.plan_one.ensures.number w.plan_one.ensures.opened c.loop-fd.invariant.planned);
            left = subst (Left table (i + 1)) (sym w.left-is) (left_push i w.in-Some.d.0 table c.loop-fd.left inside below is c.loop-fd.invariant.left);
          }
      | in-Some+else-count-gt0 w ↦
          let none : get_or c.loop-fd.left w.in-Some.d.0 0 ≡ 0 = omega (arith, w.if-count-gt0.false) in
          let named = named_some i w.in-Some.d.0 table (sym w.in-Some.ensures) in
          let earlier : (e : ℕ) → get_or table i None ≡ Some e → 0 < count_in e (take i table) = λ e is.
          let same : w.in-Some.d.0 ≡ e = let both : Some w.in-Some.d.0 ≡ Some e = w.in-Some.ensures ∙ is in cc in
          subst (λ (k : ℕ). 0 < count_in k (take i table)) same (left_none i w.in-Some.d.0 table c.loop-fd.left c.loop-fd.invariant.left none named) in
          record {
            planned =
                subst (λ (v : ArrayVec NewDesc). Planned c.args.names table c.args.self.now (i + 1) v.items) (sym w.plan-is)
                (planned_skip c.args.names i table c.args.self.now c.loop-fd.plan.items inside earlier c.loop-fd.invariant.planned);
            left = subst (Left table (i + 1)) (sym w.left-is) (left_skip i table c.loop-fd.left inside earlier c.loop-fd.invariant.left);
          }
      | in_default w ↦
          let earlier : (e : ℕ) → get_or table i None ≡ Some e → 0 < count_in e (take i table)
          = λ e is. let never : None ≡ Some e = w.in_default.ensures ∙ is in absurd (let no : ⊥ = cc in no) in
          record {
            planned =
                subst (λ (v : ArrayVec NewDesc). Planned c.args.names table c.args.self.now (i + 1) v.items) (sym w.plan-is)
                (planned_skip c.args.names i table c.args.self.now c.loop-fd.plan.items inside earlier c.loop-fd.invariant.planned);
            left = subst (Left table (i + 1)) (sym w.left-is) (left_skip i table c.loop-fd.left inside earlier c.loop-fd.invariant.left);
          }
    ]

pub returns-clause-once : goal.returns-clause-once
returns-clause-once c = λ d.
    let all : take c.loop-fd.fd c.args.table.now ≡ c.args.table.now = take_all c.loop-fd.fd c.args.table.now (omega arith) in
    c.loop-fd.invariant.planned.once d ∙ ap (λ (t : Descriptors). if nat_lt 0 (count_in d t) then 1 else 0) all

pub returns-then-not-has_open-clause-after : goal.returns-then-not-has_open-clause-after
returns-then-not-has_open-clause-after c = λ d.
    ap (λ (l : List NewDesc). get_or (put_descs l c.args.self.now) d None) c.new.ensures
    ∙ sym (ap (λ (n : ℕ). recounted c.args.names n (get_or c.args.self.now d None)) (rw c.if-not-has_open.true at c.has_open.ensures d) ∙ recounted_none c.args.names (get_or c.args.self.now d None))

pub returns-then-not-has_open-clause-once : goal.returns-then-not-has_open-clause-once
returns-then-not-has_open-clause-once c = λ d.
    ap (λ (l : List NewDesc). entries_of d l) c.new.ensures ∙ sym (ap (λ (n : ℕ). if nat_lt 0 n then 1 else 0) (rw c.if-not-has_open.true at c.has_open.ensures d))
