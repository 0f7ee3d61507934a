use Rattle.std.proofs.Common.{Some, ◌∙◌, sym, ap}
use Rattle.tx_kernel.proofs.PostAnswers.{error_leaves, quiet_leaves, sent, had_room}
use Rattle.tx_kernel.specs.Plans.{sending_of}
use Rattle.tx_kernel.specs.Posts.{HasFace, seen_as}
use Rattle.tx_kernel.specs.declared.posts.Face.{Face}
use Rattle.tx_model.specs.State.{Process}
use Rattle.tx_proc.specs.Parts.{process_of}
use Rattle.tx_proc.specs.declared.proc.Proc.{Proc}
use Rattle.tx_kernel.proofs.posts.plan_post.Goals as goal

-- the face of a process is that of each that a post sees as it
face_seen : (face : Face) (proc : Proc) (me : Process) → HasFace face (process_of proc) → HasFace face (seen_as proc me)
face_seen face proc me has = record { ids = has.ids; ended = has.ended; queued = has.queued }

pub returns-in-Err-clause-after : goal.returns-in-Err-clause-after
returns-in-Err-clause-after c = λ me.
    error_leaves (sending_of c.args.sending.now) (seen_as c.args.proc.now me) c.in-Err.errno (c.in-Err.ensures (seen_as c.args.proc.now me) (face_seen _ c.args.proc.now me c.of-face.ensures))

pub returns-then-is_quiet-clause-after : goal.returns-then-is_quiet-clause-after
returns-then-is_quiet-clause-after c = λ me.
    quiet_leaves (sending_of c.args.sending.now) (seen_as c.args.proc.now me)
    (sym (c.is_quiet.ensures (seen_as c.args.proc.now me) (face_seen _ c.args.proc.now me c.of-face.ensures)) ∙ c.if-is_quiet.true)

pub plan_pending-requires-clause-room : goal.plan_pending-requires-clause-room
plan_pending-requires-clause-room c =
    had_room (sending_of c.args.sending.now) (process_of c.args.proc.now) (c.in_default.ensures (process_of c.args.proc.now) c.of-face.ensures)
    (sym (c.is_quiet.ensures (process_of c.args.proc.now) c.of-face.ensures) ∙ c.if-is_quiet.false)

pub returns-clause-after : goal.returns-clause-after
returns-clause-after c = λ me.
    sent (sending_of c.args.sending.now) (seen_as c.args.proc.now me) (c.in_default.ensures (seen_as c.args.proc.now me) (face_seen _ c.args.proc.now me c.of-face.ensures))
    (sym (c.is_quiet.ensures (seen_as c.args.proc.now me) (face_seen _ c.args.proc.now me c.of-face.ensures)) ∙ c.if-is_quiet.false)
    ∙ ap Some (c.plan_pending.ensures.signal me)
