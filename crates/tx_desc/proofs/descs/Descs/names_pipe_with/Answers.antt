use Rattle.std.proofs.Common.{◌≡◌, List, [], ◌∷◌, Option, get_or, length, ◌∙◌, arith}
use Rattle.tx_model.specs.State.{State}
use Rattle.tx_desc.specs.declared.opened.Opened.{Opened}
use Rattle.tx_desc.specs.declared.plans.NewDesc.{NewDesc}
use Rattle.tx_desc.specs.Descriptions.{HasDescs}
use Rattle.tx_desc.specs.Plans.{put_descs}
use Rattle.tx_desc.proofs.PipeEnds.{read_side, write_side}
use Rattle.tx_desc.proofs.descs.Descs.names_pipe_with.Goals as goal

-- where one is planned, that one is put in place
first_put : (news : List NewDesc) (new : NewDesc) (S : State) (D : List (Option Opened)) → length news ≡ 1 → HasDescs S (put_descs news D) →
    HasDescs S (put_descs (get_or news 0 new ∷ []) D)
first_put [] new S D one has = let never : ⊥ = omega arith in absurd never
first_put (new ∷ []) other S D one has = has
first_put (new ∷ next ∷ news) other S D one has = let never : ⊥ = omega arith in absurd never

pub returns-then-has_end_with : goal.returns-then-has_end_with
returns-then-has_end_with c = λ S has.
    let is = c.has_end_with.ensures S (first_put c.args.news.now _ S c.args.self.now (omega arith) has) in
    c.if-has_end_with.true ∙ read_side c.has_end_with.result c.args.pipe.0 S is c.if-has_end_with.true

pub returns-else-has_end_with : goal.returns-else-has_end_with
returns-else-has_end_with c = λ S has.
    let put = first_put c.args.news.now _ S c.args.self.now (omega arith) has in
    write_side c.has_end_with.result c.has_end_with-else-has_end_with.result c.args.pipe.0 S (c.has_end_with.ensures S put) c.if-has_end_with.false (c.has_end_with-else-has_end_with.ensures S put)
