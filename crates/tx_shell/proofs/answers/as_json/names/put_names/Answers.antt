use Rattle.tx_json.specs.EachLaws.{upto_more, upto_none}
use Rattle.tx_shell.specs.Names.{named, named_item}
use Rattle.tx_shell.proofs.answers.as_json.names.put_names.Goals as goal

pub loop-process-init : goal.loop-process-init
loop-process-init c = upto_none (λ q. named_item q (named c.args.names q)) c.begin_list.new.writer

pub loop-process-preserved : goal.loop-process-preserved
loop-process-preserved c =
    upto_more (λ q. named_item q (named c.args.names q)) c.loop-process.process c.begin_list.new.writer c.loop-process.writer c.put_name.new.writer c.loop-process.invariant c.in_ok-put_name.ensures
