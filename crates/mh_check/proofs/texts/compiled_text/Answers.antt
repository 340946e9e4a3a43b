use Rattle.std.proofs.Common.{arith}
use Rattle.mh_check.proofs.CompiledText.{written_more}
use Rattle.mh_check.proofs.texts.compiled_text.Goals as goal

pub loop-state-preserved : goal.loop-state-preserved
loop-state-preserved c =
    written_more c.args.compiled.now c.loop-state.text.items c.write_message.new.text.items c.loop-state.state (omega arith) c.in_ok-write_message.ensures c.loop-state.invariant
