use Rattle.std.proofs.Common.{arith}
use Rattle.mh_sample.specs.Texts.{sentence_line}
use Rattle.mh_sample.proofs.TextsInParts.{each_none, each_push}
use Rattle.mh_sample.proofs.texts.write_sentences.Goals as goal

pub loop-number-init : goal.loop-number-init
loop-number-init c = each_none (sentence_line c.args.operators) 0 c.args.text.now.items

pub loop-number-preserved : goal.loop-number-preserved
loop-number-preserved c = each_push (sentence_line c.args.operators) 0 c.loop-number.number _ c.loop-number.text.items c.write_line.new.text.items c.args.text.now.items (omega arith) c.loop-number.invariant c.in_ok-write_line.ensures
