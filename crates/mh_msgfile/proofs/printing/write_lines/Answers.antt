use Rattle.mh_grammar.proofs.Lists.{drop_step}
use Rattle.mh_msgfile.specs.FileTexts.{sentence_line}
use Rattle.mh_msgfile.proofs.LoopSteps.{written_next, written_all}
use Rattle.mh_msgfile.proofs.printing.write_lines.Goals as goal

pub loop-sentence-preserved : goal.loop-sentence-preserved
loop-sentence-preserved c =
    written_next (sentence_line c.args.grammar.now) c.args.sentences.now c.loop-sentence.sentence-index _ _ c.loop-sentence.invariant c.sentence-item.result _ (drop_step _ _ _ c.loop-sentence-test.true c.sentence-item.is) c.in_ok-write_line.ensures

pub returns : goal.returns
returns c = written_all (sentence_line c.args.grammar.now) c.args.sentences.now c.loop-sentence.sentence-index _ _ c.loop-sentence.invariant c.loop-sentence-test.false
