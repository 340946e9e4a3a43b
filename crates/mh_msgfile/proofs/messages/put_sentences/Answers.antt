use Rattle.std.proofs.Common.{Err, subst, arith}
use Rattle.mh_grammar.specs.Text.{Text}
use Rattle.mh_msgfile.specs.Sentences.{vocabulary_in, sentence_in, ReadsSentence}
use Rattle.mh_msgfile.proofs.ReadsEntries.{block_fault}
use Rattle.mh_msgfile.proofs.messages.put_sentences.Goals as goal

pub returns-in-Err : goal.returns-in-Err
returns-in-Err c =
    block_fault (vocabulary_in c.args.lexicon.now) c.args.lines.now c.args.block.now c.loop-line.line-index c.fault_of_line.result (omega arith)
    (c.fault_of_line.ensures _ (subst (λ (t : Text). ReadsSentence (sentence_in (vocabulary_in c.args.lexicon.now) t) (Err c.in-Err.fault)) c.line_at.ensures c.in-Err.ensures.sentence)) c.loop-line.invariant.none
