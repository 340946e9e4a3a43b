use Rattle.std.proofs.Common.{◌≡◌, arith, refl, subst}
use Rattle.mh_msgfile.specs.Sentences.{Vocabulary, IsSentence, sentence_in}
use Rattle.mh_msgfile.proofs.SentenceBounds.{sentence_below, start_known}
use Rattle.mh_sample.proofs.counting.judge_line.Goals as goal

pub put_verdict-requires : goal.put_verdict-requires
put_verdict-requires c =
    let line = c.args.line.now in
    let read = subst (λ (v : Vocabulary). sentence_in v line ≡ IsSentence c.in-Ok.sentence) c.requires.names.1 c.in-Ok.ensures.sentence in
    record {
      start = start_known c.requires.names.0 c.args.table.now.grammar line c.in-Ok.sentence read c.requires.names.2;
      tokens = sentence_below c.requires.names.0 c.args.table.now.grammar line c.in-Ok.sentence _ read c.requires.names.2 refl;
      few = omega (arith, c.in-Ok.ensures.few, c.requires.short);
    }
