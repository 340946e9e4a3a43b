use Rattle.std.proofs.Common.{◌≡◌, arith, refl, subst}
use Rattle.mh_msgfile.specs.Sentences.{Vocabulary, IsSentence, sentence_in}
use Rattle.mh_msgfile.proofs.SentenceBounds.{sentence_below, start_known}
use Rattle.mh_top_modes.proofs.judging.line_text.Goals as goal

pub sentence_text-requires : goal.sentence_text-requires
sentence_text-requires c =
    let by = c.args.by.now in
    let line = c.args.line.now in
    let read = subst (λ (v : Vocabulary). sentence_in v line ≡ IsSentence c.in-Ok.sentence) by.numbers c.in-Ok.ensures.sentence in
    record {
      start = start_known by.grammar.now by.halting.now.grammar line c.in-Ok.sentence read by.same;
      tokens = sentence_below by.grammar.now by.halting.now.grammar line c.in-Ok.sentence _ read by.same refl;
      few = omega (arith, c.in-Ok.ensures.few, c.requires.short);
    }
