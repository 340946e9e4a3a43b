use Rattle.std.proofs.Common.{ap, length, refl, subst, sym, arith}
use Rattle.std.specs.Prelude.{OnOk}
use Rattle.std.proofs.lemmas.Result.{on_ok_weaker}
use Rattle.mh_grammar.specs.Plain.{plain_of}
use Rattle.mh_msgfile.specs.Sentences.{vocabulary_in, vocabulary_of, LineResult, IsSentence, sentence_in}
use Rattle.mh_msgfile.proofs.SentenceBounds.{sentence_start, sentence_below}
use Rattle.mh_rebase.proofs.DecidesLine.{fault_as, read_as}
use Rattle.mh_lint_messages.specs.code.Findings.{DecidesLine}
use Rattle.mh_lint_messages.proofs.DecidesLine.{adds_fault}
use Rattle.mh_lint_messages.proofs.lines.add_line.Goals as goal

pub add_sentence-requires : goal.add_sentence-requires
add_sentence-requires c =
    let grammar = c.args.to.now.grammar.now in
    let read = read_as (vocabulary_in c.args.to.now.lexicon.now) grammar c.args.to.now.numbers c.as_slice.result.now c.args.line.now.text c.as_slice.ensures (IsSentence c.in-Ok.sentence) c.in-Ok.ensures.sentence in record {
      start = sentence_start grammar c.args.line.now.text c.in-Ok.sentence read;
      tokens = sentence_below grammar (plain_of grammar) c.args.line.now.text c.in-Ok.sentence c.in-Ok.sentence.tokens read refl refl;
      few = omega (arith, c.in-Ok.ensures.few, ap length c.as_slice.ensures, c.requires.short);
      size = c.requires.size;
    }

pub returns-in-Ok-clause-line : goal.returns-in-Ok-clause-line
returns-in-Ok-clause-line c =
    let grammar = c.args.to.now.grammar.now in
    let read = read_as (vocabulary_in c.args.to.now.lexicon.now) grammar c.args.to.now.numbers c.as_slice.result.now c.args.line.now.text c.as_slice.ensures (IsSentence c.in-Ok.sentence) c.in-Ok.ensures.sentence in
    subst (λ (found : LineResult). OnOk c.add_sentence.result (DecidesLine grammar c.args.to.now.table.now c.args.to.now.name.now c.args.line.now.line found c.args.found.now c.add_sentence.new.found)) (sym read) c.add_sentence.ensures.line

pub returns-in-Err-clause-line : goal.returns-in-Err-clause-line
returns-in-Err-clause-line c =
    let grammar = c.args.to.now.grammar.now in
    on_ok_weaker c.add_fault.result
    (λ writes. adds_fault grammar c.args.to.now.table.now c.args.to.now.name.now c.args.line.now.line (sentence_in (vocabulary_of grammar) c.args.line.now.text) c.in-Err.fault c.args.found.now c.add_fault.new.found
    (fault_as (vocabulary_in c.args.to.now.lexicon.now) grammar c.args.to.now.numbers c.as_slice.result.now c.args.line.now.text c.as_slice.ensures c.in-Err.fault c.in-Err.ensures.sentence) writes c.add_fault.ensures.kept) c.add_fault.ensures.fault
