use Rattle.std.proofs.Common.{Bool, length, ap, refl, subst, sym, arith, rules}
use Rattle.std.specs.Prelude.{IfOk}
use Rattle.mh_grammar.specs.Plain.{plain_of}
use Rattle.mh_msgfile.specs.Sentences.{vocabulary_in, vocabulary_of, LineResult, IsSentence, sentence_in}
use Rattle.mh_msgfile.proofs.SentenceBounds.{sentence_start, sentence_below}
use Rattle.mh_rebase.specs.code.Parts.{DecidesLine}
use Rattle.mh_rebase.proofs.DecidesLine.{adds_fault, fault_as, read_as}
use Rattle.mh_rebase.proofs.entries.add_line.Goals as goal

pub add_sentence-requires : goal.add_sentence-requires
add_sentence-requires g c =
    let grammar = c.args.to.now.grammar.now in
    let read = read_as (vocabulary_in c.args.to.now.lexicon.now) grammar c.args.to.now.numbers c.as_slice.result.now c.args.line.now.text c.as_slice.ensures (IsSentence c.in-Ok.sentence) c.in-Ok.ensures.sentence in (
      search rules,
      (
        c.requires.fits,
        (
          sentence_start grammar c.args.line.now.text c.in-Ok.sentence read,
          (
            sentence_below grammar (plain_of grammar) c.args.line.now.text c.in-Ok.sentence c.in-Ok.sentence.tokens read refl refl,
            (omega (arith, c.in-Ok.ensures.few, ap length c.as_slice.ensures, c.requires.short), c.requires.size),
          ),
        ),
      ),
    )

pub returns-in-Ok-clause-line : goal.returns-in-Ok-clause-line
returns-in-Ok-clause-line g c =
    let grammar = c.args.to.now.grammar.now in
    let read = read_as (vocabulary_in c.args.to.now.lexicon.now) grammar c.args.to.now.numbers c.as_slice.result.now c.args.line.now.text c.as_slice.ensures (IsSentence c.in-Ok.sentence) c.in-Ok.ensures.sentence in
    subst (λ (found : LineResult). IfOk c.add_sentence.result (λ (kept : Bool). DecidesLine c.args.to.now.expected grammar c.args.to.now.automaton.now c.args.to.now.table.now c.args.line.now.line found kept c.args.parts.now c.add_sentence.new.parts)) (sym read) c.add_sentence.ensures.line

pub returns-in_ok-add_fault-in-Err-clause-line : goal.returns-in_ok-add_fault-in-Err-clause-line
returns-in_ok-add_fault-in-Err-clause-line g c =
    let grammar = c.args.to.now.grammar.now in
    adds_fault c.args.to.now.expected grammar c.args.to.now.automaton.now c.args.to.now.table.now c.args.line.now.line (sentence_in (vocabulary_of grammar) c.args.line.now.text) c.in-Err.fault c.args.parts.now c.add_fault.new.parts
    (fault_as (vocabulary_in c.args.to.now.lexicon.now) grammar c.args.to.now.numbers c.as_slice.result.now c.args.line.now.text c.as_slice.ensures c.in-Err.fault c.in-Err.ensures.sentence)
    c.in_ok-add_fault-in-Err.ensures.dropped c.add_fault.ensures.kept c.add_fault.ensures.kept_lines
