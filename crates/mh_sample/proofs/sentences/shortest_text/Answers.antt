use Rattle.std.proofs.Common.{◌∙◌, ◌++◌, ap, arith}
use Rattle.mh_sample.specs.Sentences.{lines_from}
use Rattle.mh_sample.proofs.ShortestTextUnique.{line_more, lines_all}
use Rattle.mh_sample.proofs.sentences.shortest_text.Goals as goal

pub loop-place-init : goal.loop-place-init
loop-place-init c = ap (λ t. t ++ lines_from c.args.grammar.now 0 c.deref-answer-items.result.now) c.new-text.ensures.items

pub loop-place-preserved : goal.loop-place-preserved
loop-place-preserved c =
    let g = c.args.grammar.now in
    let answers = c.deref-answer-items.result.now in
    line_more g answers c.loop-place.place c.answer-item.result c.loop-place.text.items c.write_line.new.text.items (lines_from g 0 answers) c.loop-place-test.true c.answer-item.is c.in_ok-write_line.ensures c.loop-place.invariant

pub returns : goal.returns
returns c =
    let g = c.args.grammar.now in
    let answers = c.deref-answer-items.result.now in
    record {
      answers = c.in_ok-answers.answers.items;
      all = omega (arith, c.in_ok-answers.ensures.len, c.in_ok-answers.answers.ok.0);
      each = c.in_ok-answers.ensures.each;
      is = lines_all g answers c.loop-place.place c.loop-place.text.items (lines_from g 0 answers) c.loop-place-test.false c.loop-place.invariant ∙ ap (lines_from g 0) c.deref-answer-items.ensures.value;
    }
